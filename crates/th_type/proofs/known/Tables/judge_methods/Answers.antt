use Rattle.th_type.specs.Declarations.{named_decl}
use Rattle.th_type.specs.Tables.{defs_of, tables_up, tables_methods}
use Rattle.th_type.proofs.Testing.{all_next}
use Rattle.th_type.proofs.known.Tables.judge_methods.Goals as goal

pub loop-k-preserved : goal.loop-k-preserved
loop-k-preserved c = all_next (tables_up c.args.self.now) (tables_methods c.args.self.now) (defs_of c.args.defs.now) c.loop-k.k (named_decl c.at-name.result.0 c.at-name.result.1.now) c.loop-k.found c.judge_type.new.found _ c.at-name.ensures c.loop-k.invariant c.in_ok-judge_type.ensures
