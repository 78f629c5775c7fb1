use Rattle.th_type.specs.Declarations.{named_decl}
use Rattle.th_type.specs.Tables.{defs_of}
use Rattle.th_type.proofs.RowLists.{heads_more}
use Rattle.th_type.proofs.rows.make_heads.Goals as goal

pub loop-k-preserved : goal.loop-k-preserved
loop-k-preserved c = heads_more (defs_of c.args.defs.now) c.loop-k.k (named_decl c.at-name.result.0 c.at-name.result.1.now) c.loop-k.heads.items c.push.new.self.items c.at-name.ensures c.loop-k.invariant c.in_ok-push.ensures.items
