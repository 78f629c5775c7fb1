use Rattle.th_type.specs.Tables.{tables_up, tables_methods}
use Rattle.th_type.proofs.Testing.{type_judged}
use Rattle.th_type.proofs.known.Tables.judge_type.Goals as goal

pub returns : goal.returns
returns c =
    type_judged (tables_up c.args.self.now) (tables_methods c.args.self.now) c.args.name c.args.def.now c.in_ok-written.written.keys c.in_ok-agrees.agrees c.args.found.now c.judge_written.new.found c.demand.new.found c.deref.result.now c.deref-2.result.now
    c.deref.ensures.value c.deref-2.ensures.value c.in_ok-judge_written.ensures c.in_ok-written.ensures c.in_ok-agrees.ensures c.demand.ensures
