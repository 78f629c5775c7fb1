use Rattle.th_steps.specs.Machine.{Machine}
use Rattle.th_acts.specs.Stands.{Told, Leads}
use Rattle.th_interpret.proofs.Going.{Reaches}
use Rattle.th_interpret.proofs.run.go.Given as goal

abbrev pub invariant-loop-count : goal.invariant-loop-count
invariant-loop-count g l = (e : Told) (m : Machine) → Leads e l.fn.run (g.S.Source.left l.fn.input) (g.K.Sink.put_bytes l.fn.output) l.fn.first m
    → Reaches e l.run (g.S.Source.left l.input) (g.K.Sink.put_bytes l.output) l.next m
