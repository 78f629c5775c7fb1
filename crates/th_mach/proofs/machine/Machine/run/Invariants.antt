use Rattle.std.proofs.Common.{map}
use Rattle.th_mach.specs.Ran.{seen}
use Rattle.th_mach.proofs.Joined.{Far}
use Rattle.th_mach.proofs.machine.Machine.run.Given as goal

abbrev pub invariant-loop-done : goal.invariant-loop-done
invariant-loop-done g l =
    Far l._done
    (seen l.initial.self (g.K.Sink.put_bytes l.initial.output) (g.S.Source.left l.initial.input) (g.S.Source.faults l.initial.input) (g.K.Sink.faults l.initial.output) (map (λ b. (goal.Watcher-dyn g (b.vtable, b.value)).watch b.value) l.initial.watchers.items))
    (seen l.self (g.K.Sink.put_bytes l.output) (g.S.Source.left l.input) (g.S.Source.faults l.input) (g.K.Sink.faults l.output) (map (λ b. (goal.Watcher-dyn g (b.vtable, b.value)).watch b.value) l.watchers.items))
