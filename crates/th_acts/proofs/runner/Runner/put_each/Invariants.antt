use Rattle.std.proofs.Common.{◌≡◌, ℕ, List, Option}
use Rattle.th_meaning.specs.World.{World, put_each}
use Rattle.th_meaning.specs.Meaning.{Value}
use Rattle.th_acts.specs.Stands.{Told, Stands}
use Rattle.th_acts.proofs.Bytes.{PutUpTo}
use Rattle.th_acts.proofs.runner.Runner.put_each.Given as goal

abbrev pub invariant-loop-byte : goal.invariant-loop-byte
invariant-loop-byte g l = (l.self.control ≡ l.fn.self.control) × ((e : Told) (left : Option (List ℕ)) (w : World Value) → Stands e l.fn.self left (g.K.Sink.put_bytes l.fn.output) w
    → PutUpTo e l.self left (g.K.Sink.put_bytes l.output) l.bytes l.byte-index (put_each l.bytes w))
