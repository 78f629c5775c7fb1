use Rattle.std.proofs.Common.{◌≡◌, ℕ, map, drop}
use Rattle.std.specs.Prelude.{nat_eq}
use Rattle.std.specs.HashMap.{get}
use Rattle.th_type.specs.Types.{ty_of}
use Rattle.th_shape.specs.Marks.{noted_in}
use Rattle.th_shape.proofs.marks.note_list.Given as goal

abbrev pub invariant-loop-k : goal.invariant-loop-k
invariant-loop-k l = (q : ℕ) → noted_in l.k (map ty_of (drop l.k l.supers)) q (get nat_eq l.named q) ≡ noted_in 0 (map ty_of l.supers) q (get nat_eq l.fn.named q)
