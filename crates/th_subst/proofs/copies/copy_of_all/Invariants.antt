use Rattle.std.proofs.Common.{◌≡◌, ◌++◌, map, drop}
use Rattle.th_meaning.specs.View.{type_of}
use Rattle.th_subst.proofs.copies.copy_of_all.Given as goal

abbrev pub invariant-loop-one : goal.invariant-loop-one
invariant-loop-one l = map type_of l.done.items ++ map type_of (drop l.one-index l.types) ≡ map type_of l.types
