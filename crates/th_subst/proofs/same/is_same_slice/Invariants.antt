use Rattle.std.proofs.Common.{◌≡◌, map, drop}
use Rattle.th_meaning.specs.View.{type_of}
use Rattle.th_subst.specs.Tests.{same_list}
use Rattle.th_subst.proofs.same.is_same_slice.Given as goal

abbrev pub invariant-loop-k : goal.invariant-loop-k
invariant-loop-k l = same_list (map type_of (drop l.k l.types)) (map type_of (drop l.k l.others)) ≡ same_list (map type_of l.types) (map type_of l.others)
