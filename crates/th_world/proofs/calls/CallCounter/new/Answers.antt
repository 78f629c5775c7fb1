use Rattle.std.proofs.Common.{refl}
use Rattle.std.proofs.lemmas.List.Sorted.{IsNonDecreasingBy-from_sort, Contains-permutation, IsPermutation-sym}
use Rattle.th_world.proofs.calls.CallCounter.new.Goals as goal

pub invariant_of-result : goal.invariant_of-result
invariant_of-result c = IsNonDecreasingBy-from_sort (λ x. x) _ c.sort_unstable.ensures.sorted

pub returns : goal.returns
returns c = record {
  number = refl;
  faults = refl;
  same = λ n. (Contains-permutation _ _ n c.sort_unstable.ensures.permutation, Contains-permutation _ _ n (IsPermutation-sym _ _ c.sort_unstable.ensures.permutation));
}
