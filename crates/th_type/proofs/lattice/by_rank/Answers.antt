use Rattle.std.proofs.Common.{length, rules}
use Rattle.std.proofs.lemmas.List.Sorted.{IsNonDecreasingBy-from_sort_by_key}
use Rattle.th_type.specs.Tables.{up_of}
use Rattle.th_type.proofs.lattice.by_rank.Goals as goal

pub returns-clause-sorted : goal.returns-clause-sorted
returns-clause-sorted c = IsNonDecreasingBy-from_sort_by_key (λ n. length (up_of c.args.ancestors.now n)) _ c.sort_unstable_by_key.ensures.sorted (λ a r f k. search rules)
