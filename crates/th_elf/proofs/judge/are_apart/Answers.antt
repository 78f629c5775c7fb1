use Rattle.std.proofs.Common.{rules, sym, ◌∙◌, ap, subst}
use Rattle.std.specs.List.Sorted.{IsPermutation}
use Rattle.std.proofs.lemmas.List.Sorted.{IsNonDecreasingBy-from_sort_by_key}
use Rattle.th_elf.specs.Rising.{rises_from}
use Rattle.th_elf.proofs.Apart.{apart_by_order}
use Rattle.th_elf.proofs.judge.are_apart.Goals as goal

pub returns : goal.returns
returns c =
    c.rises.ensures ∙ ap (rises_from 0) c.deref.ensures.value
    ∙ sym (apart_by_order c.args.headers.now _
    (subst (λ l. IsPermutation l c.sort_unstable_by_key.new.self.items) c.in_ok-in_order.ensures.items c.sort_unstable_by_key.ensures.permutation)
    (IsNonDecreasingBy-from_sort_by_key (λ h. h.vaddr) _ c.sort_unstable_by_key.ensures.sorted (λ a r q k. search rules))
    c.requires)
