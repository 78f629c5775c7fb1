use Rattle.std.proofs.Common.{◌≡◌, ◌∙◌, ◌+◌, ◌∷◌, [], List, Option, length, map, option_map, ap, subst, sym, arith, length-append}
use Rattle.std.proofs.lemmas.List.{map-append}
use Rattle.th_scope.specs.View.{class_of, items_of}
use Rattle.th_overrides.specs.declared.ancestor.Ancestor.{Ancestor}
use Rattle.th_overrides.specs.AncestorView.{ancestor_of}
use Rattle.th_overrides.specs.Chain.{AboveClass, Leads, inherited_as}
use Rattle.th_overrides.proofs.Chains.{leads_push}
use Rattle.th_overrides.proofs.chain.chain_of.Goals as goal

pub loop-at-preserved : goal.loop-at-preserved
loop-at-preserved c =
    let is = items_of c.args.items.now in
    let o = inherited_as is (class_of c.args.class.now).inherits in
    let at = option_map ancestor_of c.in_ok-at-2.at in
    let pushed = c.in_ok-push.ensures.items in
    let count = c.loop-at.invariant.1 in
    let some = c.if-left-eq0.false in
    let more : length c.push.new.self.items ≡ length c.loop-at.done.items + 1 = ap (λ (xs : List Ancestor). length xs) pushed ∙ length-append c.loop-at.done.items (c.in-Some.below ∷ []) in (
      subst (λ (xs : List Ancestor). Leads is o (map ancestor_of xs) at) (sym pushed)
          (subst (λ (xs : List AboveClass). Leads is o xs at) (sym (map-append ancestor_of c.loop-at.done.items (c.in-Some.below ∷ [])))
          (leads_push is o (map ancestor_of c.loop-at.done.items) (ancestor_of c.in-Some.below) at
          (subst (λ (x : Option Ancestor). Leads is o (map ancestor_of c.loop-at.done.items) (option_map ancestor_of x)) c.in-Some.is c.loop-at.invariant.0) c.in_ok-at-2.ensures)),
      omega (arith, more, count, some),
    )
