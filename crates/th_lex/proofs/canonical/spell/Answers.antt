use Rattle.std.proofs.Common.{rules, ◌≡◌, ◌++◌, ◌<◌, ◌≤◌, length, List, [], ◌∷◌, slice_index_or, sym, ◌∙◌, ap, subst}
use Rattle.std.proofs.lemmas.List.{take_all}
use Rattle.th_tree.specs.declared.tokens.Token.{Token}
use Rattle.th_lex.specs.Canonical.{canonical, written, CutsAlike}
use Rattle.th_lex.proofs.Again.{cuts_alike}
use Rattle.th_lex.proofs.Joined.{first_token, next_token}
use Rattle.th_lex.proofs.canonical.spell.Goals as goal
use Rattle.th_lex.proofs.canonical.spell.Goals.{then-k-gt0+in_ok-push, else-k-gt0}

pub loop-k-preserved : goal.loop-k-preserved
loop-k-preserved c =
    let l = subst (λ (q : List Token). c.loop-k.k < length q) c.as_slice-token-items.ensures c.loop-k-test.true in
    let a = subst (λ (q : List Token). c.append.new.text.items ≡ c.if-k-gt0.text.items ++ written (slice_index_or q c.loop-k.k _).kind c.slice.result.now) c.as_slice-token-items.ensures c.in_ok-append.ensures in
    elim c.if-k-gt0.branch [
      | then-k-gt0+in_ok-push w ↦
          (let h : c.if-k-gt0.text.items ≡ c.loop-k.text.items ++ 32 ∷ [] = search rules in
          next_token _ _ _ _ _ _ _ l c.slice.ensures a w.if-k-gt0.true (h ∙ ap (λ q. q ++ 32 ∷ []) c.loop-k.invariant))
      | else-k-gt0 w ↦
          (let h : c.if-k-gt0.text.items ≡ c.loop-k.text.items = search rules in
          first_token _ _ _ _ _ _ _ l c.slice.ensures a w.if-k-gt0.false (h ∙ c.loop-k.invariant))
    ]

pub returns-clause-alike : goal.returns-clause-alike
returns-clause-alike c = λ cut.
    let done = subst (λ (q : List Token). length q ≤ c.loop-k.k) c.as_slice-token-items.ensures c.loop-k-test.false in
    let all = c.loop-k.invariant ∙ ap (canonical c.args.tokens.now.text) (take_all c.loop-k.k c.args.tokens.now.list done) in
    subst (CutsAlike c.args.tokens.now.text c.args.tokens.now.list) (sym all) (cuts_alike c.args.tokens.now.text c.args.tokens.now.list cut)
