use Rattle.std.proofs.Common.{◌∙◌, ℕ, List, IfOk, map, sym, ap, subst, Bor}
use Rattle.th_tree.specs.Spans.{Tokenized}
use Rattle.th_meaning.specs.View.{module_of}
use Rattle.th_texts.specs.Tokens.{AreAllTokens}
use Rattle.th_accept.specs.Answers.{AcceptedWith}
use Rattle.th_accept.specs.Stages.{HasRead}
use Rattle.th_accept.proofs.texts.judge_with.Goals as goal

pub returns-clause-accepted : goal.returns-clause-accepted
returns-clause-accepted c =
    let us : List (List ℕ) = map (λ (x : Bor (List ℕ)). x.now) c.deref.result.now in
    let same = ap (λ (ts : List (Bor (List ℕ))). map (λ (x : Bor (List ℕ)). x.now) ts) c.deref.ensures.value ∙ c.in_ok-texts.ensures.bytes in
    let cut = subst (λ (xs : List Tokenized). AreAllTokens us xs) (sym c.deref-2.ensures.value) c.in_ok-tokens.ensures.tokens in
    let read = subst (λ (xs : List Tokenized). HasRead us xs c.in_ok-trees.trees) (c.deref-2.ensures.value ∙ sym c.deref-3.ensures.value) (c.in_ok-trees.ensures.read us cut) in
    subst (λ (ts : List (List ℕ)). IfOk c.checked_module.result (λ m. AcceptedWith ts (module_of m))) same (c.checked_module.ensures.accepted us read)
