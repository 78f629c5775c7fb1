use Rattle.std.proofs.Common.{◌≡◌, ℕ, suc, ◌+◌, ◌*◌, ◌<◌, ◌∷◌, drop, get_or, sym, ◌∙◌, ap, subst, drop-cons}
use Rattle.th_tree.specs.Tokens.{value}
use Rattle.th_lex.proofs.Values.{too_great}
use Rattle.th_lex.proofs.front.decimal.Goals as goal

pub returns-then-value-gt2147483647 : goal.returns-then-value-gt2147483647
returns-then-value-gt2147483647 c =
    let i = c.loop-digit.digit-index in
    let d = get_or c.args.digits.now i 0 in
    let e : value 0 c.args.digits.now ≡ value c.loop-digit.value (d ∷ drop (suc i) c.args.digits.now) = c.loop-digit.invariant.same ∙ ap (value c.loop-digit.value) (drop-cons c.args.digits.now i 0 c.loop-digit-test.true) in
    sym (too_great c.args.digits.now (drop (suc i) c.args.digits.now) c.loop-digit.value d e (subst (λ (x : ℕ). 2147483647 < c.loop-digit.value * 10 + x) c.from.ensures c.if-value-gt2147483647.true))
