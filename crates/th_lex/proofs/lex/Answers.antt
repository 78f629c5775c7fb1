use Rattle.std.proofs.Common.{◌≡◌, ◌+◌, ◌++◌, ◌∷◌, [], List, sym, subst, rules, refl, slice_get, Some}
use Rattle.th_tree.specs.declared.tokens.Token.{Token}
use Rattle.th_tree.specs.Cut.{Cut, Bad, Wide, Cuts}
use Rattle.th_lex.proofs.Steps.{Done, past_gap, past_token, first_bad, first_wide, whole, in_order}
use Rattle.th_lex.proofs.Unique.{one_verdict}
use Rattle.th_lex.proofs.Held.{kinds}
use Rattle.th_lex.proofs.lex.Goals as goal

pub loop-at-preserved-in-Gap : goal.loop-at-preserved-in-Gap
loop-at-preserved-in-Gap c = past_gap _ _ _ _ c.loop-at.invariant c.in-Gap.ensures

pub loop-at-preserved : goal.loop-at-preserved
loop-at-preserved c =
    let p = past_token c.args.text.now c.loop-at.at c.in-Token.len c.in-Token.kind c.loop-at.tokens.items c.loop-at.invariant c.in-Token.ensures in
    let t : Token = record { kind = c.in-Token.kind; start = c.loop-at.at; end = c.loop-at.at + c.in-Token.len } in
    let e : c.push.new.self.items ≡ c.loop-at.tokens.items ++ t ∷ [] = search rules in
    subst (λ (q : List Token). Done c.args.text.now (c.loop-at.at + c.in-Token.len) q) (sym e) p

pub returns-in-BadByte-clause-verdict : goal.returns-in-BadByte-clause-verdict
returns-in-BadByte-clause-verdict c = first_bad _ _ _ c.loop-at.invariant c.in-BadByte.ensures

pub returns-in-BadByte-clause-only : goal.returns-in-BadByte-clause-only
returns-in-BadByte-clause-only c = λ other h. one_verdict c.args.text.now (Bad c.loop-at.at) other (first_bad _ _ _ c.loop-at.invariant c.in-BadByte.ensures) h

pub returns-in-WideNumber-clause-verdict : goal.returns-in-WideNumber-clause-verdict
returns-in-WideNumber-clause-verdict c = first_wide _ _ _ c.loop-at.invariant c.in-WideNumber.ensures

pub returns-in-WideNumber-clause-only : goal.returns-in-WideNumber-clause-only
returns-in-WideNumber-clause-only c = λ other h. one_verdict c.args.text.now (Wide c.loop-at.at) other (first_wide _ _ _ c.loop-at.invariant c.in-WideNumber.ensures) h

pub of-requires : goal.of-requires
of-requires c = in_order (whole _ _ _ c.loop-at.invariant c.loop-at-test.false)

pub returns-clause-cut : goal.returns-clause-cut
returns-clause-cut c = subst (λ (q : List Token). Cut c.args.text.now q) (sym c.of.ensures.list) (whole _ _ _ c.loop-at.invariant c.loop-at-test.false)

pub returns-clause-verdict : goal.returns-clause-verdict
returns-clause-verdict c = subst (λ (q : List Token). Cut c.args.text.now q) (sym c.of.ensures.list) (whole _ _ _ c.loop-at.invariant c.loop-at-test.false)

pub returns-clause-only : goal.returns-clause-only
returns-clause-only c = λ other h. one_verdict c.args.text.now (Cuts c.of.result.list) other (subst (λ (q : List Token). Cut c.args.text.now q) (sym c.of.ensures.list) (whole _ _ _ c.loop-at.invariant c.loop-at-test.false)) h

pub returns-clause-kinds : goal.returns-clause-kinds
returns-clause-kinds c = λ k token s. kinds (whole _ _ _ c.loop-at.invariant c.loop-at-test.false) c.args.text.now refl k token (subst (λ (q : List Token). slice_get q k ≡ Some token) c.of.ensures.list s)
