use Rattle.std.proofs.Common.{rules, ◌≡◌, ◌<◌, ℕ, length, slice_get, slice_index_or, Some, sym, ap, subst, ◌∙◌, arith, refl, List}
use Rattle.th_tree.specs.Spans.{InOrder, Tokenized}
use Rattle.th_tree.specs.declared.tokens.Token.{Token}
use Rattle.th_tree.proofs.Spans.{Within, within, get_index}
use Rattle.th_tree.proofs.tokens.Tokens.slice.Goals as goal

-- the token that is read is within the text
here : (n : ℕ) (ts : List Token) (r : Token) (k : ℕ) → InOrder 0 n ts → k < length ts → r ≡ slice_index_or ts k r → Within 0 n r
here n ts r k h l e = subst (λ t. Within 0 n t) (sym e) (within 0 n ts r k h l)

pub slice_bounds-result-count : goal.slice_bounds-result-count
slice_bounds-result-count c =
    let l : c.args.k < length c.self.inside.tokens.items = subst (λ (v : Tokenized). c.args.k < length v.list) (sym c.self.view_is) c.requires in
    let w = here _ _ _ _ c.self.invariant l c.index-token.ensures in omega (arith, w.some)

pub slice_bounds-result-start : goal.slice_bounds-result-start
slice_bounds-result-start c =
    let l : c.args.k < length c.self.inside.tokens.items = subst (λ (v : Tokenized). c.args.k < length v.list) (sym c.self.view_is) c.requires in
    let w = here _ _ _ _ c.self.invariant l c.index-token.ensures in search rules

pub slice_bounds-result-end : goal.slice_bounds-result-end
slice_bounds-result-end c =
    let l : c.args.k < length c.self.inside.tokens.items = subst (λ (v : Tokenized). c.args.k < length v.list) (sym c.self.view_is) c.requires in
    let w = here _ _ _ _ c.self.invariant l c.index-token.ensures in search rules

pub returns : goal.returns
returns c token e =
    let s : slice_get c.self.inside.tokens.items c.args.k ≡ Some token = subst (λ (v : Tokenized). slice_get v.list c.args.k ≡ Some token) (sym c.self.view_is) e in
    let i : c.index-token.result.now ≡ token = c.index-token.ensures ∙ get_index c.self.inside.tokens.items c.index-token.result.now token c.args.k s in
    let v : c.self.inside.bytes.now ≡ c.args.self.now.text = ap (λ (v : Tokenized). v.text) c.self.view_is in
    rw (i, v) refl
