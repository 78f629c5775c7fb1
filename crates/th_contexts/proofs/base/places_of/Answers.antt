use Rattle.std.proofs.Common.{◌≡◌, ◌∙◌, ◌<◌, ◌-◌, ℕ, nat_eq, suc, map, length, List, ap, sym, subst, arith}
use Rattle.std.specs.Map.{lookup}
use Rattle.indexmap.specs.IndexMap.{insert_entry}
use Rattle.th_contexts.specs.declared.base_row.Base.{Base}
use Rattle.th_scope.proofs.Places.{drop_at, drop_none}
use Rattle.th_contexts.specs.BaseView.{base_of}
use Rattle.th_contexts.specs.Placing.{base_place}
use Rattle.th_contexts.proofs.Placing.{PlacedFrom, placed_more}
use Rattle.th_contexts.proofs.base.places_of.Goals as goal

pub loop-k-init : goal.loop-k-init
loop-k-init c = (
  omega arith,
  λ (n : ℕ). ap (λ (es : List (ℕ × ℕ)). lookup (nat_eq n) es) c.new-places.ensures.empty
      ∙ sym (ap (base_place n (length c.args.list.now)) (drop_none base_of c.args.list.now)),
)

pub loop-k-preserved : goal.loop-k-preserved
loop-k-preserved c =
    let before = c.loop-k-test.true in
    let most = c.loop-k.invariant.0 in
    let e : c.loop-k.k ≡ suc (c.loop-k.k - 1) = omega (arith, before) in
    let h : c.loop-k.k - 1 < length c.args.list.now = omega (arith, before, most) in (
      omega (arith, most),
      placed_more (map base_of c.args.list.now) (c.loop-k.k - 1) (base_of c.index-list-k.result) c.loop-k.places.entries c.put.new.places.entries
          (drop_at base_of c.args.list.now (c.loop-k.k - 1) c.index-list-k.result h c.index-list-k.is)
          (subst (λ (n : ℕ). PlacedFrom n (map base_of c.args.list.now) c.loop-k.places.entries) e c.loop-k.invariant.1)
          (c.in_ok-put.ensures ∙ ap (λ (b : Base). insert_entry nat_eq c.loop-k.places.entries b.full (c.loop-k.k - 1)) (sym c.index-list-k.is)),
    )

pub returns : goal.returns
returns c = let z : c.loop-k.k ≡ 0 = omega (arith, c.loop-k-test.false) in
    subst (λ (n : ℕ). PlacedFrom n (map base_of c.args.list.now) c.loop-k.places.entries) z c.loop-k.invariant.1
