use Rattle.std.proofs.Common.{◌≡◌, ◌∙◌, ◌<◌, ◌-◌, ℕ, nat_eq, suc, map, length, List, ap, sym, subst, arith}
use Rattle.std.specs.Map.{lookup}
use Rattle.th_scope.specs.View.{item_of, class_of, item_head_of}
use Rattle.th_scope.specs.Places.{is_class_named, place_from}
use Rattle.th_scope.proofs.Places.{ClassedFrom, class_more, class_same, no_class, drop_at, drop_none}
use Rattle.th_scope.proofs.lookup.places_of_classes.Goals as goal

pub loop-k-init : goal.loop-k-init
loop-k-init c = (
  omega arith,
  λ (n : ℕ). ap (λ (es : List (ℕ × ℕ)). lookup (nat_eq n) es) c.new-places.ensures.empty
      ∙ sym (ap (place_from (is_class_named n) (length c.args.list.now)) (drop_none item_of c.args.list.now)),
)

pub loop-k-preserved : goal.loop-k-preserved
loop-k-preserved c =
    let before = c.loop-k-test.true in
    let most = c.loop-k.invariant.0 in
    let e : c.loop-k.k ≡ suc (c.loop-k.k - 1) = omega (arith, before) in
    let h : c.loop-k.k - 1 < length c.args.list.now = omega (arith, before, most) in (
      omega (arith, most),
      class_same (map item_of c.args.list.now) (c.loop-k.k - 1) (item_of c.index-list-k.result) c.loop-k.places.entries
          (drop_at item_of c.args.list.now (c.loop-k.k - 1) c.index-list-k.result h c.index-list-k.is)
          (no_class c.index-list-k.result.head c.in_default.not-Class)
          (subst (λ (n : ℕ). ClassedFrom n (map item_of c.args.list.now) c.loop-k.places.entries) e c.loop-k.invariant.1),
    )

pub loop-k-preserved-in-Continue-1 : goal.loop-k-preserved-in-Continue-1
loop-k-preserved-in-Continue-1 c =
    let before = c.loop-k-test.true in
    let most = c.loop-k.invariant.0 in
    let e : c.loop-k.k ≡ suc (c.loop-k.k - 1) = omega (arith, before) in
    let h : c.loop-k.k - 1 < length c.args.list.now = omega (arith, before, most) in (
      omega (arith, most),
      class_more (map item_of c.args.list.now) (c.loop-k.k - 1) (item_of c.index-list-k.result) (class_of c.in-Class.field-0) c.loop-k.places.entries c.put_number.new.places.entries
          (drop_at item_of c.args.list.now (c.loop-k.k - 1) c.index-list-k.result h c.index-list-k.is)
          (ap item_head_of c.in-Class.is)
          (subst (λ (n : ℕ). ClassedFrom n (map item_of c.args.list.now) c.loop-k.places.entries) e c.loop-k.invariant.1) c.in_ok-put_number.ensures,
    )

pub returns : goal.returns
returns c = let z : c.loop-k.k ≡ 0 = omega (arith, c.loop-k-test.false) in
    subst (λ (n : ℕ). ClassedFrom n (map item_of c.args.list.now) c.loop-k.places.entries) z c.loop-k.invariant.1
