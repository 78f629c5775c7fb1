use Rattle.std.proofs.Common.{◌≡◌, ◌∙◌, ◌<◌, ◌-◌, ℕ, suc, map, length, List, ap, sym, subst, arith}
use Rattle.std.specs.Map.{lookup}
use Rattle.th_scope.specs.View.{item_of}
use Rattle.th_scope.specs.Places.{same_reference, is_named, place_from}
use Rattle.th_scope.specs.declared.items.Reference.{Reference}
use Rattle.th_scope.proofs.Places.{NamedFrom, named_more, drop_at, drop_none}
use Rattle.th_scope.proofs.lookup.places_of_names.Goals as goal

pub loop-k-init : goal.loop-k-init
loop-k-init c = (
  omega arith,
  λ (r : Reference). ap (λ (es : List (Reference × ℕ)). lookup (same_reference r) es) c.new-places.ensures.empty
      ∙ sym (ap (place_from (is_named r) (length c.args.list.now)) (drop_none item_of c.args.list.now)),
)

pub loop-k-preserved : goal.loop-k-preserved
loop-k-preserved c =
    let before = c.loop-k-test.true in
    let most = c.loop-k.invariant.0 in
    let e : c.loop-k.k ≡ suc (c.loop-k.k - 1) = omega (arith, before) in
    let h : c.loop-k.k - 1 < length c.args.list.now = omega (arith, before, most) in (
      omega (arith, most),
      named_more (map item_of c.args.list.now) (c.loop-k.k - 1) (item_of c.index-list-k.result) c.loop-k.places.entries c.put.new.places.entries
          (drop_at item_of c.args.list.now (c.loop-k.k - 1) c.index-list-k.result h c.index-list-k.is)
          (subst (λ (n : ℕ). NamedFrom n (map item_of c.args.list.now) c.loop-k.places.entries) e c.loop-k.invariant.1) c.in_ok-put.ensures,
    )

pub returns : goal.returns
returns c = let z : c.loop-k.k ≡ 0 = omega (arith, c.loop-k-test.false) in
    subst (λ (n : ℕ). NamedFrom n (map item_of c.args.list.now) c.loop-k.places.entries) z c.loop-k.invariant.1
