-- What was found of slices holds of the lists that a layout keeps.
use Rattle.std.proofs.Common.{◌≡◌, List, subst}
use Rattle.th_views.specs.declared.ClassRow.{ClassRow}
use Rattle.th_views.specs.declared.TypeRow.{TypeRow}
use Rattle.th_views.specs.Objects.{Sound}
use Rattle.th_layout.specs.declared.layout.Layout.TheInside.{Inside}
use Rattle.th_layout.specs.Inside.{laid, Kept}
use Rattle.th_layout.specs.Laid.{IsPlaces, IsSums, IsTypeSide, IsClassSide}

pub kept_by : (a : Inside) (types : List TypeRow) (classes : List ClassRow) → types ≡ a.types.items → classes ≡ a.classes.items → Sound (laid a)
    → IsPlaces (record { types = types; classes = classes }) a.places → IsSums (record { types = types; classes = classes }) a.sums → IsTypeSide types a.type_side
    → IsClassSide (record { types = types; classes = classes }) a.class_side → Kept (laid a) a
kept_by a types classes e f s p q t c = record {
  sound = s;
  places = subst (λ x. IsPlaces (record { types = x; classes = a.classes.items }) a.places) e (subst (λ x. IsPlaces (record { types = types; classes = x }) a.places) f p);
  sums = subst (λ x. IsSums (record { types = x; classes = a.classes.items }) a.sums) e (subst (λ x. IsSums (record { types = types; classes = x }) a.sums) f q);
  type_side = subst (λ x. IsTypeSide x a.type_side) e t;
  class_side = subst (λ x. IsClassSide (record { types = x; classes = a.classes.items }) a.class_side) e (subst (λ x. IsClassSide (record { types = types; classes = x }) a.class_side) f c);
}
