-- The program of a layout, and what the layout keeps of it.
use Rattle.std.specs.Prelude.{ℕ}
use Rattle.th_layout.specs.declared.layout.Layout.TheInside.{Inside}
use Rattle.th_layout.specs.Laid.{IsPlaces, IsSums, IsTypeSide, IsClassSide}
use Rattle.th_views.specs.Objects.{Sound}
use Rattle.th_views.specs.Rows.{Program}

abbrev pub laid : Inside → Program
laid a = record { types = a.types.items; classes = a.classes.items }

pub record Kept (p : Program) (a : Inside) : Type 0 where
  pub sound : Sound p
  pub places : IsPlaces p a.places
  pub sums : IsSums p a.sums
  pub type_side : IsTypeSide p.types a.type_side
  pub class_side : IsClassSide p a.class_side

abbrev pub IsLaid : Inside → Type 0
IsLaid a = Kept (laid a) a
