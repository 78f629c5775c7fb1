-- What a call comes to.
use Rattle.std.proofs.Common.{◌≡◌, refl, sym, ap, ◌∙◌, subst, ℕ, List, [], ◌∷◌, Option, Some, None, option_map, slice_get}
use Rattle.th_meaning.specs.Program.{Program, units_of, walk}
use Rattle.th_meaning.specs.World.{World}
use Rattle.th_meaning.specs.Meaning.{Value, State, Outcome, Target as TheTarget, Enters as TheEnters, aimed, class_of, entering, found_from, method_of_object}
use Rattle.th_steps.specs.Machine.{Callee, the_routine, the_method, the_object, the_super, the_where, the_init, aimed_at}
use Rattle.th_units.specs.declared.units.UnitRow.{UnitRow}
use Rattle.th_units.specs.Units.{unit_number, RowIs, FindsUnit}
use Rattle.th_units.proofs.Adding.{none_unit, finds_unit}
use Rattle.th_acts.specs.declared.target.Target.{Target}
use Rattle.th_acts.specs.Targets.{target_of, EntersUnit, IsTarget}

none_by : {A B : Type 0} → (f : A → B) (o : Option A) → None ≡ option_map f o → o ≡ None
none_by f None h = refl
none_by f (Some a) h = cc

some_by : {A B : Type 0} → (f : A → B) (o : Option A) (b : B) → Some b ≡ option_map f o → (a : A) × (o ≡ Some a) × (f a ≡ b)
some_by f None b h = absurd (cc)
some_by f (Some a) b h = let e : Some b ≡ Some (f a) = h in let g : b ≡ f a = cc in (a, refl, sym g)

module _ (p : Program) (class method : List ℕ) (k : ℕ) (vs : List Value) where
  -- the walk finds no body
  pub no_body : None ≡ option_map (unit_number p) (walk p class method) → found_from p (Some class) method k vs ≡ None
  no_body h = ap (λ o. entering o k vs) (none_by (unit_number p) (walk p class method) h)

  enters : (name : List ℕ) (row : Option UnitRow) → walk p class method ≡ Some name → FindsUnit p name row → EntersUnit p vs row (Some k) (found_from p (Some class) method k vs)
  enters name row there finds = record { unit = name; is = ap (λ o. entering o k vs) there; row = finds }

  -- it finds one that has no unit
  pub body_without_unit : Some None ≡ option_map (unit_number p) (walk p class method) → EntersUnit p vs None (Some k) (found_from p (Some class) method k vs)
  body_without_unit h =
      let found = some_by (unit_number p) (walk p class method) None h in
      enters found.0 None found.1 (none_unit p found.0 found.2)

  -- it finds one that has a unit
  pub body_with_unit : (n : ℕ) (row : Option UnitRow) → Some (Some n) ≡ option_map (unit_number p) (walk p class method) → RowIs n row (slice_get (units_of p) n)
      → EntersUnit p vs row (Some k) (found_from p (Some class) method k vs)
  body_with_unit n row h is =
      let found = some_by (unit_number p) (walk p class method) (Some n) h in
      enters found.0 row found.1 (finds_unit p found.0 n row found.2 is)

-- the object has no class
pub no_class : (p : Program) (method : List ℕ) (k : ℕ) (vs : List Value) (w : World Value) → class_of (slice_get w.objects k) ≡ None → method_of_object p method k vs w ≡ None
no_class p method k vs w h = ap (λ c. found_from p c method k vs) h

-- it has one
pub of_class : (p : Program) (class method : List ℕ) (k : ℕ) (vs : List Value) (w : World Value) (target : Target) → class_of (slice_get w.objects k) ≡ Some class
    → IsTarget p vs target (found_from p (Some class) method k vs) → IsTarget p vs target (method_of_object p method k vs w)
of_class p class method k vs w target h is = subst (λ c. IsTarget p vs target (found_from p c method k vs)) (sym h) is

-- a callee with its arguments is the target that is there
pub aimed_is : (p : Program) (c : Callee) (vs : List Value) (st : State) → aimed_at p c vs st ≡ aimed (target_of p c vs st.world) st
aimed_is p (the_routine unit) vs st = refl
aimed_is p (the_method method v) vs st = refl
aimed_is p (the_object method k) vs st = refl
aimed_is p (the_super class method k) vs st = refl
aimed_is p (the_where method v) vs st = refl
aimed_is p (the_init class k) vs st = refl
