-- The units that are `main` of their modules.
use Rattle.std.proofs.Common.{◌≡◌, refl, sym, ap, ◌∙◌, ℕ, ◌+◌, ◌<◌, ◌≤◌, Bool, true, false, cond, length, get_or, drop, map, List, [], ◌∷◌, ◌++◌, Option, Some, None, slice_get, bytes_eq}
use Rattle.std.specs.Prelude.{filter, codes}
use Rattle.std.proofs.lemmas.List.{at_drop_more, at_drop_all}
use Rattle.std.proofs.lemmas.List.Concat.{flat_map-cons}
use Rattle.th_meaning.specs.declared.declared.CoreUnit.{CoreUnit}
use Rattle.th_meaning.specs.declared.declared.CoreModule.{CoreModule}
use Rattle.th_meaning.specs.View.{unit_of, module_of, program_of}
use Rattle.th_meaning.specs.Program.{ProgramUnit, ProgramModule, full_name, is_main, mains, main_of}

-- the units of a name
abbrev pub called : List ℕ → List CoreUnit → List ProgramUnit
called name us = filter (λ u. bytes_eq u.name name) (map unit_of us)

module _ (name : List ℕ) (us : List CoreUnit) (i : ℕ) where
  at_unit : (x : CoreUnit) (b : Bool) → i < length us → x ≡ get_or us i x → bytes_eq (unit_of x).name name ≡ b → called name (drop i us) ≡ cond b (unit_of x ∷ called name (drop (i + 1) us)) (called name (drop (i + 1) us))
  at_unit x b below is test =
      at_drop_more (called name) us i x below
      ∙ ap (λ y. called name (y ∷ drop (i + 1) us)) (sym is)
      ∙ ap (λ t. cond t (unit_of x ∷ called name (drop (i + 1) us)) (called name (drop (i + 1) us))) test

  -- a unit of the name
  pub unit_found : (x : CoreUnit) → i < length us → x ≡ get_or us i x → called name us ≡ called name (drop i us) → bytes_eq (unit_of x).name name ≡ true → Some (unit_of x) ≡ slice_get (called name us) 0
  unit_found x below is so test = sym (ap (λ xs. slice_get xs 0) (so ∙ at_unit x true below is test))

  -- a unit of another name
  pub unit_passed : (x : CoreUnit) → i < length us → x ≡ get_or us i x → called name us ≡ called name (drop i us) → bytes_eq (unit_of x).name name ≡ false → called name us ≡ called name (drop (i + 1) us)
  unit_passed x below is so test = so ∙ at_unit x false below is test

  -- no unit of the name
  pub no_unit : length us ≤ i → called name us ≡ called name (drop i us) → None ≡ slice_get (called name us) 0
  no_unit past so = sym (ap (λ xs. slice_get xs 0) (so ∙ at_drop_all (called name) us i past))

first_in : {A : Type 0} → (xs ys : List A) (x : A) → Some x ≡ slice_get xs 0 → Some x ≡ slice_get (xs ++ ys) 0
first_in [] ys x h = absurd (cc)
first_in (y ∷ xs) ys x h = h

none_in : {A : Type 0} → (xs ys : List A) → None ≡ slice_get xs 0 → xs ++ ys ≡ ys
none_in [] ys h = refl
none_in (y ∷ xs) ys h = cc

module _ (ms : List CoreModule) (i : ℕ) (m : CoreModule) (name : List ℕ) (units : List CoreUnit) (below : i < length ms) (is : m ≡ get_or ms i m) (same_name : name ≡ full_name (module_of m).name (codes "main"))
    (same_units : units ≡ m.units.items) (so : mains (program_of ms) ≡ mains (program_of (drop i ms))) where
  at_module : mains (program_of ms) ≡ called name units ++ mains (program_of (drop (i + 1) ms))
  at_module =
      so
      ∙ at_drop_more (λ xs. mains (program_of xs)) ms i m below
      ∙ ap (λ y. mains (program_of (y ∷ drop (i + 1) ms))) (sym is)
      ∙ flat_map-cons (λ n. filter (is_main n) n.units) (module_of m) (program_of (drop (i + 1) ms))
      ∙ ap (λ n. filter (λ u. bytes_eq u.name n) (module_of m).units ++ mains (program_of (drop (i + 1) ms))) (sym same_name)
      ∙ ap (λ us. called name us ++ mains (program_of (drop (i + 1) ms))) (sym same_units)

  -- the module has a `main`
  pub main_found : (u : ProgramUnit) → Some u ≡ slice_get (called name units) 0 → Some u ≡ main_of (program_of ms)
  main_found u h = first_in (called name units) (mains (program_of (drop (i + 1) ms))) u h ∙ sym (ap (λ xs. slice_get xs 0) at_module)

  -- the module has none
  pub main_passed : None ≡ slice_get (called name units) 0 → mains (program_of ms) ≡ mains (program_of (drop (i + 1) ms))
  main_passed h = at_module ∙ none_in (called name units) (mains (program_of (drop (i + 1) ms))) h

-- no module has one
pub no_main : (ms : List CoreModule) (i : ℕ) → length ms ≤ i → mains (program_of ms) ≡ mains (program_of (drop i ms)) → None ≡ main_of (program_of ms)
no_main ms i past so = sym (ap (λ xs. slice_get xs 0) (so ∙ at_drop_all (λ xs. mains (program_of xs)) ms i past))
