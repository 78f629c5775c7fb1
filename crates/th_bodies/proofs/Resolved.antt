-- Where no type of formals fails, each of them has a type.
use Rattle.std.proofs.Common.{◌≡◌, ℕ, ◌+◌, Bool, true, false, ◌&&◌, List, [], ◌∷◌, ◌++◌, refl, sym, ◌∙◌, inl, true≢false}
use Rattle.th_tree.specs.Trees.{FormalSyn}
use Rattle.th_type.specs.declared.place.Failure.{Failure}
use Rattle.th_type.specs.declared.place.Place.{Place}
use Rattle.th_type.specs.Failures.{none_of, unless}
use Rattle.th_type.specs.Lists.{IsIn}
use Rattle.th_hier.specs.Naming.{Items, Visible}
use Rattle.th_hier.specs.Resolve.{type_fails, types_fails}
use Rattle.th_hier.specs.Heads.{formal_types}
use Rattle.th_hier.proofs.Exact.{none_append, type_law}
use Rattle.th_rules.specs.AllTyped.{AllTyped}
use Rattle.th_rules.proofs.NoFailure.{none_unless}
use Rattle.th_module_rules.specs.Contexts.{bindings}

pub both : (a b : Bool) → (a && b) ≡ true → (a ≡ true) × (b ≡ true)
both true b h = (refl, h)
both false b h = absurd (true≢false (sym h))

-- nothing fails in either of two lists
pub none_both : (xs ys : List Failure) → none_of (xs ++ ys) ≡ true → (none_of xs ≡ true) × (none_of ys ≡ true)
none_both xs ys h = both (none_of xs) (none_of ys) (sym (none_append xs ys) ∙ h)

pub holds_unless : (b : Bool) (r : ℕ) (p : Place) → none_of (unless b r p) ≡ true → b ≡ true
holds_unless b r p h = sym (none_unless b r p) ∙ h

-- nothing is in a list of failures
pub none_there : (fs : List Failure) → ((f : Failure) → IsIn f fs → ⊥) → none_of fs ≡ true
none_there [] h = refl
none_there (f ∷ fs) h = absurd (h f (inl refl))

pub formals_typed : (items : Items) (v : Visible) (text k : ℕ) (fs : List FormalSyn) → none_of (types_fails items v text (formal_types fs)) ≡ true → AllTyped (bindings items v k fs)
formals_typed items v text k [] h = tt
formals_typed items v text k (f ∷ fs) h =
    let p : (none_of (type_fails items v text f.of) ≡ true) × (none_of (types_fails items v text (formal_types fs)) ≡ true) = none_both (type_fails items v text f.of) (types_fails items v text (formal_types fs)) h in
    (sym (type_law items v text f.of) ∙ p.0, formals_typed items v text (k + 1) fs p.1)
