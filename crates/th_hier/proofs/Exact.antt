-- A type's tree means a type exactly where none of its names fails.
use Rattle.std.proofs.Common.{◌≡◌, ℕ, Bool, true, false, ◌&&◌, nat_eq, List, [], ◌∷◌, ◌++◌, Option, Some, None, is_some, refl, sym, ap, ◌∙◌, ◌⊎◌, inl, inr, if◌then◌else◌, true≢false, subst}
use Rattle.th_tree.specs.Trees.{TypeSyn, int_type, bool_type, text_type, array_type, named_type, TypeSyns, no_type, more_types}
use Rattle.th_type.specs.declared.place.Place.{Place}
use Rattle.th_type.specs.declared.place.Failure.{Failure}
use Rattle.th_type.specs.Failures.{place, failure, unless, none_of, lowest, IsLeastOf}
use Rattle.th_type.specs.Lists.{IsIn}
use Rattle.th_type.specs.Types.{TypeExpr, TypeExprs}
use Rattle.th_type.proofs.Members.{from_append}
use Rattle.th_type.proofs.Least.{least_lowest, least_alike}
use Rattle.th_hier.specs.declared.item.Sort.{Sort}
use Rattle.th_hier.specs.declared.item.Sort.TheVariants.{Exception, Declared, Class, Routine, Iterator}
use Rattle.th_hier.specs.declared.item.Referent.{Referent}
use Rattle.th_hier.specs.declared.item.Referent.TheVariants as referents
use Rattle.th_hier.specs.Naming.{Items, Visible, meaning}
use Rattle.th_hier.specs.Resolve.{count, sort_fails, type_name_fails, type_fails, types_fails, sort_type, referent_type, array_of, before_types, resolved_type, resolved_types}

pub none_append : (xs ys : List Failure) → none_of (xs ++ ys) ≡ (none_of xs && none_of ys)
none_append [] ys = refl
none_append (x ∷ xs) ys = refl

unless_law : (b : Bool) (rule : ℕ) (p : Place) → none_of (unless b rule p) ≡ b
unless_law true rule p = refl
unless_law false rule p = refl

and_false : (b : Bool) → (b && false) ≡ false
and_false true = refl
and_false false = refl

chosen : {A : Type 0} (b : Bool) (a : A) → is_some (if b then Some a else None) ≡ (b && true)
chosen true a = refl
chosen false a = refl

sort_law : (s : Sort) (full c : ℕ) (p : Place) (ts : TypeExprs) → (none_of (sort_fails s c p) && true) ≡ is_some (sort_type s full c ts)
sort_law Exception full c p ts = refl
sort_law (Declared k) full c p ts = ap (λ b. b && true) (unless_law (nat_eq c k) 5 p) ∙ sym (chosen (nat_eq c k) _)
sort_law (Class k) full c p ts = refl
sort_law (Routine k) full c p ts = refl
sort_law (Iterator k) full c p ts = refl

referent_law : (r : Referent) (c : ℕ) (p : Place) (o : Option TypeExprs) → (none_of (type_name_fails r c p) && is_some o) ≡ is_some (referent_type r c o)
referent_law r c p None = and_false (none_of (type_name_fails r c p))
referent_law referents.Nothing c p (Some ts) = refl
referent_law (referents.Param k) c p (Some ts) = ap (λ b. b && true) (unless_law (nat_eq c 0) 5 p) ∙ sym (chosen (nat_eq c 0) _)
referent_law (referents.Item e) c p (Some ts) = sort_law e.sort e.full c p ts

array_law : (o : Option TypeExpr) → is_some o ≡ is_some (array_of o)
array_law None = refl
array_law (Some t) = refl

before_law : (o : Option TypeExpr) (p : Option TypeExprs) → (is_some o && is_some p) ≡ is_some (before_types o p)
before_law None p = refl
before_law (Some t) None = refl
before_law (Some t) (Some ts) = refl

two : (a b c d : Bool) → a ≡ c → b ≡ d → (a && b) ≡ (c && d)
two a b c d p q = ap (λ x. x && b) p ∙ ap (λ x. c && x) q

mutual
  pub type_law : (items : Items) (v : Visible) (text : ℕ) (t : TypeSyn) → none_of (type_fails items v text t) ≡ is_some (resolved_type items v t)
  type_law items v text (int_type at) = refl
  type_law items v text (bool_type at) = refl
  type_law items v text (text_type at) = refl
  type_law items v text (array_type at t) = type_law items v text t ∙ array_law (resolved_type items v t)
  type_law items v text (named_type r ts) =
      none_append (type_name_fails (meaning items v r) (count ts) (place text r.first.at)) (types_fails items v text ts)
      ∙ ap (λ b. none_of (type_name_fails (meaning items v r) (count ts) (place text r.first.at)) && b) (types_law items v text ts)
      ∙ referent_law (meaning items v r) (count ts) (place text r.first.at) (resolved_types items v ts)

  pub types_law : (items : Items) (v : Visible) (text : ℕ) (ts : TypeSyns) → none_of (types_fails items v text ts) ≡ is_some (resolved_types items v ts)
  types_law items v text no_type = refl
  types_law items v text (more_types t ts) =
      none_append (type_fails items v text t) (types_fails items v text ts)
      ∙ two _ _ _ _ (type_law items v text t) (types_law items v text ts) ∙ before_law (resolved_type items v t) (resolved_types items v ts)

-- the rule of a failure of a type is one of two, and its text is the type's
pub record OfType (text : ℕ) (f : Failure) : Type 0 where
  pub rule : (f.rule ≡ 4) ⊎ (f.rule ≡ 5)
  pub in_text : f.place.text ≡ text

unless_of : (text at rule : ℕ) (b : Bool) (f : Failure) → (rule ≡ 4) ⊎ (rule ≡ 5) → IsIn f (unless b rule (place text at)) → OfType text f
unless_of text at rule true f r m = absurd m
unless_of text at rule false f r (inl e) = record { rule = subst (λ (x : Failure). (x.rule ≡ 4) ⊎ (x.rule ≡ 5)) (sym e) r; in_text = ap (λ (x : Failure). x.place.text) e }
unless_of text at rule false f r (inr m) = absurd m

sort_of : (text at c : ℕ) (s : Sort) (f : Failure) → IsIn f (sort_fails s c (place text at)) → OfType text f
sort_of text at c Exception f m = unless_of text at 4 false f (inl refl) m
sort_of text at c (Declared k) f m = unless_of text at 5 (nat_eq c k) f (inr refl) m
sort_of text at c (Class k) f m = unless_of text at 4 false f (inl refl) m
sort_of text at c (Routine k) f m = unless_of text at 4 false f (inl refl) m
sort_of text at c (Iterator k) f m = unless_of text at 4 false f (inl refl) m

name_of : (text at c : ℕ) (r : Referent) (f : Failure) → IsIn f (type_name_fails r c (place text at)) → OfType text f
name_of text at c referents.Nothing f m = unless_of text at 4 false f (inl refl) m
name_of text at c (referents.Param k) f m = unless_of text at 5 (nat_eq c 0) f (inr refl) m
name_of text at c (referents.Item e) f m = sort_of text at c e.sort f m

mutual
  pub type_failure : (items : Items) (v : Visible) (text : ℕ) (t : TypeSyn) (f : Failure) → IsIn f (type_fails items v text t) → OfType text f
  type_failure items v text (int_type at) f m = absurd m
  type_failure items v text (bool_type at) f m = absurd m
  type_failure items v text (text_type at) f m = absurd m
  type_failure items v text (array_type at t) f m = type_failure items v text t f m
  type_failure items v text (named_type r ts) f m =
      elim (from_append f (type_name_fails (meaning items v r) (count ts) (place text r.first.at)) (types_fails items v text ts) m) [
        | inl a ↦ name_of text r.first.at (count ts) (meaning items v r) f a
        | inr b ↦ types_failure items v text ts f b
      ]

  pub types_failure : (items : Items) (v : Visible) (text : ℕ) (ts : TypeSyns) (f : Failure) → IsIn f (types_fails items v text ts) → OfType text f
  types_failure items v text no_type f m = absurd m
  types_failure items v text (more_types t ts) f m =
      elim (from_append f (type_fails items v text t) (types_fails items v text ts) m) [
        | inl a ↦ type_failure items v text t f a
        | inr b ↦ types_failure items v text ts f b
      ]

-- the fold over a list of failures gives the least of them
pub lowest_least : (fs : List Failure) (o : Option Failure) → o ≡ lowest None fs → IsLeastOf (λ f. IsIn f fs) o
lowest_least fs o e =
    subst (IsLeastOf (λ f. IsIn f fs)) (sym e)
    (least_alike (λ f. ⊥ ⊎ IsIn f fs) (λ f. IsIn f fs) (lowest None fs) (λ g h. elim h [ inl n ↦ absurd n | inr m ↦ m ]) (λ g m. inr m)
    (least_lowest (λ f. ⊥) None fs (λ g n. n)))

some_in : (f : Failure) (fs : List Failure) → IsIn f fs → none_of fs ≡ false
some_in f [] m = absurd m
some_in f (g ∷ fs) m = refl

none_in : (fs : List Failure) → ((g : Failure) → IsIn g fs → ⊥) → fs ≡ []
none_in [] h = refl
none_in (f ∷ fs) h = absurd (h f (inl refl))

not_some : {A : Type 0} (o : Option A) → is_some o ≡ false → o ≡ None
not_some None h = refl
not_some (Some a) h = absurd (true≢false h)

-- a type that has a failure means none, and the least of its failures is kept
pub refused : (items : Items) (v : Visible) (text : ℕ) (t : TypeSyn) (o : Option Failure) (f : Failure) → o ≡ lowest None (type_fails items v text t) → o ≡ Some f
    → (resolved_type items v t ≡ None) × IsLeastOf (λ g. IsIn g (type_fails items v text t)) (Some f)
refused items v text t o f e s =
    let least : IsLeastOf (λ g. IsIn g (type_fails items v text t)) (Some f) = lowest_least (type_fails items v text t) (Some f) (sym s ∙ e) in
    (not_some (resolved_type items v t) (sym (type_law items v text t) ∙ some_in f (type_fails items v text t) least.0), least)

-- a type that has no failure means one
pub no_failure : (items : Items) (v : Visible) (text : ℕ) (t : TypeSyn) (o : Option Failure) → o ≡ lowest None (type_fails items v text t) → o ≡ None → type_fails items v text t ≡ []
no_failure items v text t o e s = none_in (type_fails items v text t) (lowest_least (type_fails items v text t) None (sym s ∙ e))

pub means_some : (items : Items) (v : Visible) (text : ℕ) (t : TypeSyn) → type_fails items v text t ≡ [] → resolved_type items v t ≡ None → ⊥
means_some items v text t e n = true≢false (sym (ap none_of e) ∙ type_law items v text t ∙ ap is_some n)

-- the failure of a rule at its byte
pub named_by : (text rule : ℕ) (f : Failure) → OfType text f → f.rule ≡ rule → f ≡ failure rule (place text f.place.at)
named_by text rule f o r = λ j. record { place = record { text = o.in_text j; at = f.place.at }; rule = r j }

pub other_rule : (text : ℕ) (f : Failure) → OfType text f → (f.rule ≡ 4 → ⊥) → f.rule ≡ 5
other_rule text f o n = elim o.rule [ inl e ↦ absurd (n e) | inr e ↦ e ]
