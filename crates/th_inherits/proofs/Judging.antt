-- The least failure in classes.
use Rattle.std.proofs.Common.{◌≡◌, ◌∙◌, ℕ, Bool, true, false, ◌⊎◌, inl, inr, List, [], ◌∷◌, ◌++◌, Option, Some, None, refl, sym, ap, subst}
use Rattle.std.specs.Bool.{MatchBool}
use Rattle.th_type.specs.declared.place.Place.{Place}
use Rattle.th_type.specs.declared.place.Failure.{Failure}
use Rattle.th_type.specs.Lists.{IsIn}
use Rattle.th_type.specs.Failures.{failure, lowest, IsLeastOf}
use Rattle.th_type.specs.Declarations.{Meant}
use Rattle.th_type.proofs.Least.{least_alike, least_lowest}
use Rattle.th_module_rules.specs.Inheriting.{ClassRow, ReachesHigh, row_fails, rows_fail, InheritingFails}
use Rattle.th_inherits.specs.Judging.{high_fails, Judged}

in_left : (f : Failure) (xs ys : List Failure) → IsIn f xs → IsIn f (xs ++ ys)
in_left f [] ys i = absurd i
in_left f (x ∷ xs) ys (inl e) = inl e
in_left f (x ∷ xs) ys (inr i) = inr (in_left f xs ys i)

in_right : (f : Failure) (xs ys : List Failure) → IsIn f ys → IsIn f (xs ++ ys)
in_right f [] ys i = i
in_right f (x ∷ xs) ys i = inr (in_right f xs ys i)

in_more : (f x : Failure) (xs : List Failure) (P : Type 0) → (f ≡ x) ⊎ (IsIn f xs ⊎ P) → IsIn f (x ∷ xs) ⊎ P
in_more f x xs P (inl e) = inl (inl e)
in_more f x xs P (inr (inl i)) = inl (inr i)
in_more f x xs P (inr (inr p)) = inr p

in_either : (f : Failure) (xs ys : List Failure) → IsIn f (xs ++ ys) → IsIn f xs ⊎ IsIn f ys
in_either f [] ys i = inr i
in_either f (x ∷ xs) ys (inl e) = inl (inl e)
in_either f (x ∷ xs) ys (inr i) = in_more f x xs (IsIn f ys) (inr (in_either f xs ys i))

-- what a class fails alone
abbrev High : List ClassRow → ClassRow → Failure → Type 0
High rows r f = (m : Meant) × (p : Place) × (r.inherits ≡ Some (m, p)) × ReachesHigh rows r.full × (f ≡ failure 10 p)

-- that a class reaches a height above 600 is its failure in the list
high_in : (rows : List ClassRow) (n : ℕ) (f : Failure) (i : Option (Meant × Place)) (high : Bool) → MatchBool high (ReachesHigh rows n) (¬ ReachesHigh rows n) → IsIn f (high_fails high i) → (m : Meant) × (p : Place) × (i ≡ Some (m, p)) × ReachesHigh rows n × (f ≡ failure 10 p)
high_in rows n f None high h o = absurd o
high_in rows n f (Some i) true h (inl e) = (i.0, i.1, refl, h, e)
high_in rows n f (Some i) true h (inr o) = absurd o
high_in rows n f (Some i) false h o = absurd o

high_to : (rows : List ClassRow) (n : ℕ) (f : Failure) (i : Option (Meant × Place)) (high : Bool) (m : Meant) (p : Place) → MatchBool high (ReachesHigh rows n) (¬ ReachesHigh rows n) → i ≡ Some (m, p) → ReachesHigh rows n → f ≡ failure 10 p → IsIn f (high_fails high i)
high_to rows n f i true m p h e r s = subst (λ o. IsIn f (high_fails true o)) (sym e) (inl s)
high_to rows n f i false m p h e r s = absurd (h r)

rows_append : (fulls : List ℕ) (rows xs : List ClassRow) (r : ClassRow) (f : Failure) → IsIn f (rows_fail fulls rows (xs ++ r ∷ [])) → IsIn f (rows_fail fulls rows xs) ⊎ IsIn f (row_fails fulls rows r)
rows_append fulls rows [] r f i = elim (in_either f (row_fails fulls rows r) [] i) [ inl a ↦ inr a | inr b ↦ absurd b ]
rows_append fulls rows (x ∷ xs) r f i =
    elim (in_either f (row_fails fulls rows x) (rows_fail fulls rows (xs ++ r ∷ [])) i) [
      | inl a ↦ inl (in_left f (row_fails fulls rows x) (rows_fail fulls rows xs) a)
      | inr b ↦ elim (rows_append fulls rows xs r f b) [ inl c ↦ inl (in_right f (row_fails fulls rows x) (rows_fail fulls rows xs) c) | inr d ↦ inr d ]
    ]

rows_first : (fulls : List ℕ) (rows xs ys : List ClassRow) (f : Failure) → IsIn f (rows_fail fulls rows xs) → IsIn f (rows_fail fulls rows (xs ++ ys))
rows_first fulls rows [] ys f i = absurd i
rows_first fulls rows (x ∷ xs) ys f i =
    elim (in_either f (row_fails fulls rows x) (rows_fail fulls rows xs) i) [
      | inl a ↦ in_left f (row_fails fulls rows x) (rows_fail fulls rows (xs ++ ys)) a
      | inr b ↦ in_right f (row_fails fulls rows x) (rows_fail fulls rows (xs ++ ys)) (rows_first fulls rows xs ys f b)
    ]

rows_last : (fulls : List ℕ) (rows xs : List ClassRow) (r : ClassRow) (f : Failure) → IsIn f (row_fails fulls rows r) → IsIn f (rows_fail fulls rows (xs ++ r ∷ []))
rows_last fulls rows [] r f i = in_left f (row_fails fulls rows r) [] i
rows_last fulls rows (x ∷ xs) r f i = in_right f (row_fails fulls rows x) (rows_fail fulls rows (xs ++ r ∷ [])) (rows_last fulls rows xs r f i)

row_either : (r x : ClassRow) (xs : List ClassRow) → IsIn r (xs ++ x ∷ []) → IsIn r xs ⊎ (r ≡ x)
row_either r x [] (inl e) = inr e
row_either r x [] (inr i) = absurd i
row_either r x (y ∷ xs) (inl e) = inl (inl e)
row_either r x (y ∷ xs) (inr i) = elim (row_either r x xs i) [ inl a ↦ inl (inr a) | inr b ↦ inr b ]

row_first : (r x : ClassRow) (xs : List ClassRow) → IsIn r xs → IsIn r (xs ++ x ∷ [])
row_first r x [] i = absurd i
row_first r x (y ∷ xs) (inl e) = inl e
row_first r x (y ∷ xs) (inr i) = inr (row_first r x xs i)

row_last : (x : ClassRow) (xs : List ClassRow) → IsIn x (xs ++ x ∷ [])
row_last x [] = inl refl
row_last x (y ∷ xs) = inr (row_last x xs)

module _ (fulls : List ℕ) (rows xs : List ClassRow) (r : ClassRow) (high : Bool) (decides : MatchBool high (ReachesHigh rows r.full) (¬ ReachesHigh rows r.full)) where
  to_more : (f : Failure) → InheritingFails fulls rows xs f ⊎ IsIn f (row_fails fulls rows r ++ high_fails high r.inherits) → InheritingFails fulls rows (xs ++ r ∷ []) f
  to_more f (inl (inl i)) = inl (rows_first fulls rows xs (r ∷ []) f i)
  to_more f (inl (inr h)) = inr (h.0, h.1, h.2, row_first h.0 r xs h.3, h.4, h.5, h.6)
  to_more f (inr i) =
      elim (in_either f (row_fails fulls rows r) (high_fails high r.inherits) i) [
        | inl a ↦ inl (rows_last fulls rows xs r f a)
        | inr b ↦ let h = high_in rows r.full f r.inherits high decides b in inr (r, h.0, h.1, row_last r xs, h.2, h.3, h.4)
      ]

  last_high : (x : ClassRow) (f : Failure) (m : Meant) (p : Place) → x ≡ r → x.inherits ≡ Some (m, p) → ReachesHigh rows x.full → f ≡ failure 10 p → IsIn f (row_fails fulls rows r ++ high_fails high r.inherits)
  last_high x f m p e i h s =
      in_right f (row_fails fulls rows r) (high_fails high r.inherits)
      (high_to rows r.full f r.inherits high m p decides (ap (λ (y : ClassRow). y.inherits) (sym e) ∙ i) (subst (λ (y : ClassRow). ReachesHigh rows y.full) e h) s)

  from_more : (f : Failure) → InheritingFails fulls rows (xs ++ r ∷ []) f → InheritingFails fulls rows xs f ⊎ IsIn f (row_fails fulls rows r ++ high_fails high r.inherits)
  from_more f (inl i) = elim (rows_append fulls rows xs r f i) [ inl a ↦ inl (inl a) | inr b ↦ inr (in_left f (row_fails fulls rows r) (high_fails high r.inherits) b) ]
  from_more f (inr h) = elim (row_either h.0 r xs h.3) [ inl a ↦ inl (inr (h.0, h.1, h.2, a, h.4, h.5, h.6)) | inr e ↦ inr (last_high h.0 f h.1 h.2 e h.4 h.5 h.6) ]

-- a further class was judged
pub judged_more : (fulls : List ℕ) (rows xs : List ClassRow) (r : ClassRow) (old new : Option Failure) → IsLeastOf (InheritingFails fulls rows xs) old → Judged fulls rows r old new → IsLeastOf (InheritingFails fulls rows (xs ++ r ∷ [])) new
judged_more fulls rows xs r old new h j =
    let fs = row_fails fulls rows r ++ high_fails j.0 r.inherits in
    subst (λ o. IsLeastOf (InheritingFails fulls rows (xs ++ r ∷ [])) o) (sym j.2)
    (least_alike (λ f. InheritingFails fulls rows xs f ⊎ IsIn f fs) (InheritingFails fulls rows (xs ++ r ∷ [])) (lowest old fs)
    (to_more fulls rows xs r j.0 j.1) (from_more fulls rows xs r j.0 j.1)
    (least_lowest (InheritingFails fulls rows xs) old fs h))

-- nothing fails where no class is judged
pub judged_none : (fulls : List ℕ) (rows : List ClassRow) → IsLeastOf (InheritingFails fulls rows []) None
judged_none fulls rows = λ f h. elim h [ inl i ↦ i | inr r ↦ r.3 ]
