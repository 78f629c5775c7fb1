-- What is found of each condition.
use Rattle.std.proofs.Common.{◌≡◌, ℕ, suc, Bool, true, false, cond, map, List, [], ◌∷◌, ◌++◌, Option, Some, None, option_map, slice_get, refl, sym, ap, ◌∙◌, subst, ◌⊎◌, inl, inr, bytes_eq}
use Rattle.std.specs.Prelude.{filter, flat_map, is_none, is_some, codes}
use Rattle.std.specs.HashMap.{HashMap, get_by}
use denote.Ref.{Bor}
use Rattle.th_type.specs.Lists.{IsIn}
use Rattle.th_meaning.specs.Program.{ProgramUnit, Program, is_main, mains}
use Rattle.th_agree.specs.Names.{IsLeastOf, least_of, lesser_of}
use Rattle.th_agree.specs.Agree.{TwiceBy, Twice, Missing, own_name, defined, main_names, exported, kept_interfaces}
use Rattle.th_agree.specs.Noted.{Entry, entry, Clashes, Noted, place_seen, all_with, placed, first_value, lacks, MainIs}
use Rattle.th_agree.proofs.LeastNames.{least_alike, least_in, least_both}
use Rattle.th_agree.proofs.Entries.{first_is, first_never}
use Rattle.th_agree.proofs.Placed.{twice_least, defined_in, in_defined}

-- the least name that is twice
pub twice_found : (p : Program) (a b c : Option (List ℕ)) → IsLeastOf (Clashes (placed own_name 0 p)) a → IsLeastOf (Clashes (placed defined 0 p)) b → IsLeastOf (Clashes (placed main_names 0 p)) c
    → IsLeastOf (Twice p) (lesser_of (lesser_of a b) c)
twice_found p a b c h k l =
    least_both (λ q. TwiceBy own_name p q ⊎ TwiceBy defined p q) (TwiceBy main_names p) (lesser_of a b) c
    (least_both (TwiceBy own_name p) (TwiceBy defined p) a b (twice_least own_name p a h) (twice_least defined p b k)) (twice_least main_names p c l)

filter_step : {A : Type 0} → (test : A → Bool) (b : Bool) (x y : A) (xs ys : List A) → test y ≡ b → (IsIn x xs → IsIn x ys × (test x ≡ true)) → IsIn x (cond b (y ∷ xs) xs) → IsIn x (y ∷ ys) × (test x ≡ true)
filter_step test true x y xs ys t ih h = elim h [ inl s ↦ (inl s, ap test s ∙ t) | inr i ↦ (inr (ih i).0, (ih i).1) ]
filter_step test false x y xs ys t ih h = (inr (ih h).0, (ih h).1)

in_filter : {A : Type 0} → (test : A → Bool) (xs : List A) (x : A) → IsIn x (filter test xs) → IsIn x xs × (test x ≡ true)
in_filter test [] x h = absurd h
in_filter test (y ∷ xs) x h = filter_step test (test y) x y (filter test xs) xs refl (in_filter test xs x) h

keep_step : {A : Type 0} → (test : A → Bool) (b : Bool) (x y : A) (xs ys : List A) → test y ≡ b → test x ≡ true → (IsIn x ys → IsIn x xs) → IsIn x (y ∷ ys) → IsIn x (cond b (y ∷ xs) xs)
keep_step test true x y xs ys t has ih h = elim h [ inl s ↦ inl s | inr i ↦ inr (ih i) ]
keep_step test false x y xs ys t has ih h = elim h [ inl s ↦ (let d : true ≡ false = sym has ∙ ap test s ∙ t in cc) | inr i ↦ ih i ]

filter_in : {A : Type 0} → (test : A → Bool) (xs : List A) (x : A) → test x ≡ true → IsIn x xs → IsIn x (filter test xs)
filter_in test [] x t h = h
filter_in test (y ∷ xs) x t h = keep_step test (test y) x y (filter test xs) xs refl t (filter_in test xs x t) h

none_is : (o f : Option ℕ) → option_map place_seen o ≡ f → is_none o ≡ true → f ≡ None
none_is None f h t = sym h
none_is (Some k) f h t = cc

is_none_so : (o f : Option ℕ) → option_map place_seen o ≡ f → f ≡ None → is_none o ≡ true
is_none_so None f h e = refl
is_none_so (Some k) f h e = let d : Some k ≡ None = h ∙ e in cc

none_or_some : (f : Option ℕ) → (f ≡ None) ⊎ ((k : ℕ) × (f ≡ Some k))
none_or_some None = inl refl
none_or_some (Some k) = inr (k, refl)

no_first : (p : Program) (n : List ℕ) → (¬ IsIn n (flat_map defined p)) → first_value (placed defined 0 p) n ≡ None
no_first p n h = elim (none_or_some (first_value (placed defined 0 p) n)) [ inl e ↦ e | inr s ↦ absurd (h (defined_in 0 p n s.0 (first_is (placed defined 0 p) n s.0 s.1))) ]

-- the least exported name that no module defines
pub missing_found : {S : Type 0} → (p : Program) (m : HashMap (Bor (List ℕ)) ℕ S) (o l : Option (List ℕ)) → Noted place_seen (placed defined 0 p) m o
    → l ≡ least_of None (lacks m (flat_map exported (kept_interfaces p))) → IsLeastOf (Missing p) l
missing_found p m o l noted is =
    let ns = flat_map exported (kept_interfaces p) in
    let test = λ (n : List ℕ). is_none (get_by (λ k. bytes_eq n k.now) m) in
    subst (IsLeastOf (Missing p)) (sym is)
    (least_alike (λ q. ⊥ ⊎ IsIn q (lacks m ns)) (Missing p) (least_of None (lacks m ns))
    (λ q i. elim i [
      | inl a ↦ absurd a
      | inr j ↦ ((in_filter test ns q j).0, in_defined 0 p q (none_is (get_by (λ k. bytes_eq q k.now) m) (first_value (placed defined 0 p) q) (noted.first q) (in_filter test ns q j).1))
    ])
    (λ q i. inr (filter_in test ns q (is_none_so (get_by (λ k. bytes_eq q k.now) m) (first_value (placed defined 0 p) q) (noted.first q) (no_first p q i.1)) i.0))
    (least_in (λ q. ⊥) None (lacks m ns) (λ q a. a)))

main_step : (k : ℕ) (us rest : List ProgramUnit) (es : List (Entry ℕ)) (u : ProgramUnit) → slice_get (us ++ rest) 0 ≡ Some u → (slice_get rest 0 ≡ Some u → (j : ℕ) × IsIn (entry (codes "main") j) es)
    → (j : ℕ) × IsIn (entry (codes "main") j) (all_with k (map (λ v. codes "main") us) ++ es)
main_step k [] rest es u h ih = ih h
main_step k (x ∷ us) rest es u h ih = (k, inl refl)

main_noted : (k : ℕ) (p : Program) (u : ProgramUnit) → slice_get (mains p) 0 ≡ Some u → (j : ℕ) × IsIn (entry (codes "main") j) (placed main_names k p)
main_noted k [] u h = cc
main_noted k (m ∷ ms) u h = main_step k (filter (is_main m) m.units) (mains ms) (placed main_names (suc k) ms) u h (main_noted (suc k) ms u)

noted_step : (k : ℕ) (us rest : List ProgramUnit) (es : List (Entry ℕ)) (j : ℕ) → IsIn (entry (codes "main") j) (all_with k (map (λ v. codes "main") us) ++ es)
    → (IsIn (entry (codes "main") j) es → (u : ProgramUnit) × (slice_get rest 0 ≡ Some u)) → (u : ProgramUnit) × (slice_get (us ++ rest) 0 ≡ Some u)
noted_step k [] rest es j h ih = ih h
noted_step k (x ∷ us) rest es j h ih = (x, refl)

noted_main : (k : ℕ) (p : Program) (j : ℕ) → IsIn (entry (codes "main") j) (placed main_names k p) → (u : ProgramUnit) × (slice_get (mains p) 0 ≡ Some u)
noted_main k [] j h = absurd h
noted_main k (m ∷ ms) j h = noted_step k (filter (is_main m) m.units) (mains ms) (placed main_names (suc k) ms) j h (noted_main (suc k) ms j)

main_is : (p : Program) (o f : Option ℕ) → option_map place_seen o ≡ f → first_value (placed main_names 0 p) (codes "main") ≡ f → MainIs p (is_some o)
main_is p None f e h = λ has. (let s = main_noted 0 p has.0 has.1 in first_never (placed main_names 0 p) (codes "main") s.0 (h ∙ sym e) s.1)
main_is p (Some k) f e h = noted_main 0 p k (first_is (placed main_names 0 p) (codes "main") k (h ∙ sym e))

-- whether there is a `main`
pub main_found : {S : Type 0} → (p : Program) (m : HashMap (Bor (List ℕ)) ℕ S) (o : Option (List ℕ)) (found : Option ℕ) (b : Bool) → Noted place_seen (placed main_names 0 p) m o
    → found ≡ get_by (λ k. bytes_eq (codes "main") k.now) m → b ≡ is_some found → MainIs p b
main_found p m o found b noted is tells =
    subst (MainIs p) (sym tells) (main_is p found (first_value (placed main_names 0 p) (codes "main")) (ap (option_map place_seen) is ∙ noted.first (codes "main")) refl)
