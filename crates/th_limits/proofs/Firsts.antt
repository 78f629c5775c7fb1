-- What is kept of counts is the first that is too large.
use Rattle.std.proofs.Common.{◌≡◌, ◌≤◌, Bool, true, false, List, [], ◌∷◌, Option, Some, None, refl, sym, subst, ◌⊎◌, inl, inr, arith, if◌then◌else◌}
use Rattle.std.proofs.lemmas.Bool.Decides.{nat_tests}
use Rattle.th_type.specs.Lists.{IsIn}
use Rattle.th_module_rules.specs.Limits.{Counted, CountedUpTo, IsExcess, IsFirstExcess, KeepsLimits, limit_of}
use Rattle.th_limits.specs.declared.excess.Excess.{Excess}
use Rattle.th_limits.specs.Earliest.{earlier, earliest, excess_of, is_excess, kept, stands_before}

-- what is kept of a collection of counts: nothing where none is too large, else the first
abbrev pub IsFirstOf : (Counted → Type 0) → Option Excess → Type 0
IsFirstOf P None = (d : Counted) → P d → ¬ IsExcess d
IsFirstOf P (Some e) = (c : Counted) × P c × IsExcess c × (e ≡ excess_of c) × ((d : Counted) → P d → IsExcess d → CountedUpTo c d)

up_to_trans : (c d e : Counted) → CountedUpTo c d → CountedUpTo d e → CountedUpTo c e
up_to_trans c d e h k = grind arith

up_to_self : (c : Counted) → CountedUpTo c c
up_to_self c = inr (refl, inr (refl, omega arith))

before_up_to : (c d : Counted) → stands_before (excess_of c) (excess_of d) ≡ true → CountedUpTo c d
before_up_to c d h = grind (arith, nat_tests)

not_before_up_to : (c d : Counted) → stands_before (excess_of c) (excess_of d) ≡ false → CountedUpTo d c
not_before_up_to c d h = grind (arith, nat_tests)

first_alike : (P Q : Counted → Type 0) (o : Option Excess) → ((d : Counted) → P d → Q d) → ((d : Counted) → Q d → P d) → IsFirstOf P o → IsFirstOf Q o
first_alike P Q None forth back h = λ d q. h d (back d q)
first_alike P Q (Some e) forth back h = (h.0, forth h.0 h.1, h.2, h.3, λ d q x. h.4 d (back d q) x)

is_too_large : (c : Counted) → is_excess c ≡ true → IsExcess c
is_too_large c h = grind (arith, nat_tests)

is_not_too_large : (c : Counted) → is_excess c ≡ false → ¬ IsExcess c
is_not_too_large c h = λ x. grind (arith, nat_tests)

-- the same with a further count that is not too large
first_small : (P : Counted → Type 0) (o : Option Excess) (c : Counted) → ¬ IsExcess c → IsFirstOf P o → IsFirstOf (λ d. P d ⊎ (d ≡ c)) o
first_small P None c n h = λ d q x. elim q [ inl p ↦ h d p x | inr s ↦ n (subst IsExcess s x) ]
first_small P (Some e) c n h = (h.0, inl h.1, h.2, h.3, λ d q x. elim q [ inl p ↦ h.4 d p x | inr s ↦ absurd (n (subst IsExcess s x)) ])

-- the same with a further count that is too large, beside one that is kept
first_of_two : (P : Counted → Type 0) (k c : Counted) (b : Bool) → stands_before (excess_of c) (excess_of k) ≡ b → IsExcess c
    → P k → IsExcess k → ((d : Counted) → P d → IsExcess d → CountedUpTo k d)
    → IsFirstOf (λ d. P d ⊎ (d ≡ c)) (if b then Some (excess_of c) else Some (excess_of k))
first_of_two P k c true e large p x up =
    (c, inr refl, large, refl, λ d q y. elim q [ inl r ↦ up_to_trans c k d (before_up_to c k e) (up d r y) | inr s ↦ subst (λ d. CountedUpTo c d) (sym s) (up_to_self c) ])
first_of_two P k c false e large p x up =
    (k, inl p, x, refl, λ d q y. elim q [ inl r ↦ up d r y | inr s ↦ subst (λ d. CountedUpTo k d) (sym s) (not_before_up_to c k e) ])

first_large : (P : Counted → Type 0) (o : Option Excess) (c : Counted) → IsExcess c → IsFirstOf P o → IsFirstOf (λ d. P d ⊎ (d ≡ c)) (earlier o (excess_of c))
first_large P None c large h = (c, inr refl, large, refl, λ d q x. elim q [ inl p ↦ absurd (h d p x) | inr s ↦ subst (λ d. CountedUpTo c d) (sym s) (up_to_self c) ])
first_large P (Some e) c large h =
    subst (λ (k : Excess). IsFirstOf (λ d. P d ⊎ (d ≡ c)) (earlier (Some k) (excess_of c))) (sym h.3)
    (first_of_two P h.0 c (stands_before (excess_of c) (excess_of h.0)) refl large h.1 h.2 h.4)

first_kept_if : (P : Counted → Type 0) (o : Option Excess) (c : Counted) (b : Bool) → is_excess c ≡ b → IsFirstOf P o → IsFirstOf (λ d. P d ⊎ (d ≡ c)) (if b then earlier o (excess_of c) else o)
first_kept_if P o c true e h = first_large P o c (is_too_large c e) h
first_kept_if P o c false e h = first_small P o c (is_not_too_large c e) h

-- what is kept, with the counts of a list
first_earliest : (P : Counted → Type 0) (o : Option Excess) (cs : List Counted) → IsFirstOf P o → IsFirstOf (λ d. P d ⊎ IsIn d cs) (earliest o cs)
first_earliest P o [] h = first_alike P (λ d. P d ⊎ IsIn d []) o (λ d p. inl p) (λ d q. elim q [ inl p ↦ p | inr n ↦ absurd n ]) h
first_earliest P o (c ∷ cs) h =
    first_alike (λ d. (P d ⊎ (d ≡ c)) ⊎ IsIn d cs) (λ d. P d ⊎ IsIn d (c ∷ cs)) (earliest (kept o c) cs)
    (λ d q. elim q [ inl p ↦ elim p [ inl a ↦ inl a | inr b ↦ inr (inl b) ] | inr n ↦ inr (inr n) ])
    (λ d q. elim q [ inl p ↦ inl (inl p) | inr n ↦ elim n [ inl b ↦ inl (inr b) | inr m ↦ inr m ] ])
    (first_earliest (λ d. P d ⊎ (d ≡ c)) (kept o c) cs (first_kept_if P o c (is_excess c) refl h))

first_of_list : (cs : List Counted) → IsFirstOf (λ d. IsIn d cs) (earliest None cs)
first_of_list cs =
    first_alike (λ d. ⊥ ⊎ IsIn d cs) (λ d. IsIn d cs) (earliest None cs) (λ d q. elim q [ inl n ↦ absurd n | inr m ↦ m ]) (λ d q. inr q)
    (first_earliest (λ d. ⊥) None cs (λ d n x. n))

pub first_is_kept : (cs : List Counted) (e : Excess) → earliest None cs ≡ Some e → (c : Counted) × IsFirstExcess cs c × (e ≡ excess_of c)
first_is_kept cs e h =
    let f : IsFirstOf (λ d. IsIn d cs) (Some e) = subst (IsFirstOf (λ d. IsIn d cs)) h (first_of_list cs) in
    (f.0, (f.1, f.2, f.4), f.3)

at_most : (c : Counted) → ¬ IsExcess c → c.many ≤ limit_of c.what
at_most c n = grind arith

not_above : (c : Counted) → c.many ≤ limit_of c.what → ¬ IsExcess c
not_above c h = λ x. omega arith

kept_where_none : (cs : List Counted) → earliest None cs ≡ None → KeepsLimits cs
kept_where_none cs h =
    let f : IsFirstOf (λ d. IsIn d cs) None = subst (IsFirstOf (λ d. IsIn d cs)) h (first_of_list cs) in
    λ c m. at_most c (f c m)

none_of_first : (cs : List Counted) (o : Option Excess) → IsFirstOf (λ d. IsIn d cs) o → KeepsLimits cs → o ≡ None
none_of_first cs None f h = refl
none_of_first cs (Some e) f h = absurd (not_above f.0 (h f.0 f.1) f.2)

pub none_is_kept : (cs : List Counted) → ((earliest None cs ≡ None) → KeepsLimits cs) × (KeepsLimits cs → earliest None cs ≡ None)
none_is_kept cs = (kept_where_none cs, none_of_first cs (earliest None cs) (first_of_list cs))
