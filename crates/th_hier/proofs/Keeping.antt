-- The first type of each number.
use Rattle.std.proofs.Common.{◌≡◌, ℕ, Bool, true, false, nat_eq, ◌||◌, List, [], ◌∷◌, ◌++◌, refl, sym, ap, ◌∙◌, inl, inr, if◌then◌else◌, true≢false}
use Rattle.std.proofs.lemmas.Bool.{eqb-true}
use borrow.Author.Tests.{eq-eqb}
use Rattle.std.proofs.lemmas.List.Folds.{list_any-append}
use Rattle.th_type.specs.Declarations.{Declaration}
use Rattle.th_type.specs.Lists.{IsIn}
use Rattle.th_type.specs.Rules.{NamesDiffer}
use Rattle.th_hier.specs.Naming.{has, with_number}
use Rattle.th_hier.specs.Texts.{firsts}

or_free : (a b : Bool) → (a || (b || false)) ≡ false → (a ≡ false) × (b ≡ false)
or_free true b h = absurd (true≢false h)
or_free false true h = absurd (true≢false h)
or_free false false h = (refl, refl)

or_there : (a b : Bool) → (a || (b || false)) ≡ true → a ≡ false → b ≡ true
or_there true b h e = absurd (true≢false e)
or_there false true h e = refl
or_there false false h e = absurd (true≢false (sym h))

free_if : (ns : List ℕ) (n m : ℕ) (b : Bool) → has ns n ≡ b → has (if b then ns else ns ++ n ∷ []) m ≡ false → (has ns m ≡ false) × (m ≡ n → ⊥)
free_if ns n m true is h = (h, λ (e : m ≡ n). true≢false (sym is ∙ ap (has ns) (sym e) ∙ h))
free_if ns n m false is h =
    let p = or_free (has ns m) (nat_eq m n) (sym (list_any-append (nat_eq m) ns (n ∷ [])) ∙ h) in
    (p.0, λ (e : m ≡ n). true≢false (sym (eq-eqb m n e) ∙ p.1))

-- a number that is not among more numbers is neither among the numbers nor the further one
free : (ns : List ℕ) (n m : ℕ) → has (with_number ns n) m ≡ false → (has ns m ≡ false) × (m ≡ n → ⊥)
free ns n m h = free_if ns n m (has ns n) refl h

there_if : (ns : List ℕ) (n m : ℕ) (b : Bool) → has (if b then ns else ns ++ n ∷ []) m ≡ true → has ns m ≡ false → m ≡ n
there_if ns n m true h e = absurd (true≢false (sym h ∙ e))
there_if ns n m false h e = eqb-true m n (or_there (has ns m) (nat_eq m n) (sym (list_any-append (nat_eq m) ns (n ∷ [])) ∙ h) e)

-- a number that is only among more numbers is the further one
there : (ns : List ℕ) (n m : ℕ) → has (with_number ns n) m ≡ true → has ns m ≡ false → m ≡ n
there ns n m h e = there_if ns n m (has ns n) h e

free_first : (seen : List ℕ) (d : Declaration) (ds : List Declaration) (e : Declaration) (b : Bool) → has seen d.name ≡ b
    → (IsIn e (firsts seen ds) → has seen e.name ≡ false) → (IsIn e (firsts (with_number seen d.name) ds) → has (with_number seen d.name) e.name ≡ false)
    → IsIn e (if b then firsts seen ds else d ∷ firsts (with_number seen d.name) ds) → has seen e.name ≡ false
free_first seen d ds e true is p q h = p h
free_first seen d ds e false is p q (inl s) = ap (λ (x : Declaration). has seen x.name) s ∙ is
free_first seen d ds e false is p q (inr m) = (free seen d.name e.name (q m)).0

firsts_free : (seen : List ℕ) (ds : List Declaration) (e : Declaration) → IsIn e (firsts seen ds) → has seen e.name ≡ false
firsts_free seen [] e h = absurd h
firsts_free seen (d ∷ ds) e h = free_first seen d ds e (has seen d.name) refl (firsts_free seen ds e) (firsts_free (with_number seen d.name) ds e) h

differ_first : (seen : List ℕ) (d : Declaration) (ds : List Declaration) (b : Bool) → NamesDiffer (firsts seen ds) → NamesDiffer (firsts (with_number seen d.name) ds)
    → NamesDiffer (if b then firsts seen ds else d ∷ firsts (with_number seen d.name) ds)
differ_first seen d ds true p q = p
differ_first seen d ds false p q = (λ e m (s : d.name ≡ e.name). (free seen d.name e.name (firsts_free (with_number seen d.name) ds e m)).1 (sym s), q)

-- they have different names
pub firsts_differ : (seen : List ℕ) (ds : List Declaration) → NamesDiffer (firsts seen ds)
firsts_differ seen [] = tt
firsts_differ seen (d ∷ ds) = differ_first seen d ds (has seen d.name) (firsts_differ seen ds) (firsts_differ (with_number seen d.name) ds)

in_first : (seen : List ℕ) (d : Declaration) (ds : List Declaration) (e : Declaration) (b : Bool) → (IsIn e (firsts seen ds) → IsIn e ds) → (IsIn e (firsts (with_number seen d.name) ds) → IsIn e ds)
    → IsIn e (if b then firsts seen ds else d ∷ firsts (with_number seen d.name) ds) → IsIn e (d ∷ ds)
in_first seen d ds e true p q h = inr (p h)
in_first seen d ds e false p q (inl s) = inl s
in_first seen d ds e false p q (inr m) = inr (q m)

-- each is one of the types
pub firsts_in : (seen : List ℕ) (ds : List Declaration) (e : Declaration) → IsIn e (firsts seen ds) → IsIn e ds
firsts_in seen [] e h = h
firsts_in seen (d ∷ ds) e h = in_first seen d ds e (has seen d.name) (firsts_in seen ds e) (firsts_in (with_number seen d.name) ds e) h

-- one of the types has the name
abbrev pub Named : List Declaration → ℕ → Type 0
Named ds n = (e : Declaration) × IsIn e ds × (e.name ≡ n)

has_self : (seen : List ℕ) (x : Declaration) (ds : List Declaration) (b : Bool) → has seen x.name ≡ b → has seen x.name ≡ false
    → Named (if b then firsts seen ds else x ∷ firsts (with_number seen x.name) ds) x.name
has_self seen x ds true is h = absurd (true≢false (sym is ∙ h))
has_self seen x ds false is h = (x, inl refl, refl)

has_later : (seen : List ℕ) (x : Declaration) (ds : List Declaration) (n : ℕ) (b c : Bool) → has (with_number seen x.name) n ≡ c → has seen n ≡ false
    → Named (firsts seen ds) n → (has (with_number seen x.name) n ≡ false → Named (firsts (with_number seen x.name) ds) n)
    → Named (if b then firsts seen ds else x ∷ firsts (with_number seen x.name) ds) n
has_later seen x ds n true c is h p q = p
has_later seen x ds n false true is h p q = (x, inl refl, sym (there seen x.name n is h))
has_later seen x ds n false false is h p q = let r = q is in (r.0, inr r.1, r.2)

-- the name of each of the types is that of one of them, unless it is among the numbers
pub firsts_named : (seen : List ℕ) (ds : List Declaration) (d : Declaration) → IsIn d ds → has seen d.name ≡ false → Named (firsts seen ds) d.name
firsts_named seen [] d h e = absurd h
firsts_named seen (x ∷ ds) d (inl s) e =
    let r = has_self seen x ds (has seen x.name) refl (ap (λ (y : Declaration). has seen y.name) (sym s) ∙ e) in
    (r.0, r.1, r.2 ∙ ap (λ (y : Declaration). y.name) (sym s))
firsts_named seen (x ∷ ds) d (inr m) e =
    has_later seen x ds d.name (has seen x.name) (has (with_number seen x.name) d.name) refl e (firsts_named seen ds d m e) (firsts_named (with_number seen x.name) ds d m)
