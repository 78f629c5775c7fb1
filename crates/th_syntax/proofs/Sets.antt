-- Sets of marks, as lists of their numbers.
use Rattle.std.proofs.Common.{◌≡◌, ℕ, Bool, true, false, nat_eq, List, [], ◌∷◌, ◌++◌, refl, sym, ◌∙◌, if◌then◌else◌, eqb-true}
use Rattle.th_tree.specs.declared.lexeme.Lexeme.{Lexeme}
use Rattle.th_syntax.specs.Read.{peek, code, member, in_set}

-- no member of the one is a member of the other
abbrev pub disjoint : List ℕ → List ℕ → Bool
disjoint [] ys = true
disjoint (x ∷ xs) ys = if member x ys then false else disjoint xs ys

-- each member of the one is a member of the other
abbrev pub subset : List ℕ → List ℕ → Bool
subset [] ys = true
subset (x ∷ xs) ys = if member x ys then subset xs ys else false

-- the one where the test holds, else both
abbrev pub joined_if : Bool → List ℕ → List ℕ → List ℕ
joined_if true xs ys = xs ++ ys
joined_if false xs ys = xs

if_both : (b c : Bool) → (if b then false else c) ≡ true → (b ≡ false) × (c ≡ true)
if_both true c e = absurd (cc)
if_both false c e = (refl, e)

if_and : (b c : Bool) → (if b then c else false) ≡ true → (b ≡ true) × (c ≡ true)
if_and true c e = (refl, e)
if_and false c e = absurd (cc)

member_same : (c x : ℕ) (xs : List ℕ) (b : Bool) → nat_eq c x ≡ b → member c (x ∷ xs) ≡ (if b then true else member c xs)
member_same c x xs b e = rw e refl

pub disjoint_out : (c : ℕ) (xs ys : List ℕ) → disjoint xs ys ≡ true → member c xs ≡ true → member c ys ≡ false
disjoint_out c [] ys d h = absurd (cc)
disjoint_out c (x ∷ xs) ys d h = out (nat_eq c x) refl (λ i. disjoint_out c xs ys ((if_both (member x ys) (disjoint xs ys) d).1) i) where
  out : (b : Bool) → nat_eq c x ≡ b → (member c xs ≡ true → member c ys ≡ false) → member c ys ≡ false
  out true e k = rw (eqb-true c x e) ((if_both (member x ys) (disjoint xs ys) d).0)
  out false e k = k (sym (member_same c x xs false e) ∙ h)

pub subset_in : (c : ℕ) (xs ys : List ℕ) → subset xs ys ≡ true → member c xs ≡ true → member c ys ≡ true
subset_in c [] ys d h = absurd (cc)
subset_in c (x ∷ xs) ys d h = within (nat_eq c x) refl (λ i. subset_in c xs ys ((if_and (member x ys) (subset xs ys) d).1) i) where
  within : (b : Bool) → nat_eq c x ≡ b → (member c xs ≡ true → member c ys ≡ true) → member c ys ≡ true
  within true e k = rw (eqb-true c x e) ((if_and (member x ys) (subset xs ys) d).0)
  within false e k = k (sym (member_same c x xs false e) ∙ h)

pub not_true : (b : Bool) → (b ≡ true → ⊥) → b ≡ false
not_true true h = absurd (h refl)
not_true false h = refl

pub subset_out : (c : ℕ) (xs ys : List ℕ) → subset xs ys ≡ true → member c ys ≡ false → member c xs ≡ false
subset_out c xs ys d h = not_true (member c xs) (λ i. let j : member c ys ≡ true = subset_in c xs ys d i in absurd (cc))

pub member_left : (c : ℕ) (xs ys : List ℕ) → member c xs ≡ true → member c (xs ++ ys) ≡ true
member_left c [] ys h = absurd (cc)
member_left c (x ∷ xs) ys h = at (nat_eq c x) refl (λ i. member_left c xs ys i) where
  at : (b : Bool) → nat_eq c x ≡ b → (member c xs ≡ true → member c (xs ++ ys) ≡ true) → member c ((x ∷ xs) ++ ys) ≡ true
  at true e k = rw e refl
  at false e k = rw e (k (sym (member_same c x xs false e) ∙ h))

pub member_right : (c : ℕ) (xs ys : List ℕ) → member c ys ≡ true → member c (xs ++ ys) ≡ true
member_right c [] ys h = h
member_right c (x ∷ xs) ys h = at (nat_eq c x) refl (member_right c xs ys h) where
  at : (b : Bool) → nat_eq c x ≡ b → member c (xs ++ ys) ≡ true → member c ((x ∷ xs) ++ ys) ≡ true
  at true e k = rw e refl
  at false e k = rw e k

pub out_left : (c : ℕ) (xs ys : List ℕ) → member c (xs ++ ys) ≡ false → member c xs ≡ false
out_left c xs ys h = not_true (member c xs) (λ i. let j : member c (xs ++ ys) ≡ true = member_left c xs ys i in absurd (cc))

pub out_right : (c : ℕ) (xs ys : List ℕ) → member c (xs ++ ys) ≡ false → member c ys ≡ false
out_right c xs ys h = not_true (member c ys) (λ i. let j : member c (xs ++ ys) ≡ true = member_right c xs ys i in absurd (cc))

-- the words begin with these marks, and where `null` holds one may be empty
abbrev pub Heads : List ℕ → Bool → List Lexeme → Type 0
Heads first null [] = null ≡ true
Heads first null (t ∷ ts) = member (code t.mark) first ≡ true

abbrev pub both : Bool → Bool → Bool
both true b = b
both false b = false

pub heads_weak : (f g : List ℕ) (b : Bool) (xs : List Lexeme) → subset f g ≡ true → Heads f b xs → Heads g b xs
heads_weak f g b [] s h = h
heads_weak f g b (t ∷ ts) s h = subset_in (code t.mark) f g s h

pub heads_then : (f1 f2 : List ℕ) (n1 n2 : Bool) (us vs : List Lexeme) → Heads f1 n1 us → Heads f2 n2 vs → Heads (joined_if n1 f1 f2) (both n1 n2) (us ++ vs)
heads_then f1 f2 true n2 [] [] h i = i
heads_then f1 f2 false n2 [] vs h i = absurd (cc)
heads_then f1 f2 true n2 [] (t ∷ ts) h i = member_right (code t.mark) f1 f2 i
heads_then f1 f2 true n2 (t ∷ ts) vs h i = member_left (code t.mark) f1 f2 h
heads_then f1 f2 false n2 (t ∷ ts) vs h i = h

pub heads_left : (f1 f2 : List ℕ) (b : Bool) (us : List Lexeme) → Heads f1 false us → Heads (f1 ++ f2) b us
heads_left f1 f2 b [] h = absurd (cc)
heads_left f1 f2 b (t ∷ ts) h = member_left (code t.mark) f1 f2 h

pub heads_right : (f1 f2 : List ℕ) (b : Bool) (us : List Lexeme) → Heads f2 b us → Heads (f1 ++ f2) b us
heads_right f1 f2 b [] h = h
heads_right f1 f2 b (t ∷ ts) h = member_right (code t.mark) f1 f2 h

-- what follows a word is none of the marks m, where no further word begins with one of them
pub follows : (m f more : List ℕ) (b : Bool) (vs rest : List Lexeme) → disjoint m f ≡ true → Heads f b vs → (b ≡ true → in_set m (peek rest) ≡ false) → in_set m (peek (vs ++ rest)) ≡ false
follows m f more b [] rest d h i = i h
follows m f more b (t ∷ ts) rest d h i = not_true (member (code t.mark) m) (λ j. let k : member (code t.mark) f ≡ false = disjoint_out (code t.mark) m f d j in absurd (cc))

-- a word that is not empty begins with a mark of the set
pub begins : (f : List ℕ) (us rest : List Lexeme) → Heads f false us → in_set f (peek (us ++ rest)) ≡ true
begins f [] rest h = absurd (cc)
begins f (t ∷ ts) rest h = h

-- a word that is empty or begins with a mark of another set begins with none of the set
pub begins_not : (f g : List ℕ) (b : Bool) (us rest : List Lexeme) → disjoint f g ≡ true → Heads g b us → (b ≡ true → in_set f (peek rest) ≡ false) → in_set f (peek (us ++ rest)) ≡ false
begins_not f g b us rest d h i = follows f g [] b us rest d h i
