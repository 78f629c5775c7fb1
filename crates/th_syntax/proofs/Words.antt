-- Laws of the commonest readings, and languages without words.
use Rattle.std.proofs.Common.{◌≡◌, ℕ, zero, suc, ◌<◌, Bool, true, false, nat_lt, List, [], ◌∷◌, ◌++◌, Some, None, refl, ap, arith}
use Rattle.th_tree.specs.declared.tokens.Sym.TheVariants.{Dollar}
use Rattle.th_tree.specs.declared.lexeme.Mark.{Mark}
use Rattle.th_tree.specs.declared.lexeme.Mark.TheVariants.{Name, Number, Symbol, Text}
use Rattle.th_tree.specs.declared.lexeme.Lexeme.{Lexeme}
use Rattle.th_tree.specs.Forms.{lex, Done, The, Valued, Then, in_turn, Either, left, right, Listed, last_one, one_before, After, Between, Maybe, AName}
use Rattle.th_tree.specs.Grammar.{Ref, found}
use Rattle.th_tree.specs.Trees.{number_expr, text_expr}
use Rattle.th_syntax.specs.Read.{P, peek, code, valued, name_in, number_in, text_in, seq, ret, one, after, between, maybe}
use Rattle.th_syntax.specs.Parse.{read_name, read_ref}
use Rattle.th_syntax.proofs.Good.{Headed}
use Rattle.th_syntax.proofs.Sets.{disjoint, joined_if}
use Rattle.th_syntax.proofs.Marks.{Exact}
use Rattle.th_syntax.proofs.Law.{Law, law_weak, law_done, law_the, law_valued, law_then}
use Rattle.th_syntax.proofs.Choice.{law_either}

name_mark : (c : Mark) (n : ℕ) → name_in (Some c) ≡ Some n → c ≡ Name n
name_mark (Name m) n e = let i : m ≡ n = cc in ap Name i
name_mark _ n e = absurd (cc)

name_head : (n : ℕ) (ts : List Lexeme) → name_in (peek ts) ≡ Some n → Headed (Name n) ts
name_head n [] e = absurd (cc)
name_head n (t ∷ ts) e = record { place = t.at; rest = ts; is = ap (λ c. lex c t.at ∷ ts) (name_mark t.mark n e) }

number_mark : (c : Mark) (n : ℕ) → number_in (Some c) ≡ Some n → c ≡ Number n
number_mark (Number m) n e = let i : m ≡ n = cc in ap Number i
number_mark _ n e = absurd (cc)

number_head : (n : ℕ) (ts : List Lexeme) → number_in (peek ts) ≡ Some n → Headed (Number n) ts
number_head n [] e = absurd (cc)
number_head n (t ∷ ts) e = record { place = t.at; rest = ts; is = ap (λ c. lex c t.at ∷ ts) (number_mark t.mark n e) }

text_mark : (c : Mark) (n : ℕ) → text_in (Some c) ≡ Some n → c ≡ Text n
text_mark (Text m) n e = let i : m ≡ n = cc in ap Text i
text_mark _ n e = absurd (cc)

text_head : (n : ℕ) (ts : List Lexeme) → text_in (peek ts) ≡ Some n → Headed (Text n) ts
text_head n [] e = absurd (cc)
text_head n (t ∷ ts) e = record { place = t.at; rest = ts; is = ap (λ c. lex c t.at ∷ ts) (text_mark t.mark n e) }

pub law_name : Law AName read_name (0 ∷ []) false []
law_name = law_valued Name name_in (λ i p. record { name = i; at = p }) 0 (λ n. refl) name_head (λ n. refl)

pub law_number : Law (Valued Number (λ n p. found (number_expr p n) 1 p)) (λ n ts. valued number_in (λ i p. found (number_expr p i) 1 p) ts) (1 ∷ []) false []
law_number = law_valued Number number_in (λ i p. found (number_expr p i) 1 p) 1 (λ n. refl) number_head (λ n. refl)

pub law_text : Law (Valued Text (λ n p. found (text_expr p n) 1 p)) (λ n ts. valued text_in (λ i p. found (text_expr p i) 1 p) ts) (2 ∷ []) false []
law_text = law_valued Text text_in (λ i p. found (text_expr p i) 1 p) 2 (λ n. refl) text_head (λ n. refl)

pub law_after : {B : Type 0} {K : B → List Lexeme → Type 0} {q : ℕ → P B} {f2 : List ℕ} {n2 : Bool} {m2 : List ℕ} (c : Mark) → Exact c → Law K q f2 n2 m2 → Law (After c K) (after c q) (code c ∷ []) false (joined_if n2 m2 [])
law_after c e k = law_then (law_the c e) (λ p xs h. k) refl

-- a mark and what the place makes
pub law_place : {A : Type 0} (c : Mark) → Exact c → (make : ℕ → A) → Law (Then (The c) (λ p. Done (make p))) (seq (one c) (λ p. ret (make p))) (code c ∷ []) false []
law_place c e make = law_then (law_the c e) (λ p xs h. law_done (make p)) refl

pub law_between : {A : Type 0} {L : A → List Lexeme → Type 0} {p : ℕ → P A} {f1 : List ℕ} {m1 : List ℕ} (c d : Mark) → Exact c → Exact d → Law L p f1 false m1 → disjoint m1 (code d ∷ []) ≡ true
    → Law (Between c d L) (between c d p) (code c ∷ []) false []
law_between c d e i l apart = law_after c e (law_then l (λ a xs h. law_after d i (law_done a)) apart)

pub law_maybe : {A : Type 0} {L : A → List Lexeme → Type 0} {p : ℕ → P A} {m1 : List ℕ} (c : Mark) → Law L p (code c ∷ []) false m1 → disjoint m1 [] ≡ true → Law (Maybe L) (maybe c p) (code c ∷ []) true (m1 ++ (code c ∷ []))
law_maybe c l apart = law_either (law_then l (λ a xs h. law_done (Some a)) apart) (law_done None) (none_apart (code c)) where
  none_apart : (x : ℕ) → disjoint (x ∷ []) [] ≡ true
  none_apart x = refl

pub law_ref : Law Ref read_ref (0 ∷ []) false (code (Symbol Dollar) ∷ [])
law_ref = law_weak (law_then law_name (λ a xs h. law_then (law_maybe (Symbol Dollar) (law_after (Symbol Dollar) tt law_name) refl) (λ b ys i. law_done (record { first = a; second = b })) refl) refl) refl refl

-- languages without words
pub none_then : {A B : Type 0} {L : A → List Lexeme → Type 0} {K : A → B → List Lexeme → Type 0} → ((a : A) (xs : List Lexeme) → L a xs → ⊥) → (b : B) (xs : List Lexeme) → Then L K b xs → ⊥
none_then none b xs (in_turn a b1 us vs h i) = none a us h

pub none_next : {A B : Type 0} {L : A → List Lexeme → Type 0} {K : A → B → List Lexeme → Type 0} → ((a : A) (b : B) (xs : List Lexeme) → K a b xs → ⊥) → (b : B) (xs : List Lexeme) → Then L K b xs → ⊥
none_next none b xs (in_turn a b1 us vs h i) = none a b1 vs i

pub none_either : {A : Type 0} {L K : A → List Lexeme → Type 0} → ((a : A) (xs : List Lexeme) → L a xs → ⊥) → ((a : A) (xs : List Lexeme) → K a xs → ⊥) → (a : A) (xs : List Lexeme) → Either L K a xs → ⊥
none_either l k a xs (left b us h) = l b us h
none_either l k a xs (right b us h) = k b us h

pub none_listed : {A B : Type 0} {L : A → List Lexeme → Type 0} {c : Mark} {more : A → B → B} {none : B} → ((a : A) (xs : List Lexeme) → L a xs → ⊥) → (b : B) (xs : List Lexeme) → Listed c L more none b xs → ⊥
none_listed l b xs (last_one a us h) = l a us h
none_listed l b xs (one_before a d p us vs h i) = l a us h

pub none_between : {A : Type 0} {L : A → List Lexeme → Type 0} {c d : Mark} → ((a : A) (xs : List Lexeme) → L a xs → ⊥) → (a : A) (xs : List Lexeme) → Between c d L a xs → ⊥
none_between l = none_next (λ p. none_then l)

pub some_room : (r : ℕ) → nat_lt 0 r ≡ true → 0 < r
some_room zero e = absurd (cc)
some_room (suc r) e = omega arith
