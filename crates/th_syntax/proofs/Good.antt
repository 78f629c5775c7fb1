-- What is read is in the relation, and where reading stops at a wrong token, what was read before it begins something in it.
use Rattle.std.proofs.Common.{◌≡◌, ℕ, Bool, true, false, List, [], ◌∷◌, ◌++◌, Option, Some, None, refl, sym, subst, append_assoc, if◌then◌else◌}
use Rattle.th_tree.specs.declared.lexeme.Mark.{Mark}
use Rattle.th_tree.specs.declared.lexeme.Lexeme.{Lexeme}
use Rattle.th_tree.specs.Forms.{lex}
use Rattle.th_syntax.specs.Read.{Res, Got, Bad, P, bind, take_one, on_some}

pub data Good {A : Type 0} (Is : A → List Lexeme → Type 0) (ts : List Lexeme) : Res A → Type 0 where
  goods : (a : A) (xs rest : List Lexeme) → ts ≡ xs ++ rest → Is a xs → Good Is ts (Got a rest)
  bads : (a : A) (xs zs rest : List Lexeme) → ts ≡ xs ++ rest → Is a (xs ++ zs) → Good Is ts (Bad rest)

pub good_got : {A : Type 0} (Is : A → List Lexeme → Type 0) (ts : List Lexeme) (a : A) → Is a [] → Good Is ts (Got a ts)
good_got Is ts a h = goods a [] ts refl h

pub good_bad : {A : Type 0} (Is : A → List Lexeme → Type 0) (ts zs : List Lexeme) (a : A) → Is a zs → Good Is ts (Bad ts)
good_bad Is ts zs a h = bads a [] zs ts refl h

pub good_map : {A : Type 0} (Is As : A → List Lexeme → Type 0) (ts : List Lexeme) (r : Res A) → ((a : A) (xs : List Lexeme) → Is a xs → As a xs) → Good Is ts r → Good As ts r
good_map Is As ts r f (goods a xs rest e h) = goods a xs rest e (f a xs h)
good_map Is As ts r f (bads a xs zs rest e h) = bads a xs zs rest e (f a _ h)

-- behind what was read before
good_behind : {A : Type 0} (Is : A → List Lexeme → Type 0) (ts xs rest : List Lexeme) (r : Res A) → ts ≡ xs ++ rest → Good (λ a ys. Is a (xs ++ ys)) rest r → Good Is ts r
good_behind Is ts xs rest r e (goods a ys more d h) =
    goods a (xs ++ ys) more (subst (λ l. ts ≡ l) (sym (append_assoc xs ys more)) (subst (λ l. ts ≡ xs ++ l) d e)) h
good_behind Is ts xs rest r e (bads a ys zs more d h) =
    bads a (xs ++ ys) zs more (subst (λ l. ts ≡ l) (sym (append_assoc xs ys more)) (subst (λ l. ts ≡ xs ++ l) d e)) (subst (Is a) (sym (append_assoc xs ys zs)) h)

-- the same, where reading before it stopped
bad_behind : {A : Type 0} (Is : A → List Lexeme → Type 0) (ts xs zs rest none : List Lexeme) (r : Res A) → ts ≡ xs ++ rest → Good (λ a ys. Is a ((xs ++ zs) ++ ys)) none r → Good Is ts (Bad rest)
bad_behind Is ts xs zs rest none r e (goods a ys more d h) = bads a xs (zs ++ ys) rest e (subst (Is a) (append_assoc xs zs ys) h)
bad_behind Is ts xs zs rest none r e (bads a ys us more d h) = bads a xs (zs ++ (ys ++ us)) rest e (subst (Is a) (append_assoc xs zs (ys ++ us)) h)

pub good_bind : {A B : Type 0} (Is : A → List Lexeme → Type 0) (As : B → List Lexeme → Type 0) (ts : List Lexeme) (r : Res A) (f : A → P B)
    → Good Is ts r → ((a : A) (xs rest : List Lexeme) → Is a xs → Good (λ b ys. As b (xs ++ ys)) rest (f a rest)) → Good As ts (bind r f)
good_bind Is As ts r f (goods a xs rest e h) k = good_behind As ts xs rest (f a rest) e (k a xs rest h)
good_bind Is As ts r f (bads a xs zs rest e h) k = bad_behind As ts xs zs rest [] (f a []) e (k a (xs ++ zs) [] h)

pub good_if : {A : Type 0} (Is : A → List Lexeme → Type 0) (ts : List Lexeme) (b : Bool) (x y : Res A) → (b ≡ true → Good Is ts x) → (b ≡ false → Good Is ts y) → Good Is ts (if b then x else y)
good_if Is ts true x y f g = f refl
good_if Is ts false x y f g = g refl

pub good_some : {A B : Type 0} (Is : B → List Lexeme → Type 0) (ts : List Lexeme) (o : Option A) (f : A → Res B) (z : Res B)
    → ((a : A) → o ≡ Some a → Good Is ts (f a)) → (o ≡ None → Good Is ts z) → Good Is ts (on_some o f z)
good_some Is ts None f z k l = l refl
good_some Is ts (Some a) f z k l = k a refl

-- a mark stands at the front
pub record Headed (c : Mark) (ts : List Lexeme) : Type 0 where
  pub place : ℕ
  pub rest : List Lexeme
  pub is : ts ≡ lex c place ∷ rest

pub good_take : {B : Type 0} (As : B → List Lexeme → Type 0) (c : Mark) (ts : List Lexeme) (f : Lexeme → P B)
    → Headed c ts → ((p : ℕ) (rest : List Lexeme) → Good (λ b ys. As b (lex c p ∷ ys)) rest (f (lex c p) rest)) → Good As ts (bind (take_one ts) f)
good_take As c ts f h k =
    subst (λ l. Good As l (bind (take_one l) f)) (sym h.is)
    (good_behind As (lex c h.place ∷ h.rest) (lex c h.place ∷ []) h.rest (f (lex c h.place) h.rest) refl (k h.place h.rest))
