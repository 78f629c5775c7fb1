-- What a reading gives hangs on the tokens that it took and on the next one alone.
use Rattle.std.proofs.Common.{◌≡◌, ℕ, suc, ◌≤◌, Bool, true, false, List, [], ◌∷◌, ◌++◌, length, Option, Some, None, refl, sym, ◌∙◌, subst, ap, append_assoc, length-append, if◌then◌else◌, arith}
use Rattle.th_tree.specs.declared.lexeme.Mark.{Mark}
use Rattle.th_tree.specs.declared.lexeme.Lexeme.{Lexeme}
use Rattle.th_syntax.specs.Read.{Res, Got, Bad, P, bind, peek, take_one, on_some}
use Rattle.th_syntax.proofs.Good.{Good, goods, bads}

-- g gives the same on any tokens that begin as those read, up to the next one; lists up to the length m
pub data Steady {A : Type 0} (g : P A) (m : ℕ) (ts : List Lexeme) : Res A → Type 0 where
  gots : (a : A) (xs rest : List Lexeme) → ts ≡ xs ++ rest
      → ((t : Lexeme) (p zs : List Lexeme) → rest ≡ t ∷ p → length (xs ++ t ∷ zs) ≤ m → g (xs ++ t ∷ zs) ≡ Got a (t ∷ zs)) → Steady g m ts (Got a rest)
  stops : (xs rest : List Lexeme) → ts ≡ xs ++ rest
      → ((t : Lexeme) (p zs : List Lexeme) → rest ≡ t ∷ p → length (xs ++ t ∷ zs) ≤ m → g (xs ++ t ∷ zs) ≡ Bad (t ∷ zs)) → Steady g m ts (Bad rest)

pub steady_got : {A : Type 0} (m : ℕ) (ts : List Lexeme) (a : A) → Steady (Got a) m ts (Got a ts)
steady_got m ts a = gots a [] ts refl (λ t p zs e l. refl)

pub steady_bad : {A : Type 0} (m : ℕ) (ts : List Lexeme) → Steady {A = A} Bad m ts (Bad ts)
steady_bad m ts = stops [] ts refl (λ t p zs e l. refl)

pub steady_weak : {A : Type 0} (g : P A) (m n : ℕ) (ts : List Lexeme) (r : Res A) → n ≤ m → Steady g m ts r → Steady g n ts r
steady_weak g m n ts r l (gots a xs rest e h) = gots a xs rest e (λ t p zs d k. h t p zs d (omega arith))
steady_weak g m n ts r l (stops xs rest e h) = stops xs rest e (λ t p zs d k. h t p zs d (omega arith))

no_token : (ts xs rest : List Lexeme) (t : Lexeme) (p : List Lexeme) → length ts ≤ 0 → ts ≡ xs ++ rest → rest ≡ t ∷ p → ⊥
no_token ts xs rest t p l e d =
    let i : length (xs ++ t ∷ p) ≤ 0 = subst (λ q. length (xs ++ q) ≤ 0) d (subst (λ q. length q ≤ 0) e l) in omega (arith, length-append xs (t ∷ p))

-- for no list at all
pub steady_none : {A : Type 0} (Is : A → List Lexeme → Type 0) (g : P A) (ts : List Lexeme) (r : Res A) → Good Is ts r → Steady g 0 ts r
steady_none Is g ts r (goods a xs rest e h) = gots a xs rest e (λ t p zs d l. absurd (omega (arith, length-append xs (t ∷ zs))))
steady_none Is g ts r (bads a xs zs rest e h) = stops xs rest e (λ t p us d l. absurd (omega (arith, length-append xs (t ∷ us))))

-- where no token is left
pub steady_empty : {A : Type 0} (Is : A → List Lexeme → Type 0) (g : P A) (m : ℕ) (ts : List Lexeme) (r : Res A) → length ts ≤ 0 → Good Is ts r → Steady g m ts r
steady_empty Is g m ts r l (goods a xs rest e h) = gots a xs rest e (λ t p zs d o. absurd (no_token ts xs rest t p l e d))
steady_empty Is g m ts r l (bads a xs zs rest e h) = stops xs rest e (λ t p us d o. absurd (no_token ts xs rest t p l e d))

-- g reads xs and then what begins ys and goes on by t
abbrev pub Again : {A : Type 0} → P A → ℕ → A → List Lexeme → List Lexeme → Type 0
Again g m a xs rest = (t : Lexeme) (p zs : List Lexeme) → rest ≡ t ∷ p → length (xs ++ t ∷ zs) ≤ m → g (xs ++ t ∷ zs) ≡ Got a (t ∷ zs)

pub again_on : {A : Type 0} (g : P A) (m : ℕ) (a : A) (xs ys rest more : List Lexeme) (t : Lexeme) (p zs : List Lexeme)
    → Again g m a xs rest → rest ≡ ys ++ more → more ≡ t ∷ p → length (xs ++ (ys ++ t ∷ zs)) ≤ m → g (xs ++ (ys ++ t ∷ zs)) ≡ Got a (ys ++ t ∷ zs)
again_on g m a xs [] rest more t p zs h e d l = h t p zs (e ∙ d) l
again_on g m a xs (u ∷ us) rest more t p zs h e d l = h u (us ++ more) (us ++ t ∷ zs) e l

bind_on : {A B : Type 0} (g : P A) (k : A → P B) (m n : ℕ) (ts xs rest : List Lexeme) (a : A) (r : Res B) → ts ≡ xs ++ rest → Again g m a xs rest
    → Steady (k a) m rest r → Steady (λ l. bind (g l) k) m ts r
bind_on g k m n ts xs rest a r e h (gots b ys more d i) =
    gots b (xs ++ ys) more (subst (λ l. ts ≡ l) (sym (append_assoc xs ys more)) (subst (λ l. ts ≡ xs ++ l) d e))
    (λ t p zs c l.
    let l1 : length (xs ++ (ys ++ t ∷ zs)) ≤ m = subst (λ q. length q ≤ m) (append_assoc xs ys (t ∷ zs)) l in
    let l2 : length (ys ++ t ∷ zs) ≤ m = omega (arith, length-append xs (ys ++ t ∷ zs)) in
    subst (λ q. bind (g q) k ≡ Got b (t ∷ zs)) (sym (append_assoc xs ys (t ∷ zs)))
    (subst (λ q. bind q k ≡ Got b (t ∷ zs)) (sym (again_on g m a xs ys rest more t p zs h d c l1)) (i t p zs c l2)))
bind_on g k m n ts xs rest a r e h (stops ys more d i) =
    stops (xs ++ ys) more (subst (λ l. ts ≡ l) (sym (append_assoc xs ys more)) (subst (λ l. ts ≡ xs ++ l) d e))
    (λ t p zs c l.
    let l1 : length (xs ++ (ys ++ t ∷ zs)) ≤ m = subst (λ q. length q ≤ m) (append_assoc xs ys (t ∷ zs)) l in
    let l2 : length (ys ++ t ∷ zs) ≤ m = omega (arith, length-append xs (ys ++ t ∷ zs)) in
    subst (λ q. bind (g q) k ≡ Bad (t ∷ zs)) (sym (append_assoc xs ys (t ∷ zs)))
    (subst (λ q. bind q k ≡ Bad (t ∷ zs)) (sym (again_on g m a xs ys rest more t p zs h d c l1)) (i t p zs c l2)))

shorter : (n : ℕ) (ts xs rest : List Lexeme) → length ts ≤ n → ts ≡ xs ++ rest → length rest ≤ n
shorter n ts xs rest l e = let d : length (xs ++ rest) ≤ n = subst (λ q. length q ≤ n) e l in omega (arith, length-append xs rest)

pub steady_bind : {A B : Type 0} (n m : ℕ) (ts : List Lexeme) (g : P A) (r : Res A) (k f : A → P B) → length ts ≤ n → Steady g m ts r
    → ((a : A) (rest : List Lexeme) → length rest ≤ n → Steady (k a) m rest (f a rest)) → Steady (λ l. bind (g l) k) m ts (bind r f)
steady_bind n m ts g r k f l (gots a xs rest e h) i = bind_on g k m n ts xs rest a (f a rest) e h (i a rest (shorter n ts xs rest l e))
steady_bind n m ts g r k f l (stops xs rest e h) i =
    stops xs rest e (λ t p zs d o. ap (λ q. bind q k) (h t p zs d o))

-- one token
pub steady_take : {B : Type 0} (n m : ℕ) (ts : List Lexeme) (k f : Lexeme → P B) → length ts ≤ suc n
    → ((a : Lexeme) (rest : List Lexeme) → length rest ≤ n → Steady (k a) m rest (f a rest)) → Steady (λ l. bind (take_one l) k) (suc m) ts (bind (take_one ts) f)
steady_take {B = B} n m [] k f l i = stops [] [] refl (λ t p zs e o. absurd (cc))
steady_take {B = B} n m (u ∷ us) k f l i = steady_cons u us (f u us) (i u us (omega arith)) where
  steady_cons : (u : Lexeme) (us : List Lexeme) (r : Res B) → Steady (k u) m us r → Steady (λ l. bind (take_one l) k) (suc m) (u ∷ us) r
  steady_cons u us r (gots b ys more d j) = gots b (u ∷ ys) more (ap (λ q. u ∷ q) d) (λ t p zs c o. j t p zs c (omega arith))
  steady_cons u us r (stops ys more d j) = stops (u ∷ ys) more (ap (λ q. u ∷ q) d) (λ t p zs c o. j t p zs c (omega arith))

pub steady_one : {B : Type 0} (n m : ℕ) (ts : List Lexeme) (k f : Lexeme → P B) → length ts ≤ n
    → ((a : Lexeme) (rest : List Lexeme) → length rest ≤ n → Steady (k a) m rest (f a rest)) → Steady (λ l. bind (take_one l) k) m ts (bind (take_one ts) f)
steady_one n m ts k f l i = steady_weak _ (suc m) m ts _ (omega arith) (steady_take n m ts k f (omega arith) i)

peek_front : (ts xs rest : List Lexeme) (t : Lexeme) (p zs : List Lexeme) → ts ≡ xs ++ rest → rest ≡ t ∷ p → peek (xs ++ t ∷ zs) ≡ peek ts
peek_front ts [] rest t p zs e d = ap peek (sym (e ∙ d))
peek_front ts (u ∷ us) rest t p zs e d = ap peek (sym e)

-- a look at the next mark
pub steady_look : {A : Type 0} (G : Option Mark → P A) (m : ℕ) (ts : List Lexeme) (r : Res A) → Steady (G (peek ts)) m ts r → Steady (λ l. G (peek l) l) m ts r
steady_look G m ts r (gots a xs rest e h) = gots a xs rest e (λ t p zs d l. subst (λ o. G o (xs ++ t ∷ zs) ≡ Got a (t ∷ zs)) (sym (peek_front ts xs rest t p zs e d)) (h t p zs d l))
steady_look G m ts r (stops xs rest e h) = stops xs rest e (λ t p zs d l. subst (λ o. G o (xs ++ t ∷ zs) ≡ Bad (t ∷ zs)) (sym (peek_front ts xs rest t p zs e d)) (h t p zs d l))

pub steady_test : {A : Type 0} (b : Bool) (x y : P A) (m : ℕ) (ts : List Lexeme) (r s : Res A) → (b ≡ true → Steady x m ts r) → (b ≡ false → Steady y m ts s)
    → Steady (λ l. if b then x l else y l) m ts (if b then r else s)
steady_test true x y m ts r s h k = h refl
steady_test false x y m ts r s h k = k refl

pub steady_if : {A : Type 0} (test : Option Mark → Bool) (x y : P A) (m : ℕ) (ts : List Lexeme) (r s : Res A) → Steady x m ts r → Steady y m ts s
    → Steady (λ l. if test (peek l) then x l else y l) m ts (if test (peek ts) then r else s)
steady_if test x y m ts r s h k = steady_look (λ o l. if test o then x l else y l) m ts _ (steady_test (test (peek ts)) x y m ts r s (λ e. h) (λ e. k))

pub steady_some : {A B : Type 0} (of : Option Mark → Option B) (x : B → P A) (y : P A) (m : ℕ) (ts : List Lexeme) (r : B → Res A) (s : Res A)
    → ((b : B) → Steady (x b) m ts (r b)) → Steady y m ts s
    → Steady (λ l. on_some (of (peek l)) (λ b. x b l) (y l)) m ts (on_some (of (peek ts)) r s)
steady_some {A = A} {B = B} of x y m ts r s h k = steady_look (λ o l. on_some (of o) (λ b. x b l) (y l)) m ts _ (chosen (of (peek ts))) where
  chosen : (o : Option B) → Steady (λ l. on_some o (λ b. x b l) (y l)) m ts (on_some o r s)
  chosen None = k
  chosen (Some b) = h b
