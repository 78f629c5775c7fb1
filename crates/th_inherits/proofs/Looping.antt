-- Classes that reach themselves.
use Rattle.std.proofs.Common.{◌≡◌, ◌≢◌, ◌∙◌, ℕ, zero, suc, ◌+◌, ◌-◌, ◌<◌, Bool, true, false, nat_eq, ◌||◌, ◌⊎◌, inl, inr, List, [], ◌∷◌, ◌++◌, length, Option, Some, None, refl, sym, ap, subst, arith, if◌then◌else◌}
use Rattle.std.proofs.lemmas.Bool.Decides.{nat_tests}
use Rattle.th_type.specs.Lists.{is_in}
use Rattle.th_hier.specs.Naming.{has, with_number}
use Rattle.th_module_rules.specs.Inheriting.{ClassRow, row_at, next_class, classes_up, cons_opt, reaches_itself}
use Rattle.th_inherits.specs.Loops.{IsUp, AreFree, AreLooped, is_free_by, IsNoting}
use Rattle.th_inherits.proofs.Placing.{walk_none, walk_on}

-- what is among the classes above is so many steps above
abbrev Above : List ClassRow → ℕ → ℕ → ℕ → Type 0
Above rows s n m = (j : ℕ) × (j < s) × IsUp rows (suc j) n m

above_first : (rows : List ClassRow) (m s n x : ℕ) (b : Bool) → nat_eq m x ≡ b → next_class (row_at rows n) ≡ Some x → (is_in m (classes_up s rows x) ≡ true → Above rows s x m) → b || is_in m (classes_up s rows x) ≡ true → Above rows (suc s) n m
above_first rows m s n x true e q f h = let t : x ≡ m = grind (arith, nat_tests) in (0, omega arith, (x, q, t))
above_first rows m s n x false e q f h = let r = f h in let l = r.1 in (suc r.0, omega (arith, l), (x, q, r.2))

above_by : (rows : List ClassRow) (m s n : ℕ) (o : Option ℕ) → next_class (row_at rows n) ≡ o → ((x : ℕ) → is_in m (classes_up s rows x) ≡ true → Above rows s x m) → is_in m (cons_opt o (classes_up s rows)) ≡ true → Above rows (suc s) n m
above_by rows m s n None q f h = cc
above_by rows m s n (Some x) q f h = above_first rows m s n x (nat_eq m x) refl q (f x) h

above_of : (rows : List ClassRow) (m s n : ℕ) → is_in m (classes_up s rows n) ≡ true → Above rows s n m
above_of rows m zero n h = cc
above_of rows m (suc s) n h = above_by rows m s n (next_class (row_at rows n)) refl (λ x. above_of rows m s x) h

or_true : (a b : Bool) → b ≡ true → a || b ≡ true
or_true true b h = refl
or_true false b h = h

is_first : (m x : ℕ) (b : Bool) → x ≡ m → nat_eq m x || b ≡ true
is_first m x b h = let e : nat_eq m x ≡ true = grind (arith, nat_tests) in ap (λ c. c || b) e

in_of : (rows : List ClassRow) (m s j n : ℕ) → j < s → IsUp rows (suc j) n m → is_in m (classes_up s rows n) ≡ true
in_of rows m zero j n h u = absurd (omega (arith, h))
in_of rows m (suc s) zero n h u = ap (λ o. is_in m (cons_opt o (classes_up s rows))) u.1 ∙ is_first m u.0 (is_in m (classes_up s rows u.0)) u.2
in_of rows m (suc s) (suc j) n h u = ap (λ o. is_in m (cons_opt o (classes_up s rows))) u.1 ∙ or_true (nat_eq m u.0) (is_in m (classes_up s rows u.0)) (in_of rows m s j u.0 (omega (arith, h)) u.2)

one_more : (rows : List ClassRow) (j n m x : ℕ) → IsUp rows j n m → next_class (row_at rows m) ≡ Some x → IsUp rows (suc j) n x
one_more rows zero n m x u e = (x, ap (λ y. next_class (row_at rows y)) u ∙ e, refl)
one_more rows (suc j) n m x u e = (u.0, u.1, one_more rows j u.0 m x u.2 e)

same_next : (rows : List ClassRow) (n x y : ℕ) → next_class (row_at rows n) ≡ Some x → next_class (row_at rows n) ≡ Some y → x ≡ y
same_next rows n x y a b = let s : Some x ≡ Some y = sym a ∙ b in cc

-- the next class of one that reaches itself does, too
next_itself : (rows : List ClassRow) (n x : ℕ) → reaches_itself rows n ≡ true → next_class (row_at rows n) ≡ Some x → reaches_itself rows x ≡ true
next_itself rows n x h e =
    let a = above_of rows n (length rows) n h in
    let u = a.2 in
    let s : u.0 ≡ x = same_next rows n u.0 x u.1 e in
    in_of rows x (length rows) a.0 x a.1 (one_more rows a.0 x n x (subst (λ y. IsUp rows a.0 y n) s u.2) e)

-- what is above one of the classes is one of them
stays : (rows : List ClassRow) (looped : List ℕ) → AreLooped rows looped → (j n m : ℕ) → has looped n ≡ true → IsUp rows j n m → has looped m ≡ true
stays rows looped l zero n m h u = ap (has looped) (sym u) ∙ h
stays rows looped l (suc j) n m h u = stays rows looped l j u.0 m (l.closed n u.0 h u.1) u.2

not_true : (b : Bool) → (b ≡ true → ⊥) → b ≡ false
not_true true f = absurd (f refl)
not_true false f = refl

or_either : (a b : Bool) → a || b ≡ true → (a ≡ true) ⊎ (b ≡ true)
or_either true b h = inl refl
or_either false b h = inr h

free_next : (rows : List ClassRow) (free looped : List ℕ) (n x : ℕ) → AreFree rows free → AreLooped rows looped → has looped n ≡ false → next_class (row_at rows n) ≡ Some x → (has free x ≡ true) ⊎ (has looped x ≡ true) → reaches_itself rows n ≡ true → ⊥
free_next rows free looped n x f l h e (inl i) r = let a = next_itself rows n x r e in let b = f x i in cc
free_next rows free looped n x f l h e (inr i) r =
    let a = above_of rows n (length rows) n r in
    let u = a.2 in
    let s : u.0 ≡ x = same_next rows n u.0 x u.1 e in
    let b : has looped n ≡ true = stays rows looped l a.0 x n i (subst (λ y. IsUp rows a.0 y n) s u.2) in
    cc

-- a class whose next one is known does not reach itself, unless it is noted as one that does
pub free_by : (rows : List ClassRow) (free looped : List ℕ) (n : ℕ) (o : Option ℕ) → AreFree rows free → AreLooped rows looped → has looped n ≡ false → o ≡ next_class (row_at rows n) → is_free_by free looped o ≡ true → reaches_itself rows n ≡ false
free_by rows free looped n None f l h e i = walk_none rows n n (length rows) None e refl
free_by rows free looped n (Some x) f l h e i = not_true (reaches_itself rows n) (free_next rows free looped n x f l h (sym e) (or_either (has free x) (has looped x) i))

has_last : (ns : List ℕ) (m n : ℕ) → has (ns ++ m ∷ []) n ≡ true → (has ns n ≡ true) ⊎ (n ≡ m)
has_last [] m n h = inr (last_is (nat_eq n m) refl h)
  where
    last_is : (b : Bool) → nat_eq n m ≡ b → b || false ≡ true → n ≡ m
    last_is true e h = grind (arith, nat_tests)
    last_is false e h = cc
has_last (x ∷ ns) m n h = by (nat_eq n x) (has_last ns m n) h
  where
    by : (b : Bool) → (has (ns ++ m ∷ []) n ≡ true → (has ns n ≡ true) ⊎ (n ≡ m)) → b || has (ns ++ m ∷ []) n ≡ true → (b || has ns n ≡ true) ⊎ (n ≡ m)
    by true f h = inl refl
    by false f h = f h

had_if : (ns : List ℕ) (m n : ℕ) (b : Bool) → has (if b then ns else ns ++ m ∷ []) n ≡ true → (has ns n ≡ true) ⊎ (n ≡ m)
had_if ns m n true h = inl h
had_if ns m n false h = has_last ns m n h

-- what is among numbers with a further one
had : (ns : List ℕ) (m n : ℕ) → has (with_number ns m) n ≡ true → (has ns n ≡ true) ⊎ (n ≡ m)
had ns m n h = had_if ns m n (has ns m) h

has_first : (ns : List ℕ) (m n : ℕ) → has ns n ≡ true → has (ns ++ m ∷ []) n ≡ true
has_first [] m n h = cc
has_first (x ∷ ns) m n h = by (nat_eq n x) (has_first ns m n) h
  where
    by : (b : Bool) → (has ns n ≡ true → has (ns ++ m ∷ []) n ≡ true) → b || has ns n ≡ true → b || has (ns ++ m ∷ []) n ≡ true
    by true f h = refl
    by false f h = f h

kept_if : (ns : List ℕ) (m n : ℕ) (b : Bool) → has ns n ≡ true → has (if b then ns else ns ++ m ∷ []) n ≡ true
kept_if ns m n true h = h
kept_if ns m n false h = has_first ns m n h

still : (ns : List ℕ) (m n : ℕ) → has ns n ≡ true → has (with_number ns m) n ≡ true
still ns m n h = kept_if ns m n (has ns m) h

has_end : (ns : List ℕ) (m : ℕ) → has (ns ++ m ∷ []) m ≡ true
has_end [] m = is_first m m false refl
has_end (x ∷ ns) m = or_true (nat_eq m x) (has (ns ++ m ∷ []) m) (has_end ns m)

there_if : (ns : List ℕ) (m : ℕ) (b : Bool) → has ns m ≡ b → has (if b then ns else ns ++ m ∷ []) m ≡ true
there_if ns m true h = h
there_if ns m false h = has_end ns m

there : (ns : List ℕ) (m : ℕ) → has (with_number ns m) m ≡ true
there ns m = there_if ns m (has ns m) refl

there_as : (ns : List ℕ) (m n : ℕ) → n ≡ m → has (with_number ns m) n ≡ true
there_as ns m n e = ap (has (with_number ns m)) e ∙ there ns m

-- a further class does not reach itself
pub free_more : (rows : List ClassRow) (free new : List ℕ) (n : ℕ) → new ≡ with_number free n → AreFree rows free → reaches_itself rows n ≡ false → AreFree rows new
free_more rows free new n s f r = subst (AreFree rows) (sym s) (λ m h. by m (had free n m h))
  where
    by : (m : ℕ) → (has free m ≡ true) ⊎ (m ≡ n) → reaches_itself rows m ≡ false
    by m (inl i) = f m i
    by m (inr e) = ap (reaches_itself rows) e ∙ r

-- the noting begins
pub noting_start : (rows : List ClassRow) (full j : ℕ) (looped : List ℕ) → j ≡ length rows → AreLooped rows looped → reaches_itself rows full ≡ true → IsNoting rows full full j looped
noting_start rows full j looped e l r = record {
  all = l.all;
  itself = r;
  closed = λ n m h q. inl (l.closed n m h q);
  begun = inl refl;
  left = subst (λ k. is_in full (classes_up k rows full) ≡ true) (sym e) r;
}

module _ (rows : List ClassRow) (full at : ℕ) (looped : List ℕ) (itself : reaches_itself rows at ≡ true) (all : (n : ℕ) → has looped n ≡ true → reaches_itself rows n ≡ true)
    (closed : (n m : ℕ) → has looped n ≡ true → next_class (row_at rows n) ≡ Some m → (has looped m ≡ true) ⊎ (m ≡ at)) where
  all_noted : (n : ℕ) → (has looped n ≡ true) ⊎ (n ≡ at) → reaches_itself rows n ≡ true
  all_noted n (inl i) = all n i
  all_noted n (inr e) = ap (reaches_itself rows) e ∙ itself

  among_noted : (m : ℕ) → (has looped m ≡ true) ⊎ (m ≡ at) → has (with_number looped at) m ≡ true
  among_noted m (inl i) = still looped at m i
  among_noted m (inr e) = there_as looped at m e

  next_noted : (n m next : ℕ) → next_class (row_at rows at) ≡ Some next → (has looped n ≡ true) ⊎ (n ≡ at) → next_class (row_at rows n) ≡ Some m → (has (with_number looped at) m ≡ true) ⊎ (m ≡ next)
  next_noted n m next q (inl i) e = inl (among_noted m (closed n m i e))
  next_noted n m next q (inr s) e = inr (same_next rows at m next (ap (λ y. next_class (row_at rows y)) (sym s) ∙ e) q)

  full_noted : (at ≡ full) ⊎ (has looped full ≡ true) → has (with_number looped at) full ≡ true
  full_noted (inl s) = there_as looped at full (sym s)
  full_noted (inr i) = still looped at full i

  ends_noted : (m : ℕ) → has (with_number looped at) full ≡ true → (has (with_number looped at) m ≡ true) ⊎ (m ≡ full) → has (with_number looped at) m ≡ true
  ends_noted m h (inl i) = i
  ends_noted m h (inr s) = ap (has (with_number looped at)) s ∙ h

-- a class is noted, and its next one comes
pub noting_next : (rows : List ClassRow) (full at next e k : ℕ) (looped new : List ℕ) (o : Option ℕ) → k < e → new ≡ with_number looped at → o ≡ next_class (row_at rows at) → o ≡ Some next → next ≢ full → IsNoting rows full at (e - k) looped → IsNoting rows full next (e - (k + 1)) new
noting_next rows full at next e k looped new o h s q r d i =
    let p : next_class (row_at rows at) ≡ Some next = sym q ∙ r in
    subst (λ ns. IsNoting rows full next (e - (k + 1)) ns) (sym s) (record {
      all = λ n j. all_noted rows full at looped i.itself i.all i.closed n (had looped at n j);
      itself = next_itself rows at next i.itself p;
      closed = λ n m j t. next_noted rows full at looped i.itself i.all i.closed n m next p (had looped at n j) t;
      begun = inr (full_noted rows full at looped i.itself i.all i.closed i.begun);
      left = walk_on rows full at next e k o true h q r d i.left;
    })

-- all classes of the loop are noted
pub noting_done : (rows : List ClassRow) (full at next j : ℕ) (looped new : List ℕ) (o : Option ℕ) → new ≡ with_number looped at → o ≡ next_class (row_at rows at) → o ≡ Some next → next ≡ full → IsNoting rows full at j looped → AreLooped rows new
noting_done rows full at next j looped new o s q r d i =
    let p : next_class (row_at rows at) ≡ Some full = sym q ∙ r ∙ ap Some d in
    subst (AreLooped rows) (sym s) (record {
      all = λ n j. all_noted rows full at looped i.itself i.all i.closed n (had looped at n j);
      closed = λ n m j t.
          ends_noted rows full at looped i.itself i.all i.closed m (full_noted rows full at looped i.itself i.all i.closed i.begun)
          (next_noted rows full at looped i.itself i.all i.closed n m full p (had looped at n j) t);
    })

-- a loop has a next class each time
pub noting_none : (rows : List ClassRow) (full at j : ℕ) (looped : List ℕ) (o : Option ℕ) → o ≡ next_class (row_at rows at) → o ≡ None → IsNoting rows full at j looped → ⊥
noting_none rows full at j looped o q r i = let a = i.left in let b = walk_none rows full at j o q r in cc

-- it does not go on for ever
pub noting_ends : (rows : List ClassRow) (full at j : ℕ) (looped : List ℕ) → j ≡ 0 → IsNoting rows full at j looped → ⊥
noting_ends rows full at j looped e i = let a : is_in full (classes_up 0 rows at) ≡ true = subst (λ k. is_in full (classes_up k rows at) ≡ true) e i.left in cc

pub none_free : (rows : List ClassRow) (ns : List ℕ) → ns ≡ [] → AreFree rows ns
none_free rows ns e = subst (AreFree rows) (sym e) (λ n h. cc)

pub none_looped : (rows : List ClassRow) (ns : List ℕ) → ns ≡ [] → AreLooped rows ns
none_looped rows ns e = subst (AreLooped rows) (sym e) (record { all = λ n h. cc; closed = λ n m h q. cc })
