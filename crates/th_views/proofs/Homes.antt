-- A method's home is reached, and has the method among its own.
use Rattle.std.proofs.Common.{◌≡◌, ℕ, List, Bool, true, false, nat_eq, cond, refl, ◌⊎◌, inl, inr, Some}
use Rattle.std.proofs.lemmas.Bool.{cases_Bool, eq-eqb}
use Rattle.th_views.specs.Tree.{Tree, Node, Trees, End, Also, name_of, own_of, reaches, reaches_in}
use Rattle.th_views.specs.Chain.{among}
use Rattle.th_views.specs.Home.{offers, offers_in, home, home_in}

true_cond : (a b : Bool) → b ≡ true → cond a true b ≡ true
true_cond true b h = refl
true_cond false b h = h

or_true : (a b : Bool) → a ≡ true → cond a true b ≡ true
or_true true b h = refl
or_true false b h = absurd (cc)

pub record HomeAt (x : Tree) (m : ℕ) : Type 0 where
  pub tree : Tree
  pub is : home x m ≡ Some tree
  pub own : among (own_of tree) m ≡ true
  pub reached : reaches x (name_of tree) ≡ true

pub record HomeIn (ss : Trees) (m : ℕ) : Type 0 where
  pub tree : Tree
  pub is : home_in ss m ≡ Some tree
  pub own : among (own_of tree) m ≡ true
  pub reached : reaches_in ss (name_of tree) ≡ true

home_cases : (n : ℕ) (f : Bool) (own : List ℕ) (ss : Trees) (m : ℕ) → offers (Node n f own ss) m ≡ true → (among own m ≡ true) ⊎ (among own m ≡ false)
    → (offers_in ss m ≡ true → HomeIn ss m) → HomeAt (Node n f own ss) m
home_cases n f own ss m o (inl a) again = record { tree = Node n f own ss; is = rw a refl; own = a; reached = or_true (nat_eq n n) (reaches_in ss n) (eq-eqb n n refl) }
home_cases n f own ss m o (inr a) again = let k : HomeIn ss m = again (rw a at o) in
    record { tree = k.tree; is = rw a k.is; own = k.own; reached = true_cond (nat_eq n (name_of k.tree)) (reaches_in ss (name_of k.tree)) k.reached }

home_first : (s : Tree) (rest : Trees) (m : ℕ) → offers_in (Also s rest) m ≡ true → (offers s m ≡ true) ⊎ (offers s m ≡ false)
    → (offers s m ≡ true → HomeAt s m) → (offers_in rest m ≡ true → HomeIn rest m) → HomeIn (Also s rest) m
home_first s rest m o (inl a) f g = let k : HomeAt s m = f a in
    record { tree = k.tree; is = rw a k.is; own = k.own; reached = or_true (reaches s (name_of k.tree)) (reaches_in rest (name_of k.tree)) k.reached }
home_first s rest m o (inr a) f g = let k : HomeIn rest m = g (rw a at o) in
    record { tree = k.tree; is = rw a k.is; own = k.own; reached = true_cond (reaches s (name_of k.tree)) (reaches_in rest (name_of k.tree)) k.reached }

mutual
  pub home_at : (x : Tree) (m : ℕ) → offers x m ≡ true → HomeAt x m
  home_at (Node n f own ss) m o = home_cases n f own ss m o (cases_Bool (among own m)) (λ k. home_at_in ss m k)

  pub home_at_in : (ss : Trees) (m : ℕ) → offers_in ss m ≡ true → HomeIn ss m
  home_at_in End m o = absurd (cc)
  home_at_in (Also s rest) m o = home_first s rest m o (cases_Bool (offers s m)) (λ k. home_at s m k) (λ k. home_at_in rest m k)
