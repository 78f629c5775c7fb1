-- The tree of a type is made of its supertypes' trees, and everything in it is the tree of its name.
use Rattle.std.proofs.Common.{◌≡◌, ℕ, zero, suc, ◌+◌, ◌<◌, ◌≤◌, List, [], ◌∷◌, refl, sym, ap, ◌∙◌, inl, inr, arith, le_refl}
use Rattle.th_views.specs.Tree.{Tree, Node, End, name_of, is_up, next, merged_at, topped, room, span, Seen, SeenIn}
use Rattle.th_views.specs.declared.Turn.{Turn}
use Rattle.th_views.specs.declared.Turn.TheVariants.{First}
use Rattle.th_views.specs.Graph.{Graph, trees_by, grow, EachLower, Ranked}

module _ (g : Graph) (rank : ℕ → ℕ) (ranked : Ranked g rank) where
  level : (h k : ℕ) (r : ℕ) (ss : List ℕ) → EachLower rank r ss → r ≤ suc h → r ≤ suc k
      → ((s : ℕ) → rank s ≤ h → rank s ≤ k → grow g h s ≡ grow g k s) → trees_by (grow g h) ss ≡ trees_by (grow g k) ss
  level h k r [] e a b again = refl
  level h k r (s ∷ ss) e a b again =
      let p : grow g h s ≡ grow g k s = again s (omega arith) (omega arith) in
      let q : trees_by (grow g h) ss ≡ trees_by (grow g k) ss = level h k r ss e.1 a b again in cc

  bottom : (h r : ℕ) (ss : List ℕ) → EachLower rank r ss → r ≤ 0 → End ≡ trees_by (grow g h) ss
  bottom h r [] e a = refl
  bottom h r (s ∷ ss) e a = let l : rank s < r = e.0 in absurd (omega arith)

  pub same : (h k n : ℕ) → rank n ≤ h → rank n ≤ k → grow g h n ≡ grow g k n
  same zero zero n a b = refl
  same zero (suc k) n a b = ap (Node n (g.marked n) (g.own n)) (bottom k (rank n) (g.supers n) (ranked n) a)
  same (suc h) zero n a b = ap (Node n (g.marked n) (g.own n)) (sym (bottom h (rank n) (g.supers n) (ranked n) b))
  same (suc h) (suc k) n a b = ap (Node n (g.marked n) (g.own n))
      (level h k (rank n) (g.supers n) (ranked n) a b (λ s c d. same h k s c d))

  abbrev pub tree : ℕ → Tree
  tree n = grow g (rank n) n

  supers_same : (h r : ℕ) (ss : List ℕ) → EachLower rank r ss → r ≤ suc h → trees_by (grow g h) ss ≡ trees_by tree ss
  supers_same h r [] e a = refl
  supers_same h r (s ∷ ss) e a =
      let p : grow g h s ≡ tree s = same h (rank s) s (omega arith) (le_refl (rank s)) in
      let q : trees_by (grow g h) ss ≡ trees_by tree ss = supers_same h r ss e.1 a in cc

  -- the equation that every recursion over the hierarchy rests on
  pub tree_is : (n : ℕ) → tree n ≡ Node n (g.marked n) (g.own n) (trees_by tree (g.supers n))
  tree_is n = same (rank n) (suc (rank n)) n (le_refl (rank n)) (omega arith)
      ∙ ap (Node n (g.marked n) (g.own n)) (supers_same (rank n) (rank n) (g.supers n) (ranked n) (omega arith))

  seen_in_list : (h : ℕ) (p : Turn) (b r : ℕ) (ss : List ℕ) (t : Tree) (w : ℕ) → EachLower rank r ss → r ≤ suc h
      → ((s : ℕ) (v : ℕ) → rank s ≤ h → Seen (grow g h s) t v → t ≡ tree (name_of t))
      → SeenIn p b (trees_by (grow g h) ss) t w → t ≡ tree (name_of t)
  seen_in_list h p b r [] t w e a again k = absurd k
  seen_in_list h p b r (s ∷ ss) t w e a again (inl k) = again s k.0 (omega arith) k.2
  seen_in_list h p b r (s ∷ ss) t w e a again (inr k) =
      seen_in_list h (next p (topped (grow g h s))) (b + room (merged_at p (is_up (grow g h s))) (span (grow g h s))) r ss t w e.1 a again k

  pub seen_tree : (h n : ℕ) (t : Tree) (w : ℕ) → rank n ≤ h → Seen (grow g h n) t w → t ≡ tree (name_of t)
  seen_tree zero n t w a (inl k) = by k.0
    where
      by : t ≡ grow g zero n → t ≡ tree (name_of t)
      by e = e ∙ same zero (rank n) n a (le_refl (rank n)) ∙ ap tree (sym (ap name_of e))
  seen_tree zero n t w a (inr k) = absurd k
  seen_tree (suc h) n t w a (inl k) = by k.0
    where
      by : t ≡ grow g (suc h) n → t ≡ tree (name_of t)
      by e = e ∙ same (suc h) (rank n) n a (le_refl (rank n)) ∙ ap tree (sym (ap name_of e))
  seen_tree (suc h) n t w a (inr k) = seen_in_list h First 0 (rank n) (g.supers n) t w (ranked n) a
      (λ s v b q. seen_tree h s t v b q) k
