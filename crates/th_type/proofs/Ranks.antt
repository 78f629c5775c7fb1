-- A declared type reaches more types than each of its supertypes.
use Rattle.std.proofs.Common.{◌≡◌, ◌∙◌, ℕ, zero, suc, ◌+◌, ◌<◌, ◌≤◌, List, [], ◌∷◌, length, map, Option, Some, None, refl, ap, sym, subst, inl, inr, arith}
use Rattle.th_type.specs.Lists.{IsIn}
use Rattle.th_type.specs.Types.{TypeExpr, TypeExprs, named_ty, list_of, subst_ty, subst_tys}
use Rattle.th_type.specs.Declarations.{Meant, unresolved, parameter, by_head, whole, SuperRef, Declaration, DeclaredType, declared_types, types_meant, resolved, members_of, supers_of}
use Rattle.th_type.specs.Subtypes.{Climbs, Subtype, Reached}
use Rattle.th_type.specs.Rules.{names_meant, named, names_up, NameClimbs, WellFormed}
use Rattle.th_type.specs.Closure.{find_head, one_if_none, left}
use Rattle.th_type.specs.Judged.{Ascended}
use Rattle.th_type.proofs.Members.{from_map, in_left, in_right, from_append}
use Rattle.th_type.proofs.Subtyping.{subtype_to}
use Rattle.th_type.proofs.Resolved.{supers_resolved, well_formed_fits, heads_among}
use Rattle.th_type.proofs.Closure.{head_found, head_none}

meant_named : (m : Meant) (n : ℕ) (ts : TypeExprs) → IsIn (named_ty n ts) (types_meant m) → IsIn n (names_meant m)
meant_named unresolved n ts i = absurd i
meant_named parameter n ts i = absurd i
meant_named (by_head k) n ts i = absurd i
meant_named (whole k args) n ts (inl e) = inl (cc)
meant_named (whole k args) n ts (inr i) = absurd i

resolved_named : (ss : List SuperRef) (n : ℕ) (ts : TypeExprs) → IsIn (named_ty n ts) (resolved ss) → IsIn n (named ss)
resolved_named [] n ts i = absurd i
resolved_named (s ∷ ss) n ts i = elim (from_append (named_ty n ts) (types_meant s.meaning) (resolved ss) i) [ inl j ↦ in_left n (names_meant s.meaning) (named ss) (meant_named s.meaning n ts j) | inr j ↦ in_right n (names_meant s.meaning) (named ss) (resolved_named ss n ts j) ]

module _ (ds : List Declaration) (w : WellFormed ds) where
  super_named : (a b : ℕ) (ts : TypeExprs) → IsIn (named_ty b ts) (supers_of (declared_types ds) a) → IsIn b (names_up ds a)
  super_named a b ts i = resolved_named (members_of ds a) b ts (subst (λ xs. IsIn (named_ty b ts) xs) (supers_resolved a ds) i)

  -- what is reached with arguments is reached by name
  climbs_named : (k a b : ℕ) (xs ys : TypeExprs) → Climbs (declared_types ds) k (named_ty a xs) (named_ty b ys) → NameClimbs ds k a b
  climbs_named zero a b xs ys h = cc
  climbs_named (suc k) a b xs ys (v, i, h) =
      let p = from_map (subst_ty (list_of xs)) v (supers_of (declared_types ds) a) i in
      let q = heads_among ds w a p.0 p.1 in
      let v_is : v ≡ named_ty q.0 (subst_tys (list_of xs) q.1) = p.2 ∙ ap (subst_ty (list_of xs)) q.2 in
      (q.0, super_named a q.0 q.1 (subst (λ t. IsIn t (supers_of (declared_types ds) a)) q.2 p.1), climbs_named k q.0 b (subst_tys (list_of xs) q.1) ys (subst (λ v. Climbs (declared_types ds) k v (named_ty b ys)) v_is h))

  reached_named : (n b : ℕ) (ys : TypeExprs) → Reached (declared_types ds) n (named_ty b ys) → (k : ℕ) × NameClimbs ds (suc k) n b
  reached_named n b ys (v, i, (k, h)) =
      let q = heads_among ds w n v i in
      (k, (q.0, super_named n q.0 q.1 (subst (λ t. IsIn t (supers_of (declared_types ds) n)) q.2 i), climbs_named k q.0 b q.1 ys (subst (λ v. Climbs (declared_types ds) k v (named_ty b ys)) q.2 h)))

left_strict : (ns : List ℕ) (xs ys : List TypeExpr) (s : ℕ) → ((m : ℕ) → one_if_none (find_head ys m) ≤ one_if_none (find_head xs m)) → IsIn s ns → one_if_none (find_head ys s) ≡ 0 → one_if_none (find_head xs s) ≡ 1 → left ns ys + 1 ≤ left ns xs
left_strict [] xs ys s h i a b = absurd i
left_strict (n ∷ ns) xs ys s h (inl e) a b =
    let c : one_if_none (find_head ys n) ≡ 0 = subst (λ s. one_if_none (find_head ys s) ≡ 0) e a in
    let d : one_if_none (find_head xs n) ≡ 1 = subst (λ s. one_if_none (find_head xs s) ≡ 1) e b in
    let r = left_at_most ns xs ys h in
    omega (arith, c, d, r) where
      left_at_most : (ns : List ℕ) (xs ys : List TypeExpr) → ((m : ℕ) → one_if_none (find_head ys m) ≤ one_if_none (find_head xs m)) → left ns ys ≤ left ns xs
      left_at_most [] xs ys h = omega arith
      left_at_most (n ∷ ns) xs ys h = let a = h n in let b = left_at_most ns xs ys h in omega (arith, a, b)
left_strict (n ∷ ns) xs ys s h (inr i) a b = let c = h n in let r = left_strict ns xs ys s h i a b in omega (arith, c, r)

left_one : (ns : List ℕ) (xs : List TypeExpr) (n : ℕ) → IsIn n ns → one_if_none (find_head xs n) ≡ 1 → 1 ≤ left ns xs
left_one [] xs n i e = absurd i
left_one (m ∷ ns) xs n (inl s) e = let c : one_if_none (find_head xs m) ≡ 1 = subst (λ n. one_if_none (find_head xs n) ≡ 1) s e in omega (arith, c)
left_one (m ∷ ns) xs n (inr i) e = let r = left_one ns xs n i e in omega (arith, r)

none_one : (xs : List TypeExpr) (n : ℕ) (o : Option TypeExpr) → find_head xs n ≡ o → ((args : TypeExprs) → IsIn (named_ty n args) xs → ⊥) → one_if_none (find_head xs n) ≡ 1
none_one xs n None e h = rw e refl
none_one xs n (Some t) e h = let p = head_found n t xs e in absurd (h p.1.0 (subst (λ t. IsIn t xs) p.1.1 p.0))

some_zero : (xs : List TypeExpr) (n : ℕ) (args : TypeExprs) (o : Option TypeExpr) → find_head xs n ≡ o → IsIn (named_ty n args) xs → one_if_none (find_head xs n) ≡ 0
some_zero xs n args None e i = absurd (head_none n args xs e i)
some_zero xs n args (Some t) e i = rw e refl

none_at_most : (xs ys : List TypeExpr) (m : ℕ) (o : Option TypeExpr) → find_head xs m ≡ o → ((args : TypeExprs) → IsIn (named_ty m args) xs → (bs : TypeExprs) × IsIn (named_ty m bs) ys) → one_if_none (find_head ys m) ≤ one_if_none (find_head xs m)
none_at_most xs ys m None e h = rw e (most_one (find_head ys m)) where
  most_one : (o : Option TypeExpr) → one_if_none o ≤ 1
  most_one None = omega arith
  most_one (Some t) = omega arith
none_at_most xs ys m (Some t) e h =
    let p = head_found m t xs e in
    let q = h p.1.0 (subst (λ t. IsIn t xs) p.1.1 p.0) in
    let z = some_zero ys m q.0 (find_head ys m) refl q.1 in
    omega (arith, z)

climbs_after : (D : List DeclaredType) (k j : ℕ) (t u v : TypeExpr) → Climbs D k t u → Climbs D j u v → Climbs D (k + j) t v
climbs_after D zero j t u v h g = let o : zero + j ≡ j = omega arith in rw o (subst (λ t. Climbs D j t v) (sym h) g)
climbs_after D (suc k) j t u v (x, i, h) g = let o : suc k + j ≡ suc (k + j) = omega arith in rw o (x, i, climbs_after D k j x u v h g)

reached_after : (D : List DeclaredType) (n : ℕ) (t u : TypeExpr) → IsIn t (supers_of D n) → Subtype D t u → Reached D n u
reached_after D n t u i s = (t, i, s)

module _ (ds : List Declaration) (w : WellFormed ds) (up : ℕ → List TypeExpr) (a : Ascended ds up) where
  no_self : (n : ℕ) (args : TypeExprs) → IsIn n (map (λ d. d.name) ds) → IsIn (named_ty n args) (up n) → ⊥
  no_self n args i j = a.free n i (inl (reached_named ds w n n args ((a.climbed n).sound (named_ty n args) j)))

  -- a declared supertype reaches fewer types than the type
  pub rank_less : (n s : ℕ) (args : TypeExprs) → IsIn s (map (λ d. d.name) ds) → IsIn (named_ty s args) (supers_of (declared_types ds) n) → length (up s) < length (up n)
  rank_less n s args i j =
      let D = declared_types ds in
      let f = well_formed_fits ds w in
      let cn = a.climbed n in
      let cs = a.climbed s in
      let into : (m : ℕ) → one_if_none (find_head (up n) m) ≤ one_if_none (find_head (up s) m) =
      λ m. none_at_most (up s) (up n) m (find_head (up s) m) refl
      (λ bs k. let r = cs.sound (named_ty m bs) k in
      (subst_tys (list_of args) bs, cn.all (named_ty m (subst_tys (list_of args) bs)) (reached_after D n (named_ty s args) (named_ty m (subst_tys (list_of args) bs)) j (subtype_to D f s args (named_ty m bs) r)))) in
      let here : one_if_none (find_head (up n) s) ≡ 0 = some_zero (up n) s args (find_head (up n) s) refl (cn.all (named_ty s args) (reached_after D n (named_ty s args) (named_ty s args) j (zero, refl))) in
      let away : one_if_none (find_head (up s) s) ≡ 1 = none_one (up s) s (find_head (up s) s) refl (λ bs k. no_self s bs i k) in
      let l = left_strict (map (λ d. d.name) D) (up s) (up n) s into (names_same s i) here away in
      let p = cn.count in
      let q = cs.count in
      omega (arith, l, p, q) where
        names_same : (s : ℕ) → IsIn s (map (λ d. d.name) ds) → IsIn s (map (λ d. d.name) (declared_types ds))
        names_same s i = in_names ds s i where
          in_names : (ds : List Declaration) (s : ℕ) → IsIn s (map (λ d. d.name) ds) → IsIn s (map (λ d. d.name) (declared_types ds))
          in_names [] s i = i
          in_names (d ∷ ds) s (inl e) = inl e
          in_names (d ∷ ds) s (inr i) = inr (in_names ds s i)

  -- a declared type reaches fewer types than there are
  pub rank_bound : (n : ℕ) → IsIn n (map (λ d. d.name) ds) → IsIn n (map (λ d. d.name) (declared_types ds)) → length (up n) < length (declared_types ds)
  rank_bound n i j =
      let away : one_if_none (find_head (up n) n) ≡ 1 = none_one (up n) n (find_head (up n) n) refl (λ bs k. no_self n bs i k) in
      let l = left_one (map (λ d. d.name) (declared_types ds)) (up n) n j away in
      let p = (a.climbed n).count in
      omega (arith, l, p)
