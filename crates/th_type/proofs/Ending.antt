-- Where no type reaches itself, ways up end.
use Rattle.std.proofs.Common.{◌≡◌, ◌∙◌, ℕ, zero, suc, ◌<◌, ◌≤◌, List, [], ◌∷◌, length, map, ap, subst, inl, inr, arith}
use Rattle.th_type.specs.Lists.{IsIn}
use Rattle.th_type.specs.Types.{TypeExpr, int_ty, bool_ty, text_ty, array_ty, named_ty, param_ty, TypeExprs, list_of, subst_ty, subst_tys}
use Rattle.th_type.specs.Declarations.{Declaration, declared_types, supers_of}
use Rattle.th_type.specs.Subtypes.{parents, Climbs}
use Rattle.th_type.specs.Ways.{WaysEnd}
use Rattle.th_type.specs.Rules.{WellFormed}
use Rattle.th_type.specs.Judged.{Ascended}
use Rattle.th_type.proofs.Members.{from_map}
use Rattle.th_type.proofs.Resolved.{heads_among}
use Rattle.th_type.proofs.Ranks.{rank_less}

names_back : (ds : List Declaration) (s : ℕ) → IsIn s (map (λ d. d.name) (declared_types ds)) → IsIn s (map (λ d. d.name) ds)
names_back [] s i = i
names_back (d ∷ ds) s (inl e) = inl e
names_back (d ∷ ds) s (inr i) = inr (names_back ds s i)

module _ (ds : List Declaration) (w : WellFormed ds) (up : ℕ → List TypeExpr) (a : Ascended ds up) where
  -- a way up from a declared type has at most as many steps as the type reaches types
  climbs_few : (k n : ℕ) (args : TypeExprs) (u : TypeExpr) → Climbs (declared_types ds) k (named_ty n args) u → k ≤ length (up n)
  climbs_few zero n args u c = omega arith
  climbs_few (suc k) n args u (v, i, c) =
      let p = from_map (subst_ty (list_of args)) v (supers_of (declared_types ds) n) i in
      let q = heads_among ds w n p.0 p.1 in
      let v_is : v ≡ named_ty q.0 (subst_tys (list_of args) q.1) = p.2 ∙ ap (subst_ty (list_of args)) q.2 in
      let r = climbs_few k q.0 (subst_tys (list_of args) q.1) u (subst (λ v. Climbs (declared_types ds) k v u) v_is c) in
      let l = rank_less ds w up a n q.0 q.1 (names_back ds q.0 q.3) (subst (λ t. IsIn t (supers_of (declared_types ds) n)) q.2 p.1) in
      omega (arith, r, l)

  pub ways_end : WaysEnd (declared_types ds)
  ways_end zero t u c = omega arith
  ways_end (suc k) int_ty u (v, i, c) = absurd i
  ways_end (suc k) bool_ty u (v, i, c) = absurd i
  ways_end (suc k) text_ty u (v, i, c) = absurd i
  ways_end (suc k) (array_ty t) u (v, i, c) = absurd i
  ways_end (suc k) (param_ty p) u (v, i, c) = absurd i
  ways_end (suc k) (named_ty n args) u c = let f = climbs_few (suc k) n args u c in let l = (a.climbed n).count in omega (arith, f, l)
