-- Tables whose arguments are lists of a pool.
use Rattle.std.proofs.Common.{◌≡◌, ◌∙◌, ℕ, ◌+◌, ◌<◌, ◌≤◌, Bool, true, false, nat_eq, ◌&&◌, cond, List, [], ◌∷◌, ◌++◌, length, map, take, get_or, slice_get, Option, Some, None, option_map, refl, ap, sym, subst, inl, inr, arith}
use Rattle.std.proofs.lemmas.Bool.Decides.{nat_tests}
use Rattle.std.proofs.lemmas.List.{map-append}
use Rattle.std.specs.Bool.{MatchBool}
use Rattle.std.specs.Map.{lookup}
use Rattle.th_type.specs.declared.above.Above.{Above}
use Rattle.th_type.specs.declared.above.Ancestors.{Ancestors}
use Rattle.th_type.specs.declared.pool.Shape.{Shape}
use Rattle.th_type.specs.declared.typedef.Supertype.{Supertype}
use Rattle.th_type.specs.Lists.{IsIn}
use Rattle.th_type.specs.Types.{TypeExpr, TypeExprs, named_ty, no_ty, list_of, subst_tys, tys_height, same_tys}
use Rattle.th_type.specs.Declarations.{super_of, meant_of}
use Rattle.th_type.specs.Closure.{find_head, Took, Clashes, taken, all_taken}
use Rattle.th_type.specs.Pool.{tys_at, shapes_tys, IsKept, IsNumbered, IsListed, AllFit, Grows}
use Rattle.th_type.specs.Tables.{entry_ty, above_of, Held, up_in, up_of, is_found, is_reached, TookIn}
use Rattle.th_type.proofs.Args.{get_map}
use Rattle.th_type.proofs.Members.{map_same, from_append}
use Rattle.th_type.proofs.Pooled.{at_is, at_grown, kept_grown, shapes_grown}
use Rattle.th_type.proofs.Lookups.{head_lookup}
use Rattle.th_type.proofs.Closure.{took_none}
use Rattle.th_type.proofs.Taken.{known_case, push_case, took_more, clash_more}

-- as the pool grows the table means the same
pub above_grown : (ts us : List TypeExprs) (a : Above) → Grows ts us → Held ts a → above_of us a ≡ above_of ts a
above_grown ts us a g h = map_same (entry_ty us) (entry_ty ts) a.map.entries (λ e i. ap (named_ty e.0) (at_grown ts us e.1 g (h e i)))

pub held_grown : (ts us : List TypeExprs) (a : Above) → Grows ts us → Held ts a → Held us a
held_grown ts us a g h e i = kept_grown ts us e.1 g (h e i)

look_if : (n k : ℕ) (e : ℕ × ℕ) (es : List (ℕ × ℕ)) (b : Bool) → (lookup (nat_eq n) es ≡ Some k → (x : ℕ × ℕ) × IsIn x es × (x.1 ≡ k)) → cond b (Some e.1) (lookup (nat_eq n) es) ≡ Some k → (x : ℕ × ℕ) × IsIn x (e ∷ es) × (x.1 ≡ k)
look_if n k e es true r h = (e, inl refl, cc)
look_if n k e es false r h = let p = r h in (p.0, inr p.1, p.2)

look_in : (n k : ℕ) (es : List (ℕ × ℕ)) → lookup (nat_eq n) es ≡ Some k → (x : ℕ × ℕ) × IsIn x es × (x.1 ≡ k)
look_in n k [] h = cc
look_in n k (e ∷ es) h = look_if n k e es (nat_eq n e.0) (look_in n k es) h

-- what a table has is a list of the pool
pub found_kept : (ts : List TypeExprs) (a : Above) (n k : ℕ) → Held ts a → lookup (nat_eq n) a.map.entries ≡ Some k → IsKept ts k
found_kept ts a n k h e = let p = look_in n k a.map.entries e in subst (IsKept ts) p.2 (h p.0 p.1)

match_then : (P Q R : Type 0) (b : Bool) → (P → R) → MatchBool b P Q → MatchBool b R Q
match_then P Q R true f m = f m
match_then P Q R false f m = m

-- a type whose name is there
pub put_known : (ts : List TypeExprs) (a : Above) (n known k : ℕ) (b : Bool) → Held ts a → IsListed ts k → lookup (nat_eq n) a.map.entries ≡ Some known → b ≡ same_tys (tys_at ts known) (tys_at ts k)
    → MatchBool b (TookIn ts a (named_ty n (tys_at ts k) ∷ []) ts a) (Clashes (above_of ts a) (named_ty n (tys_at ts k) ∷ []))
put_known ts a n known k b h (xs, m) f s =
    let l : find_head (above_of ts a) n ≡ Some (named_ty n (tys_at ts known)) = head_lookup ts n a.map.entries ∙ ap (option_map (λ j. named_ty n (tys_at ts j))) f in
    let r : tys_height (tys_at ts k) ≤ 599 = subst (λ ys. tys_height ys ≤ 599) (sym (at_is ts k xs m.0)) m.1 in
    match_then _ _ _ b (λ w. record { held = h; took = w })
    (known_case (above_of ts a) (named_ty n (tys_at ts k) ∷ []) n (tys_at ts k) (tys_at ts known) b refl l r s)

-- a type whose name is not there
pub put_new : (ts : List TypeExprs) (a b : Above) (n k : ℕ) → Held ts a → IsListed ts k → lookup (nat_eq n) a.map.entries ≡ None → b.map.entries ≡ a.map.entries ++ (n, k) ∷ [] → TookIn ts a (named_ty n (tys_at ts k) ∷ []) ts b
put_new ts a b n k h (xs, m) f s = record {
  held = λ x i. held_by x (subst (λ es. IsIn x es) s i);
  took = push_case (above_of ts a) (named_ty n (tys_at ts k) ∷ []) (above_of ts b) n (tys_at ts k) refl (head_lookup ts n a.map.entries ∙ ap (option_map (λ j. named_ty n (tys_at ts j))) f)
      (subst (λ ys. tys_height ys ≤ 599) (sym (at_is ts k xs m.0)) m.1) (ap (map (entry_ty ts)) s ∙ map-append (entry_ty ts) a.map.entries ((n, k) ∷ []));
} where
  held_by : (x : ℕ × ℕ) → IsIn x (a.map.entries ++ (n, k) ∷ []) → IsKept ts x.1
  held_by x i = elim (from_append x a.map.entries ((n, k) ∷ []) i) [ inl j ↦ h x j | inr j ↦ elim j [ inl q ↦ subst (IsKept ts) (sym (ap (λ (y : ℕ × ℕ). y.1) q)) (xs, m.0) | inr z ↦ absurd z ] ]

match_both : (P Q R S : Type 0) (b : Bool) → (P → R) → (Q → S) → MatchBool b P Q → MatchBool b R S
match_both P Q R S true f g m = f m
match_both P Q R S false f g m = g m

-- the same of a type whose arguments were put into the pool before
pub take_put : (ts us : List TypeExprs) (a b : Above) (ps : List TypeExpr) (n k : ℕ) (xs : TypeExprs) (fits : Bool) → Grows ts us → Held ts a → ps ≡ named_ty n xs ∷ [] → IsNumbered us k xs
    → MatchBool fits (TookIn us a (named_ty n (tys_at us k) ∷ []) us b) (Clashes (above_of us a) (named_ty n (tys_at us k) ∷ [])) → MatchBool fits (TookIn ts a ps us b) (Clashes (above_of ts a) ps)
take_put ts us a b ps n k xs fits g h e m w =
    let q : above_of us a ≡ above_of ts a = above_grown ts us a g h in
    let r : named_ty n (tys_at us k) ∷ [] ≡ ps = ap (λ ys. named_ty n ys ∷ []) (at_is us k xs m.0) ∙ sym e in
    match_both _ _ _ _ fits
    (λ t. record { held = t.held; took = subst (λ ys. Took ys ps (above_of us b)) q (subst (λ qs. Took (above_of us a) qs (above_of us b)) r t.took) })
    (λ t. subst (λ ys. Clashes ys ps) q (subst (λ qs. Clashes (above_of us a) qs) r t)) w

-- further members are taken
pub took_in : (ts us vs : List TypeExprs) (a b c : Above) (args : List Shape) (ms : List Supertype) (i : ℕ) (d : Supertype) → AllFit ts args → Grows ts us → i < length ms → d ≡ get_or ms i d → TookIn ts a (all_taken (shapes_tys ts args) (map super_of (take i ms))) us b
    → TookIn us b (taken (shapes_tys us args) (meant_of d.meaning)) vs c → TookIn ts a (all_taken (shapes_tys ts args) (map super_of (take (i + 1) ms))) vs c
took_in ts us vs a b c args ms i d f g l e p q = record {
  held = q.held;
  took = took_more (shapes_tys ts args) ms i d (above_of ts a) (above_of us b) (above_of vs c) l e p.took (subst (λ xs. Took (above_of us b) (taken xs (meant_of d.meaning)) (above_of vs c)) (shapes_grown ts us args no_ty g f) q.took);
}

pub clash_in : (ts us : List TypeExprs) (a b : Above) (args : List Shape) (ms : List Supertype) (i : ℕ) (d : Supertype) → AllFit ts args → Grows ts us → i < length ms → d ≡ get_or ms i d → TookIn ts a (all_taken (shapes_tys ts args) (map super_of (take i ms))) us b
    → Clashes (above_of us b) (taken (shapes_tys us args) (meant_of d.meaning)) → Clashes (above_of ts a) (all_taken (shapes_tys ts args) (map super_of ms))
clash_in ts us a b args ms i d f g l e p q =
    clash_more (shapes_tys ts args) ms i d (above_of ts a) (above_of us b) l e p.took (subst (λ xs. Clashes (above_of us b) (taken xs (meant_of d.meaning))) (shapes_grown ts us args no_ty g f) q)

-- nothing is taken in
pub took_nothing : (ts : List TypeExprs) (a : Above) → Held ts a → TookIn ts a [] ts a
took_nothing ts a h = record { held = h; took = took_none (above_of ts a) }

-- an entry of the table, whose arguments are these
pub entry_is : (ts : List TypeExprs) (a : Above) (k n list : ℕ) (args : List Shape) → slice_get a.map.entries k ≡ Some (n, list) → shapes_tys ts args ≡ tys_at ts list → slice_get (above_of ts a) k ≡ Some (named_ty n (shapes_tys ts args))
entry_is ts a k n list args e f = get_map (entry_ty ts) a.map.entries k ∙ ap (option_map (entry_ty ts)) e ∙ ap (λ ys. Some (named_ty n ys)) (sym f)

-- whether a type of the table, with arguments substituted, is another
pub reached_some : (t : Ancestors) (n m : ℕ) (args bs : TypeExprs) (a : Above) (list : ℕ) (b : Bool) → lookup (nat_eq n) t.map.entries ≡ Some a → lookup (nat_eq m) a.map.entries ≡ Some list → b ≡ same_tys (subst_tys (list_of args) (tys_at t.pool list)) bs
    → b ≡ is_reached (up_of t) (named_ty n args) (named_ty m bs)
reached_some t n m args bs a list b e f s =
    let l : find_head (up_of t n) m ≡ Some (named_ty m (tys_at t.pool list)) =
    ap (λ o. find_head (up_in t.pool o) m) e ∙ head_lookup t.pool m a.map.entries ∙ ap (option_map (λ j. named_ty m (tys_at t.pool j))) f in
    let r : nat_eq m m ≡ true = grind (arith, nat_tests) in
    s ∙ sym (ap (λ (o : Option TypeExpr). is_found o args (named_ty m bs)) l ∙ ap (λ (c : Bool). c && same_tys (subst_tys (list_of args) (tys_at t.pool list)) bs) r)

pub reached_none : (t : Ancestors) (n m : ℕ) (args bs : TypeExprs) (a : Above) → lookup (nat_eq n) t.map.entries ≡ Some a → lookup (nat_eq m) a.map.entries ≡ None → false ≡ is_reached (up_of t) (named_ty n args) (named_ty m bs)
reached_none t n m args bs a e f =
    let l : find_head (up_of t n) m ≡ None = ap (λ o. find_head (up_in t.pool o) m) e ∙ head_lookup t.pool m a.map.entries ∙ ap (option_map (λ j. named_ty m (tys_at t.pool j))) f in
    sym (ap (λ (o : Option TypeExpr). is_found o args (named_ty m bs)) l)
