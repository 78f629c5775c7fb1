-- What methods with results have after one more, or after those of others.
use Rattle.std.proofs.Common.{◌≡◌, ℕ, zero, suc, ◌+◌, ◌<◌, ◌≤◌, List, [], ◌∷◌, ◌++◌, map, length, get_or, drop, Bool, true, false, nat_eq, cond, refl, sym, ap, ◌∙◌, subst, ◌⊎◌, inl, inr, arith, Option, Some, None}
use Rattle.std.proofs.lemmas.Bool.{cases_Bool, eqb-true}
use Rattle.std.specs.List.{IsDistinct, AllByRecursion}
use Rattle.std.specs.Map.{lookup, keys_of}
use Rattle.std.specs.Prelude.{slice_get, option_map, option_and_then, is_some, if◌then◌else◌, ◌||◌}
use Rattle.th_type.specs.Lists.{or_else, is_in}
use Rattle.th_type.specs.Signatures.{Signature, find_sig}
use Rattle.th_type.specs.Types.{TypeExpr}
use Rattle.th_views.specs.Lookups.{given_in}
use Rattle.th_views.specs.declared.Gives.{Gives}
use Rattle.th_shape.specs.declared.results.Head.{Head}
use Rattle.th_shape.specs.Results.{one_entry, picked}
use Rattle.th_shape.specs.Heads.{apply_kind, declared_in}
use Rattle.th_type.specs.declared.sig.Sig.{Sig}
use Rattle.th_type.specs.Signatures.{sig_of}
use Rattle.th_shape.proofs.Steps.{or_again, or_none, eq_swap, drop_end, map_drop, numbers_drop}

pub lookup_put : (es : List (ℕ × Head)) (m q : ℕ) (h : Head) → lookup (nat_eq q) (es ++ (m, h) ∷ []) ≡ or_else (lookup (nat_eq q) es) (one_entry m h q)
lookup_put [] m q h = refl
lookup_put (e ∷ es) m q h = by (nat_eq q e.0) (lookup_put es m q h)
  where
    by : (b : Bool) → lookup (nat_eq q) (es ++ (m, h) ∷ []) ≡ or_else (lookup (nat_eq q) es) (one_entry m h q)
        → cond b (Some e.1) (lookup (nat_eq q) (es ++ (m, h) ∷ [])) ≡ or_else (cond b (Some e.1) (lookup (nat_eq q) es)) (one_entry m h q)
    by true g = refl
    by false g = g

pub lookup_kept : (es : List (ℕ × Head)) (m q : ℕ) (h : Head) → is_some (lookup (nat_eq m) es) ≡ true → lookup (nat_eq q) es ≡ or_else (lookup (nat_eq q) es) (one_entry m h q)
lookup_kept es m q h s = by (cases_Bool (nat_eq q m))
  where
    some : (o : Option Head) → is_some o ≡ true → o ≡ or_else o (one_entry m h q)
    some None s = absurd (cc)
    some (Some x) s = refl

    by : (nat_eq q m ≡ true) ⊎ (nat_eq q m ≡ false) → lookup (nat_eq q) es ≡ or_else (lookup (nat_eq q) es) (one_entry m h q)
    by (inl t) = some (lookup (nat_eq q) es) (subst (λ x. is_some (lookup (nat_eq x) es) ≡ true) (sym (eqb-true q m t)) s)
    by (inr f) = sym (or_none (lookup (nat_eq q) es)) ∙ ap (λ b. or_else (lookup (nat_eq q) es) (cond b (Some h) None)) (sym f)

-- one more entry of a list that is gone through
pub entry_next : {A : Type 0} (a new rest total : Option A) (b : Bool) (h : A) → new ≡ or_else a (cond b (Some h) None) → or_else a (cond b (Some h) rest) ≡ total → or_else new rest ≡ total
entry_next a new rest total true h e g = ap (λ x. or_else x rest) e ∙ or_again a (Some h) rest ∙ g
entry_next a new rest total false h e g = ap (λ x. or_else x rest) (e ∙ or_none a) ∙ g

-- signatures
pub found_next : (F : Signature → Head) (s : Signature) (rest : List Signature) (q : ℕ) → option_map F (find_sig (s ∷ rest) q) ≡ cond (nat_eq q s.method) (Some (F s)) (option_map F (find_sig rest q))
found_next F s rest q = by (nat_eq s.method q) ∙ ap (λ b. cond b (Some (F s)) (option_map F (find_sig rest q))) (eq_swap s.method q)
  where
    by : (b : Bool) → option_map F (if b then Some s else find_sig rest q) ≡ cond b (Some (F s)) (option_map F (find_sig rest q))
    by true = refl
    by false = refl

-- entries
pub entries_drop : (es : List (ℕ × Head)) (k : ℕ) (e : ℕ × Head) → slice_get es k ≡ Some e → drop k es ≡ e ∷ drop (k + 1) es
entries_drop [] k e g = absurd (cc)
entries_drop (x ∷ xs) zero e g = let z : x ≡ e = cc in ap (λ y. y ∷ xs) z
entries_drop (x ∷ xs) (suc k) e g = entries_drop xs k e g ∙ same
  where
    same : e ∷ drop (k + 1) xs ≡ e ∷ drop (suc k + 1) (x ∷ xs)
    same = let q : suc k + 1 ≡ suc (k + 1) = omega arith in ap (λ n. e ∷ drop n (x ∷ xs)) (sym q)

pub entry_some : (es : List (ℕ × Head)) (k : ℕ) → k < length es → (e : ℕ × Head) × (slice_get es k ≡ Some e)
entry_some [] k h = absurd (omega arith)
entry_some (x ∷ xs) zero h = (x, refl)
entry_some (x ∷ xs) (suc k) h = entry_some xs k (omega arith)

pub applied_next : (args : List TypeExpr) (e : ℕ × Head) (es : List (ℕ × Head)) (q : ℕ) → option_map (apply_kind args) (lookup (nat_eq q) (e ∷ es)) ≡ cond (nat_eq q e.0) (Some (apply_kind args e.1)) (option_map (apply_kind args) (lookup (nat_eq q) es))
applied_next args e es q = by (nat_eq q e.0)
  where
    by : (b : Bool) → option_map (apply_kind args) (cond b (Some e.1) (lookup (nat_eq q) es)) ≡ cond b (Some (apply_kind args e.1)) (option_map (apply_kind args) (lookup (nat_eq q) es))
    by true = refl
    by false = refl

-- picked methods
pub picked_next : (m q : ℕ) (ms : List ℕ) (es : List (ℕ × Head)) → picked (m ∷ ms) (lookup (nat_eq q) es) q ≡ or_else (cond (nat_eq q m) (lookup (nat_eq m) es) None) (picked ms (lookup (nat_eq q) es) q)
picked_next m q ms es = by (cases_Bool (nat_eq q m))
  where
    twice : (b : Bool) (o : Option Head) → o ≡ or_else o (cond b o None)
    twice true None = refl
    twice false None = refl
    twice b (Some x) = refl

    by : (nat_eq q m ≡ true) ⊎ (nat_eq q m ≡ false) → cond (nat_eq q m || is_in q ms) (lookup (nat_eq q) es) None ≡ or_else (cond (nat_eq q m) (lookup (nat_eq m) es) None) (picked ms (lookup (nat_eq q) es) q)
    by (inl t) = rw t (twice (is_in q ms) (lookup (nat_eq q) es) ∙ ap (λ x. or_else (lookup (nat_eq x) es) (picked ms (lookup (nat_eq q) es) q)) (eqb-true q m t))
    by (inr f) = rw f refl

-- given results
pub given_put : (l : List Gives) (m p q : ℕ) → given_in (l ++ record { method = m; of = p } ∷ []) q ≡ or_else (given_in l q) (cond (nat_eq q m) (Some p) None)
given_put [] m p q = ap (λ b. cond b (Some p) None) (eq_swap m q)
given_put (g ∷ gs) m p q = by (nat_eq g.method q) (given_put gs m p q)
  where
    by : (b : Bool) → given_in (gs ++ record { method = m; of = p } ∷ []) q ≡ or_else (given_in gs q) (cond (nat_eq q m) (Some p) None)
        → cond b (Some g.of) (given_in (gs ++ record { method = m; of = p } ∷ []) q) ≡ or_else (cond b (Some g.of) (given_in gs q)) (cond (nat_eq q m) (Some p) None)
    by true e = refl
    by false e = e

-- a key does not come again
none_of : (x : ℕ) (ys : List (ℕ × Head)) → AllByRecursion (λ y. nat_eq x y ≡ false) (keys_of ys) → lookup (nat_eq x) ys ≡ None
none_of x [] a = refl
none_of x (y ∷ ys) a = ap (λ b. cond b (Some y.1) (lookup (nat_eq x) ys)) a.0 ∙ none_of x ys a.1

none_later : (es : List (ℕ × Head)) (k : ℕ) (e : ℕ × Head) → IsDistinct nat_eq (keys_of es) → slice_get es k ≡ Some e → lookup (nat_eq e.0) (drop (k + 1) es) ≡ None
unfolding IsDistinct
none_later [] k e d g = absurd (cc)
none_later (x ∷ xs) zero e d g = let z : x ≡ e = cc in subst (λ y. lookup (nat_eq y.0) xs ≡ None) z (none_of x.0 xs d.0)
none_later (x ∷ xs) (suc k) e d g = let q : suc k + 1 ≡ suc (k + 1) = omega arith in subst (λ n. lookup (nat_eq e.0) (drop n (x ∷ xs)) ≡ None) (sym q) (none_later xs k e d.1 g)

-- the place of what is named
abbrev pub placed_kind : (ℕ → Option ℕ) → Option Head → Option ℕ
placed_kind f o = option_and_then f (option_and_then declared_in o)

given_case : (f : ℕ → Option ℕ) (a p new total : Option ℕ) (b : Bool) (h : Head) (later : Option Head) → (b ≡ true → later ≡ None) → p ≡ option_and_then f (declared_in h)
    → new ≡ or_else a (cond b p None) → or_else a (placed_kind f (cond b (Some h) later)) ≡ total → or_else new (placed_kind f later) ≡ total
given_case f a p new total true h later n e g t =
    ap (λ o. or_else new (placed_kind f o)) (n refl) ∙ or_none new ∙ g ∙ ap (or_else a) e ∙ t
given_case f a p new total false h later n e g t = ap (λ x. or_else x (placed_kind f later)) (g ∙ or_none a) ∙ t

pub given_next : (f : ℕ → Option ℕ) (es : List (ℕ × Head)) (k q : ℕ) (e : ℕ × Head) (a p new total : Option ℕ) → IsDistinct nat_eq (keys_of es) → slice_get es k ≡ Some e → p ≡ option_and_then f (declared_in e.1)
    → new ≡ or_else a (cond (nat_eq q e.0) p None) → or_else a (placed_kind f (lookup (nat_eq q) (drop k es))) ≡ total → or_else new (placed_kind f (lookup (nat_eq q) (drop (k + 1) es))) ≡ total
given_next f es k q e a p new total d g w n t =
    given_case f a p new total (nat_eq q e.0) e.1 (lookup (nat_eq q) (drop (k + 1) es))
    (λ y. subst (λ x. lookup (nat_eq x) (drop (k + 1) es) ≡ None) (sym (eqb-true q e.0 y)) (none_later es k e d g)) w n
    (ap (λ l. or_else a (placed_kind f (lookup (nat_eq q) l))) (sym (entries_drop es k e g)) ∙ t)

pub given_end : (f : ℕ → Option ℕ) (es : List (ℕ × Head)) (k q : ℕ) (a total : Option ℕ) → length es ≤ k → or_else a (placed_kind f (lookup (nat_eq q) (drop k es))) ≡ total → a ≡ total
given_end f es k q a total h t = sym (or_none a) ∙ ap (λ l. or_else a (placed_kind f (lookup (nat_eq q) l))) (sym (drop_end es k h)) ∙ t

-- where nothing is found nothing changes
pub found_none : {A : Type 0} (b : Bool) (a : Option A) → a ≡ or_else a (cond b None None)
found_none true a = sym (or_none a)
found_none false a = sym (or_none a)

pub found_absent : {A : Type 0} (b : Bool) (a o : Option A) → o ≡ None → a ≡ or_else a (cond b o None)
found_absent b a o e = found_none b a ∙ ap (λ x. or_else a (cond b x None)) (sym e)

-- steps of the loops
pub sigs_step : (F : Signature → Head) (xs : List Sig) (i : ℕ) (x d : Sig) (a new total : Option Head) (q : ℕ) (h : Head) → i < length xs → x ≡ get_or xs i d → h ≡ F (sig_of x) → new ≡ or_else a (one_entry x.method h q)
    → or_else a (option_map F (find_sig (map sig_of (drop i xs)) q)) ≡ total → or_else new (option_map F (find_sig (map sig_of (drop (i + 1) xs)) q)) ≡ total
sigs_step F xs i x d a new total q h l e f g t =
    entry_next a new (option_map F (find_sig (map sig_of (drop (i + 1) xs)) q)) total (nat_eq q x.method) (F (sig_of x)) (g ∙ ap (λ y. or_else a (cond (nat_eq q x.method) (Some y) None)) f)
    (ap (or_else a) (sym (found_next F (sig_of x) (map sig_of (drop (i + 1) xs)) q)) ∙ ap (λ ss. or_else a (option_map F (find_sig ss q))) (sym (map_drop sig_of xs i x d l e)) ∙ t)

pub sigs_end : (F : Signature → Head) (xs : List Sig) (i : ℕ) (a total : Option Head) (q : ℕ) → length xs ≤ i → or_else a (option_map F (find_sig (map sig_of (drop i xs)) q)) ≡ total → a ≡ total
sigs_end F xs i a total q h t = sym (or_none a) ∙ ap (λ ss. or_else a (option_map F (find_sig (map sig_of ss) q))) (sym (drop_end xs i h)) ∙ t

pub entries_step : (args : List TypeExpr) (es : List (ℕ × Head)) (k : ℕ) (e : ℕ × Head) (a new total : Option Head) (q : ℕ) (h : Head) → slice_get es k ≡ Some e → h ≡ apply_kind args e.1 → new ≡ or_else a (one_entry e.0 h q)
    → or_else a (option_map (apply_kind args) (lookup (nat_eq q) (drop k es))) ≡ total → or_else new (option_map (apply_kind args) (lookup (nat_eq q) (drop (k + 1) es))) ≡ total
entries_step args es k e a new total q h g f n t =
    entry_next a new (option_map (apply_kind args) (lookup (nat_eq q) (drop (k + 1) es))) total (nat_eq q e.0) (apply_kind args e.1) (n ∙ ap (λ y. or_else a (cond (nat_eq q e.0) (Some y) None)) f)
    (ap (or_else a) (sym (applied_next args e (drop (k + 1) es) q)) ∙ ap (λ l. or_else a (option_map (apply_kind args) (lookup (nat_eq q) l))) (sym (entries_drop es k e g)) ∙ t)

pub entries_end : (args : List TypeExpr) (es : List (ℕ × Head)) (k : ℕ) (a total : Option Head) (q : ℕ) → length es ≤ k → or_else a (option_map (apply_kind args) (lookup (nat_eq q) (drop k es))) ≡ total → a ≡ total
entries_end args es k a total q h t = sym (or_none a) ∙ ap (λ l. or_else a (option_map (apply_kind args) (lookup (nat_eq q) l))) (sym (drop_end es k h)) ∙ t

pub picked_step : (ms : List ℕ) (es : List (ℕ × Head)) (i q : ℕ) (a new total found : Option Head) → i < length ms → found ≡ lookup (nat_eq (get_or ms i 0)) es → new ≡ or_else a (cond (nat_eq q (get_or ms i 0)) found None)
    → or_else a (picked (drop i ms) (lookup (nat_eq q) es) q) ≡ total → or_else new (picked (drop (i + 1) ms) (lookup (nat_eq q) es) q) ≡ total
picked_step ms es i q a new total found l f n t =
    ap (λ x. or_else x (picked (drop (i + 1) ms) (lookup (nat_eq q) es) q)) (n ∙ ap (λ y. or_else a (cond (nat_eq q (get_or ms i 0)) y None)) f)
    ∙ or_again a (cond (nat_eq q (get_or ms i 0)) (lookup (nat_eq (get_or ms i 0)) es) None) (picked (drop (i + 1) ms) (lookup (nat_eq q) es) q)
    ∙ ap (or_else a) (sym (picked_next (get_or ms i 0) q (drop (i + 1) ms) es)) ∙ ap (λ x. or_else a (picked x (lookup (nat_eq q) es) q)) (sym (numbers_drop ms i l)) ∙ t

pub picked_end : (ms : List ℕ) (es : List (ℕ × Head)) (i q : ℕ) (a total : Option Head) → length ms ≤ i → or_else a (picked (drop i ms) (lookup (nat_eq q) es) q) ≡ total → a ≡ total
picked_end ms es i q a total h t = sym (or_none a) ∙ ap (λ x. or_else a (picked x (lookup (nat_eq q) es) q)) (sym (drop_end ms i h)) ∙ t
