-- What is looked up of declared types.
use Rattle.std.proofs.Common.{◌≡◌, ◌∙◌, ℕ, ◌+◌, ◌<◌, Bool, true, false, nat_eq, cond, List, [], ◌∷◌, ◌++◌, length, map, take, get_or, slice_get, Option, Some, None, option_map, option_copied, Bor, refl, ap, sym, if◌then◌else◌, arith}
use Rattle.std.proofs.lemmas.Bool.Decides.{nat_tests}
use Rattle.std.proofs.lemmas.List.{map-append}
use Rattle.std.specs.Map.{lookup}
use Rattle.th_type.specs.declared.rows.Row.{Row}
use Rattle.th_type.specs.declared.typedef.Supertype.{Supertype}
use Rattle.th_type.specs.Types.{TypeExpr}
use Rattle.th_type.specs.Declarations.{Declaration, DeclaredType, declared_type, declared_types, super_of, meant_of, types_meant, resolved, find_type}
use Rattle.th_type.specs.Rules.{NamesDiffer}
use Rattle.th_type.specs.Rows.{row_of, rows_of}
use Rattle.th_type.proofs.Judging.{next_absent, take_next}
use Rattle.th_type.proofs.Testing.{resolved_more}

pub types_more : (ms : List Supertype) (i : ℕ) (d : Supertype) (xs ys : List TypeExpr) → i < length ms → d ≡ get_or ms i d → xs ≡ resolved (map super_of (take i ms)) → ys ≡ xs ++ types_meant (meant_of d.meaning) → ys ≡ resolved (map super_of (take (i + 1) ms))
types_more ms i d xs ys h e a b = b ∙ ap (λ ts. ts ++ types_meant (meant_of d.meaning)) a ∙ sym (resolved_more ms i d h e)

declared_next : (ds : List Declaration) (k : ℕ) (d : Declaration) → slice_get ds k ≡ Some d → declared_types (take (k + 1) ds) ≡ declared_types (take k ds) ++ declared_type d ∷ []
declared_next ds k d g = ap declared_types (take_next ds k d g) ∙ map-append declared_type (take k ds) (d ∷ [])

pub heads_more : (ds : List Declaration) (k : ℕ) (d : Declaration) (xs ys : List ℕ) → slice_get ds k ≡ Some d → xs ≡ map (λ d. d.name) (declared_types (take k ds)) → ys ≡ xs ++ d.name ∷ [] → ys ≡ map (λ d. d.name) (declared_types (take (k + 1) ds))
heads_more ds k d xs ys g a b = b ∙ ap (λ ns. ns ++ d.name ∷ []) a ∙ sym (map-append (λ d. d.name) (declared_types (take k ds)) (declared_type d ∷ [])) ∙ ap (map (λ d. d.name)) (sym (declared_next ds k d g))

pub rows_more : (ds : List Declaration) (k : ℕ) (d : Declaration) (es fs : List (ℕ × Row)) (e : ℕ × Row) → slice_get ds k ≡ Some d → rows_of es ≡ declared_types (take k ds) → fs ≡ es ++ e ∷ [] → row_of e ≡ declared_type d → rows_of fs ≡ declared_types (take (k + 1) ds)
rows_more ds k d es fs e g a b c = ap rows_of b ∙ map-append row_of es (e ∷ []) ∙ ap (λ rs. rs ++ row_of e ∷ []) a ∙ ap (λ r. declared_types (take k ds) ++ r ∷ []) c ∙ sym (declared_next ds k d g)

row_names : (es : List (ℕ × Row)) → map (λ d. d.name) (rows_of es) ≡ map (λ e. e.0) es
row_names [] = refl
row_names (e ∷ es) = ap (λ ns. e.0 ∷ ns) (row_names es)

decl_names : (ds : List Declaration) → map (λ d. d.name) (declared_types ds) ≡ map (λ d. d.name) ds
decl_names [] = refl
decl_names (d ∷ ds) = ap (λ ns. d.name ∷ ns) (decl_names ds)

pub row_absent : (ds : List Declaration) (k : ℕ) (d : Declaration) (es : List (ℕ × Row)) → NamesDiffer ds → slice_get ds k ≡ Some d → rows_of es ≡ declared_types (take k ds) → lookup (nat_eq d.name) es ≡ None
row_absent ds k d es w g a = next_absent ds k d es w g (sym (row_names es) ∙ ap (map (λ d. d.name)) a ∙ decl_names (take k ds))

found_if : (n : ℕ) (e : ℕ × Row) (es : List (ℕ × Row)) (b : Bool) → nat_eq n e.0 ≡ b → find_type (rows_of es) n ≡ option_map (λ r. row_of (n, r)) (lookup (nat_eq n) es)
    → (if b then Some (row_of e) else find_type (rows_of es) n) ≡ option_map (λ r. row_of (n, r)) (cond b (Some e.1) (lookup (nat_eq n) es))
found_if n e es true h r = let s : n ≡ e.0 = grind (arith, nat_tests) in ap (λ k. Some (row_of (k, e.1))) (sym s)
found_if n e es false h r = r

row_found : (n : ℕ) (es : List (ℕ × Row)) → find_type (rows_of es) n ≡ option_map (λ r. row_of (n, r)) (lookup (nat_eq n) es)
row_found n [] = refl
row_found n (e ∷ es) = found_if n e es (nat_eq n e.0) refl (row_found n es)

copied_some : {A : Type 0} (x : Bor A) (o : Option A) → option_copied (Some x) ≡ o → Some x.now ≡ o
copied_some x o h = h

-- what is found at a number
pub row_some : (n : ℕ) (es : List (ℕ × Row)) (D : List DeclaredType) (r : Row) → rows_of es ≡ D → Some r ≡ lookup (nat_eq n) es → find_type D n ≡ Some (row_of (n, r))
row_some n es D r v h = ap (λ D. find_type D n) (sym v) ∙ row_found n es ∙ ap (option_map (λ r. row_of (n, r))) (sym h)

pub row_none : (n : ℕ) (es : List (ℕ × Row)) (D : List DeclaredType) → rows_of es ≡ D → None ≡ lookup (nat_eq n) es → find_type D n ≡ None
row_none n es D v h = ap (λ D. find_type D n) (sym v) ∙ row_found n es ∙ ap (option_map (λ r. row_of (n, r))) (sym h)
