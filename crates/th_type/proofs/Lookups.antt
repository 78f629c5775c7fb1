-- Look-ups in the code's tables.
use Rattle.std.proofs.Common.{◌≡◌, ◌≢◌, ℕ, Bool, true, false, nat_eq, cond, List, [], ◌∷◌, ◌++◌, map, Option, Some, None, option_map, option_copied, refl, ap, sym, ◌∙◌, subst, arith, Bor, if◌then◌else◌, inl, inr}
use Rattle.std.proofs.lemmas.Bool.Decides.{nat_tests}
use Rattle.std.proofs.lemmas.List.{map-append}
use Rattle.std.specs.Map.{lookup}
use Rattle.th_type.specs.declared.typedef.TypeDef.{TypeDef}
use Rattle.th_type.specs.Lists.{IsIn}
use Rattle.th_type.specs.Types.{TypeExprs, named_ty}
use Rattle.th_type.specs.Pool.{tys_at}
use Rattle.th_type.specs.Declarations.{Declaration, named_decl, decl_of, decls_of, find_decl}
use Rattle.th_type.specs.Closure.{find_head}
use Rattle.th_type.specs.Tables.{entry_ty, entry_decl}
use Rattle.th_type.specs.Rules.{NamesDiffer}

head_if : (ts : List TypeExprs) (n : ℕ) (e : ℕ × ℕ) (es : List (ℕ × ℕ)) (b : Bool) → nat_eq n e.0 ≡ b → find_head (map (entry_ty ts) es) n ≡ option_map (λ a. named_ty n (tys_at ts a)) (lookup (nat_eq n) es)
    → (if b then Some (entry_ty ts e) else find_head (map (entry_ty ts) es) n) ≡ option_map (λ a. named_ty n (tys_at ts a)) (cond b (Some e.1) (lookup (nat_eq n) es))
head_if ts n e es true h r = let s : n ≡ e.0 = grind (arith, nat_tests) in ap (λ k. Some (named_ty k (tys_at ts e.1))) (sym s)
head_if ts n e es false h r = r

-- the first type of a name in a table is the one that the table has under it
pub head_lookup : (ts : List TypeExprs) (n : ℕ) (es : List (ℕ × ℕ)) → find_head (map (entry_ty ts) es) n ≡ option_map (λ a. named_ty n (tys_at ts a)) (lookup (nat_eq n) es)
head_lookup ts n [] = refl
head_lookup ts n (e ∷ es) = head_if ts n e es (nat_eq n e.0) refl (head_lookup ts n es)

decl_if : (n : ℕ) (e : ℕ × TypeDef) (es : List (ℕ × TypeDef)) (b : Bool) → nat_eq n e.0 ≡ b → find_decl (map entry_decl es) n ≡ option_map (λ a. named_decl n a) (lookup (nat_eq n) es)
    → (if b then Some (entry_decl e) else find_decl (map entry_decl es) n) ≡ option_map (λ a. named_decl n a) (cond b (Some e.1) (lookup (nat_eq n) es))
decl_if n e es true h r = let s : n ≡ e.0 = grind (arith, nat_tests) in ap (λ k. Some (named_decl k e.1)) (sym s)
decl_if n e es false h r = r

pub decl_lookup : (n : ℕ) (es : List (ℕ × TypeDef)) → find_decl (map entry_decl es) n ≡ option_map (λ a. named_decl n a) (lookup (nat_eq n) es)
decl_lookup n [] = refl
decl_lookup n (e ∷ es) = decl_if n e es (nat_eq n e.0) refl (decl_lookup n es)

copied_map : {A B : Type 0} (f : A → B) (r : Option (Bor A)) → option_map (λ (x : Bor A). f x.now) r ≡ option_map f (option_copied r)
copied_map f None = refl
copied_map f (Some x) = refl

pub decl_found_by : (n : ℕ) (es : List (ℕ × TypeDef)) (r : Option (Bor TypeDef)) → option_copied r ≡ lookup (nat_eq n) es → option_map (λ (a : Bor TypeDef). named_decl n a.now) r ≡ find_decl (map entry_decl es) n
decl_found_by n es r h = copied_map (λ a. named_decl n a) r ∙ ap (option_map (λ a. named_decl n a)) h ∙ sym (decl_lookup n es)

none_of_map : {A B : Type 0} (f : A → B) (o : Option A) → option_map f o ≡ None → o ≡ None
none_of_map f None h = refl
none_of_map f (Some x) h = cc

pub decl_absent : (n : ℕ) (es : List (ℕ × TypeDef)) → find_decl (map entry_decl es) n ≡ None → lookup (nat_eq n) es ≡ None
decl_absent n es h = none_of_map (λ a. named_decl n a) (lookup (nat_eq n) es) (sym (decl_lookup n es) ∙ h)

absent_if : (n : ℕ) (e : Declaration) (ds : List Declaration) (b : Bool) → nat_eq n e.name ≡ b → n ≢ e.name → find_decl ds n ≡ None → (if b then Some e else find_decl ds n) ≡ None
absent_if n e ds true h q r = let s : n ≡ e.name = grind (arith, nat_tests) in absurd (q s)
absent_if n e ds false h q r = r

-- a declaration after others of different names is not among them
pub differ_absent : (xs : List Declaration) (d : Declaration) (ys : List Declaration) → NamesDiffer (xs ++ d ∷ ys) → find_decl xs d.name ≡ None
differ_absent [] d ys h = refl
differ_absent (x ∷ xs) d ys h = absent_if d.name x xs (nat_eq d.name x.name) refl (λ s. h.0 d (in_end xs) (sym s)) (differ_absent xs d ys h.1) where
  in_end : (xs : List Declaration) → IsIn d (xs ++ d ∷ ys)
  in_end [] = inl refl
  in_end (x ∷ xs) = inr (in_end xs)

pub decls_push : (es : List (ℕ × TypeDef)) (d : TypeDef) → map entry_decl (es ++ (d.name, d) ∷ []) ≡ map entry_decl es ++ decl_of d ∷ []
decls_push es d = map-append entry_decl es ((d.name, d) ∷ [])

-- a declared type of a list does not stand before itself
pub def_absent : (xs : List TypeDef) (d : TypeDef) (ys items : List TypeDef) → items ≡ xs ++ (d ∷ ys) → NamesDiffer (decls_of items) → find_decl (decls_of xs) d.name ≡ None
def_absent xs d ys items e h =
    let f : decls_of items ≡ decls_of xs ++ decl_of d ∷ decls_of ys = ap decls_of e ∙ map-append decl_of xs (d ∷ ys) in
    differ_absent (decls_of xs) (decl_of d) (decls_of ys) (subst (λ ds. NamesDiffer ds) f h)
