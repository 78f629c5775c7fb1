-- The table of supertypes decides the subtype relation.
use Rattle.std.proofs.Common.{◌≡◌, ◌∙◌, ℕ, zero, ◌↔◌, Bool, true, false, cond, nat_eq, ◌||◌, List, [], ◌∷◌, length, map, Option, Some, None, refl, ap, sym, subst, ◌⊎◌, inl, inr, arith, IsTrue}
use Rattle.std.proofs.lemmas.Bool.Decides.{nat_tests}
use Rattle.std.proofs.lemmas.List.{length-map}
use Rattle.std.specs.Map.{lookup}
use Rattle.th_type.specs.declared.above.Above.{Above}
use Rattle.th_type.specs.declared.above.Ancestors.{Ancestors}
use Rattle.th_type.specs.declared.place.Failure.{Failure}
use Rattle.th_type.specs.Lists.{IsIn}
use Rattle.th_type.specs.Types.{TypeExpr, TypeExprs, int_ty, bool_ty, text_ty, array_ty, named_ty, param_ty, list_of, subst_ty, subst_tys, same_ty}
use Rattle.th_type.specs.Declarations.{Declaration, DeclaredType, declared_types, find_decl, supers_of, members_in, resolved}
use Rattle.th_type.specs.Subtypes.{Subtype, Reached}
use Rattle.th_type.specs.Rules.{IsTangled}
use Rattle.th_type.specs.Closure.{find_head, Climbed}
use Rattle.th_type.specs.Judged.{Judging}
use Rattle.th_type.specs.Tables.{up_in, up_of, is_found, is_reached, table_subtype}
use Rattle.th_type.proofs.Members.{in_map}
use Rattle.th_type.proofs.Same.{same_self, same_equal}
use Rattle.th_type.specs.Fitting.{Fits}
use Rattle.th_type.proofs.Subtyping.{subtype_to, subtype_from, subtype_self}
use Rattle.th_type.proofs.Closure.{head_found, head_none, left_none}
use Rattle.th_type.proofs.Resolved.{supers_resolved, decl_is}

-- the table has for each number just the types that it reaches
abbrev pub Ascends : List DeclaredType → (ℕ → List TypeExpr) → Type 0
Ascends D up = (n : ℕ) → Climbed D n (up n)

found_to : (D : List DeclaredType) → Fits D → (n m : ℕ) (args bs : TypeExprs) (xs : List TypeExpr) → Climbed D n xs → (o : Option TypeExpr) → find_head xs m ≡ o → is_found o args (named_ty m bs) ≡ true → Subtype D (named_ty n args) (named_ty m bs)
found_to D f n m args bs xs c None e h = cc
found_to D f n m args bs xs c (Some u) e h =
    let i = (head_found m u xs e).0 in
    subst (λ b. Subtype D (named_ty n args) b) (same_equal (subst_ty (list_of args) u) (named_ty m bs) h) (subtype_to D f n args u (c.sound u i))

-- what is reached is found, since each declared type stands there once
found_from : (D : List DeclaredType) (n m : ℕ) (args bs cs : TypeExprs) (xs : List TypeExpr) → Climbed D n xs → IsIn (named_ty m cs) xs → named_ty m bs ≡ subst_ty (list_of args) (named_ty m cs) → (o : Option TypeExpr) → find_head xs m ≡ o → is_found o args (named_ty m bs) ≡ true
found_from D n m args bs cs xs c i e None f = absurd (head_none m cs xs f i)
found_from D n m args bs cs xs c i e (Some u) f =
    let p = head_found m u xs f in
    let q : p.1.0 ≡ cs = c.one m p.1.0 cs (subst (λ u. IsIn u xs) p.1.1 p.0) i in
    let u_is : u ≡ named_ty m cs = p.1.1 ∙ ap (named_ty m) q in
    let s : subst_ty (list_of args) u ≡ named_ty m bs = ap (subst_ty (list_of args)) u_is ∙ sym e in
    rw s (same_self (named_ty m bs))

reached_to : (D : List DeclaredType) → Fits D → (up : ℕ → List TypeExpr) → Ascends D up → (a b : TypeExpr) → is_reached up a b ≡ true → Subtype D a b
reached_to D f up c (named_ty n args) (named_ty m bs) h = found_to D f n m args bs (up n) (c n) (find_head (up n) m) refl h
reached_to D f up c _ _ h = cc

is_or_true : (a b : Bool) → (a || b) ≡ true → (a ≡ true) ⊎ (b ≡ true)
is_or_true true b h = inl refl
is_or_true false b h = inr h

or_right : (a b : Bool) → b ≡ true → (a || b) ≡ true
or_right true b h = refl
or_right false b h = h

subtype_is : (D : List DeclaredType) → Fits D → (up : ℕ → List TypeExpr) → Ascends D up → (a b : TypeExpr) → table_subtype up a b ≡ true → Subtype D a b
subtype_is D f up c a b h = elim (is_or_true (same_ty a b) (is_reached up a b) h) [ inl e ↦ (zero, same_equal a b e) | inr e ↦ reached_to D f up c a b e ]

self_is : (up : ℕ → List TypeExpr) (a b : TypeExpr) → a ≡ b → table_subtype up a b ≡ true
self_is up a b e = let s : same_ty a b ≡ true = subst (λ b. same_ty a b ≡ true) e (same_self a) in rw s refl

reached_is : (D : List DeclaredType) → Fits D → (up : ℕ → List TypeExpr) → Ascends D up → (n m : ℕ) (args bs : TypeExprs) (u : TypeExpr) → Reached D n u → u ≡ named_ty m bs → (b : TypeExpr) → b ≡ subst_ty (list_of args) u → is_reached up (named_ty n args) b ≡ true
reached_is D f up c n m args bs u r e b h =
    let i : IsIn (named_ty m bs) (up n) = subst (λ u. IsIn u (up n)) e ((c n).all u r) in
    let g : b ≡ named_ty m (subst_tys (list_of args) bs) = h ∙ ap (subst_ty (list_of args)) e in
    rw g (found_from D n m args (subst_tys (list_of args) bs) bs (up n) (c n) i refl (find_head (up n) m) refl)

is_subtype_is : (D : List DeclaredType) → Fits D → (up : ℕ → List TypeExpr) → Ascends D up → (a b : TypeExpr) → Subtype D a b → table_subtype up a b ≡ true
is_subtype_is D f up c int_ty b h = self_is up int_ty b (subtype_self D int_ty b refl h)
is_subtype_is D f up c bool_ty b h = self_is up bool_ty b (subtype_self D bool_ty b refl h)
is_subtype_is D f up c text_ty b h = self_is up text_ty b (subtype_self D text_ty b refl h)
is_subtype_is D f up c (array_ty t) b h = self_is up (array_ty t) b (subtype_self D (array_ty t) b refl h)
is_subtype_is D f up c (param_ty k) b h = self_is up (param_ty k) b (subtype_self D (param_ty k) b refl h)
is_subtype_is D f up c (named_ty n args) b h = elim (subtype_from D f n args b h) [
  | inl e ↦ self_is up (named_ty n args) b e
  | inr r ↦ (let i = (c n).heads r.0 ((c n).all r.0 r.1) in or_right (same_ty (named_ty n args) b) (is_reached up (named_ty n args) b) (reached_is D f up c n i.0 args i.1 r.0 r.1 i.2 b r.2))
]

-- the table decides the subtype relation
pub table_decides : (D : List DeclaredType) → Fits D → (up : ℕ → List TypeExpr) → Ascends D up → (a b : TypeExpr) (r : Bool) → r ≡ table_subtype up a b → IsTrue r ↔ Subtype D a b
table_decides D f up c a b r e = ((λ t. subtype_is D f up c a b (sym e ∙ t)), (λ s. e ∙ is_subtype_is D f up c a b s))

no_head : (n : ℕ) (D : List DeclaredType) (u : TypeExpr) → supers_of D n ≡ [] → Reached D n u → ⊥
no_head n D u e r = subst (λ ts. IsIn r.0 ts) e r.1

-- a number that is no declared type reaches nothing
climbed_absent : (D : List DeclaredType) (n : ℕ) → supers_of D n ≡ [] → Climbed D n []
climbed_absent D n e = record {
  sound = λ t i. absurd i;
  all = λ t r. absurd (no_head n D t e r);
  one = λ m a b i. absurd i;
  low = λ t i. absurd i;
  heads = λ t i. absurd i;
  count = let l = left_none (map (λ d. d.name) D) in let q : length (map (λ d. d.name) D) ≡ length D = length-map D (λ d. d.name) in omega (arith, l, q);
}

look_if : {A : Type 0} (n : ℕ) (e : ℕ × A) (es : List (ℕ × A)) (b : Bool) → nat_eq n e.0 ≡ b → (lookup (nat_eq n) es ≡ None → IsIn n (map (λ e. e.0) es) → ⊥) → cond b (Some e.1) (lookup (nat_eq n) es) ≡ None → (n ≡ e.0) ⊎ IsIn n (map (λ e. e.0) es) → ⊥
look_if n e es true q r h i = cc
look_if n e es false q r h (inl s) = grind (arith, nat_tests)
look_if n e es false q r h (inr i) = r h i

pub look_in : {A : Type 0} (n : ℕ) (es : List (ℕ × A)) → lookup (nat_eq n) es ≡ None → IsIn n (map (λ e. e.0) es) → ⊥
look_in n [] h i = i
look_in n (e ∷ es) h i = look_if n e es (nat_eq n e.0) refl (look_in n es) h i

pub absent_supers : (n : ℕ) (ds : List Declaration) → (IsIn n (map (λ d. d.name) ds) → ⊥) → supers_of (declared_types ds) n ≡ []
absent_supers n ds h = supers_resolved n ds ∙ ap (λ o. resolved (members_in o)) (by (find_decl ds n) refl) where
  by : (o : Option Declaration) → find_decl ds n ≡ o → find_decl ds n ≡ None
  by None e = e
  by (Some d) e = let p = decl_is n d ds e in absurd (h (subst (λ k. IsIn k (map (λ d. d.name) ds)) p.1 (in_map (λ d. d.name) d ds p.0)))

ascends_at : (ds : List Declaration) (old : Option Failure) (es : Ancestors) → Judging ds ds old None es → (n : ℕ) (o : Option Above) → lookup (nat_eq n) es.map.entries ≡ o → Climbed (declared_types ds) n (up_in es.pool o)
ascends_at ds old es j n (Some a) e = (j.climbed refl n a e).1
ascends_at ds old es j n None e = climbed_absent (declared_types ds) n (absent_supers n ds (λ i. look_in n es.map.entries e (subst (λ ns. IsIn n ns) (sym j.names) i)))

-- where nothing fails the table is whole
pub ascends : (ds : List Declaration) (old : Option Failure) (es : Ancestors) → Judging ds ds old None es → Ascends (declared_types ds) (up_of es)
ascends ds old es j n = ascends_at ds old es j n (lookup (nat_eq n) es.map.entries) refl

-- where nothing fails no declared type is tangled
pub untangled : (ds : List Declaration) (old : Option Failure) (es : Ancestors) → Judging ds ds old None es → (n : ℕ) → IsIn n (map (λ d. d.name) ds) → ¬ IsTangled ds n
untangled ds old es j n i = by (lookup (nat_eq n) es.map.entries) refl where
  by : (o : Option Above) → lookup (nat_eq n) es.map.entries ≡ o → ¬ IsTangled ds n
  by None e = absurd (look_in n es.map.entries e (subst (λ ns. IsIn n ns) (sym j.names) i))
  by (Some a) e = (j.climbed refl n a e).0
