-- Types that resolve have only type parameters that can be seen.
use Rattle.std.proofs.Common.{◌≡◌, ℕ, ◌+◌, ◌<◌, ◌≤◌, Bool, true, false, nat_eq, ◌||◌, length, position, Option, Some, None, refl, subst, arith, if◌then◌else◌}
use Rattle.std.proofs.lemmas.List.Quantifiers.{position-Some}
use Rattle.th_tree.specs.declared.tree.Ident.{Ident}
use Rattle.th_tree.specs.declared.tree.RefTree.{RefTree}
use Rattle.th_tree.specs.Trees.{TypeSyn, int_type, bool_type, text_type, array_type, named_type, TypeSyns, no_type, more_types}
use Rattle.th_type.specs.Types.{TypeExpr, int_ty, bool_ty, text_ty, array_ty, named_ty, param_ty, TypeExprs, no_ty, more_ty, list_of, ParamsBelow, AllParamsBelow}
use Rattle.th_hier.specs.declared.item.ItemName.{ItemName}
use Rattle.th_hier.specs.declared.item.Entry.{Entry}
use Rattle.th_hier.specs.declared.item.Sort.{Sort}
use Rattle.th_hier.specs.declared.item.Sort.TheVariants.{Exception, Declared, Class, Routine, Iterator}
use Rattle.th_hier.specs.declared.item.Referent.{Referent}
use Rattle.th_hier.specs.declared.item.Referent.TheVariants as referents
use Rattle.th_hier.specs.Naming.{Items, Visible, has, is_number, item_at, item_in, own_or, param_or, bare_meaning, named_meaning, meaning}
use Rattle.th_hier.specs.Resolve.{count, sort_type, referent_type, array_of, before_types, resolved_type, resolved_types}

-- what a name means: a type parameter that can be seen, or an item
pub record MeansSeen (items : Items) (n : ℕ) (r : Referent) : Type 0 where
  pub param : (k : ℕ) → r ≡ referents.Param k → k < n
  pub item : (e : Entry) → r ≡ referents.Item e → (key : ItemName) × (item_at items key ≡ Some e)

own_seen : (items : Items) (n : ℕ) (own other : Option Entry)
    → ((e : Entry) → own ≡ Some e → (key : ItemName) × (item_at items key ≡ Some e)) → ((e : Entry) → other ≡ Some e → (key : ItemName) × (item_at items key ≡ Some e))
    → MeansSeen items n (own_or own other)
own_seen items n (Some a) other p q = record { param = λ k h. absurd (cc); item = λ e h. p e (cc) }
own_seen items n None (Some b) p q = record { param = λ k h. absurd (cc); item = λ e h. q e (cc) }
own_seen items n None None p q = record { param = λ k h. absurd (cc); item = λ e h. absurd (cc) }

in_seen : (items : Items) (i : Option ℕ) (m : ℕ) (e : Entry) → item_in items i m ≡ Some e → (key : ItemName) × (item_at items key ≡ Some e)
in_seen items None m e h = absurd (cc)
in_seen items (Some i) m e h = (record { interface = i; name = m }, h)

param_seen : (items : Items) (n : ℕ) (p : Option ℕ) (r : Referent) → ((k : ℕ) → p ≡ Some k → k < n) → MeansSeen items n r → MeansSeen items n (param_or p r)
param_seen items n (Some j) r below seen = record { param = λ k h. below k (cc); item = λ e h. absurd (cc) }
param_seen items n None r below seen = seen

full_seen : (items : Items) (n i m : ℕ) (b : Bool) → MeansSeen items n (if b then own_or (item_at items (record { interface = i; name = m })) None else referents.Nothing)
full_seen items n i m true = own_seen items n (item_at items (record { interface = i; name = m })) None (λ e h. (record { interface = i; name = m }, h)) (λ e h. absurd (cc))
full_seen items n i m false = record { param = λ k h. absurd (cc); item = λ e h. absurd (cc) }

bare_seen : (items : Items) (v : Visible) (m : ℕ) → MeansSeen items (length v.params) (bare_meaning items v m)
bare_seen items v m =
    param_seen items (length v.params) (position (nat_eq m) v.params) (own_or (item_in items v.text m) (item_in items v.implements m))
    (λ k h. (position-Some (nat_eq m) v.params k 0 h).0) (own_seen items (length v.params) (item_in items v.text m) (item_in items v.implements m) (in_seen items v.text m) (in_seen items v.implements m))

named_seen : (items : Items) (v : Visible) (first : Ident) (second : Option Ident) → MeansSeen items (length v.params) (named_meaning items v first second)
named_seen items v first None = bare_seen items v first.name
named_seen items v first (Some second) = full_seen items (length v.params) first.name second.name (has v.uses first.name || is_number v.implements first.name)

pub seen : (items : Items) (v : Visible) (r : RefTree) → MeansSeen items (length v.params) (meaning items v r)
seen items v r = named_seen items v r.first r.second

param_if : (n k : ℕ) (ty : TypeExpr) (b : Bool) → k < n → (if b then Some (param_ty k) else None) ≡ Some ty → ParamsBelow n ty
param_if n k ty true below h = let e : param_ty k ≡ ty = cc in subst (ParamsBelow n) e below
param_if n k ty false below h = absurd (cc)

named_if : (n full : ℕ) (ts : TypeExprs) (ty : TypeExpr) (b : Bool) → AllParamsBelow n ts → (if b then Some (named_ty full ts) else None) ≡ Some ty → ParamsBelow n ty
named_if n full ts ty true below h = let e : named_ty full ts ≡ ty = cc in subst (ParamsBelow n) e below
named_if n full ts ty false below h = absurd (cc)

sort_below : (n : ℕ) (s : Sort) (full c : ℕ) (ts : TypeExprs) (ty : TypeExpr) → AllParamsBelow n ts → sort_type s full c ts ≡ Some ty → ParamsBelow n ty
sort_below n Exception full c ts ty below h = absurd (cc)
sort_below n (Declared k) full c ts ty below h = named_if n full ts ty (nat_eq c k) below h
sort_below n (Class k) full c ts ty below h = absurd (cc)
sort_below n (Routine k) full c ts ty below h = absurd (cc)
sort_below n (Iterator k) full c ts ty below h = absurd (cc)

referent_below : (items : Items) (n : ℕ) (r : Referent) (c : ℕ) (o : Option TypeExprs) (ty : TypeExpr) → MeansSeen items n r
    → ((ts : TypeExprs) → o ≡ Some ts → AllParamsBelow n ts) → referent_type r c o ≡ Some ty → ParamsBelow n ty
referent_below items n r c None ty s args h = absurd (cc)
referent_below items n referents.Nothing c (Some ts) ty s args h = absurd (cc)
referent_below items n (referents.Param k) c (Some ts) ty s args h = param_if n k ty (nat_eq c 0) (s.param k refl) h
referent_below items n (referents.Item e) c (Some ts) ty s args h = sort_below n e.sort e.full c ts ty (args ts refl) h

array_below : (n : ℕ) (o : Option TypeExpr) (ty : TypeExpr) → ((t : TypeExpr) → o ≡ Some t → ParamsBelow n t) → array_of o ≡ Some ty → ParamsBelow n ty
array_below n None ty of h = absurd (cc)
array_below n (Some t) ty of h = let e : array_ty t ≡ ty = cc in subst (ParamsBelow n) e (of t refl)

before_below : (n : ℕ) (o : Option TypeExpr) (p : Option TypeExprs) (tys : TypeExprs) → ((t : TypeExpr) → o ≡ Some t → ParamsBelow n t)
    → ((ts : TypeExprs) → p ≡ Some ts → AllParamsBelow n ts) → before_types o p ≡ Some tys → AllParamsBelow n tys
before_below n None p tys first rest h = absurd (cc)
before_below n (Some t) None tys first rest h = absurd (cc)
before_below n (Some t) (Some ts) tys first rest h = let e : more_ty t ts ≡ tys = cc in subst (AllParamsBelow n) e (first t refl, rest ts refl)

mutual
  -- the parameters in a type that resolves can be seen
  pub type_below : (items : Items) (v : Visible) (t : TypeSyn) (ty : TypeExpr) → resolved_type items v t ≡ Some ty → ParamsBelow (length v.params) ty
  type_below items v (int_type at) ty h = let e : int_ty ≡ ty = cc in subst (ParamsBelow (length v.params)) e tt
  type_below items v (bool_type at) ty h = let e : bool_ty ≡ ty = cc in subst (ParamsBelow (length v.params)) e tt
  type_below items v (text_type at) ty h = let e : text_ty ≡ ty = cc in subst (ParamsBelow (length v.params)) e tt
  type_below items v (array_type at t) ty h = array_below (length v.params) (resolved_type items v t) ty (type_below items v t) h
  type_below items v (named_type r ts) ty h =
      referent_below items (length v.params) (meaning items v r) (count ts) (resolved_types items v ts) ty (seen items v r) (types_below items v ts) h

  pub types_below : (items : Items) (v : Visible) (ts : TypeSyns) (tys : TypeExprs) → resolved_types items v ts ≡ Some tys → AllParamsBelow (length v.params) tys
  types_below items v no_type tys h = let e : no_ty ≡ tys = cc in subst (AllParamsBelow (length v.params)) e tt
  types_below items v (more_types t ts) tys h =
      before_below (length v.params) (resolved_type items v t) (resolved_types items v ts) tys (type_below items v t) (types_below items v ts) h

before_count : (o : Option TypeExpr) (p : Option TypeExprs) (n : ℕ) (tys : TypeExprs) → ((ts : TypeExprs) → p ≡ Some ts → length (list_of ts) ≡ n)
    → before_types o p ≡ Some tys → length (list_of tys) ≡ 1 + n
before_count None p n tys rest h = absurd (cc)
before_count (Some t) None n tys rest h = absurd (cc)
before_count (Some t) (Some ts) n tys rest h =
    let e : more_ty t ts ≡ tys = cc in
    let l : length (list_of ts) ≡ n = rest ts refl in
    subst (λ (x : TypeExprs). length (list_of x) ≡ 1 + n) e (omega arith)

-- types that resolve are as many as their trees
pub types_count : (items : Items) (v : Visible) (ts : TypeSyns) (tys : TypeExprs) → resolved_types items v ts ≡ Some tys → length (list_of tys) ≡ count ts
types_count items v no_type tys h = let e : no_ty ≡ tys = cc in subst (λ (x : TypeExprs). length (list_of x) ≡ 0) e refl
types_count items v (more_types t ts) tys h = before_count (resolved_type items v t) (resolved_types items v ts) (count ts) tys (types_count items v ts) h

mutual
  -- a type whose parameters are below a number has them below a greater one
  pub more_below : (m n : ℕ) (t : TypeExpr) → m ≤ n → ParamsBelow m t → ParamsBelow n t
  more_below m n int_ty le h = tt
  more_below m n bool_ty le h = tt
  more_below m n text_ty le h = tt
  more_below m n (array_ty t) le h = more_below m n t le h
  more_below m n (named_ty f ts) le h = all_more_below m n ts le h
  more_below m n (param_ty k) le h = omega arith

  pub all_more_below : (m n : ℕ) (ts : TypeExprs) → m ≤ n → AllParamsBelow m ts → AllParamsBelow n ts
  all_more_below m n no_ty le h = tt
  all_more_below m n (more_ty t ts) le h = (more_below m n t le h.0, all_more_below m n ts le h.1)
