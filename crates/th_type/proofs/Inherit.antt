-- The tests over tables decide the rule on inherited methods.
use Rattle.std.proofs.Common.{◌≡◌, ◌∙◌, ℕ, suc, Bool, true, false, not, nat_eq, ◌&&◌, ◌||◌, List, [], ◌∷◌, length, map, Option, Some, None, option_map, refl, ap, sym, subst, ◌⊎◌, inl, inr, arith, if◌then◌else◌}
use Rattle.std.proofs.lemmas.Bool.Decides.{nat_tests}
use Rattle.std.specs.List.{list_any, list_all}
use Rattle.std.specs.Global.{Vec}
use Rattle.th_type.specs.declared.place.Failure.{Failure}
use Rattle.th_type.specs.declared.sig.Sig.{Sig}
use Rattle.th_type.specs.Lists.{IsIn, is_in, or_else, first_some}
use Rattle.th_type.specs.Types.{TypeExpr, TypeExprs, int_ty, bool_ty, text_ty, array_ty, named_ty, param_ty, list_of, same_tys}
use Rattle.th_type.specs.Signatures.{Signature, subst_sig, find_sig}
use Rattle.th_type.specs.Declarations.{WrittenSig, Declaration, DeclaredType, declared_type, declared_types, resolved, supers_of, sigs_of}
use Rattle.th_type.specs.Failures.{place, failure, lowest, unless, IsLeastOf}
use Rattle.th_type.specs.Subtypes.{Reached}
use Rattle.th_type.specs.Methods.{applied, method_up, method_at, GivesFits, IsParam, GivesParam, ResultIsParam, Conforms, SameSignature}
use Rattle.th_type.specs.Rules.{WellFormed, Misfits, Differs, FailsMethods, MethodsFail}
use Rattle.th_type.specs.Judged.{Ascended}
use Rattle.th_type.specs.Tables.{table_subtype}
use Rattle.th_type.specs.Conforming.{all_in, same_gives, same_bool, same_sig, is_param_ty}
use Rattle.th_type.specs.MethodTables.{Rising, methods_in, method_in, MethodsRight}
use Rattle.th_type.specs.Tests.{param_given, gives_param, param_at, is_fixed, gives_fit, conforms_test, fits_found, fits_type, fits_all, written_failures, agrees_found, agrees_sig, agrees_type, agrees_all, def_failures, all_failures}
use Rattle.th_type.proofs.Members.{in_map, from_map, in_left, in_right, from_append}
use Rattle.th_type.proofs.Same.{both, same_equal, same_self, sames_equal, sames_self}
use Rattle.th_type.proofs.Exact.{both_true, all_in_to, all_in_from, gives_to, gives_from, bool_to, bool_from, same_to, same_from}
use Rattle.th_type.proofs.Least.{least_alike, least_lowest}
use Rattle.th_type.proofs.Ascent.{table_decides}
use Rattle.th_type.proofs.Resolved.{well_formed_fits, decl_there, heads_among}
use Rattle.th_type.proofs.Ranks.{rank_less}
use Rattle.th_type.proofs.Filling.{find_written, find_supers, first_same, names_to}

param_ty_to : (t : TypeExpr) → is_param_ty t ≡ true → (k : ℕ) × (Some t ≡ Some (param_ty k))
param_ty_to int_ty h = cc
param_ty_to bool_ty h = cc
param_ty_to text_ty h = cc
param_ty_to (array_ty t) h = cc
param_ty_to (named_ty n args) h = cc
param_ty_to (param_ty k) h = (k, refl)

given_to : (o : Option TypeExpr) → param_given o ≡ true → IsParam o
given_to None h = cc
given_to (Some t) h = param_ty_to t h

given_from : (o : Option TypeExpr) → IsParam o → param_given o ≡ true
given_from o (k, e) = rw e refl

gives_param_to : (o : Option Signature) → gives_param o ≡ true → GivesParam o
gives_param_to None h = cc
gives_param_to (Some s) h = (s, refl, given_to s.gives h)

gives_param_from : (o : Option Signature) → GivesParam o → gives_param o ≡ true
gives_param_from o (s, e, p) = rw e (given_from s.gives p)

is_or : (a b : Bool) → (a || b) ≡ true → (a ≡ true) ⊎ (b ≡ true)
is_or true b h = inl refl
is_or false b h = inr h

or_left : (a b : Bool) → a ≡ true → (a || b) ≡ true
or_left true b h = refl
or_left false b h = cc

or_right : (a b : Bool) → b ≡ true → (a || b) ≡ true
or_right true b h = refl
or_right false b h = h

or_false : (a b : Bool) → (a || b) ≡ false → (a ≡ false) × (b ≡ false)
or_false true b h = cc
or_false false b h = (refl, h)

any_to : {A : Type 0} (f : A → Bool) (xs : List A) → list_any f xs ≡ true → (x : A) × IsIn x xs × (f x ≡ true)
any_to f [] h = cc
any_to f (x ∷ xs) h = elim (is_or (f x) (list_any f xs) h) [ inl e ↦ (x, inl refl, e) | inr e ↦ (let p = any_to f xs e in (p.0, inr p.1, p.2)) ]

any_from : {A : Type 0} (f : A → Bool) (xs : List A) (x : A) → IsIn x xs → f x ≡ true → list_any f xs ≡ true
any_from f [] x i h = absurd i
any_from f (y ∷ ys) x (inl e) h = or_left (f y) (list_any f ys) (ap f (sym e) ∙ h)
any_from f (y ∷ ys) x (inr i) h = or_right (f y) (list_any f ys) (any_from f ys x i h)

and_false : (a b : Bool) → (a && b) ≡ false → (a ≡ false) ⊎ (b ≡ false)
and_false true b h = inr h
and_false false b h = inl refl

all_false : {A : Type 0} (f : A → Bool) (xs : List A) → list_all f xs ≡ false → (x : A) × IsIn x xs × (f x ≡ false)
all_false f [] h = cc
all_false f (x ∷ xs) h = elim (and_false (f x) (list_all f xs) h) [ inl e ↦ (x, inl refl, e) | inr e ↦ (let p = all_false f xs e in (p.0, inr p.1, p.2)) ]

all_true : {A : Type 0} (f : A → Bool) (xs : List A) → list_all f xs ≡ true → (x : A) → IsIn x xs → f x ≡ true
all_true f [] h x i = absurd i
all_true f (y ∷ ys) h x (inl e) = ap f e ∙ (both (f y) (list_all f ys) h).0
all_true f (y ∷ ys) h x (inr i) = all_true f ys (both (f y) (list_all f ys) h).1 x i

param_at_to : (f : ℕ → ℕ → Option Signature) (m : ℕ) (t : TypeExpr) → param_at f m t ≡ true → (a : ℕ) × (args : TypeExprs) × (t ≡ named_ty a args) × GivesParam (f a m)
param_at_to f m int_ty h = cc
param_at_to f m bool_ty h = cc
param_at_to f m text_ty h = cc
param_at_to f m (array_ty t) h = cc
param_at_to f m (named_ty n args) h = (n, args, refl, gives_param_to (f n m) h)
param_at_to f m (param_ty k) h = cc

not_or_to : (a b : Bool) → (not a || b) ≡ true → a ≡ true → b ≡ true
not_or_to true b h e = h
not_or_to false b h e = cc

not_or_from : (a b : Bool) → (a ≡ true → b ≡ true) → (not a || b) ≡ true
not_or_from true b h = h refl
not_or_from false b h = refl

abbrev There : {A B : Type 0} → (A → Option B) → List A → Type 0
There {A} {B} g xs = (y : A) × (r : B) × IsIn y xs × (g y ≡ Some r) × (first_some g xs ≡ Some r)

there_if : {A B : Type 0} (g : A → Option B) (y : A) (ys : List A) (x : A) (s : B) (o : Option B) → g y ≡ o → (IsIn x ys → There g ys) → g x ≡ Some s → (x ≡ y) ⊎ IsIn x ys → There g (y ∷ ys)
there_if g y ys x s (Some r) e t h i = (y, r, inl refl, e, rw e refl)
there_if g y ys x s None e t h (inl q) = let z : g y ≡ Some s = ap g (sym q) ∙ h in absurd (cc)
there_if g y ys x s None e t h (inr j) = let p = t j in (p.0, p.1, inr p.2, p.3, rw e p.4)

first_there : {A B : Type 0} (g : A → Option B) (xs : List A) (x : A) (s : B) → IsIn x xs → g x ≡ Some s → There g xs
first_there g [] x s i h = absurd i
first_there g (y ∷ ys) x s i h = there_if g y ys x s (g y) refl (λ j. first_there g ys x s j h) h i

some_map : {A B : Type 0} (f : A → B) (o : Option A) (b : B) → option_map f o ≡ Some b → (a : A) × (o ≡ Some a) × (b ≡ f a)
some_map f None b h = cc
some_map f (Some a) b h = (a, refl, cc)

find_member_if : (s x : Signature) (xs : List Signature) (m : ℕ) (b : Bool) → nat_eq x.method m ≡ b → (find_sig xs m ≡ Some s → IsIn s xs × (s.method ≡ m)) → (if b then Some x else find_sig xs m) ≡ Some s → IsIn s (x ∷ xs) × (s.method ≡ m)
find_member_if s x xs m true e r h = let q : x ≡ s = cc in (inl (sym q), subst (λ (s : Signature). s.method ≡ m) q (grind (arith, nat_tests)))
find_member_if s x xs m false e r h = let p = r h in (inr p.0, p.1)

find_member : (s : Signature) (xs : List Signature) (m : ℕ) → find_sig xs m ≡ Some s → IsIn s xs × (s.method ≡ m)
find_member s [] m h = cc
find_member s (x ∷ xs) m h = find_member_if s x xs m (nat_eq x.method m) refl (find_member s xs m) h

member_find : (s : Signature) (xs : List Signature) → Rising xs → IsIn s xs → find_sig xs s.method ≡ Some s
member_find s [] r i = absurd i
member_find s (x ∷ xs) r (inl e) = subst (λ (s : Signature). find_sig (x ∷ xs) s.method ≡ Some s) (sym e) (self_found x xs) where
  self_found : (x : Signature) (xs : List Signature) → find_sig (x ∷ xs) x.method ≡ Some x
  self_found x xs = let h : nat_eq x.method x.method ≡ true = grind (arith, nat_tests) in rw h refl
member_find s (x ∷ xs) r (inr i) =
    let l = r.0 s i in
    let h : nat_eq x.method s.method ≡ false = grind (arith, nat_tests) in
    rw h (member_find s xs r.1 i)

not_written : (ws : List WrittenSig) (m : ℕ) → is_in m (map (λ w. w.sig.method) ws) ≡ false → find_sig (map (λ w. w.sig) ws) m ≡ None
not_written [] m h = refl
not_written (w ∷ ws) m h =
    let p = or_false (nat_eq m w.sig.method) (is_in m (map (λ w. w.sig.method) ws)) h in
    let e : nat_eq w.sig.method m ≡ false = (let q = p.0 in grind (arith, nat_tests)) in
    rw e (not_written ws m p.1)

not_written_if : (w : WrittenSig) (ws : List WrittenSig) (m : ℕ) (b : Bool) → nat_eq w.sig.method m ≡ b → (find_sig (map (λ w. w.sig) ws) m ≡ None → is_in m (map (λ w. w.sig.method) ws) ≡ false) → (if b then Some w.sig else find_sig (map (λ w. w.sig) ws) m) ≡ None → (nat_eq m w.sig.method || is_in m (map (λ w. w.sig.method) ws)) ≡ false
not_written_if w ws m true e r h = cc
not_written_if w ws m false e r h = let q : nat_eq m w.sig.method ≡ false = grind (arith, nat_tests) in rw q (r h)

written_not : (ws : List WrittenSig) (m : ℕ) → find_sig (map (λ w. w.sig) ws) m ≡ None → is_in m (map (λ w. w.sig.method) ws) ≡ false
written_not [] m h = refl
written_not (w ∷ ws) m h = not_written_if w ws m (nat_eq w.sig.method m) refl (written_not ws m) h

same_sym : (s t : Signature) → SameSignature s t → SameSignature t s
same_sym s t h = record { iterator = sym h.iterator; formals = sym h.formals; gives = sym h.gives; forth = h.back; back = h.forth }

same_trans : (s t u : Signature) → SameSignature s t → SameSignature t u → SameSignature s u
same_trans s t u a b = record { iterator = a.iterator ∙ b.iterator; formals = a.formals ∙ b.formals; gives = a.gives ∙ b.gives; forth = λ n i. b.forth n (a.forth n i); back = λ n i. a.back n (b.back n i) }

true_or_false : (b : Bool) → (b ≡ true) ⊎ (b ≡ false)
true_or_false true = inl refl
true_or_false false = inr refl

module _ (ds : List Declaration) (w : WellFormed ds) (up : ℕ → List TypeExpr) (a : Ascended ds up) (es : List (ℕ × Vec Sig)) (r : MethodsRight (declared_types ds) up es) where
  types : List DeclaredType
  types = declared_types ds

  fixed_to : (n m : ℕ) → is_fixed up (method_in es) n m ≡ true → ResultIsParam (declared_types ds) n m
  fixed_to n m h = elim (is_or (gives_param (method_in es n m)) (list_any (param_at (method_in es) m) (up n)) h) [
    | inl e ↦ inl (subst (λ o. GivesParam o) (r.finds n m) (gives_param_to (method_in es n m) e))
    | inr e ↦ (let p = any_to (param_at (method_in es) m) (up n) e in
        let q = param_at_to (method_in es) m p.0 p.2 in
        inr (q.0, q.1, subst (λ t. Reached (declared_types ds) n t) q.2 ((a.climbed n).sound p.0 p.1), subst (λ o. GivesParam o) (r.finds q.0 m) q.3))
  ]

  fixed_from : (n m : ℕ) → ResultIsParam (declared_types ds) n m → is_fixed up (method_in es) n m ≡ true
  fixed_from n m (inl g) = or_left (gives_param (method_in es n m)) (list_any (param_at (method_in es) m) (up n)) (gives_param_from (method_in es n m) (subst (λ o. GivesParam o) (sym (r.finds n m)) g))
  fixed_from n m (inr (b, args, q, g)) =
      or_right (gives_param (method_in es n m)) (list_any (param_at (method_in es) m) (up n))
      (any_from (param_at (method_in es) m) (up n) (named_ty b args) ((a.climbed n).all (named_ty b args) q) (gives_param_from (method_in es b m) (subst (λ o. GivesParam o) (sym (r.finds b m)) g)))

  fit_to : (it : Bool) (s t : Option TypeExpr) → gives_fit up it s t ≡ true → GivesFits (declared_types ds) it s t
  fit_to true None None h = refl
  fit_to true None (Some u) h = cc
  fit_to true (Some t) None h = cc
  fit_to true (Some t) (Some u) h = ap Some (same_equal t u h)
  fit_to false None None h = tt
  fit_to false None (Some u) h = cc
  fit_to false (Some t) None h = cc
  fit_to false (Some t) (Some u) h = (table_decides (declared_types ds) (well_formed_fits ds w) up a.climbed t u (table_subtype up t u) refl).0 h

  fit_from : (it : Bool) (s t : Option TypeExpr) → GivesFits (declared_types ds) it s t → gives_fit up it s t ≡ true
  fit_from true None t h = subst (λ t. gives_fit up true None t ≡ true) h refl
  fit_from true (Some s) t h = subst (λ t. gives_fit up true (Some s) t ≡ true) h (same_self s)
  fit_from false None None h = refl
  fit_from false None (Some u) h = absurd h
  fit_from false (Some t) None h = absurd h
  fit_from false (Some t) (Some u) h = (table_decides (declared_types ds) (well_formed_fits ds w) up a.climbed t u (table_subtype up t u) refl).1 h

  pub conforms_to : (n : ℕ) (s t : Signature) → conforms_test up (method_in es) n s t ≡ true → Conforms (declared_types ds) n s t
  conforms_to n s t h =
      let kept = not (is_fixed up (method_in es) n t.method) || same_gives s.gives t.gives in
      let p = both (same_bool s.iterator t.iterator) (same_tys s.formals t.formals && (all_in s.signals t.signals && (gives_fit up s.iterator s.gives t.gives && kept))) h in
      let q = both (same_tys s.formals t.formals) (all_in s.signals t.signals && (gives_fit up s.iterator s.gives t.gives && kept)) p.1 in
      let u = both (all_in s.signals t.signals) (gives_fit up s.iterator s.gives t.gives && kept) q.1 in
      let v = both (gives_fit up s.iterator s.gives t.gives) kept u.1 in
      record {
        iterator = bool_to s.iterator t.iterator p.0;
        formals = sames_equal s.formals t.formals q.0;
        gives = fit_to s.iterator s.gives t.gives v.0;
        fixed = λ g. gives_to s.gives t.gives (not_or_to (is_fixed up (method_in es) n t.method) (same_gives s.gives t.gives) v.1 (fixed_from n t.method g));
        signals = all_in_to s.signals t.signals u.0;
      }

  pub conforms_from : (n : ℕ) (s t : Signature) → Conforms (declared_types ds) n s t → conforms_test up (method_in es) n s t ≡ true
  conforms_from n s t c =
      let kept = not (is_fixed up (method_in es) n t.method) || same_gives s.gives t.gives in
      both_true (same_bool s.iterator t.iterator) (same_tys s.formals t.formals && (all_in s.signals t.signals && (gives_fit up s.iterator s.gives t.gives && kept))) (bool_from s.iterator t.iterator c.iterator)
      (both_true (same_tys s.formals t.formals) (all_in s.signals t.signals && (gives_fit up s.iterator s.gives t.gives && kept)) (subst (λ fs. same_tys s.formals fs ≡ true) c.formals (sames_self s.formals))
      (both_true (all_in s.signals t.signals) (gives_fit up s.iterator s.gives t.gives && kept) (all_in_from s.signals t.signals c.signals)
      (both_true (gives_fit up s.iterator s.gives t.gives) kept (fit_from s.iterator s.gives t.gives c.gives)
      (not_or_from (is_fixed up (method_in es) n t.method) (same_gives s.gives t.gives) (λ e. gives_from s.gives t.gives (c.fixed (fixed_to n t.method e)))))))

  at_is : (n m : ℕ) (args : TypeExprs) → method_at (declared_types ds) (named_ty n args) m ≡ option_map (subst_sig (list_of args)) (method_in es n m)
  at_is n m args = ap (option_map (subst_sig (list_of args))) (sym (r.finds n m))

  misfit_at : (ts : List TypeExpr) (s : Signature) (t : TypeExpr) → IsIn t ts → fits_type up (method_in es) s t ≡ false → Misfits (declared_types ds) ts s
  misfit_at ts s int_ty i h = cc
  misfit_at ts s bool_ty i h = cc
  misfit_at ts s text_ty i h = cc
  misfit_at ts s (array_ty t) i h = cc
  misfit_at ts s (param_ty k) i h = cc
  misfit_at ts s (named_ty n args) i h = by (option_map (subst_sig (list_of args)) (method_in es n s.method)) refl h where
    by : (o : Option Signature) → option_map (subst_sig (list_of args)) (method_in es n s.method) ≡ o → fits_found up (method_in es) n s o ≡ false → Misfits (declared_types ds) ts s
    by None e h = cc
    by (Some t) e h = (n, args, t, i, at_is n s.method args ∙ e, λ c. let z = conforms_from n s t c in cc)

  misfits_of : (ts : List TypeExpr) (s : Signature) → fits_all up (method_in es) s ts ≡ false → Misfits (declared_types ds) ts s
  misfits_of ts s h = let p = all_false (fits_type up (method_in es) s) ts h in misfit_at ts s p.0 p.1 p.2

  no_misfits : (ts : List TypeExpr) (s : Signature) → fits_all up (method_in es) s ts ≡ true → Misfits (declared_types ds) ts s → ⊥
  no_misfits ts s h (n, args, t, i, e, c) =
      let p = all_true (fits_type up (method_in es) s) ts h (named_ty n args) i in
      let o : option_map (subst_sig (list_of args)) (method_in es n s.method) ≡ Some t = sym (at_is n s.method args) ∙ e in
      let q : fits_found up (method_in es) n s (Some t) ≡ true = subst (λ o. fits_found up (method_in es) n s o ≡ true) o p in
      c (conforms_to n s t q)

  -- the method of a declared type: written, or that of the first supertype that has it
  method_fix : (d : Declaration) (m : ℕ) → IsIn d ds → method_in es d.name m ≡ or_else (find_sig (map (λ w. w.sig) d.methods) m) (first_some (applied (method_in es) m) (resolved d.supertypes))
  method_fix d m i =
      let there = decl_there d ds w.differ i in
      let k = length (up d.name) in
      let s : first_some (applied (method_up k (declared_types ds)) m) (supers_of (declared_types ds) d.name) ≡ first_some (applied (method_in es) m) (supers_of (declared_types ds) d.name) =
      first_same (applied (method_up k (declared_types ds)) m) (applied (method_in es) m) (supers_of (declared_types ds) d.name)
      (λ t j. let q = heads_among ds w d.name t j in
      let less = rank_less ds w up a d.name q.0 q.1 (names_to ds q.0 q.3) (subst (λ t. IsIn t (supers_of (declared_types ds) d.name)) q.2 j) in
      rw q.2 (ap (option_map (subst_sig (list_of q.1))) (sym (r.stable q.0 m k less)))) in
      r.stable d.name m (suc k) (omega arith)
      ∙ ap (or_else (find_sig (sigs_of (declared_types ds) d.name) m)) s
      ∙ ap (λ ss. or_else (find_sig ss m) (first_some (applied (method_in es) m) (supers_of (declared_types ds) d.name))) (find_written d.name d ds there)
      ∙ ap (λ ts. or_else (find_sig (map (λ w. w.sig) d.methods) m) (first_some (applied (method_in es) m) ts)) (find_supers d.name d ds there)

  inherited_is : (d : Declaration) (m : ℕ) → IsIn d ds → find_sig (map (λ w. w.sig) d.methods) m ≡ None → method_in es d.name m ≡ first_some (applied (method_in es) m) (resolved d.supertypes)
  inherited_is d m i e = method_fix d m i ∙ ap (λ o. or_else o (first_some (applied (method_in es) m) (resolved d.supertypes))) e

  applied_at : (t : TypeExpr) (m : ℕ) → method_at (declared_types ds) t m ≡ applied (method_in es) m t
  applied_at int_ty m = refl
  applied_at bool_ty m = refl
  applied_at text_ty m = refl
  applied_at (array_ty t) m = refl
  applied_at (named_ty n args) m = at_is n m args
  applied_at (param_ty k) m = refl

  differs_by : (d : Declaration) → IsIn d ds → (t : TypeExpr) → IsIn t (resolved d.supertypes) → (s : Signature) → applied (method_in es) s.method t ≡ Some s → agrees_sig (map (λ w. w.sig.method) d.methods) (method_in es d.name) s ≡ false → Differs (declared_types ds) (declared_type d)
  differs_by d i t j s e h =
      let p = or_false (is_in s.method (map (λ w. w.sig.method) d.methods)) (agrees_found (method_in es d.name s.method) s) h in
      let n = not_written d.methods s.method p.0 in
      let q = first_there (applied (method_in es) s.method) (resolved d.supertypes) t s j e in
      let o : method_in es d.name s.method ≡ Some q.1 = inherited_is d s.method i n ∙ q.4 in
      let g : same_sig q.1 s ≡ false = subst (λ o. agrees_found o s ≡ false) o p.1 in
      (s.method, q.0, t, q.1, s, n, q.2, j, applied_at q.0 s.method ∙ q.3, applied_at t s.method ∙ e, λ c. let z = same_from q.1 s c in cc)

  differs_at : (d : Declaration) → IsIn d ds → (t : TypeExpr) → IsIn t (resolved d.supertypes) → agrees_type es (map (λ w. w.sig.method) d.methods) (method_in es d.name) t ≡ false → Differs (declared_types ds) (declared_type d)
  differs_at d i int_ty j h = cc
  differs_at d i bool_ty j h = cc
  differs_at d i text_ty j h = cc
  differs_at d i (array_ty t) j h = cc
  differs_at d i (param_ty k) j h = cc
  differs_at d i (named_ty n args) j h =
      let p = all_false (agrees_sig (map (λ w. w.sig.method) d.methods) (method_in es d.name)) (map (subst_sig (list_of args)) (methods_in es n)) h in
      let q = from_map (subst_sig (list_of args)) p.0 (methods_in es n) p.1 in
      let f : method_in es n q.0.method ≡ Some q.0 = member_find q.0 (methods_in es n) (r.rising n) q.1 in
      let e : applied (method_in es) (subst_sig (list_of args) q.0).method (named_ty n args) ≡ Some (subst_sig (list_of args) q.0) = ap (option_map (subst_sig (list_of args))) f in
      differs_by d i (named_ty n args) j (subst_sig (list_of args) q.0) e (ap (agrees_sig (map (λ w. w.sig.method) d.methods) (method_in es d.name)) (sym q.2) ∙ p.2)

  differs_of : (d : Declaration) → IsIn d ds → agrees_all es (map (λ w. w.sig.method) d.methods) (method_in es d.name) (resolved d.supertypes) ≡ false → Differs (declared_types ds) (declared_type d)
  differs_of d i h = let p = all_false (agrees_type es (map (λ w. w.sig.method) d.methods) (method_in es d.name)) (resolved d.supertypes) h in differs_at d i p.0 p.1 p.2

  agrees_at : (d : Declaration) (m : ℕ) (q s : Signature) (t : TypeExpr) → IsIn t (resolved d.supertypes) → agrees_all es (map (λ w. w.sig.method) d.methods) (method_in es d.name) (resolved d.supertypes) ≡ true → is_in m (map (λ w. w.sig.method) d.methods) ≡ false → method_in es d.name m ≡ Some q → applied (method_in es) m t ≡ Some s → SameSignature q s
  agrees_at d m q s t j h n o e = by t (all_true (agrees_type es (map (λ w. w.sig.method) d.methods) (method_in es d.name)) (resolved d.supertypes) h t j) e where
    by : (t : TypeExpr) → agrees_type es (map (λ w. w.sig.method) d.methods) (method_in es d.name) t ≡ true → applied (method_in es) m t ≡ Some s → SameSignature q s
    by int_ty g e = cc
    by bool_ty g e = cc
    by text_ty g e = cc
    by (array_ty t) g e = cc
    by (param_ty k) g e = cc
    by (named_ty k args) g e =
        let x = some_map (subst_sig (list_of args)) (method_in es k m) s e in
        let y = find_member x.0 (methods_in es k) m x.1 in
        let z = all_true (agrees_sig (map (λ w. w.sig.method) d.methods) (method_in es d.name)) (map (subst_sig (list_of args)) (methods_in es k)) g (subst_sig (list_of args) x.0) (in_map (subst_sig (list_of args)) x.0 (methods_in es k) y.0) in
        let v : (is_in m (map (λ w. w.sig.method) d.methods) || agrees_found (method_in es d.name m) (subst_sig (list_of args) x.0)) ≡ true = subst (λ k. (is_in k (map (λ w. w.sig.method) d.methods) || agrees_found (method_in es d.name k) (subst_sig (list_of args) x.0)) ≡ true) y.1 z in
        let u : agrees_found (method_in es d.name m) (subst_sig (list_of args) x.0) ≡ true = subst (λ b. (b || agrees_found (method_in es d.name m) (subst_sig (list_of args) x.0)) ≡ true) n v in
        let c : same_sig q (subst_sig (list_of args) x.0) ≡ true = subst (λ o. agrees_found o (subst_sig (list_of args) x.0) ≡ true) o u in
        subst (λ s. SameSignature q s) (sym x.2) (same_to q (subst_sig (list_of args) x.0) c)

  no_differs : (d : Declaration) → IsIn d ds → agrees_all es (map (λ w. w.sig.method) d.methods) (method_in es d.name) (resolved d.supertypes) ≡ true → Differs (declared_types ds) (declared_type d) → ⊥
  no_differs d i h (m, t, u, s, v, n, j, k, e, f, c) =
      let et : applied (method_in es) m t ≡ Some s = sym (applied_at t m) ∙ e in
      let eu : applied (method_in es) m u ≡ Some v = sym (applied_at u m) ∙ f in
      let q = first_there (applied (method_in es) m) (resolved d.supertypes) t s j et in
      let o : method_in es d.name m ≡ Some q.1 = inherited_is d m i n ∙ q.4 in
      let z = written_not d.methods m n in
      c (same_trans s q.1 v (same_sym q.1 s (agrees_at d m q.1 s t j h z o et)) (agrees_at d m q.1 v u k h z o eu))

  written_to : (d : Declaration) (ws : List WrittenSig) (g : Failure) → IsIn g (written_failures up (method_in es) d ws) → (x : WrittenSig) × IsIn x ws × Misfits (declared_types ds) (resolved d.supertypes) x.sig × (g ≡ failure 8 (place d.place.text x.at))
  written_to d [] g i = absurd i
  written_to d (x ∷ xs) g i = elim (from_append g (unless (fits_all up (method_in es) x.sig (resolved d.supertypes)) 8 (place d.place.text x.at)) (written_failures up (method_in es) d xs) i) [
    | inl j ↦ by (fits_all up (method_in es) x.sig (resolved d.supertypes)) refl j
    | inr j ↦ (let p = written_to d xs g j in (p.0, inr p.1, p.2, p.3))
  ] where
    by : (b : Bool) → fits_all up (method_in es) x.sig (resolved d.supertypes) ≡ b → IsIn g (unless b 8 (place d.place.text x.at)) → (y : WrittenSig) × IsIn y (x ∷ xs) × Misfits (declared_types ds) (resolved d.supertypes) y.sig × (g ≡ failure 8 (place d.place.text y.at))
    by true e j = absurd j
    by false e (inl q) = (x, inl refl, misfits_of (resolved d.supertypes) x.sig e, q)
    by false e (inr z) = absurd z

  written_from : (d : Declaration) (ws : List WrittenSig) (g : Failure) (x : WrittenSig) → IsIn x ws → Misfits (declared_types ds) (resolved d.supertypes) x.sig → g ≡ failure 8 (place d.place.text x.at) → IsIn g (written_failures up (method_in es) d ws)
  written_from d [] g x i m e = absurd i
  written_from d (y ∷ ys) g x (inl q) m e = in_left g (unless (fits_all up (method_in es) y.sig (resolved d.supertypes)) 8 (place d.place.text y.at)) (written_failures up (method_in es) d ys) (by (fits_all up (method_in es) y.sig (resolved d.supertypes)) refl) where
    m2 : Misfits (declared_types ds) (resolved d.supertypes) y.sig
    m2 = subst (λ (x : WrittenSig). Misfits (declared_types ds) (resolved d.supertypes) x.sig) q m

    e2 : g ≡ failure 8 (place d.place.text y.at)
    e2 = subst (λ (x : WrittenSig). g ≡ failure 8 (place d.place.text x.at)) q e

    by : (b : Bool) → fits_all up (method_in es) y.sig (resolved d.supertypes) ≡ b → IsIn g (unless b 8 (place d.place.text y.at))
    by true h = absurd (no_misfits (resolved d.supertypes) y.sig h m2)
    by false h = inl e2
  written_from d (y ∷ ys) g x (inr j) m e = in_right g (unless (fits_all up (method_in es) y.sig (resolved d.supertypes)) 8 (place d.place.text y.at)) (written_failures up (method_in es) d ys) (written_from d ys g x j m e)

  def_to : (d : Declaration) → IsIn d ds → (g : Failure) → IsIn g (def_failures up es d) → FailsMethods (declared_types ds) d g
  def_to d i g j = elim (from_append g (written_failures up (method_in es) d d.methods) (unless (agrees_all es (map (λ w. w.sig.method) d.methods) (method_in es d.name) (resolved d.supertypes)) 8 d.place) j) [
    | inl k ↦ inl (written_to d d.methods g k)
    | inr k ↦ inr (by (agrees_all es (map (λ w. w.sig.method) d.methods) (method_in es d.name) (resolved d.supertypes)) refl k)
  ] where
    by : (b : Bool) → agrees_all es (map (λ w. w.sig.method) d.methods) (method_in es d.name) (resolved d.supertypes) ≡ b → IsIn g (unless b 8 d.place) → Differs (declared_types ds) (declared_type d) × (g ≡ failure 8 d.place)
    by true e j = absurd j
    by false e (inl q) = (differs_of d i e, q)
    by false e (inr z) = absurd z

  def_from : (d : Declaration) → IsIn d ds → (g : Failure) → FailsMethods (declared_types ds) d g → IsIn g (def_failures up es d)
  def_from d i g (inl (x, j, m, e)) = in_left g (written_failures up (method_in es) d d.methods) (unless (agrees_all es (map (λ w. w.sig.method) d.methods) (method_in es d.name) (resolved d.supertypes)) 8 d.place) (written_from d d.methods g x j m e)
  def_from d i g (inr (f, e)) = in_right g (written_failures up (method_in es) d d.methods) (unless (agrees_all es (map (λ w. w.sig.method) d.methods) (method_in es d.name) (resolved d.supertypes)) 8 d.place) (by (agrees_all es (map (λ w. w.sig.method) d.methods) (method_in es d.name) (resolved d.supertypes)) refl) where
    by : (b : Bool) → agrees_all es (map (λ w. w.sig.method) d.methods) (method_in es d.name) (resolved d.supertypes) ≡ b → IsIn g (unless b 8 d.place)
    by true h = absurd (no_differs d i h f)
    by false h = inl e

  all_to : (ps : List Declaration) → ((d : Declaration) → IsIn d ps → IsIn d ds) → (g : Failure) → IsIn g (all_failures up es ps) → (d : Declaration) × IsIn d ps × FailsMethods (declared_types ds) d g
  all_to [] h g i = absurd i
  all_to (p ∷ ps) h g i = elim (from_append g (def_failures up es p) (all_failures up es ps) i) [
    | inl j ↦ (p, inl refl, def_to p (h p (inl refl)) g j)
    | inr j ↦ (let q = all_to ps (λ d k. h d (inr k)) g j in (q.0, inr q.1, q.2))
  ]

  all_from : (ps : List Declaration) → ((d : Declaration) → IsIn d ps → IsIn d ds) → (g : Failure) (d : Declaration) → IsIn d ps → FailsMethods (declared_types ds) d g → IsIn g (all_failures up es ps)
  all_from [] h g d i f = absurd i
  all_from (p ∷ ps) h g d (inl e) f = in_left g (def_failures up es p) (all_failures up es ps) (subst (λ d. IsIn g (def_failures up es d)) e (def_from d (h d (inl e)) g f))
  all_from (p ∷ ps) h g d (inr i) f = in_right g (def_failures up es p) (all_failures up es ps) (all_from ps (λ e k. h e (inr k)) g d i f)

  -- what is found is the least failure of the rule on inherited methods
  pub methods_least : (found : Option Failure) → found ≡ lowest None (all_failures up es ds) → IsLeastOf (MethodsFail ds) found
  methods_least found e =
      subst (λ o. IsLeastOf (MethodsFail ds) o) (sym e)
      (least_alike (λ g. ⊥ ⊎ IsIn g (all_failures up es ds)) (MethodsFail ds) (lowest None (all_failures up es ds))
      (λ g q. elim q [ inl z ↦ absurd z | inr i ↦ all_to ds (λ d k. k) g i ])
      (λ g f. inr (all_from ds (λ d k. k) g f.0 f.1 f.2))
      (least_lowest (λ g. ⊥) None (all_failures up es ds) (λ g z. z)))
