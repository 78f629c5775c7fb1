-- The tests for equal parts decide.
use Rattle.std.proofs.Common.{◌≡◌, ◌↔◌, ◌∙◌, ℕ, Bool, true, nat_eq, ◌&&◌, not, List, [], ◌∷◌, Option, Some, refl, ap, sym, subst, arith, IsTrue, true≢false, eq-eqb}
use Rattle.std.proofs.lemmas.Bool.Decides.{nat_tests}
use Rattle.th_type.specs.Types.{TypeExpr, TypeExprs, same_ty, same_tys}
use Rattle.th_type.specs.Signatures.{Signature, Constraint}
use Rattle.th_type.specs.Conforming.{same_bool, same_gives}
use Rattle.th_type.proofs.Same.{both, same_equal, same_self, sames_equal, sames_self}
use Rattle.th_type.proofs.Exact.{bool_from, bool_to, both_true, gives_from, gives_to}
use Rattle.th_rules.specs.Context.{ClassInfo, Head, Item, RoutineInfo, class_head, find_item, routine_head}
use Rattle.th_module_rules.specs.ClassRules.{SameClass, SameHead}
use Rattle.th_module_rules.specs.Modules.{Judged, Redefined}
use Rattle.th_module_rules.specs.Own.{implemented}
use Rattle.th_overrides.proofs.Deciding.{not_decides}
use Rattle.th_overrides.specs.Same.{equal_classes, equal_clauses, equal_routines, equal_sigs, same_lists}

numbers_to : (n m : ℕ) → nat_eq n m ≡ true → n ≡ m
numbers_to n m h = grind (arith, nat_tests)

-- a test that decides whether two are equal
pub record Equals {A : Type 0} (same : A → A → Bool) : Type 0 where
  pub to : (a b : A) → same a b ≡ true → a ≡ b
  pub self : (a : A) → same a a ≡ true

numbers_equal : Equals nat_eq
numbers_equal = record { to = numbers_to; self = λ n. eq-eqb n n refl }

lists_to : {A : Type 0} (same : A → A → Bool) → Equals same → (xs ys : List A) → same_lists same xs ys ≡ true → xs ≡ ys
lists_to same e [] [] h = refl
lists_to same e [] (y ∷ ys) h = absurd (true≢false (sym h))
lists_to same e (x ∷ xs) [] h = absurd (true≢false (sym h))
lists_to {A} same e (x ∷ xs) (y ∷ ys) h =
    let p = both (same x y) (same_lists same xs ys) h in
    ap (λ (z : A). z ∷ xs) (e.to x y p.0) ∙ ap (λ (zs : List A). y ∷ zs) (lists_to same e xs ys p.1)

lists_self : {A : Type 0} (same : A → A → Bool) → Equals same → (xs : List A) → same_lists same xs xs ≡ true
lists_self same e [] = refl
lists_self same e (x ∷ xs) = both_true (same x x) (same_lists same xs xs) (e.self x) (lists_self same e xs)

lists_equal : {A : Type 0} (same : A → A → Bool) → Equals same → Equals (same_lists same)
lists_equal same e = record { to = lists_to same e; self = lists_self same e }

abbrev sig_by : ℕ → Bool → TypeExprs → Option TypeExpr → List ℕ → Signature
sig_by m i f g x = record { method = m; iterator = i; formals = f; gives = g; signals = x }

sigs_to : (s t : Signature) → equal_sigs s t ≡ true → s ≡ t
sigs_to s t h =
    let p = both (nat_eq s.method t.method) (same_bool s.iterator t.iterator && (same_tys s.formals t.formals && (same_gives s.gives t.gives && same_lists nat_eq s.signals t.signals))) h in
    let q = both (same_bool s.iterator t.iterator) (same_tys s.formals t.formals && (same_gives s.gives t.gives && same_lists nat_eq s.signals t.signals)) p.1 in
    let u = both (same_tys s.formals t.formals) (same_gives s.gives t.gives && same_lists nat_eq s.signals t.signals) q.1 in
    let v = both (same_gives s.gives t.gives) (same_lists nat_eq s.signals t.signals) u.1 in
    ap (λ m. sig_by m s.iterator s.formals s.gives s.signals) (numbers_to s.method t.method p.0)
    ∙ ap (λ i. sig_by t.method i s.formals s.gives s.signals) (bool_to s.iterator t.iterator q.0)
    ∙ ap (λ f. sig_by t.method t.iterator f s.gives s.signals) (sames_equal s.formals t.formals u.0)
    ∙ ap (λ g. sig_by t.method t.iterator t.formals g s.signals) (gives_to s.gives t.gives v.0)
    ∙ ap (λ x. sig_by t.method t.iterator t.formals t.gives x) (lists_to nat_eq numbers_equal s.signals t.signals v.1)

sigs_self : (s : Signature) → equal_sigs s s ≡ true
sigs_self s =
    both_true (nat_eq s.method s.method) (same_bool s.iterator s.iterator && (same_tys s.formals s.formals && (same_gives s.gives s.gives && same_lists nat_eq s.signals s.signals))) (eq-eqb s.method s.method refl)
    (both_true (same_bool s.iterator s.iterator) (same_tys s.formals s.formals && (same_gives s.gives s.gives && same_lists nat_eq s.signals s.signals)) (bool_from s.iterator s.iterator refl)
    (both_true (same_tys s.formals s.formals) (same_gives s.gives s.gives && same_lists nat_eq s.signals s.signals) (sames_self s.formals)
    (both_true (same_gives s.gives s.gives) (same_lists nat_eq s.signals s.signals) (gives_from s.gives s.gives refl) (lists_self nat_eq numbers_equal s.signals))))

sigs_equal : Equals equal_sigs
sigs_equal = record { to = sigs_to; self = sigs_self }

abbrev clause_by : ℕ → Signature → Constraint
clause_by k s = record { param = k; sig = s }

clauses_to : (c d : Constraint) → equal_clauses c d ≡ true → c ≡ d
clauses_to c d h =
    let p = both (nat_eq c.param d.param) (equal_sigs c.sig d.sig) h in
    ap (λ k. clause_by k c.sig) (numbers_to c.param d.param p.0) ∙ ap (clause_by d.param) (sigs_to c.sig d.sig p.1)

clauses_equal : Equals equal_clauses
clauses_equal = record { to = clauses_to; self = λ c. both_true (nat_eq c.param c.param) (equal_sigs c.sig c.sig) (eq-eqb c.param c.param refl) (sigs_self c.sig) }

abbrev routine_by : ℕ → Signature → List Constraint → RoutineInfo
routine_by k s cs = record { params = k; sig = s; clauses = cs }

routines_to : (r s : RoutineInfo) → equal_routines r s ≡ true → r ≡ s
routines_to r s h =
    let p = both (nat_eq r.params s.params) (equal_sigs r.sig s.sig && same_lists equal_clauses r.clauses s.clauses) h in
    let q = both (equal_sigs r.sig s.sig) (same_lists equal_clauses r.clauses s.clauses) p.1 in
    ap (λ k. routine_by k r.sig r.clauses) (numbers_to r.params s.params p.0) ∙ ap (λ x. routine_by s.params x r.clauses) (sigs_to r.sig s.sig q.0)
    ∙ ap (λ cs. routine_by s.params s.sig cs) (lists_to equal_clauses clauses_equal r.clauses s.clauses q.1)

routines_self : (r : RoutineInfo) → equal_routines r r ≡ true
routines_self r =
    both_true (nat_eq r.params r.params) (equal_sigs r.sig r.sig && same_lists equal_clauses r.clauses r.clauses) (eq-eqb r.params r.params refl)
    (both_true (equal_sigs r.sig r.sig) (same_lists equal_clauses r.clauses r.clauses) (sigs_self r.sig) (lists_self equal_clauses clauses_equal r.clauses))

pub routine_decides : (r s : RoutineInfo) (b : Bool) → b ≡ equal_routines r s → IsTrue b ↔ SameHead (routine_head r) (routine_head s)
routine_decides r s b e = (λ h. routines_to r s (sym e ∙ h), λ h. e ∙ subst (λ (x : RoutineInfo). equal_routines r x ≡ true) h (routines_self r))

classes_to : (c d : ClassInfo) → equal_classes c d ≡ true → SameClass c d
classes_to c d h =
    let p = both (nat_eq c.params d.params) (same_ty c.of d.of && (same_gives c.inherits d.inherits && (same_lists equal_clauses c.clauses d.clauses && (equal_sigs c.init d.init && same_lists equal_sigs c.hidden d.hidden)))) h in
    let q = both (same_ty c.of d.of) (same_gives c.inherits d.inherits && (same_lists equal_clauses c.clauses d.clauses && (equal_sigs c.init d.init && same_lists equal_sigs c.hidden d.hidden))) p.1 in
    let u = both (same_gives c.inherits d.inherits) (same_lists equal_clauses c.clauses d.clauses && (equal_sigs c.init d.init && same_lists equal_sigs c.hidden d.hidden)) q.1 in
    let v = both (same_lists equal_clauses c.clauses d.clauses) (equal_sigs c.init d.init && same_lists equal_sigs c.hidden d.hidden) u.1 in
    let w = both (equal_sigs c.init d.init) (same_lists equal_sigs c.hidden d.hidden) v.1 in
    record {
      params = numbers_to c.params d.params p.0;
      of = same_equal c.of d.of q.0;
      inherits = gives_to c.inherits d.inherits u.0;
      clauses = lists_to equal_clauses clauses_equal c.clauses d.clauses v.0;
      init = sigs_to c.init d.init w.0;
      hidden = lists_to equal_sigs sigs_equal c.hidden d.hidden w.1;
    }

classes_from : (c d : ClassInfo) → SameClass c d → equal_classes c d ≡ true
classes_from c d s =
    both_true (nat_eq c.params d.params) (same_ty c.of d.of && (same_gives c.inherits d.inherits && (same_lists equal_clauses c.clauses d.clauses && (equal_sigs c.init d.init && same_lists equal_sigs c.hidden d.hidden)))) (eq-eqb c.params d.params s.params)
    (both_true (same_ty c.of d.of) (same_gives c.inherits d.inherits && (same_lists equal_clauses c.clauses d.clauses && (equal_sigs c.init d.init && same_lists equal_sigs c.hidden d.hidden))) (subst (λ (t : TypeExpr). same_ty c.of t ≡ true) s.of (same_self c.of))
    (both_true (same_gives c.inherits d.inherits) (same_lists equal_clauses c.clauses d.clauses && (equal_sigs c.init d.init && same_lists equal_sigs c.hidden d.hidden)) (gives_from c.inherits d.inherits s.inherits)
    (both_true (same_lists equal_clauses c.clauses d.clauses) (equal_sigs c.init d.init && same_lists equal_sigs c.hidden d.hidden) (subst (λ (cs : List Constraint). same_lists equal_clauses c.clauses cs ≡ true) s.clauses (lists_self equal_clauses clauses_equal c.clauses))
    (both_true (equal_sigs c.init d.init) (same_lists equal_sigs c.hidden d.hidden) (subst (λ (t : Signature). equal_sigs c.init t ≡ true) s.init (sigs_self c.init))
    (subst (λ (ss : List Signature). same_lists equal_sigs c.hidden ss ≡ true) s.hidden (lists_self equal_sigs sigs_equal c.hidden))))))

pub class_decides : (c d : ClassInfo) (b : Bool) → b ≡ equal_classes c d → IsTrue b ↔ SameHead (class_head c) (class_head d)
class_decides c d b e = (λ h. classes_to c d (sym e ∙ h), λ h. e ∙ classes_from c d h)

some_is : {A : Type 0} (a b : A) → Some a ≡ Some b → a ≡ b
some_is a b h = cc

-- the definition of an item differs from its declaration
pub redefined : (J : Judged) (is : List Item) (implements : Option ℕ) (i name : ℕ) (h : Head) (d : Item) (r : Bool) → J.items ≡ is → implemented J.tree ≡ implements → implements ≡ Some i → Some d ≡ find_item is (Some i) name
    → IsTrue r ↔ SameHead h d.head → IsTrue (not r) ↔ Redefined J name h
redefined J is implements i name h d r items impl e at dec =
    not_decides r dec (λ n. (i, d, impl ∙ e, ap (λ (xs : List Item). find_item xs (Some i) name) items ∙ sym at, n)) back
  where
    back : Redefined J name h → SameHead h d.head → ⊥
    back (j, x, a, b, n) s =
        let same : i ≡ j = some_is i j (sym e ∙ sym impl ∙ a) in
        let found : d ≡ x = some_is d x (at ∙ ap (λ (k : ℕ). find_item is (Some k) name) same ∙ ap (λ (xs : List Item). find_item xs (Some j) name) (sym items) ∙ b) in
        n (subst (λ (y : Item). SameHead h y.head) found s)
