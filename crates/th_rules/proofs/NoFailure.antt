-- An expression has a type exactly where it has no failure.
use Rattle.std.proofs.Common.{◌≡◌, ℕ, Bool, true, false, ◌&&◌, ◌||◌, not, List, [], ◌∷◌, ◌++◌, Option, Some, None, is_some, option_map, refl, sym, ap, if◌then◌else◌, nat_eq, ◌∙◌}
use Rattle.std.specs.Prelude.{position}
use Rattle.th_type.specs.Lists.{or_else}
use Rattle.th_hier.specs.Naming.{has, is_number}
use Rattle.th_rules.specs.Cores.{name_at}
use Rattle.th_tree.specs.declared.tree.BinaryOp.{BinaryOp}
use Rattle.th_tree.specs.declared.tree.RefTree.{RefTree}
use Rattle.th_tree.specs.declared.tree.Ident.{Ident}
use Rattle.th_tree.specs.Trees.{TypeSyn, int_type, bool_type, text_type, array_type, named_type, TypeSyns, no_type, more_types, NamedSyn, ExprSyn, number_expr, text_expr, true_expr, false_expr, self_expr, super_expr, item_expr, call_expr, new_expr, new_array_expr, get_byte_expr, field_expr, method_expr, length_expr, element_expr, not_expr, negative_expr, binary_expr, ExprSyns, no_expr, more_exprs}
use Rattle.th_type.specs.declared.place.Place.{Place}
use Rattle.th_type.specs.declared.place.Failure.{Failure}
use Rattle.th_type.specs.Failures.{place, unless, none_of}
use Rattle.th_type.specs.Types.{TypeExpr, int_ty, bool_ty, text_ty, array_ty, named_ty, param_ty, TypeExprs, no_ty, more_ty, list_of, subst_ty, subst_tys, same_ty}
use Rattle.th_type.specs.Signatures.{Signature, subst_sig}
use Rattle.th_hier.specs.declared.item.Sort.{Sort}
use Rattle.th_hier.specs.declared.item.Sort.TheVariants as sorts
use Rattle.th_hier.specs.declared.item.Entry.{Entry}
use Rattle.th_hier.specs.declared.item.Referent.{Referent}
use Rattle.th_hier.specs.declared.item.Referent.TheVariants as referents
use Rattle.th_hier.specs.Resolve.{count, sort_fails, sort_type, type_name_fails, referent_type, array_of, before_types}
use Rattle.th_meaning.specs.Trees.{SupplyTree, ExprTree, ExprTrees, CallTree}
use Rattle.th_meaning.specs.Trees as core
use Rattle.th_rules.specs.Context.{Binding, RoutineInfo, ClassInfo, Head, exception_head, type_head, class_head, routine_head, Item, Context, Meaning, no_meaning, local_meaning, param_meaning, item_meaning, meaning, find_item, implemented_item, named_meaning, item_or_none, param_or, local_or, referent, find_binding}
use Rattle.th_rules.specs.Resolving.{ClassUse, resolved_type, resolved_types, type_fails, types_fails, resolved_class, class_fails, class_name_fails, class_item_fails, meant_use, item_use, use_with, ref_place}
use Rattle.th_rules.specs.Classes.{is_subtype, own_class, own_name, field_in}
use Rattle.th_rules.specs.Callees.{Checked, checked, checked_opt, Given, untyped, misfit, fitting, fits, given, given_as, given_opt, given_all, cast_to, surplus, joined, Callee, Called, call_with, call_given, call_tree, value_of, Wish, as_value, as_procedure, as_iterator, as_call, meets, meets_opt, wished, callee_sig, args_ok, Named, no_callee, local_callee, routine_callee, routine_target, fitted, item_callee, named, instance, instance_of, instance_with, instance_sig, instance_supplies, instance_callee, is_supplied, supplied, Instance, receiver_callee, has_method, super_callee, init_sig, class_supplied, class_supplies}
use Rattle.th_rules.specs.Typing.{is_int, is_bool, is_text, is_array, takes, binary, binary_tree, result_type, one, element, element_at, length_of, length_at, new_array, filled, plain_name, local_checked, self_in, is_self, field_of, field_checked, made, new_object, typed, typed_all, typed_call}
use Rattle.th_rules.specs.Failing.{start, ok_one, ok_two, is_indexed, indexes, plain_fails, name_fails, routine_fails, callee_fails, method_fails, super_fails, new_fails, fails, args_fail, call_fails}
use Rattle.th_rules.specs.AllTyped.{AllTyped}

pub none_append : (xs ys : List Failure) → none_of (xs ++ ys) ≡ none_of xs && none_of ys
none_append [] ys = refl
none_append (x ∷ xs) ys = refl

pub none_unless : (b : Bool) (r : ℕ) (p : Place) → none_of (unless b r p) ≡ b
none_unless true r p = refl
none_unless false r p = refl

pub and_true : (b : Bool) → b && true ≡ b
and_true true = refl
and_true false = refl

pub and_false : (b : Bool) → b && false ≡ false
and_false true = refl
and_false false = refl

pub some_if : {A : Type 0} (b : Bool) (x : A) → is_some (if b then Some x else None) ≡ b
some_if true x = refl
some_if false x = refl

sort_law : (s : Sort) (full n : ℕ) (ts : TypeExprs) (p : Place) → none_of (sort_fails s n p) ≡ is_some (sort_type s full n ts)
sort_law sorts.Exception full n ts p = refl
sort_law (sorts.Declared k) full n ts p = none_unless (nat_eq n k) 5 p ∙ sym (some_if (nat_eq n k) (named_ty full ts))
sort_law (sorts.Class k) full n ts p = refl
sort_law (sorts.Routine k) full n ts p = refl
sort_law (sorts.Iterator k) full n ts p = refl

name_law : (r : Referent) (n : ℕ) (ts : TypeExprs) (p : Place) → none_of (type_name_fails r n p) ≡ is_some (referent_type r n (Some ts))
name_law referents.Nothing n ts p = refl
name_law (referents.Param k) n ts p = none_unless (nat_eq n 0) 5 p ∙ sym (some_if (nat_eq n 0) (param_ty k))
name_law (referents.Item e) n ts p = sort_law e.sort e.full n ts p

named_law : (r : Referent) (n : ℕ) (o : Option TypeExprs) (p : Place) (fs : List Failure) → none_of fs ≡ is_some o → none_of (type_name_fails r n p ++ fs) ≡ is_some (referent_type r n o)
named_law r n None p fs h = rw (none_append, h) (and_false (none_of (type_name_fails r n p)))
named_law r n (Some ts) p fs h = rw (none_append, h, and_true) (name_law r n ts p)

array_law : (o : Option TypeExpr) → is_some o ≡ is_some (array_of o)
array_law None = refl
array_law (Some t) = refl

before_law : (o : Option TypeExpr) (os : Option TypeExprs) (fs gs : List Failure) → none_of fs ≡ is_some o → none_of gs ≡ is_some os → none_of (fs ++ gs) ≡ is_some (before_types o os)
before_law None os fs gs h k = rw (none_append, h) refl
before_law (Some t) None fs gs h k = rw (none_append, h, k) refl
before_law (Some t) (Some ts) fs gs h k = rw (none_append, h, k) refl

-- a type resolves exactly where it has no failure
mutual
  pub type_law : (C : Context) (ls : List Binding) (t : TypeSyn) → none_of (type_fails C ls t) ≡ is_some (resolved_type C ls t)
  type_law C ls (int_type at) = refl
  type_law C ls (bool_type at) = refl
  type_law C ls (text_type at) = refl
  type_law C ls (array_type at t) = type_law C ls t ∙ array_law (resolved_type C ls t)
  type_law C ls (named_type r ts) = named_law (referent (meaning C ls r)) (count ts) (resolved_types C ls ts) (ref_place C r) (types_fails C ls ts) (types_law C ls ts)

  pub types_law : (C : Context) (ls : List Binding) (ts : TypeSyns) → none_of (types_fails C ls ts) ≡ is_some (resolved_types C ls ts)
  types_law C ls no_type = refl
  types_law C ls (more_types t ts) = before_law (resolved_type C ls t) (resolved_types C ls ts) (type_fails C ls t) (types_fails C ls ts) (type_law C ls t) (types_law C ls ts)

head_law : (full n : ℕ) (h : Head) (ts : TypeExprs) (p : Place) → none_of (class_item_fails h n p) ≡ is_some (item_use full h n ts)
head_law full n (exception_head t) ts p = refl
head_law full n (type_head k) ts p = refl
head_law full n (class_head c) ts p = none_unless (nat_eq n c.params) 5 p ∙ sym (some_if (nat_eq n c.params) (record { full = full; class = c; args = ts }))
head_law full n (routine_head r) ts p = refl

class_name_law : (m : Meaning) (n : ℕ) (ts : TypeExprs) (p : Place) → none_of (class_name_fails m n p) ≡ is_some (meant_use m n (Some ts))
class_name_law no_meaning n ts p = refl
class_name_law (local_meaning b) n ts p = refl
class_name_law (param_meaning k) n ts p = refl
class_name_law (item_meaning i) n ts p = head_law i.full n i.head ts p

class_use_law : (m : Meaning) (n : ℕ) (o : Option TypeExprs) (p : Place) (fs : List Failure) → none_of fs ≡ is_some o → none_of (class_name_fails m n p ++ fs) ≡ is_some (meant_use m n o)
class_use_law m n None p fs h = rw (none_append, h) (and_false (none_of (class_name_fails m n p)))
class_use_law m n (Some ts) p fs h = rw (none_append, h, and_true) (class_name_law m n ts p)

-- a class resolves exactly where it has no failure
pub class_law : (C : Context) (ls : List Binding) (c : NamedSyn) → none_of (class_fails C ls c) ≡ is_some (resolved_class C ls c)
class_law C ls c = class_use_law (meaning C ls c.item) (count c.args) (resolved_types C ls c.args) (ref_place C c.item) (types_fails C ls c.args) (types_law C ls c.args)

one_law : (p : TypeExpr → Bool) (f : ExprTree → ExprTree) (t : TypeExpr) (a : Option Checked) (fa : List Failure) (r : ℕ) (q : Place) → none_of fa ≡ is_some a → none_of (fa ++ unless (ok_one p a) r q) ≡ is_some (one p f t a)
one_law p f t None fa r q h = rw (none_append, h) refl
one_law p f t (Some a) fa r q h = rw (none_append, h) (none_unless (p a.of) r q ∙ sym (some_if (p a.of) (checked (f a.tree) t)))

binary_law : (op : BinaryOp) (a b : Option Checked) (fa fb : List Failure) (q : Place) → none_of fa ≡ is_some a → none_of fb ≡ is_some b → none_of (fa ++ fb ++ unless (ok_two (takes op) a b) 20 q) ≡ is_some (binary op a b)
binary_law op None b fa fb q h k = rw (none_append (fa ++ fb), none_append fa, h) refl
binary_law op (Some a) None fa fb q h k = rw (none_append (fa ++ fb), none_append fa, h, k) refl
binary_law op (Some a) (Some b) fa fb q h k = rw (none_append (fa ++ fb), none_append fa, h, k) (none_unless (takes op a.of b.of) 20 q ∙ sym (some_if (takes op a.of b.of) (checked (binary_tree op a.tree b.tree) (result_type op))))

at_law : (b : Bool) (t : TypeExpr) (a i : ExprTree) → b && is_indexed t ≡ is_some (if b then element_at t a i else None)
at_law false t a i = refl
at_law true int_ty a i = refl
at_law true bool_ty a i = refl
at_law true text_ty a i = refl
at_law true (array_ty t) a i = refl
at_law true (named_ty n ts) a i = refl
at_law true (param_ty k) a i = refl

element_law : (a b : Option Checked) (fa fb : List Failure) (q : Place) → none_of fa ≡ is_some a → none_of fb ≡ is_some b → none_of (fa ++ fb ++ unless (ok_two indexes a b) 24 q) ≡ is_some (element a b)
element_law None b fa fb q h k = rw (none_append (fa ++ fb), none_append fa, h) refl
element_law (Some a) None fa fb q h k = rw (none_append (fa ++ fb), none_append fa, h, k) refl
element_law (Some a) (Some b) fa fb q h k = rw (none_append (fa ++ fb), none_append fa, h, k) (none_unless (indexes a.of b.of) 24 q ∙ at_law (is_int b.of) a.of a.tree b.tree)

length_at_law : (t : TypeExpr) (a : ExprTree) → is_indexed t ≡ is_some (length_at t a)
length_at_law int_ty a = refl
length_at_law bool_ty a = refl
length_at_law text_ty a = refl
length_at_law (array_ty t) a = refl
length_at_law (named_ty n ts) a = refl
length_at_law (param_ty k) a = refl

length_law : (a : Option Checked) (fa : List Failure) (q : Place) → none_of fa ≡ is_some a → none_of (fa ++ unless (ok_one is_indexed a) 24 q) ≡ is_some (length_of a)
length_law None fa q h = rw (none_append, h) refl
length_law (Some a) fa q h = rw (none_append, h) (none_unless (is_indexed a.of) 24 q ∙ length_at_law a.of a.tree)

-- what is given has a type
abbrev pub has_type : {A : Type 0} → Given A → Bool
has_type untyped = false
has_type misfit = true
has_type (fitting a) = true

given_if : (b : Bool) (e : ExprTree) → true ≡ has_type (if b then fitting e else misfit)
given_if true e = refl
given_if false e = refl

pub given_law : (C : Context) (t u : TypeExpr) (a : Option Checked) → is_some a ≡ has_type (given_as C t u a)
given_law C t u None = refl
given_law C t u (Some a) = given_if (is_subtype C.types a.of t) (cast_to C a u (same_ty a.of u))

-- what is given fits or not, and has a type
pub fits_law : {A : Type 0} (g : Given A) → has_type g && fits g ≡ is_some (fitted g)
fits_law untyped = refl
fits_law misfit = refl
fits_law (fitting a) = refl

surplus_law : (a : Option Checked) → is_some a ≡ has_type (surplus a)
surplus_law None = refl
surplus_law (Some a) = refl

joined_law : (x : Given ExprTree) (c : Given ExprTrees) (fa fb : List Failure) → none_of fa ≡ has_type x → none_of fb ≡ has_type c → none_of (fa ++ fb) ≡ has_type (joined x c)
joined_law untyped c fa fb h k = rw (none_append, h) refl
joined_law misfit untyped fa fb h k = rw (none_append, h, k) refl
joined_law misfit misfit fa fb h k = rw (none_append, h, k) refl
joined_law misfit (fitting es) fa fb h k = rw (none_append, h, k) refl
joined_law (fitting e) untyped fa fb h k = rw (none_append, h, k) refl
joined_law (fitting e) misfit fa fb h k = rw (none_append, h, k) refl
joined_law (fitting e) (fitting es) fa fb h k = rw (none_append, h, k) refl

filled_law : (C : Context) (t : TypeExpr) (n : ExprTree) (b : Bool) (g : Given ExprTree) → (b && has_type g) && fits g ≡ is_some (if b then filled t C n g else None)
filled_law C t n false g = refl
filled_law C t n true untyped = refl
filled_law C t n true misfit = refl
filled_law C t n true (fitting e) = refl

array_parts : (ft fn fe : List Failure) (b c : Bool) (q r : Place) → none_of (ft ++ fn ++ unless b 24 q ++ fe ++ unless c 23 r) ≡ (((none_of ft && none_of fn) && b) && none_of fe) && c
array_parts ft fn fe b c q r = simp (none_append, none_unless) refl

new_array_law : (C : Context) (t : Option TypeExpr) (n e : Option Checked) (ft fn fe : List Failure) (q r : Place) → none_of ft ≡ is_some t → none_of fn ≡ is_some n → none_of fe ≡ is_some e →
    none_of (ft ++ fn ++ unless (ok_one is_int n) 24 q ++ fe ++ unless (fits (given_opt C t e)) 23 r) ≡ is_some (new_array C t n (given_opt C t e))
new_array_law C None n e ft fn fe q r h k l = rw (array_parts ft fn fe (ok_one is_int n) (fits (given_opt C None e)) q r, h) refl
new_array_law C (Some t) None e ft fn fe q r h k l = rw (array_parts ft fn fe true (fits (given_opt C (Some t) e)) q r, h, k) refl
new_array_law C (Some t) (Some n) e ft fn fe q r h k l =
    rw (array_parts ft fn fe (is_int n.of) (fits (given C t e)) q r, h, k, l, given_law C t t e) (filled_law C t n.tree (is_int n.of) (given C t e))

-- what is called with arguments that are given
wished_if : (b : Bool) (c : Called) → is_some (if b then Some c else None) ≡ b
wished_if true c = refl
wished_if false c = refl

given_call_law : (C : Context) (w : Wish) (c : Callee) (x : Given ExprTrees) → (meets w c.sig && has_type x) && fits x ≡ is_some (wished w (call_given C c x))
given_call_law C w c untyped = rw (and_false) refl
given_call_law C w c misfit = and_false (meets w c.sig && true)
given_call_law C w c (fitting es) = and_true (meets w c.sig && true) ∙ and_true (meets w c.sig) ∙ sym (wished_if (meets w c.sig) (record { tree = call_tree C.names c.target es; sig = c.sig }))

callee_parts : (m b : Bool) (all : List Failure) (q r : Place) → none_of (unless m 26 q ++ all ++ unless b 22 r) ≡ (m && none_of all) && b
callee_parts m b all q r = simp (none_append, none_unless) refl

callee_law : (C : Context) (w : Wish) (q : Place) (at : ℕ) (c : Callee) (all : List Failure) (xs : List (Option Checked)) → ((ts : TypeExprs) → none_of all ≡ has_type (given_all C ts xs)) →
    none_of (callee_fails C w q at (Some c) all xs) ≡ is_some (wished w (call_with C (Some c) xs))
callee_law C w q at c all xs h = rw (callee_parts (meets w c.sig) (fits (given_all C c.sig.formals xs)) all q (place C.text at), h c.sig.formals) (given_call_law C w c (given_all C c.sig.formals xs))

super_law : (C : Context) (w : Wish) (q : Place) (at : ℕ) (o : Option Callee) (all : List Failure) (xs : List (Option Checked)) → ((ts : TypeExprs) → none_of all ≡ has_type (given_all C ts xs)) →
    none_of (unless (is_some o) 18 (place C.text at) ++ callee_fails C w q at o all xs) ≡ is_some (wished w (call_with C o xs))
super_law C w q at None all xs h = refl
super_law C w q at (Some c) all xs h = callee_law C w q at c all xs h

found_law : (C : Context) (w : Wish) (q : Place) (at : ℕ) (a : Checked) (o : Option Callee) (all : List Failure) (xs : List (Option Checked)) → ((ts : TypeExprs) → none_of all ≡ has_type (given_all C ts xs)) →
    is_some o && none_of (callee_fails C w q at o all xs) ≡ is_some (wished w (call_with C o xs))
found_law C w q at a None all xs h = refl
found_law C w q at a (Some c) all xs h = callee_law C w q at c all xs h

method_parts : (first others : List Failure) (b : Bool) (p : Place) → none_of (first ++ unless b 25 p ++ others) ≡ (none_of first && b) && none_of others
method_parts first others b p = simp (none_append, none_unless) refl

method_law : (C : Context) (w : Wish) (q : Place) (at : ℕ) (self : Bool) (r : Option Checked) (m : ℕ) (first all : List Failure) (xs : List (Option Checked)) →
    none_of first ≡ is_some r → ((ts : TypeExprs) → none_of all ≡ has_type (given_all C ts xs)) →
    none_of (method_fails C w q at self r m first all xs) ≡ is_some (wished w (call_with C (receiver_callee C self r m) xs))
method_law C w q at self None m first all xs h k = rw (method_parts first (callee_fails C w q at None all xs) true (place C.text at), h) refl
method_law C w q at self (Some a) m first all xs h k =
    rw (method_parts first (callee_fails C w q at (receiver_callee C self (Some a) m) all xs) (is_some (receiver_callee C self (Some a) m)) (place C.text at), h)
    (found_law C w q at a (receiver_callee C self (Some a) m) all xs k)

some_mapped : (ts : List TypeExpr) (o : Option TypeExpr) → is_some (option_map (subst_ty ts) o) ≡ is_some o
some_mapped ts None = refl
some_mapped ts (Some t) = refl

meets_subst : (w : Wish) (ts : List TypeExpr) (s : Signature) → meets w (subst_sig ts s) ≡ meets w s
meets_subst as_value ts s = ap (λ b. not s.iterator && b) (some_mapped ts s.gives)
meets_subst as_procedure ts s = refl
meets_subst as_iterator ts s = refl
meets_subst as_call ts s = refl

routine_parts : (fn ft all : List Failure) (b c : Bool) (p r : Place) → none_of (fn ++ ft ++ unless b 17 p ++ all ++ unless c 22 r) ≡ (((none_of fn && none_of ft) && b) && none_of all) && c
routine_parts fn ft all b c p r = simp (none_append, none_unless) refl

found_parts : (m b : Bool) (q p : Place) → none_of (unless m 26 q ++ unless b 5 p) ≡ m && b
found_parts m b q p = rw (none_append (unless m 26 q), none_unless m, none_unless b) refl

supplied_law : (C : Context) (w : Wish) (i : Instance) (o : Option (List SupplyTree)) (all : List Failure) (xs : List (Option Checked)) → ((ts : TypeExprs) → none_of all ≡ has_type (given_all C ts xs)) →
    ((meets w i.routine.sig && is_some o) && none_of all) && fits (given_all C (subst_tys (list_of i.args) i.routine.sig.formals) xs) ≡ is_some (wished w (call_with C (supplied i o) xs))
supplied_law C w i None all xs h = rw (and_false) refl
supplied_law C w i (Some ss) all xs h =
    rw (and_true, h (subst_tys (list_of i.args) i.routine.sig.formals), sym (meets_subst w (list_of i.args) i.routine.sig))
    (given_call_law C w (record { sig = subst_sig (list_of i.args) i.routine.sig; target = routine_target i.full i.args ss }) (given_all C (subst_tys (list_of i.args) i.routine.sig.formals) xs))

counted_law : (C : Context) (w : Wish) (q p r : Place) (i : Instance) (b : Bool) (ft all : List Failure) (xs : List (Option Checked)) → none_of ft ≡ true → ((ts : TypeExprs) → none_of all ≡ has_type (given_all C ts xs)) →
    none_of ((unless (meets w i.routine.sig) 26 q ++ unless b 5 p) ++ ft ++ unless (is_supplied C (if b then Some i else None)) 17 p ++ all ++ unless (args_ok C (instance_sig (if b then Some i else None)) xs) 22 r)
    ≡ is_some (wished w (call_with C (instance_callee C (if b then Some i else None)) xs))
counted_law C w q p r i false ft all xs h k =
    rw (routine_parts (unless (meets w i.routine.sig) 26 q ++ unless false 5 p) ft all true true p r, found_parts (meets w i.routine.sig) false q p, and_false) refl
counted_law C w q p r i true ft all xs h k =
    rw (routine_parts (unless (meets w i.routine.sig) 26 q ++ unless true 5 p) ft all (is_some (instance_supplies C i)) (fits (given_all C (subst_tys (list_of i.args) i.routine.sig.formals) xs)) p r, found_parts (meets w i.routine.sig) true q p, and_true (meets w i.routine.sig), h, and_true (meets w i.routine.sig))
    (supplied_law C w i (instance_supplies C i) all xs k)

routine_law_for : (C : Context) (w : Wish) (q p r : Place) (c : Named) (n : ℕ) (o : Option TypeExprs) (ft all : List Failure) (xs : List (Option Checked)) → none_of ft ≡ is_some o → ((ts : TypeExprs) → none_of all ≡ has_type (given_all C ts xs)) →
    none_of (name_fails w q c n p ++ ft ++ unless (is_supplied C (instance_of c n o)) 17 p ++ all ++ unless (args_ok C (instance_sig (instance_of c n o)) xs) 22 r)
    ≡ is_some (wished w (call_with C (instance_callee C (instance_of c n o)) xs))
routine_law_for C w q p r no_callee n None ft all xs h k = refl
routine_law_for C w q p r no_callee n (Some ts) ft all xs h k = refl
routine_law_for C w q p r local_callee n None ft all xs h k = refl
routine_law_for C w q p r local_callee n (Some ts) ft all xs h k = refl
routine_law_for C w q p r (routine_callee f s) n None ft all xs h k =
    rw (routine_parts (name_fails w q (routine_callee f s) n p) ft all true true p r, h, and_false) refl
routine_law_for C w q p r (routine_callee f s) n (Some ts) ft all xs h k = counted_law C w q p r (record { full = f; routine = s; args = ts }) (nat_eq n s.params) ft all xs h k

pub routine_law : (C : Context) (ls : List Binding) (w : Wish) (q : Place) (at : ℕ) (r : RefTree) (ts : TypeSyns) (all : List Failure) (xs : List (Option Checked)) → ((us : TypeExprs) → none_of all ≡ has_type (given_all C us xs)) →
    none_of (routine_fails C ls w q at r ts all xs) ≡ is_some (wished w (call_with C (instance_callee C (instance C ls r ts)) xs))
routine_law C ls w q at r ts all xs h =
    routine_law_for C w q (ref_place C r) (place C.text at) (named (meaning C ls r) ts) (count ts) (resolved_types C ls ts) (types_fails C ls ts) all xs (types_law C ls ts) h

value_law_of : (t : CallTree) (b : Bool) (o : Option TypeExpr) (c : Called) → is_some (if not b && is_some o then Some c else None) ≡ is_some (if b then None else checked_opt (core.call_expr t) o)
value_law_of t false None c = refl
value_law_of t false (Some u) c = refl
value_law_of t true o c = refl

-- a call has a value exactly where it is wished as one
pub value_law : (o : Option Called) → is_some (wished as_value o) ≡ is_some (value_of o)
value_law None = refl
value_law (Some c) = value_law_of c.tree c.sig.iterator c.sig.gives c

made_law : (C : Context) (u : ClassUse) (o : Option (List SupplyTree)) (x : Given ExprTrees) → (is_some o && has_type x) && fits x ≡ is_some (made C u o x)
made_law C u None x = refl
made_law C u (Some ss) untyped = refl
made_law C u (Some ss) misfit = refl
made_law C u (Some ss) (fitting es) = refl

new_parts : (fc all : List Failure) (b c : Bool) (p r : Place) → none_of (fc ++ unless b 17 p ++ all ++ unless c 22 r) ≡ ((none_of fc && b) && none_of all) && c
new_parts fc all b c p r = simp (none_append, none_unless) refl

new_law_for : (C : Context) (o : Option ClassUse) (p r : Place) (fc all : List Failure) (xs : List (Option Checked)) → none_of fc ≡ is_some o → ((ts : TypeExprs) → none_of all ≡ has_type (given_all C ts xs)) →
    none_of (fc ++ unless (class_supplied C o) 17 p ++ all ++ unless (args_ok C (init_sig o) xs) 22 r) ≡ is_some (new_object C o xs)
new_law_for C None p r fc all xs h k = rw (new_parts fc all true true p r, h) refl
new_law_for C (Some u) p r fc all xs h k =
    rw (new_parts fc all (is_some (class_supplies C u)) (fits (given_all C (subst_tys (list_of u.args) u.class.init.formals) xs)) p r, h, k (subst_tys (list_of u.args) u.class.init.formals))
    (made_law C u (class_supplies C u) (given_all C (subst_tys (list_of u.args) u.class.init.formals) xs))

-- a local that a name means has a type
abbrev MeansTyped : Meaning → Type 0
MeansTyped no_meaning = Unit {0}
MeansTyped (local_meaning b) = is_some b.of ≡ true
MeansTyped (param_meaning k) = Unit {0}
MeansTyped (item_meaning i) = Unit {0}

item_typed : (o : Option Item) → MeansTyped (item_or_none o)
item_typed None = tt
item_typed (Some i) = tt

param_typed : (o : Option ℕ) (m : Meaning) → MeansTyped m → MeansTyped (param_or o m)
param_typed None m h = h
param_typed (Some k) m h = tt

binding_typed : (b : Binding) (t : Bool) (o : Option Binding) (m : Meaning) → is_some b.of ≡ true → MeansTyped (local_or o m) → MeansTyped (local_or (if t then Some b else o) m)
binding_typed b true o m h k = h
binding_typed b false o m h k = k

bare_typed : (ls : List Binding) (n : ℕ) (m : Meaning) → AllTyped ls → MeansTyped m → MeansTyped (local_or (find_binding ls n) m)
bare_typed [] n m h k = k
bare_typed (b ∷ bs) n m h k = binding_typed b (nat_eq b.name n) (find_binding bs n) m (h.0) (bare_typed bs n m h.1 k)

full_typed : (b : Bool) (o : Option Item) → MeansTyped (if b then item_or_none o else no_meaning)
full_typed true o = item_typed o
full_typed false o = tt

named_typed : (C : Context) (ls : List Binding) (first : Ident) (second : Option Ident) → AllTyped ls → MeansTyped (named_meaning C ls first second)
named_typed C ls first None h = bare_typed ls first.name
    (param_or (position (nat_eq first.name) C.visible.params) (item_or_none (or_else (find_item C.items None first.name) (implemented_item C.items C.visible.implements first.name)))) h
    (param_typed (position (nat_eq first.name) C.visible.params) (item_or_none (or_else (find_item C.items None first.name) (implemented_item C.items C.visible.implements first.name)))
    (item_typed (or_else (find_item C.items None first.name) (implemented_item C.items C.visible.implements first.name))))
named_typed C ls first (Some second) h = full_typed (has C.visible.uses first.name || is_number C.visible.implements first.name) (find_item C.items (Some first.name) second.name)

checked_some : (e : ExprTree) (o : Option TypeExpr) → is_some (checked_opt e o) ≡ is_some o
checked_some e None = refl
checked_some e (Some t) = refl

plain_item : (i : Item) (h : Head) (p : Place) (ft : List Failure) → none_of (plain_fails (item_callee i.full h) p ++ ft) ≡ false
plain_item i (exception_head t) p ft = refl
plain_item i (type_head k) p ft = refl
plain_item i (class_head c) p ft = refl
plain_item i (routine_head r) p ft = refl

plain_law : (C : Context) (ls : List Binding) (m : Meaning) (ts : TypeSyns) (p : Place) → MeansTyped m → none_of (plain_fails (named m ts) p ++ types_fails C ls ts) ≡ is_some (plain_name m ts)
plain_law C ls no_meaning ts p h = refl
plain_law C ls (local_meaning b) no_type p h = sym h ∙ sym (checked_some (core.local_expr b.index) b.of)
plain_law C ls (local_meaning b) (more_types t ts) p h = refl
plain_law C ls (param_meaning k) ts p h = refl
plain_law C ls (item_meaning i) ts p h = plain_item i i.head p (types_fails C ls ts)

-- `self` has no failure where a field of it has a type
field_law : (o : Option Checked) (fe : List Failure) (p : Place) → (is_some o ≡ true → none_of fe ≡ true) → none_of (fe ++ unless (is_some o) 18 p) ≡ is_some o
field_law None fe p h = rw (none_append, none_unless) (and_false (none_of fe))
field_law (Some a) fe p h = rw (none_append, none_unless, h refl) refl

class_if : (o : Option ClassInfo) (bytes : List ℕ) (f : ℕ) → is_some (field_checked bytes (field_in o f)) ≡ true → is_some (self_in o) ≡ true
class_if None bytes f h = h
class_if (Some c) bytes f h = refl

self_fine : (C : Context) (e : ExprSyn) (f : ℕ) (fe : List Failure) → is_some (field_of C (is_self e) f) ≡ true → (is_self e ≡ true → none_of fe ≡ is_some (self_in (own_class C))) → none_of fe ≡ true
self_fine C (self_expr at) f fe h k = k refl ∙ class_if (own_class C) (name_at C.names (own_name C.class)) f h
self_fine C (number_expr at n) f fe h k = absurd (cc)
self_fine C (text_expr at n) f fe h k = absurd (cc)
self_fine C (true_expr at) f fe h k = absurd (cc)
self_fine C (false_expr at) f fe h k = absurd (cc)
self_fine C (super_expr at m es) f fe h k = absurd (cc)
self_fine C (item_expr at r ts) f fe h k = absurd (cc)
self_fine C (call_expr at r ts es) f fe h k = absurd (cc)
self_fine C (new_expr at c es) f fe h k = absurd (cc)
self_fine C (new_array_expr at t n e) f fe h k = absurd (cc)
self_fine C (get_byte_expr at) f fe h k = absurd (cc)
self_fine C (field_expr at e g) f fe h k = absurd (cc)
self_fine C (method_expr at e m es) f fe h k = absurd (cc)
self_fine C (length_expr at e) f fe h k = absurd (cc)
self_fine C (element_expr at e i) f fe h k = absurd (cc)
self_fine C (not_expr at e) f fe h k = absurd (cc)
self_fine C (negative_expr at e) f fe h k = absurd (cc)
self_fine C (binary_expr at op e g) f fe h k = absurd (cc)

self_law : (C : Context) (ls : List Binding) (e : ExprSyn) → is_self e ≡ true → none_of (fails C ls e) ≡ is_some (typed C ls e) → none_of (fails C ls e) ≡ is_some (self_in (own_class C))
self_law C ls (self_expr at) h k = k
self_law C ls _ h k = absurd (cc)

-- an expression has a type exactly where it has no failure, where each local in scope has a type
mutual
  pub law : (C : Context) (ls : List Binding) (e : ExprSyn) → AllTyped ls → none_of (fails C ls e) ≡ is_some (typed C ls e)
  law C ls (number_expr at n) h = refl
  law C ls (text_expr at n) h = refl
  law C ls (true_expr at) h = refl
  law C ls (false_expr at) h = refl
  law C ls (self_expr at) h = none_unless (is_some (self_in (own_class C))) 18 (place C.text at)
  law C ls (super_expr at m es) h =
      super_law C as_value (place C.text at) at (super_callee C m.name) (args_fail C ls es) (typed_all C ls es) (λ ts. args_law C ls ts es h)
      ∙ value_law (call_with C (super_callee C m.name) (typed_all C ls es))
  law C ls (item_expr at r ts) h = plain_law C ls (meaning C ls r) ts (ref_place C r) (named_typed C ls r.first r.second h)
  law C ls (call_expr at r ts es) h =
      routine_law C ls as_value (place C.text at) at r ts (args_fail C ls es) (typed_all C ls es) (λ us. args_law C ls us es h)
      ∙ value_law (call_with C (instance_callee C (instance C ls r ts)) (typed_all C ls es))
  law C ls (new_expr at c es) h =
      new_law_for C (resolved_class C ls c) (ref_place C c.item) (place C.text at) (class_fails C ls c) (args_fail C ls es) (typed_all C ls es) (class_law C ls c) (λ ts. args_law C ls ts es h)
  law C ls (new_array_expr at t n e) h =
      new_array_law C (resolved_type C ls t) (typed C ls n) (typed C ls e) (type_fails C ls t) (fails C ls n) (fails C ls e) (place C.text at) (place C.text (start e)) (type_law C ls t) (law C ls n h) (law C ls e h)
  law C ls (get_byte_expr at) h = refl
  law C ls (field_expr at e f) h =
      field_law (field_of C (is_self e) f.name) (fails C ls e) (place C.text at) (λ k. self_fine C e f.name (fails C ls e) k (λ s. self_law C ls e s (law C ls e h)))
  law C ls (method_expr at e m es) h =
      method_law C as_value (place C.text at) at (is_self e) (typed C ls e) m.name (fails C ls e) (args_fail C ls es) (typed_all C ls es) (law C ls e h) (λ ts. args_law C ls ts es h)
      ∙ value_law (call_with C (receiver_callee C (is_self e) (typed C ls e) m.name) (typed_all C ls es))
  law C ls (length_expr at e) h = length_law (typed C ls e) (fails C ls e) (place C.text at) (law C ls e h)
  law C ls (element_expr at e i) h = element_law (typed C ls e) (typed C ls i) (fails C ls e) (fails C ls i) (place C.text at) (law C ls e h) (law C ls i h)
  law C ls (not_expr at e) h = one_law is_bool core.not_expr bool_ty (typed C ls e) (fails C ls e) 20 (place C.text at) (law C ls e h)
  law C ls (negative_expr at e) h = one_law is_int core.negative_expr int_ty (typed C ls e) (fails C ls e) 20 (place C.text at) (law C ls e h)
  law C ls (binary_expr at op e f) h = binary_law op (typed C ls e) (typed C ls f) (fails C ls e) (fails C ls f) (place C.text at) (law C ls e h) (law C ls f h)

  pub args_law : (C : Context) (ls : List Binding) (ts : TypeExprs) (es : ExprSyns) → AllTyped ls → none_of (args_fail C ls es) ≡ has_type (given_all C ts (typed_all C ls es))
  args_law C ls no_ty no_expr h = refl
  args_law C ls (more_ty t ts) no_expr h = refl
  args_law C ls no_ty (more_exprs e es) h =
      joined_law (surplus (typed C ls e)) (given_all C no_ty (typed_all C ls es)) (fails C ls e) (args_fail C ls es) (law C ls e h ∙ surplus_law (typed C ls e)) (args_law C ls no_ty es h)
  args_law C ls (more_ty t ts) (more_exprs e es) h =
      joined_law (given C t (typed C ls e)) (given_all C ts (typed_all C ls es)) (fails C ls e) (args_fail C ls es) (law C ls e h ∙ given_law C t t (typed C ls e)) (args_law C ls ts es h)

no_call_law : (w : Wish) (q : Place) (fe : List Failure) → none_of (unless false 26 q ++ fe) ≡ false
no_call_law w q fe = refl

-- a call has a checked tree and is what is wished exactly where it has no failure
pub call_law : (C : Context) (ls : List Binding) (w : Wish) (q : Place) (e : ExprSyn) → AllTyped ls → none_of (call_fails C ls w q e) ≡ is_some (wished w (typed_call C ls e))
call_law C ls w q (super_expr at m es) h = super_law C w q at (super_callee C m.name) (args_fail C ls es) (typed_all C ls es) (λ ts. args_law C ls ts es h)
call_law C ls w q (call_expr at r ts es) h = routine_law C ls w q at r ts (args_fail C ls es) (typed_all C ls es) (λ us. args_law C ls us es h)
call_law C ls w q (method_expr at e m es) h =
    method_law C w q at (is_self e) (typed C ls e) m.name (fails C ls e) (args_fail C ls es) (typed_all C ls es) (law C ls e h) (λ ts. args_law C ls ts es h)
call_law C ls w q _ h = refl
