-- An initializer in which nothing fails has a checked tree.
use Rattle.std.proofs.Common.{◌≡◌, ℕ, Bool, true, false, nat_eq, List, [], ◌∷◌, ◌++◌, Option, Some, None, is_some, refl, sym, ◌∙◌, true≢false, if◌then◌else◌}
use Rattle.std.specs.List.{list_all}
use Rattle.th_tree.specs.Trees.{SuperCallSyn, FieldAssignSyn, InitSyn}
use Rattle.th_type.specs.declared.place.Failure.{Failure}
use Rattle.th_type.specs.Failures.{place, unless, none_of}
use Rattle.th_type.specs.Types.{TypeExpr, subst_tys}
use Rattle.th_meaning.specs.Trees as core
use Rattle.th_meaning.specs.Trees.{SupplyTree, ExprTree, ExprTrees, StmtTree, BodyTree}
use Rattle.th_rules.specs.Context.{Binding, ClassInfo, Context, find_binding}
use Rattle.th_rules.specs.Supplies.{supplies_of}
use Rattle.th_rules.specs.Callees.{Checked, Given, untyped, misfit, fitting, fits, given_opt, given_all, args_ok}
use Rattle.th_rules.specs.Typing.{typed, typed_all}
use Rattle.th_rules.specs.Failing.{start, fails, args_fail}
use Rattle.th_rules.specs.AllTyped.{AllTyped}
use Rattle.th_rules.proofs.NoFailure.{has_type, given_law, law, args_law}
use Rattle.th_stmt_rules.specs.Bodies.{both_parts}
use Rattle.th_module_rules.specs.Initializers.{Inherited, times, assigns_fields, both_or_none, shape_fails, inherited_init, super_call_fails, super_call_raises, field_type, assign_fails, assigns_fail, assigns_raise, init_fails, super_stmt, super_stmt_of, assign_given, assign_to, assign_stmt, assigns_core, init_core, init_core_with}
use Rattle.th_module_rules.specs.Modules.{is_inherited_supplied}
use Rattle.th_bodies.proofs.Resolved.{both, holds_unless, none_both}

-- both are there
pub parts_there : {A B R : Type 0} (f : A → B → R) (a : Option A) (b : Option B) → is_some a ≡ true → is_some b ≡ true → is_some (both_parts f a b) ≡ true
parts_there f None b h k = absurd (true≢false (sym h))
parts_there f (Some a) None h k = absurd (true≢false (sym k))
parts_there f (Some a) (Some b) h k = refl

-- an assignment of what fits
given_there : (c : List ℕ) (k : ℕ) (g : Given ExprTree) → has_type g ≡ true → fits g ≡ true → is_some (assign_given c k g) ≡ true
given_there c k untyped h f = absurd (true≢false (sym h))
given_there c k misfit h f = absurd (true≢false (sym f))
given_there c k (fitting e) h f = refl

value_there : (C : Context) (c : List ℕ) (k : ℕ) (u : Option TypeExpr) (x : Option Checked) → is_some u ≡ true → is_some x ≡ true → fits (given_opt C u x) ≡ true → is_some (assign_given c k (given_opt C u x)) ≡ true
value_there C c k None x h s f = absurd (true≢false (sym h))
value_there C c k (Some t) x h s f = given_there c k (given_opt C (Some t) x) (sym (given_law C t t x) ∙ s) f

field_there : (C : Context) (c : List ℕ) (o : Option Binding) (x : Option Checked) → is_some o ≡ true → is_some (field_type o) ≡ true → is_some x ≡ true → fits (given_opt C (field_type o) x) ≡ true
    → is_some (assign_to C c o (given_opt C (field_type o) x)) ≡ true
field_there C c None x h t s f = absurd (true≢false (sym h))
field_there C c (Some b) x h t s f = value_there C c b.index b.of x t s f

-- a field that is found has a type
typed_if : (b : Binding) (bs : List Binding) (n : ℕ) (t : Bool) → is_some b.of ≡ true → (is_some (find_binding bs n) ≡ true → is_some (field_type (find_binding bs n)) ≡ true)
    → is_some (if t then Some b else find_binding bs n) ≡ true → is_some (field_type (if t then Some b else find_binding bs n)) ≡ true
typed_if b bs n true h rest s = h
typed_if b bs n false h rest s = rest s

found_typed : (bs : List Binding) (n : ℕ) → AllTyped bs → is_some (find_binding bs n) ≡ true → is_some (field_type (find_binding bs n)) ≡ true
found_typed [] n h s = absurd (true≢false (sym s))
found_typed (b ∷ bs) n h s = typed_if b bs n (nat_eq b.name n) h.0 (found_typed bs n h.1) s

assign_there : (C : Context) (ls : List Binding) (c : List ℕ) (fields : List Binding) (a : FieldAssignSyn) → AllTyped ls → AllTyped fields → is_some (find_binding fields a.field.name) ≡ true → none_of (assign_fails C ls fields a) ≡ true
    → is_some (assign_stmt C ls c fields a) ≡ true
assign_there C ls c fields a h t s n =
    let o : Option Binding = find_binding fields a.field.name in
    let p : (none_of (fails C ls a.value) ≡ true) × (none_of (unless (fits (given_opt C (field_type o) (typed C ls a.value))) 23 (place C.text (start a.value))) ≡ true) =
    none_both (fails C ls a.value) (unless (fits (given_opt C (field_type o) (typed C ls a.value))) 23 (place C.text (start a.value))) n in
    field_there C c o (typed C ls a.value) s (found_typed fields a.field.name t s) (sym (law C ls a.value h) ∙ p.0) (holds_unless (fits (given_opt C (field_type o) (typed C ls a.value))) 23 (place C.text (start a.value)) p.1)

assigns_there : (C : Context) (ls : List Binding) (c : List ℕ) (fields : List Binding) (rest : List FieldAssignSyn) → AllTyped ls → AllTyped fields → list_all (λ a. is_some (find_binding fields a.field.name)) rest ≡ true
    → none_of (assigns_fail C ls fields rest) ≡ true → is_some (assigns_core C ls c fields rest) ≡ true
assigns_there C ls c fields [] h t s n = refl
assigns_there C ls c fields (a ∷ rest) h t s n =
    let k : (is_some (find_binding fields a.field.name) ≡ true) × (list_all (λ a. is_some (find_binding fields a.field.name)) rest ≡ true) =
    both (is_some (find_binding fields a.field.name)) (list_all (λ a. is_some (find_binding fields a.field.name)) rest) s in
    let p : (none_of (assign_fails C ls fields a) ≡ true) × (none_of (assigns_fail C ls fields rest) ≡ true) = none_both (assign_fails C ls fields a) (assigns_fail C ls fields rest) n in
    parts_there core.more_stmts (assign_stmt C ls c fields a) (assigns_core C ls c fields rest) (assign_there C ls c fields a h t k.0 p.0) (assigns_there C ls c fields rest h t k.1 p.1)

-- a super call of what fits
super_made : (C : Context) (i : Inherited) (ss : Option (List SupplyTree)) (g : Given ExprTrees) → is_some ss ≡ true → has_type g ≡ true → fits g ≡ true → is_some (super_stmt C i ss g) ≡ true
super_made C i None g s h f = absurd (true≢false (sym s))
super_made C i (Some ss) untyped s h f = absurd (true≢false (sym h))
super_made C i (Some ss) misfit s h f = absurd (true≢false (sym f))
super_made C i (Some ss) (fitting es) s h f = refl

super_there : (C : Context) (ls : List Binding) (above : Option Inherited) (s : SuperCallSyn) → AllTyped ls → is_some above ≡ true → is_inherited_supplied C above ≡ true → none_of (super_call_fails C ls above (Some s)) ≡ true
    → is_some (super_stmt_of C ls above s) ≡ true
super_there C ls None s h a k n = absurd (true≢false (sym a))
super_there C ls (Some i) s h a k n =
    let xs : List (Option Checked) = typed_all C ls s.args in
    let p : (none_of (args_fail C ls s.args) ≡ true) × (none_of (unless (args_ok C (inherited_init (Some i)) xs) 22 (place C.text s.at)) ≡ true) =
    none_both (args_fail C ls s.args) (unless (args_ok C (inherited_init (Some i)) xs) 22 (place C.text s.at)) n in
    super_made C i (supplies_of C i.args i.class.clauses) (given_all C (subst_tys i.args i.class.init.formals) xs) k (sym (args_law C ls (subst_tys i.args i.class.init.formals) s.args h) ∙ p.0)
    (holds_unless (args_ok C (inherited_init (Some i)) xs) 22 (place C.text s.at) p.1)

called_there : (C : Context) (ls : List Binding) (n : List ℕ) (c : ClassInfo) (above : Option Inherited) (call : Option SuperCallSyn) (rest : List FieldAssignSyn) → AllTyped ls → (is_some call ≡ true → is_some above ≡ true) → is_inherited_supplied C above ≡ true
    → none_of (super_call_fails C ls above call) ≡ true → is_some (assigns_core C ls n c.fields rest) ≡ true → is_some (init_core_with C ls n c above call rest) ≡ true
called_there C ls n c above None rest h a k x y = y
called_there C ls n c above (Some s) rest h a k x y = parts_there core.more_stmts (super_stmt_of C ls above s) (assigns_core C ls n c.fields rest) (super_there C ls above s h (a refl) k x) y

inherits_called : (a b : Bool) → both_or_none a b ≡ true → b ≡ true → a ≡ true
inherits_called true b h k = refl
inherits_called false true h k = h
inherits_called false false h k = k

-- an initializer, where the class that its class inherits is there and its where-clauses are satisfied
pub init_there : (C : Context) (ls : List Binding) (n : List ℕ) (c : ClassInfo) (above : Option Inherited) (i : InitSyn) → AllTyped ls → AllTyped c.fields → (is_some c.inherits ≡ true → is_some above ≡ true) → is_inherited_supplied C above ≡ true
    → none_of (init_fails C ls c above i) ≡ true → is_some (init_core C ls n c above i) ≡ true
init_there C ls n c above i h t a k x =
    let shape : List Failure = shape_fails C.text c i in
    let call : List Failure = super_call_fails C ls above i.super_call in
    let assigns : List Failure = assigns_fail C ls c.fields i.assigns in
    let raised : List Failure = super_call_raises C ls above i.super_call in
    let first = none_both (((shape ++ call) ++ assigns) ++ raised) (assigns_raise C ls i.assigns) x in
    let second = none_both ((shape ++ call) ++ assigns) raised first.0 in
    let third = none_both (shape ++ call) assigns second.0 in
    let fourth = none_both shape call third.0 in
    let one : List Failure = unless (assigns_fields c.fields i.assigns) 16 (place C.text i.head.at) in
    let other : List Failure = unless (both_or_none (is_some c.inherits) (is_some i.super_call)) 16 (place C.text i.head.at) in
    let fifth = none_both one other fourth.0 in
    let fields = holds_unless (assigns_fields c.fields i.assigns) 16 (place C.text i.head.at) fifth.0 in
    let called = holds_unless (both_or_none (is_some c.inherits) (is_some i.super_call)) 16 (place C.text i.head.at) fifth.1 in
    called_there C ls n c above i.super_call i.assigns h (λ s. a (inherits_called (is_some c.inherits) (is_some i.super_call) called s)) k fourth.1
    (assigns_there C ls n c.fields i.assigns h t (both (list_all (λ b. nat_eq (times b.name i.assigns) 1) c.fields) (list_all (λ a. is_some (find_binding c.fields a.field.name)) i.assigns) fields).1 third.1)
