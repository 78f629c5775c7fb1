-- Initializers: what they assign, their super calls, and their checked trees.
use Rattle.std.specs.Prelude.{ℕ, ◌+◌, Bool, true, false, nat_eq, not, ◌&&◌, List, [], ◌∷◌, ◌++◌, Option, Some, None, is_some, if◌then◌else◌}
use Rattle.std.specs.List.{list_all}
use Rattle.th_tree.specs.Trees.{SuperCallSyn, FieldAssignSyn, InitSyn}
use Rattle.th_type.specs.declared.place.Failure.{Failure}
use Rattle.th_type.specs.Failures.{place, unless}
use Rattle.th_type.specs.Types.{TypeExpr, TypeExprs, subst_tys}
use Rattle.th_type.specs.Signatures.{Signature, subst_sig}
use Rattle.th_meaning.specs.Trees as core
use Rattle.th_meaning.specs.Trees.{SupplyTree, ExprTree, ExprTrees, StmtTree, BodyTree}
use Rattle.th_rules.specs.Context.{Binding, ClassInfo, Context, find_binding}
use Rattle.th_rules.specs.Cores.{name_at, core_types}
use Rattle.th_rules.specs.Supplies.{supplies_of}
use Rattle.th_rules.specs.Callees.{Given, untyped, misfit, fitting, fits, given_opt, given_all, args_ok, signals_of}
use Rattle.th_rules.specs.Typing.{typed, typed_all}
use Rattle.th_rules.specs.Failing.{start, fails, args_fail}
use Rattle.th_rules.specs.Raising.{unhandled, raises, args_raise}
use Rattle.th_stmt_rules.specs.Bodies.{both_parts}

-- how often a field is assigned
abbrev pub times : ℕ → List FieldAssignSyn → ℕ
times f [] = 0
times f (a ∷ rest) = if nat_eq a.field.name f then 1 + times f rest else times f rest

-- each of the fields is assigned once, and nothing else is
abbrev pub assigns_fields : List Binding → List FieldAssignSyn → Bool
assigns_fields fs rest = list_all (λ b. nat_eq (times b.name rest) 1) fs && list_all (λ a. is_some (find_binding fs a.field.name)) rest

-- whether two truth values are equal
abbrev pub both_or_none : Bool → Bool → Bool
both_or_none true b = b
both_or_none false b = not b

-- the failures of what an initializer has: it assigns the own fields, and has a super call exactly where its class inherits
abbrev pub shape_fails : ℕ → ClassInfo → InitSyn → List Failure
shape_fails text c i =
    unless (assigns_fields c.fields i.assigns) 16 (place text i.head.at) ++ unless (both_or_none (is_some c.inherits) (is_some i.super_call)) 16 (place text i.head.at)

-- the class above, with the arguments at which it is inherited
pub record Inherited : Type 0 where
  pub full : ℕ
  pub class : ClassInfo
  pub args : List TypeExpr
  pub types : TypeExprs

-- the signature of the inherited initializer, over the class's own parameters
abbrev pub inherited_init : Option Inherited → Option Signature
inherited_init None = None
inherited_init (Some i) = Some (subst_sig i.args i.class.init)

-- the failures of a super call: those of its arguments, and these fit the inherited initializer, where there is one
abbrev pub super_call_fails : Context → List Binding → Option Inherited → Option SuperCallSyn → List Failure
super_call_fails C ls above None = []
super_call_fails C ls above (Some s) = args_fail C ls s.args ++ unless (args_ok C (inherited_init above) (typed_all C ls s.args)) 22 (place C.text s.at)

-- the type of a field that there may be
abbrev pub field_type : Option Binding → Option TypeExpr
field_type None = None
field_type (Some b) = b.of

-- the failures of an assignment: of its value, and this fits the field, where it is one
abbrev pub assign_fails : Context → List Binding → List Binding → FieldAssignSyn → List Failure
assign_fails C ls fields a = fails C ls a.value ++ unless (fits (given_opt C (field_type (find_binding fields a.field.name)) (typed C ls a.value))) 23 (place C.text (start a.value))

abbrev pub assigns_fail : Context → List Binding → List Binding → List FieldAssignSyn → List Failure
assigns_fail C ls fields [] = []
assigns_fail C ls fields (a ∷ rest) = assign_fails C ls fields a ++ assigns_fail C ls fields rest

-- the failures on exceptions that the initializer does not list
abbrev pub super_call_raises : Context → List Binding → Option Inherited → Option SuperCallSyn → List Failure
super_call_raises C ls above None = []
super_call_raises C ls above (Some s) = unhandled C.sig.signals (place C.text s.at) (signals_of (inherited_init above)) ++ args_raise C ls C.sig.signals s.args

abbrev pub assigns_raise : Context → List Binding → List FieldAssignSyn → List Failure
assigns_raise C ls [] = []
assigns_raise C ls (a ∷ rest) = raises C ls C.sig.signals a.value ++ assigns_raise C ls rest

-- the failures in an initializer of a class, where the formals are the locals ls
abbrev pub init_fails : Context → List Binding → ClassInfo → Option Inherited → InitSyn → List Failure
init_fails C ls c above i =
    shape_fails C.text c i ++ super_call_fails C ls above i.super_call ++ assigns_fail C ls c.fields i.assigns
    ++ super_call_raises C ls above i.super_call ++ assigns_raise C ls i.assigns

-- the checked tree of a super call, where its arguments fit
abbrev pub super_stmt : Context → Inherited → Option (List SupplyTree) → Given ExprTrees → Option StmtTree
super_stmt C i None es = None
super_stmt C i (Some ss) untyped = None
super_stmt C i (Some ss) misfit = None
super_stmt C i (Some ss) (fitting es) = Some (core.call_stmt (core.init_call (name_at C.names i.full) (core_types C.names i.types) ss es))

abbrev pub super_stmt_of : Context → List Binding → Option Inherited → SuperCallSyn → Option StmtTree
super_stmt_of C ls None s = None
super_stmt_of C ls (Some i) s = super_stmt C i (supplies_of C i.args i.class.clauses) (given_all C (subst_tys i.args i.class.init.formals) (typed_all C ls s.args))

-- the checked tree of an assignment of a field of the class with that name
abbrev pub assign_given : List ℕ → ℕ → Given ExprTree → Option StmtTree
assign_given c f untyped = None
assign_given c f misfit = None
assign_given c f (fitting e) = Some (core.set_field_stmt c f e)

abbrev pub assign_to : Context → List ℕ → Option Binding → Given ExprTree → Option StmtTree
assign_to C c None e = None
assign_to C c (Some b) e = assign_given c b.index e

abbrev pub assign_stmt : Context → List Binding → List ℕ → List Binding → FieldAssignSyn → Option StmtTree
assign_stmt C ls c fields a =
    assign_to C c (find_binding fields a.field.name) (given_opt C (field_type (find_binding fields a.field.name)) (typed C ls a.value))

abbrev pub assigns_core : Context → List Binding → List ℕ → List Binding → List FieldAssignSyn → Option BodyTree
assigns_core C ls c fields [] = Some core.no_stmt
assigns_core C ls c fields (a ∷ rest) = both_parts core.more_stmts (assign_stmt C ls c fields a) (assigns_core C ls c fields rest)

-- the checked tree of an initializer of the class with that full name: the super call, then the assignments, in order
abbrev pub init_core_with : Context → List Binding → List ℕ → ClassInfo → Option Inherited → Option SuperCallSyn → List FieldAssignSyn → Option BodyTree
init_core_with C ls n c above None rest = assigns_core C ls n c.fields rest
init_core_with C ls n c above (Some s) rest = both_parts core.more_stmts (super_stmt_of C ls above s) (assigns_core C ls n c.fields rest)

abbrev pub init_core : Context → List Binding → List ℕ → ClassInfo → Option Inherited → InitSyn → Option BodyTree
init_core C ls n c above i = init_core_with C ls n c above i.super_call i.assigns
