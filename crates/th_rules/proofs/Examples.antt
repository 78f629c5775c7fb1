-- Small expressions worked out by hand.
use Rattle.std.proofs.Common.{◌≡◌, ℕ, List, [], ◌∷◌, refl}
use Rattle.std.specs.Prelude.{Option, Some, None, false, true, codes}
use Rattle.th_tree.specs.declared.tree.Ident.{Ident}
use Rattle.th_tree.specs.declared.tree.RefTree.{RefTree}
use Rattle.th_tree.specs.declared.tree.BinaryOp.TheVariants as ops
use Rattle.th_tree.specs.Trees.{TypeSyns, no_type, more_types, int_type, array_type, NamedSyn, ExprSyn, number_expr, true_expr, self_expr, super_expr, item_expr, call_expr, new_expr, new_array_expr, get_byte_expr, field_expr, method_expr, length_expr, element_expr, binary_expr, ExprSyns, no_expr, more_exprs}
use Rattle.th_type.specs.Failures.{place, failure}
use Rattle.th_type.specs.Types.{TypeExpr, int_ty, bool_ty, array_ty, named_ty, param_ty, no_ty, more_ty}
use Rattle.th_type.specs.Signatures.{Signature, Constraint}
use Rattle.th_type.specs.Declarations.{DeclaredType}
use Rattle.th_hier.specs.Naming.{Visible}
use Rattle.th_meaning.specs.declared.expr.ArithOp.TheVariants as arith
use Rattle.th_meaning.specs.declared.types.Primitive.TheVariants.{IntEqual}
use Rattle.th_meaning.specs.Trees as core
use Rattle.th_rules.specs.Context.{Binding, RoutineInfo, ClassInfo, exception_head, type_head, class_head, routine_head, Item, Context}
use Rattle.th_rules.specs.Callees.{checked, as_procedure}
use Rattle.th_rules.specs.Typing.{typed}
use Rattle.th_rules.specs.Failing.{fails, call_fails}
use Rattle.th_rules.specs.Raising.{raises}

-- the names: 0 equal, 1 a, 2 i$T, 3 i$S, 4 m, 5 i$C, 6 C, 7 same, 8 m/same, 9 f, 10 x, 11 p, 12 m/p, 13 i$x
abbrev table : List (List ℕ)
table = codes "equal" ∷ codes "a" ∷ codes "i$T" ∷ codes "i$S" ∷ codes "m" ∷ codes "i$C" ∷ codes "C" ∷ codes "same" ∷ codes "m/same"
    ∷ codes "f" ∷ codes "x" ∷ codes "p" ∷ codes "m/p" ∷ codes "i$x" ∷ []

abbrev t_type : TypeExpr
t_type = named_ty 2 no_ty

abbrev s_type : TypeExpr
s_type = named_ty 3 no_ty

-- m() returns (int)
abbrev m_sig : Signature
m_sig = record { method = 4; iterator = false; formals = no_ty; gives = Some int_ty; signals = [] }

-- equal (T) returns (bool), of the type parameter 0
abbrev equal_clause : Constraint
equal_clause = record { param = 0; sig = record { method = 0; iterator = false; formals = more_ty (param_ty 0) no_ty; gives = Some bool_ty; signals = [] } }

-- type T; m() returns (int); end  type S < T; end
abbrev two_types : List DeclaredType
two_types = record { name = 2; params = 0; supertypes = []; written = m_sig ∷ [] } ∷ record { name = 3; params = 0; supertypes = t_type ∷ []; written = [] } ∷ []

-- class C for S; field f: int; init (s: T) signals (x); end
abbrev c_class : ClassInfo
c_class = record {
  params = 0;
  of = s_type;
  inherits = None;
  clauses = [];
  init = record { method = 6; iterator = false; formals = more_ty t_type no_ty; gives = None; signals = 13 ∷ [] };
  hidden = [];
  fields = record { name = 9; of = Some int_ty; index = 0 } ∷ [];
}

-- routine same[T](a: T, b: T) returns (bool) where T has equal (T) returns (bool)
abbrev same_routine : RoutineInfo
same_routine = record {
  params = 1;
  clauses = equal_clause ∷ [];
  sig = record { method = 7; iterator = false; formals = more_ty (param_ty 0) (more_ty (param_ty 0) no_ty); gives = Some bool_ty; signals = [] };
}

-- routine p()
abbrev p_routine : RoutineInfo
p_routine = record { params = 0; clauses = []; sig = record { method = 11; iterator = false; formals = no_ty; gives = None; signals = 13 ∷ [] } }

abbrev all_items : List Item
all_items = record { name = 7; from = None; full = 8; head = routine_head same_routine } ∷ record { name = 11; from = None; full = 12; head = routine_head p_routine }
    ∷ record { name = 6; from = None; full = 5; head = class_head c_class } ∷ record { name = 10; from = None; full = 13; head = exception_head None } ∷ []

-- the context of a method's body in C, or of a routine
abbrev around : Option ℕ → Context
around c = record {
  text = 0;
  names = table;
  types = two_types;
  items = all_items;
  visible = record { text = None; implements = None; uses = []; params = [] };
  clauses = [];
  sig = m_sig;
  class = c;
}

-- a: T
abbrev a_local : List Binding
a_local = record { name = 1; of = Some t_type; index = 0 } ∷ []

abbrev bare : ℕ → ℕ → RefTree
bare n at = record { first = record { name = n; at = at }; second = None }

abbrev ident : ℕ → ℕ → Ident
ident n at = record { name = n; at = at }

abbrev args : List ExprSyn → ExprSyns
args [] = no_expr
args (e ∷ es) = more_exprs e (args es)

-- 1 + true at 10
wrong_sum : fails (around None) [] (binary_expr 10 ops.Plus (number_expr 10 1) (true_expr 14)) ≡ failure 20 (place 0 10) ∷ []
wrong_sum = refl

-- an unknown name hides the rule on the sum around it
unknown : fails (around None) [] (binary_expr 10 ops.Plus (true_expr 10) (item_expr 17 (bare 99 17) no_type)) ≡ failure 4 (place 0 17) ∷ []
unknown = refl

-- same{int}(1, 2)
same_ints : typed (around None) [] (call_expr 0 (bare 7 0) (more_types (int_type 5) no_type) (args (number_expr 10 1 ∷ number_expr 13 2 ∷ [])))
    ≡ Some (checked (core.call_expr (core.routine_call (codes "m/same") (core.more_types core.int_type core.no_type) (core.by_primitive IntEqual ∷ [])
    (core.more_exprs (core.number_expr 1) (core.more_exprs (core.number_expr 2) core.no_expr)))) bool_ty)
same_ints = refl

-- same{array[int]}(1): the clause is not satisfied, and the arguments do not fit
same_arrays : fails (around None) [] (call_expr 3 (bare 7 3) (more_types (array_type 8 (int_type 14)) no_type) (args (number_expr 20 1 ∷ []))) ≡ failure 17 (place 0 3) ∷ failure 22 (place 0 3) ∷ []
same_arrays = refl

-- same(1, 2) without braces as a statement: the count of types alone
no_braces : call_fails (around None) [] as_procedure (place 0 2) (call_expr 3 (bare 7 3) no_type (args (number_expr 20 1 ∷ []))) ≡ failure 5 (place 0 3) ∷ []
no_braces = refl

-- p() as a value, which has none, and whose exception nothing handles
no_value : fails (around None) [] (call_expr 3 (bare 11 3) no_type no_expr) ≡ failure 26 (place 0 3) ∷ []
no_value = refl

no_handler : raises (around None) [] [] (call_expr 3 (bare 11 3) no_type no_expr) ≡ failure 30 (place 0 3) ∷ []
no_handler = refl

-- new C(a): a cast of the class to its type
new_c : typed (around None) a_local (new_expr 0 (record { item = bare 6 4; args = no_type }) (args (item_expr 6 (bare 1 6) no_type ∷ [])))
    ≡ Some (checked (core.cast_expr (record { from = core.named_type (codes "i$C") core.no_type; to = core.named_type (codes "i$S") core.no_type })
    (core.new_expr (codes "i$C") core.no_type [] (core.more_exprs (core.local_expr 0) core.no_expr))) s_type)
new_c = refl

-- a call of a method that is inherited by the type: new C(a).m()
method_of_new : typed (around None) a_local (method_expr 0 (new_expr 0 (record { item = bare 6 4; args = no_type }) (args (item_expr 6 (bare 1 6) no_type ∷ []))) (ident 4 9) no_expr)
    ≡ Some (checked (core.call_expr (core.method_call (codes "i$S") (codes "m")
    (core.cast_expr (record { from = core.named_type (codes "i$C") core.no_type; to = core.named_type (codes "i$S") core.no_type })
    (core.new_expr (codes "i$C") core.no_type [] (core.more_exprs (core.local_expr 0) core.no_expr))) core.no_expr)) int_ty)
method_of_new = refl

-- new C(self): a subtype's value is cast to the formal's type
new_of_self : typed (around (Some 5)) [] (new_expr 0 (record { item = bare 6 4; args = no_type }) (args (self_expr 6 ∷ [])))
    ≡ Some (checked (core.cast_expr (record { from = core.named_type (codes "i$C") core.no_type; to = core.named_type (codes "i$S") core.no_type })
    (core.new_expr (codes "i$C") core.no_type [] (core.more_exprs
    (core.cast_expr (record { from = core.named_type (codes "i$S") core.no_type; to = core.named_type (codes "i$T") core.no_type }) core.self_expr) core.no_expr))) s_type)
new_of_self = refl

-- self.f in a method's body, and in a routine
own_field : typed (around (Some 5)) [] (field_expr 0 (self_expr 0) (ident 9 5)) ≡ Some (checked (core.field_expr (codes "i$C") 0) int_ty)
own_field = refl

no_field : fails (around None) [] (field_expr 2 (self_expr 2) (ident 9 7)) ≡ failure 18 (place 0 2) ∷ failure 18 (place 0 2) ∷ []
no_field = refl

-- super.m() where the class inherits nothing
no_super : fails (around (Some 5)) [] (super_expr 2 (ident 4 8) no_expr) ≡ failure 18 (place 0 2) ∷ []
no_super = refl

-- an operand of a class's type in place of a number; `a.length` of an object; a call of what it does not have
no_number : fails (around None) a_local (binary_expr 0 ops.Less (item_expr 0 (bare 1 0) no_type) (number_expr 4 1)) ≡ failure 20 (place 0 0) ∷ []
no_number = refl

no_length : fails (around None) a_local (length_expr 0 (item_expr 0 (bare 1 0) no_type)) ≡ failure 24 (place 0 0) ∷ []
no_length = refl

no_method : fails (around None) a_local (method_expr 0 (item_expr 0 (bare 1 0) no_type) (ident 7 2) no_expr) ≡ failure 25 (place 0 0) ∷ []
no_method = refl

-- a local hides the class of its name after `new`
hidden_class : fails (around None) (record { name = 6; of = Some int_ty; index = 0 } ∷ []) (new_expr 0 (record { item = bare 6 4; args = no_type }) no_expr) ≡ failure 4 (place 0 4) ∷ []
hidden_class = refl

-- new array[int](true, a): the length is no number and the value does not fit
wrong_array : fails (around None) a_local (new_array_expr 0 (int_type 10) (true_expr 15) (item_expr 21 (bare 1 21) no_type)) ≡ failure 24 (place 0 0) ∷ failure 23 (place 0 21) ∷ []
wrong_array = refl
