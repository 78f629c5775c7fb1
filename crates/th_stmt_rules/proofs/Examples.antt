-- Small bodies worked out by hand.
use Rattle.std.proofs.Common.{◌≡◌, ℕ, List, [], ◌∷◌, refl}
use Rattle.std.specs.Prelude.{Option, Some, None, false, true, codes}
use Rattle.th_tree.specs.declared.tree.Ident.{Ident}
use Rattle.th_tree.specs.declared.tree.RefTree.{RefTree}
use Rattle.th_tree.specs.declared.tree.ExcTree.TheVariants as exc
use Rattle.th_tree.specs.Trees.{FormalSyn, TypeSyn, int_type, bool_type, no_type, ExprSyn, number_expr, true_expr, item_expr, call_expr, no_expr, more_exprs, StmtSyn, var_stmt, assign_stmt, plain_stmt, if_stmt, while_stmt, for_stmt, break_stmt, return_stmt, return_value_stmt, yield_stmt, raise_stmt, raise_value_stmt, begin_stmt, put_byte_stmt, BodySyn, no_stmt, more_stmts, no_else, else_do, no_when, more_whens}
use Rattle.th_type.specs.Failures.{place, failure}
use Rattle.th_type.specs.Types.{int_ty, bool_ty, no_ty}
use Rattle.th_type.specs.Signatures.{Signature}
use Rattle.th_meaning.specs.Trees as core
use Rattle.th_rules.specs.Context.{Binding, RoutineInfo, exception_head, routine_head, Item, Context}
use Rattle.th_stmt_rules.specs.Ending.{body_ends}
use Rattle.th_stmt_rules.specs.Units.{unit_fails, unit_core, ends_lawfully}

-- the names: 0 x, 1 up, 2 a, 3 i$x, 4 m/up, 5 y, 6 i$y, 7 u
abbrev table : List (List ℕ)
table = codes "x" ∷ codes "up" ∷ codes "a" ∷ codes "i$x" ∷ codes "m/up" ∷ codes "y" ∷ codes "i$y" ∷ codes "u" ∷ []

-- iter up() yields (int) signals (x)
abbrev up : RoutineInfo
up = record { params = 0; clauses = []; sig = record { method = 1; iterator = true; formals = no_ty; gives = Some int_ty; signals = 3 ∷ [] } }

-- exception x; exception y(int);
abbrev items : List Item
items = record { name = 1; from = None; full = 4; head = routine_head up } ∷ record { name = 0; from = None; full = 3; head = exception_head None }
    ∷ record { name = 5; from = None; full = 6; head = exception_head (Some int_ty) } ∷ []

-- where a unit with this signature stands
abbrev within : Signature → Context
within s = record {
  text = 0;
  names = table;
  types = [];
  items = items;
  visible = record { text = None; implements = None; uses = []; params = [] };
  clauses = [];
  sig = s;
  class = None;
}

-- u() · u() returns (int) · u() signals (x)
abbrev nothing : Signature
nothing = record { method = 7; iterator = false; formals = no_ty; gives = None; signals = [] }

abbrev a_number : Signature
a_number = record { method = 7; iterator = false; formals = no_ty; gives = Some int_ty; signals = [] }

abbrev listed : Signature
listed = record { method = 7; iterator = false; formals = no_ty; gives = None; signals = 3 ∷ [] }

abbrev ident : ℕ → ℕ → Ident
ident n at = record { name = n; at = at }

abbrev bare : ℕ → ℕ → RefTree
bare n at = record { first = ident n at; second = None }

abbrev stmts : List StmtSyn → BodySyn
stmts [] = no_stmt
stmts (s ∷ ss) = more_stmts s (stmts ss)

abbrev a_int : ℕ → FormalSyn
a_int at = record { name = ident 2 at; of = int_type at }

abbrev a_at : ℕ → ExprSyn
a_at at = item_expr at (bare 2 at) no_type

-- var a: int := 1; a := a;
two_locals : unit_core (within nothing) [] (stmts (var_stmt 0 (a_int 4) (number_expr 14 1) ∷ assign_stmt 17 (a_at 17) (a_at 22) ∷ []))
    ≡ Some (core.more_stmts (core.var_stmt (record { local = 0; of = core.int_type }) (core.number_expr 1)) (core.more_stmts (core.set_local_stmt 0 (core.local_expr 0)) core.no_stmt))
two_locals = refl

-- a local does not see itself, and its name is that of no local in scope
own_value : unit_fails (within nothing) [] (stmts (var_stmt 0 (a_int 4) (a_at 14) ∷ [])) ≡ failure 4 (place 0 14) ∷ []
own_value = refl

hidden_local : unit_fails (within nothing) [] (stmts (var_stmt 0 (a_int 4) (number_expr 14 1) ∷ var_stmt 20 (a_int 24) (number_expr 34 1) ∷ [])) ≡ failure 19 (place 0 24) ∷ []
hidden_local = refl

-- the scope of a local ends with the body; the numbers go on
scopes_end : unit_core (within nothing) [] (stmts (if_stmt 0 (true_expr 3) (stmts (var_stmt 10 (a_int 14) (number_expr 24 1) ∷ [])) (else_do (stmts (var_stmt 30 (a_int 34) (number_expr 44 2) ∷ []))) ∷ []))
    ≡ Some (core.more_stmts (core.if_stmt (core.truth_expr true) (core.more_stmts (core.var_stmt (record { local = 0; of = core.int_type }) (core.number_expr 1)) core.no_stmt)
    (core.else_do (core.more_stmts (core.var_stmt (record { local = 1; of = core.int_type }) (core.number_expr 2)) core.no_stmt))) core.no_stmt)
scopes_end = refl

-- a condition that is a number; `break` outside a loop; `return 1;` in what returns nothing; `yield` in a procedure
wrong_test : unit_fails (within nothing) [] (stmts (while_stmt 0 (number_expr 6 1) (stmts (break_stmt 11 ∷ [])) ∷ break_stmt 22 ∷ [])) ≡ failure 21 (place 0 6) ∷ failure 27 (place 0 22) ∷ []
wrong_test = refl

wrong_return : unit_fails (within nothing) [] (stmts (return_value_stmt 3 (number_expr 10 1) ∷ yield_stmt 14 (true_expr 20) ∷ [])) ≡ failure 27 (place 0 3) ∷ failure 27 (place 0 14) ∷ []
wrong_return = refl

-- a result of another type
wrong_result : unit_fails (within a_number) [] (stmts (return_value_stmt 3 (true_expr 10) ∷ [])) ≡ failure 23 (place 0 10) ∷ []
wrong_result = refl

-- for a: int in up() do put_byte(a); end, whose exception nothing handles: at the word `for`
unhandled_loop : unit_fails (within nothing) [] (stmts (for_stmt 0 (a_int 4) (call_expr 14 (bare 1 14) no_type no_expr) (stmts (put_byte_stmt 22 (a_at 31) ∷ [])) ∷ [])) ≡ failure 30 (place 0 0) ∷ []
unhandled_loop = refl

listed_loop : unit_fails (within listed) [] (stmts (for_stmt 0 (a_int 4) (call_expr 14 (bare 1 14) no_type no_expr) (stmts (put_byte_stmt 22 (a_at 31) ∷ [])) ∷ [])) ≡ []
listed_loop = refl

-- a call of an iterator as a statement
iterator_as_statement : unit_fails (within listed) [] (stmts (plain_stmt 0 (call_expr 1 (bare 1 1) no_type no_expr) ∷ [])) ≡ failure 26 (place 0 0) ∷ []
iterator_as_statement = refl

-- begin raise x; except when x do raise x; end: the block does not cover its own handlers
raised_again : unit_fails (within nothing) [] (stmts (begin_stmt 0 (stmts (raise_stmt 6 (exc.Declared (bare 0 12)) ∷ [])) (more_whens 22 (exc.Declared (bare 0 27)) None (stmts (raise_stmt 32 (exc.Declared (bare 0 38)) ∷ [])) no_when) ∷ []))
    ≡ failure 30 (place 0 32) ∷ []
raised_again = refl

-- a block that names an exception twice; `when y do` of an exception with an argument; `raise x(1);`
named_twice : unit_fails (within nothing) [] (stmts (begin_stmt 0 no_stmt (more_whens 22 (exc.Overflow 27) None no_stmt (more_whens 40 (exc.Overflow 45) None no_stmt no_when)) ∷ [])) ≡ failure 9 (place 0 40) ∷ []
named_twice = refl

no_argument : unit_fails (within listed) [] (stmts (begin_stmt 0 no_stmt (more_whens 22 (exc.Declared (bare 5 27)) None no_stmt no_when) ∷ raise_value_stmt 40 (exc.Declared (bare 0 46)) (number_expr 48 1) ∷ []))
    ≡ failure 9 (place 0 22) ∷ failure 9 (place 0 40) ∷ []
no_argument = refl

-- an `if` with `else` whose bodies end, and a loop that never ends
ends_in_if : ends_lawfully a_number (stmts (if_stmt 0 (true_expr 3) (stmts (return_value_stmt 13 (number_expr 20 1) ∷ [])) (else_do (stmts (raise_stmt 30 (exc.Bounds 36) ∷ []))) ∷ [])) ≡ true
ends_in_if = refl

ends_in_loop : ends_lawfully a_number (stmts (while_stmt 0 (true_expr 6) (stmts (return_value_stmt 13 (number_expr 20 1) ∷ [])) ∷ [])) ≡ false
ends_in_loop = refl
