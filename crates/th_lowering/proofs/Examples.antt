-- Small programs, whose runs as checked programs and as Flat code are computed and are the same.
use Rattle.std.proofs.Common.{◌≡◌, ℕ, List, [], ◌∷◌, ◌++◌, map, refl}
use Rattle.std.specs.Prelude.{Bool, Option, Some, None, false, true, codes, bytes_eq, if◌then◌else◌}
use Rattle.std.specs.Fmt.{digits}
use Rattle.th_meaning.specs.declared.types.Primitive.TheVariants.{IntLess}
use Rattle.th_meaning.specs.declared.expr.ArithOp.TheVariants.{Plus, Minus, Divide}
use Rattle.th_meaning.specs.declared.expr.CompareOp.TheVariants.{Equal, Less}
use Rattle.th_meaning.specs.Trees.{TypeTree, int_type, bool_type, named_type, no_type, Signature, ClauseTree, by_primitive, passed, ExprTree, number_expr, truth_expr, literal_expr, local_expr, field_expr, negative_expr, arith_expr, compare_expr, not_expr, and_expr, or_expr, join_expr, element_expr, call_expr, new_expr, new_array_expr, get_byte_expr, ExprTrees, no_expr, more_exprs, routine_call, method_call, super_call, where_call, init_call, Variable, StmtTree, var_stmt, set_local_stmt, set_field_stmt, call_stmt, drop_stmt, if_stmt, while_stmt, for_stmt, break_stmt, return_stmt, return_value_stmt, yield_stmt, raise_stmt, raise_value_stmt, begin_stmt, put_byte_stmt, put_int_stmt, put_text_stmt, BodyTree, no_stmt, more_stmts, no_else, else_do, elseif_then, no_when, more_whens}
use Rattle.th_meaning.specs.Program.{ProgramUnit, ProgramClass, ProgramModule, Program, UnitSort, of_routine, of_method, of_init}
use Rattle.th_meaning.specs.Run.{source_run}
use Rattle.th_flat.specs.declared.module.FlatModule.{FlatModule}
use Rattle.th_flat.specs.Program.{FlatProgram, Declared, program_of}
use Rattle.th_flat.specs.Runs.{flat_stand}
use Rattle.th_lowering.specs.Module.{lowered_class, module_units}

-- one type `i$T`, for which all classes are; `m/B` inherits `m/A`
abbrev declared : Declared
declared = record {
  class_type = λ class. Some (codes "i$T");
  inherited = λ class. if bytes_eq class (codes "m/B") then Some (codes "m/A") else None;
  reaches = bytes_eq;
  is_home = λ head method. bytes_eq head (codes "i$T");
  type_result = λ head method. None;
  class_result = λ class method. None;
  header_words = λ class. 1;
}

abbrev lowered : ProgramModule → FlatModule
lowered m = record { name = m.name; interfaces = []; classes = map lowered_class m.classes; units = module_units m }

-- the run of the Flat code ends within so many steps, as the run of the program does
abbrev Same : Program → (input : List ℕ) → (room : Option ℕ) → (turns : ℕ) → (count : ℕ) → Type 0
Same p input room turns count = flat_stand (program_of declared (map lowered p)) input room turns count ≡ source_run p input room turns

abbrev body : List StmtTree → BodyTree
body [] = no_stmt
body (s ∷ rest) = more_stmts s (body rest)

abbrev exprs : List ExprTree → ExprTrees
exprs [] = no_expr
exprs (e ∷ rest) = more_exprs e (exprs rest)

abbrev sig : Bool → List TypeTree → Option TypeTree → Signature
sig iterator formals gives = record { iterator = iterator; formals = formals; gives = gives; signals = [] }

abbrev unit : List ℕ → UnitSort → List ClauseTree → Signature → List StmtTree → ProgramUnit
unit name sort clauses s stmts = record { name = name; sort = sort; params = 0; clauses = clauses; sig = s; body = body stmts }

abbrev module_with : List ProgramClass → List ProgramUnit → List StmtTree → Program
module_with classes units stmts = record { name = codes "m"; interfaces = []; classes = classes; units = unit (codes "m/main") of_routine [] (sig false [] None) stmts ∷ units } ∷ []

abbrev program : List ProgramUnit → List StmtTree → Program
program units stmts = module_with [] units stmts

abbrev x0 : Variable
x0 = record { local = 0; of = int_type }

abbrev x1 : Variable
x1 = record { local = 1; of = int_type }

abbrev two : ExprTree → ExprTree → ExprTrees
two a b = exprs (a ∷ b ∷ [])

-- put_int(-7 - 1)
least : Same (program [] (put_int_stmt (arith_expr Minus (negative_expr (number_expr 7)) (number_expr 1)) ∷ [])) [] None 3 20
unfolding digits
least = refl

-- a loop that counts down, with a test of each kind in its body
abbrev counting : Program
counting = program [] (var_stmt x0 (number_expr 3)
    ∷ while_stmt (compare_expr Less (number_expr 0) (local_expr 0)) (body
    (if_stmt (compare_expr Equal (local_expr 0) (number_expr 3)) (body (put_byte_stmt (number_expr 51) ∷ []))
    (elseif_then (and_expr (truth_expr true) (not_expr (compare_expr Equal (local_expr 0) (number_expr 2)))) (body (put_byte_stmt (number_expr 49) ∷ break_stmt ∷ []))
    (else_do (body (put_byte_stmt (number_expr 50) ∷ [])))) ∷ set_local_stmt 0 (arith_expr Minus (local_expr 0) (number_expr 1)) ∷ []))
    ∷ if_stmt (or_expr (truth_expr false) (truth_expr true)) (body (put_byte_stmt (number_expr 10) ∷ [])) no_else ∷ [])

counts : Same counting [] None 3 90
counts = refl

counts_short : Same counting [] None 2 90
counts_short = refl

-- the right side of `and` and `or` is left where the left one decides
decides : Same (program [] (if_stmt (and_expr (truth_expr false) (compare_expr Equal (arith_expr Divide (number_expr 1) (number_expr 0)) (number_expr 0))) no_stmt no_else
    ∷ if_stmt (or_expr (truth_expr true) (compare_expr Equal (arith_expr Divide (number_expr 1) (number_expr 0)) (number_expr 0))) (body (put_byte_stmt (number_expr 1) ∷ [])) no_else ∷ [])) [] None 0 30
decides = refl

-- an iterator of two values, with a handler of its own, and a `for` over it with this body
abbrev two_values : List StmtTree → Program
two_values stmts = program
    (unit (codes "m/it") of_routine [] (sig true [] (Some int_type)) (begin_stmt (body (yield_stmt (number_expr 65) ∷ yield_stmt (number_expr 66) ∷ []))
    (more_whens (codes "overflow") None (body (put_byte_stmt (number_expr 33) ∷ [])) no_when) ∷ []) ∷ [])
    (for_stmt x0 None (routine_call (codes "m/it") no_type [] no_expr) (body stmts) ∷ put_byte_stmt (number_expr 10) ∷ [])

two_put : Same (two_values (put_byte_stmt (local_expr 0) ∷ [])) [] None 3 60
two_put = refl

two_put_2 : Same (two_values (put_byte_stmt (local_expr 0) ∷ [])) [] None 2 60
two_put_2 = refl

two_break : Same (two_values (put_byte_stmt (local_expr 0) ∷ break_stmt ∷ [])) [] None 9 60
two_break = refl

two_return : Same (two_values (put_byte_stmt (local_expr 0) ∷ return_stmt ∷ [])) [] None 9 60
two_return = refl

two_raise : Same (two_values (raise_stmt (codes "overflow") ∷ [])) [] None 9 60
two_raise = refl

-- an iterator within an iterator, left from the innermost body
abbrev nested : StmtTree → Program
nested leave = program
    (unit (codes "m/in") of_routine [] (sig true [] (Some int_type)) (yield_stmt (number_expr 65) ∷ yield_stmt (number_expr 66) ∷ [])
    ∷ unit (codes "m/out") of_routine [] (sig true [] (Some int_type)) (for_stmt x0 None (routine_call (codes "m/in") no_type [] no_expr) (body (yield_stmt (local_expr 0) ∷ [])) ∷ put_byte_stmt (number_expr 46) ∷ []) ∷ [])
    (begin_stmt (body (for_stmt x0 None (routine_call (codes "m/out") no_type [] no_expr) (body (put_byte_stmt (local_expr 0) ∷ leave ∷ [])) ∷ []))
    (more_whens (codes "e$x") (Some x1) (body (put_byte_stmt (local_expr 1) ∷ [])) (more_whens (codes "bounds") None (body (put_byte_stmt (number_expr 66) ∷ [])) no_when)) ∷ put_byte_stmt (number_expr 10) ∷ [])

nested_put : Same (nested (put_byte_stmt (number_expr 45))) [] None 9 90
nested_put = refl

nested_break : Same (nested break_stmt) [] (Some 1200) 9 90
nested_break = refl

nested_raise : Same (nested (raise_value_stmt (codes "e$x") (number_expr 64))) [] None 9 90
nested_raise = refl

nested_bounds : Same (nested (put_byte_stmt (number_expr 256))) [] None 9 90
nested_bounds = refl

nested_return : Same (nested return_stmt) [] None 9 90
nested_return = refl

-- room at its limit
abbrev array_of_three : Program
array_of_three = program [] (var_stmt x0 (new_array_expr int_type (number_expr 3) (number_expr 7)) ∷ put_int_stmt (element_expr (local_expr 0) (number_expr 2)) ∷ [])

array_fits : Same array_of_three [] (Some 288) 6 30
unfolding digits
array_fits = refl

array_no_room : Same array_of_three [] (Some 287) 6 30
array_no_room = refl

main_no_room : Same array_of_three [] (Some 267) 6 30
main_no_room = refl

-- "ab" & "c"
joined_7 : Same (program [] (put_text_stmt (join_expr (literal_expr (codes "ab")) (literal_expr (codes "c"))) ∷ [])) [] None 7 30
joined_7 = refl

-- a where-method, passed on by one routine to another
abbrev less_clause : ClauseTree
less_clause = record { param = 0; method = record { name = codes "less"; sig = sig false (int_type ∷ []) (Some bool_type) } }

abbrev where_less : Program
where_less = program
    (unit (codes "m/f") of_routine (less_clause ∷ []) (sig false (int_type ∷ int_type ∷ []) None)
    (call_stmt (routine_call (codes "m/g") no_type (passed 0 ∷ []) (two (local_expr 1) (local_expr 0))) ∷ [])
    ∷ unit (codes "m/g") of_routine (less_clause ∷ []) (sig false (int_type ∷ int_type ∷ []) None)
    (if_stmt (call_expr (where_call 0 (codes "less") (local_expr 0) (exprs (local_expr 1 ∷ [])))) (body (put_byte_stmt (number_expr 49) ∷ [])) no_else ∷ []) ∷ [])
    (call_stmt (routine_call (codes "m/f") no_type (by_primitive IntLess ∷ []) (two (number_expr 3) (number_expr 2))) ∷ [])

where_less_2 : Same where_less [] None 2 60
unfolding digits
where_less_2 = refl

where_less_3 : Same where_less [] None 3 60
unfolding digits
where_less_3 = refl

-- a class with one field, and one that inherits it
abbrev class_for : List ℕ → Option TypeTree → ProgramClass
class_for name inherits = record {
  text = [];
  head = record { name = name; params = 0; of = named_type (codes "i$T") no_type; inherits = inherits; clauses = [] };
  fields = record { name = codes "x"; of = int_type } ∷ [];
  hidden = [];
  methods = codes "f" ∷ [];
}

abbrev two_classes : List StmtTree → Program
two_classes stmts = module_with (class_for (codes "m/A") None ∷ class_for (codes "m/B") (Some (named_type (codes "m/A") no_type)) ∷ [])
    (unit (codes "m/A.init") (of_init (codes "m/A")) [] (sig false (int_type ∷ []) None) (set_field_stmt (codes "m/A") 0 (local_expr 0) ∷ [])
    ∷ unit (codes "m/A.f") (of_method (codes "m/A") (codes "f")) [] (sig false [] (Some int_type)) (return_value_stmt (field_expr (codes "m/A") 0) ∷ [])
    ∷ unit (codes "m/B.init") (of_init (codes "m/B")) [] (sig false [] None) (call_stmt (init_call (codes "m/A") no_type [] (exprs (number_expr 65 ∷ []))) ∷ set_field_stmt (codes "m/B") 0 (number_expr 1) ∷ [])
    ∷ unit (codes "m/B.f") (of_method (codes "m/B") (codes "f")) [] (sig false [] (Some int_type))
    (return_value_stmt (arith_expr Plus (call_expr (super_call (codes "m/A") (codes "f") no_expr)) (field_expr (codes "m/B") 0)) ∷ []) ∷ [])
    stmts

super_walks : Same (two_classes (put_byte_stmt (call_expr (method_call (codes "i$T") (codes "f") (new_expr (codes "m/B") no_type [] no_expr) no_expr)) ∷ [])) [] None 4 80
super_walks = refl

super_short : Same (two_classes (put_byte_stmt (call_expr (method_call (codes "i$T") (codes "f") (new_expr (codes "m/B") no_type [] no_expr) no_expr)) ∷ [])) [] None 3 80
super_short = refl

-- operands in order; an exception that no handler is for
in_order : Same (program [] (begin_stmt (body (put_int_stmt (arith_expr Minus get_byte_expr get_byte_expr) ∷ put_int_stmt get_byte_expr ∷ []))
    (more_whens (codes "end_of_input") None (body (put_byte_stmt (number_expr 46) ∷ [])) no_when) ∷ [])) (9 ∷ 4 ∷ []) None 2 40
unfolding digits
in_order = refl

unhandled : Same (program [] (begin_stmt (body (raise_value_stmt (codes "e$x") (number_expr 65) ∷ [])) (more_whens (codes "bounds") None no_stmt no_when) ∷ [])) [] None 1 30
unhandled = refl
