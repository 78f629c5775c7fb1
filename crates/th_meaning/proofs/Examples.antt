-- Runs worked out by hand.
use Rattle.std.proofs.Common.{◌≡◌, ℕ, List, [], ◌∷◌, ◌++◌, refl}
use Rattle.std.specs.Prelude.{Option, Some, None, false, true, codes}
use Rattle.std.specs.Fmt.{digits}
use Rattle.th_world.specs.Event.{Event, Put, Took, FoundEnd, Entered}
use Rattle.th_runs.specs.Stand.{Ended, Raised, NoTurns, NoRoom, Stand}
use Rattle.th_meaning.specs.declared.expr.ArithOp.TheVariants.{Plus, Minus}
use Rattle.th_meaning.specs.declared.expr.CompareOp.TheVariants.{Less}
use Rattle.th_meaning.specs.Trees.{TypeTree, int_type, named_type, no_type, Signature, ExprTree, number_expr, literal_expr, self_expr, local_expr, field_expr, negative_expr, arith_expr, compare_expr, same_expr, join_expr, element_expr, length_expr, call_expr, new_expr, new_array_expr, get_byte_expr, ExprTrees, no_expr, more_exprs, routine_call, method_call, super_call, where_call, init_call, Variable, StmtTree, var_stmt, set_local_stmt, set_field_stmt, set_element_stmt, call_stmt, if_stmt, while_stmt, for_stmt, break_stmt, return_stmt, return_value_stmt, yield_stmt, raise_stmt, raise_value_stmt, begin_stmt, put_byte_stmt, put_int_stmt, put_text_stmt, BodyTree, no_stmt, more_stmts, no_else, no_when, more_whens}
use Rattle.th_meaning.specs.Program.{ProgramUnit, ProgramClass, ProgramModule, Program, TypeDecl, ProgramInterface, UnitSort, of_routine, of_method, of_init}
use Rattle.th_meaning.specs.Counts.{call_weight, program_nodes, unit_depth, unit_locals}
use Rattle.th_meaning.specs.Weights.{object_weight}
use Rattle.th_meaning.specs.World.{bounds}
use Rattle.th_meaning.specs.Run.{source_run}

-- statements in order
abbrev body : List StmtTree → BodyTree
body [] = no_stmt
body (s ∷ rest) = more_stmts s (body rest)

-- expressions in order
abbrev exprs : List ExprTree → ExprTrees
exprs [] = no_expr
exprs (e ∷ rest) = more_exprs e (exprs rest)

-- a signature of an iterator or not, with so many numbers as formals
abbrev sig_with : List TypeTree → Signature
sig_with formals = record { iterator = false; formals = formals; gives = None; signals = [] }

-- a unit
abbrev unit_with : List ℕ → UnitSort → List TypeTree → List StmtTree → ProgramUnit
unit_with name sort formals stmts = record { name = name; sort = sort; params = 0; clauses = []; sig = sig_with formals; body = body stmts }

-- a routine m/n
abbrev routine : List ℕ → List TypeTree → List StmtTree → ProgramUnit
routine n formals stmts = unit_with (codes "m/" ++ n) of_routine formals stmts

-- the program of one module m with these units, and a `main` of these statements
abbrev program : List ProgramUnit → List StmtTree → Program
program units stmts = record { name = codes "m"; interfaces = []; classes = []; units = routine (codes "main") [] stmts ∷ units } ∷ []

-- the run of a program with so many turns, without a limit of room and without input
abbrev runs : Program → ℕ → Stand
runs p turns = source_run p [] None turns

-- the trace of a run that entered `main` and then put these bytes, the newest first
abbrev puts_of : List Event → List Event
puts_of events = events ++ Entered (codes "m/main") ∷ []

-- put_int(-2147483647 - 1): eleven bytes, so twelve turns
abbrev least : Program
least = program [] (put_int_stmt (arith_expr Minus (negative_expr (number_expr 2147483647)) (number_expr 1)) ∷ [])

least_11 : runs least 11 ≡ record { end = NoTurns; trace = puts_of [] }
unfolding digits
least_11 = refl

least_12 : runs least 12 ≡ record { end = Ended; trace = puts_of (Put 56 ∷ Put 52 ∷ Put 54 ∷ Put 51 ∷ Put 56 ∷ Put 52 ∷ Put 55 ∷ Put 52 ∷ Put 49 ∷ Put 50 ∷ Put 45 ∷ []) }
unfolding digits
least_12 = refl

abbrev x0 : Variable
x0 = record { local = 0; of = int_type }

abbrev x1 : Variable
x1 = record { local = 1; of = int_type }

-- an iterator of two values, with a handler of its own, and a `for` over it with this body
abbrev two_values : List StmtTree → Program
two_values stmts = program
    (routine (codes "it") [] (begin_stmt (body (yield_stmt (number_expr 65) ∷ yield_stmt (number_expr 66) ∷ []))
    (more_whens (codes "overflow") None (body (put_byte_stmt (number_expr 33) ∷ [])) no_when) ∷ []) ∷ [])
    (for_stmt x0 None (routine_call (codes "m/it") no_type [] no_expr) (body stmts) ∷ put_byte_stmt (number_expr 10) ∷ [])

-- the body puts each: a turn for the call and one for each yield
two_put : runs (two_values (put_byte_stmt (local_expr 0) ∷ [])) 3
    ≡ record { end = Ended; trace = Put 10 ∷ Put 66 ∷ Put 65 ∷ Entered (codes "m/it") ∷ Entered (codes "m/main") ∷ [] }
two_put = refl

two_put_2 : runs (two_values (put_byte_stmt (local_expr 0) ∷ [])) 2
    ≡ record { end = NoTurns; trace = Put 65 ∷ Entered (codes "m/it") ∷ Entered (codes "m/main") ∷ [] }
two_put_2 = refl

-- the body leaves the loop at once
two_break : runs (two_values (put_byte_stmt (local_expr 0) ∷ break_stmt ∷ [])) 9
    ≡ record { end = Ended; trace = Put 10 ∷ Put 65 ∷ Entered (codes "m/it") ∷ Entered (codes "m/main") ∷ [] }
two_break = refl

-- the body returns from `main`
two_return : runs (two_values (put_byte_stmt (local_expr 0) ∷ return_stmt ∷ [])) 9
    ≡ record { end = Ended; trace = Put 65 ∷ Entered (codes "m/it") ∷ Entered (codes "m/main") ∷ [] }
two_return = refl

-- the iterator's own handler doesn't see what the body raises
two_raise : runs (two_values (raise_stmt (codes "overflow") ∷ [])) 9
    ≡ record { end = Raised (codes "overflow"); trace = Entered (codes "m/it") ∷ Entered (codes "m/main") ∷ [] }
two_raise = refl

-- room: `main` weighs 256 + 4 * (1 + 2), an array of three numbers 20
abbrev array_of_three : Program
array_of_three = program [] (var_stmt x0 (new_array_expr int_type (number_expr 3) (number_expr 7)) ∷ put_int_stmt (element_expr (local_expr 0) (number_expr 2)) ∷ [])

array_fits : source_run array_of_three [] (Some 288) 6 ≡ record { end = Ended; trace = puts_of (Put 55 ∷ []) }
unfolding digits
array_fits = refl

array_no_room : source_run array_of_three [] (Some 287) 6 ≡ record { end = NoRoom; trace = puts_of [] }
array_no_room = refl

main_no_room : source_run array_of_three [] (Some 267) 6 ≡ record { end = NoRoom; trace = [] }
main_no_room = refl

-- the turns of an array come before its room
array_no_turns : source_run array_of_three [] (Some 287) 3 ≡ record { end = NoTurns; trace = puts_of [] }
array_no_turns = refl

-- "ab" & "c": four turns; putting it: one turn and one before each byte
abbrev joined : Program
joined = program [] (put_text_stmt (join_expr (literal_expr (codes "ab")) (literal_expr (codes "c"))) ∷ [])

joined_7 : runs joined 7 ≡ record { end = NoTurns; trace = puts_of (Put 98 ∷ Put 97 ∷ []) }
joined_7 = refl

joined_8 : runs joined 8 ≡ record { end = Ended; trace = puts_of (Put 99 ∷ Put 98 ∷ Put 97 ∷ []) }
joined_8 = refl

-- a routine with a where-method that is called on a number: the call and the primitive take a turn each
abbrev where_less : Program
where_less = program
    (routine (codes "f") (int_type ∷ int_type ∷ [])
    (if_stmt (call_expr (where_call 0 (codes "less") (local_expr 0) (exprs (local_expr 1 ∷ [])))) (body (put_byte_stmt (number_expr 49) ∷ [])) no_else ∷ []) ∷ [])
    (call_stmt (routine_call (codes "m/f") no_type [] (exprs (number_expr 2 ∷ number_expr 3 ∷ []))) ∷ [])

where_less_1 : runs where_less 1 ≡ record { end = NoTurns; trace = Entered (codes "m/f") ∷ Entered (codes "m/main") ∷ [] }
where_less_1 = refl

where_less_2 : runs where_less 2 ≡ record { end = Ended; trace = Put 49 ∷ Entered (codes "m/f") ∷ Entered (codes "m/main") ∷ [] }
where_less_2 = refl

-- endless recursion uses up its turns, or its room
abbrev endless : Program
endless = program (routine (codes "r") [] (call_stmt (routine_call (codes "m/r") no_type [] no_expr) ∷ []) ∷ []) (call_stmt (routine_call (codes "m/r") no_type [] no_expr) ∷ [])

endless_turns : runs endless 2 ≡ record { end = NoTurns; trace = Entered (codes "m/r") ∷ Entered (codes "m/r") ∷ Entered (codes "m/main") ∷ [] }
endless_turns = refl

endless_room : source_run endless [] (Some 600) 9 ≡ record { end = NoRoom; trace = Entered (codes "m/r") ∷ Entered (codes "m/main") ∷ [] }
endless_room = refl

-- a class for the type T with one field and a body of `f`
abbrev class_for : List ℕ → Option TypeTree → ProgramClass
class_for name inherits = record {
  text = [];
  head = record { name = name; params = 0; of = named_type (codes "i$T") no_type; inherits = inherits; clauses = [] };
  fields = record { name = codes "x"; of = int_type } ∷ [];
  hidden = [];
  methods = codes "f" ∷ [];
}

-- a type, a class for it and a class that inherits it, with a body of `f` each
abbrev two_classes : List StmtTree → Program
two_classes stmts = record {
  name = codes "m";
  interfaces = record { name = codes "i"; canonical = []; types = record { name = codes "i$T"; params = 0; supertypes = []; methods = [] } ∷ []; exceptions = []; classes = []; routines = [] } ∷ [];
  classes = class_for (codes "m/A") None ∷ class_for (codes "m/B") (Some (named_type (codes "m/A") no_type)) ∷ [];
  units = routine (codes "main") [] stmts
      ∷ unit_with (codes "m/A.init") (of_init (codes "m/A")) (int_type ∷ []) (set_field_stmt (codes "m/A") 0 (local_expr 0) ∷ [])
      ∷ unit_with (codes "m/A.f") (of_method (codes "m/A") (codes "f")) [] (return_value_stmt (field_expr (codes "m/A") 0) ∷ [])
      ∷ unit_with (codes "m/B.init") (of_init (codes "m/B")) [] (call_stmt (init_call (codes "m/A") no_type [] (exprs (number_expr 65 ∷ []))) ∷ set_field_stmt (codes "m/B") 0 (number_expr 1) ∷ [])
      ∷ unit_with (codes "m/B.f") (of_method (codes "m/B") (codes "f")) []
      (return_value_stmt (arith_expr Plus (call_expr (super_call (codes "m/A") (codes "f") no_expr)) (field_expr (codes "m/B") 0)) ∷ [])
      ∷ [];
} ∷ []

-- B overrides A's `f` and calls it; `new` takes a turn, each of the calls one
super_walks : runs (two_classes (put_byte_stmt (call_expr (method_call (codes "i$T") (codes "f") (new_expr (codes "m/B") no_type [] no_expr) no_expr)) ∷ [])) 4
    ≡ record { end = Ended; trace = Put 66 ∷ Entered (codes "m/A.f") ∷ Entered (codes "m/B.f") ∷ Entered (codes "m/A.init") ∷ Entered (codes "m/B.init") ∷ Entered (codes "m/main") ∷ [] }
super_walks = refl

-- an object of B has one header word, since its type is A's, and a field of each
weighs : object_weight (two_classes []) (codes "m/B") ≡ 12
weighs = refl

-- an operand's effects come before those of the operands after it; end of input is seen each time
abbrev operands : Program
operands = program [] (begin_stmt (body (put_int_stmt (arith_expr Minus get_byte_expr get_byte_expr) ∷ put_int_stmt get_byte_expr ∷ []))
    (more_whens (codes "end_of_input") None (body (put_byte_stmt (number_expr 46) ∷ [])) no_when) ∷ [])

in_order : source_run operands (9 ∷ 4 ∷ []) None 2 ≡ record { end = Ended; trace = puts_of (Put 46 ∷ FoundEnd ∷ Put 53 ∷ Took 4 ∷ Took 9 ∷ []) }
unfolding digits
in_order = refl

-- an index that is out of range, an exception with an argument that its handler binds
abbrev caught : Program
caught = program [] (begin_stmt (body (raise_value_stmt (codes "e$x") (number_expr 65) ∷ []))
    (more_whens (codes "bounds") None no_stmt (more_whens (codes "e$x") (Some x0) (body (put_byte_stmt (local_expr 0) ∷ put_byte_stmt (element_expr (new_array_expr int_type (number_expr 0) (number_expr 7)) (number_expr 0)) ∷ [])) no_when)) ∷ [])

bound : runs caught 1 ≡ record { end = Raised bounds; trace = puts_of (Put 65 ∷ []) }
bound = refl
