-- What a program does, step by step: a machine that keeps what is still to do as a list, so that no step is within another.
use Rattle.std.specs.Prelude.{ℕ, zero, suc, Bool, true, false, List, [], ◌∷◌, ◌++◌, Option, Some, None, pos, bytes_eq, if◌then◌else◌}
use Rattle.th_meaning.specs.declared.expr.ArithOp.{ArithOp}
use Rattle.th_meaning.specs.declared.expr.CompareOp.{CompareOp}
use Rattle.th_meaning.specs.Trees.{ExprTree, number_expr, truth_expr, literal_expr, self_expr, local_expr, field_expr, negative_expr, arith_expr, compare_expr, same_expr, not_expr, and_expr, or_expr, join_expr, letter_expr, extent_expr, element_expr, length_expr, cast_expr, call_expr, new_expr, new_array_expr, get_byte_expr, ExprTrees, no_expr, more_exprs, CallTree, routine_call, method_call, hidden_call, super_call, where_call, init_call, Variable, StmtTree, var_stmt, set_local_stmt, set_field_stmt, set_element_stmt, call_stmt, drop_stmt, if_stmt, while_stmt, for_stmt, break_stmt, return_stmt, return_value_stmt, yield_stmt, raise_stmt, raise_value_stmt, begin_stmt, put_byte_stmt, put_int_stmt, put_text_stmt, BodyTree, no_stmt, more_stmts, ElseTree, no_else, else_do, elseif_then, WhenTrees, no_when, more_whens}
use Rattle.th_meaning.specs.Program.{ProgramUnit, Program, unit_named, walk, init_name}
use Rattle.th_meaning.specs.Counts.{call_weight}
use Rattle.th_meaning.specs.World.{World, Halt, Stuck, spend, enter, open_yield, give_back}
use Rattle.th_meaning.specs.Meaning.{Value, Int, Truth, Ref, Text, Frame, State, Outcome, Gives, Raises, Halts, How, Done, Exit, Return, Cut, with_world, act, with_self, arith_of, compare_of, same_of, join_of, letter_of, element_of, new_array_of, negative_of, not_of, extent_of, length_of, self_of, local_of, field_of, get_byte_of, Target, Enters, Known, entering, aimed, aim_method, aim_object, aim_where, returned, new_of, for_how, at_home, yielded, bind_argument, set_local, set_local_of, set_field_of, set_element_of, put_byte_of, put_int_of, put_text_of, frame_of}

-- an operator on one value
pub data Unary : Type 0 where
  of_negative : Unary
  of_not : Unary
  of_extent : Unary
  of_length : Unary

abbrev pub unary_of : Unary → Value → State → Outcome Value
unary_of of_negative = negative_of
unary_of of_not = not_of
unary_of of_extent = extent_of
unary_of of_length = length_of

-- an operator on two values
pub data Binary : Type 0 where
  of_arith : ArithOp → Binary
  of_compare : CompareOp → Binary
  of_same : Binary
  of_join : Binary
  of_letter : Binary
  of_element : Binary
  of_new_array : Binary

abbrev pub binary_of : Binary → Value → Value → State → Outcome Value
binary_of (of_arith op) = arith_of op
binary_of (of_compare op) = compare_of op
binary_of of_same = same_of
binary_of of_join = join_of
binary_of of_letter = letter_of
binary_of of_element = element_of
binary_of of_new_array = new_array_of

-- what a statement does with its value
pub data Sink : Type 0 where
  to_local : (local : ℕ) → Sink
  to_field : (class : List ℕ) → (field : ℕ) → Sink
  to_element : (array index : Value) → Sink
  to_return : Sink
  to_raise : (exception : List ℕ) → Sink
  to_put_byte : Sink
  to_put_int : Sink
  to_put_text : Sink

abbrev pub sink_of : Sink → Value → State → Outcome How
sink_of (to_local k) = set_local_of k
sink_of (to_field class f) = set_field_of class f
sink_of (to_element a i) = set_element_of a i
sink_of to_return = λ v st. Gives (Return (Some v)) st
sink_of (to_raise x) = λ v st. Raises x (Some v) st
sink_of to_put_byte = put_byte_of
sink_of to_put_int = put_int_of
sink_of to_put_text = put_text_of

-- what a call calls, once its arguments are there
pub data Callee : Type 0 where
  the_routine : (unit : List ℕ) → Callee
  the_method : (method : List ℕ) → (receiver : Value) → Callee
  the_object : (method : List ℕ) → (number : ℕ) → Callee
  the_super : (class : List ℕ) → (method : List ℕ) → (number : ℕ) → Callee
  the_where : (method : List ℕ) → (receiver : Value) → Callee
  the_init : (class : List ℕ) → (number : ℕ) → Callee

abbrev pub aimed_at : Program → Callee → List Value → State → Outcome Target
aimed_at p (the_routine unit) = λ vs st. aimed (Some (Enters unit None vs)) st
aimed_at p (the_method method v) = aim_method p method v
aimed_at p (the_object method k) = aim_object p method k
aimed_at p (the_super class method k) = λ vs st. aimed (entering (walk p class method) k vs) st
aimed_at p (the_where method v) = aim_where p method v
aimed_at p (the_init class k) = λ vs st. aimed (Some (Enters (init_name class) (Some k) vs)) st

-- a method that is called of the value of an expression
pub data Selector : Type 0 where
  by_method : (method : List ℕ) → Selector
  by_where : (method : List ℕ) → Selector

abbrev pub selected : Selector → Value → Callee
selected (by_method method) v = the_method method v
selected (by_where method) v = the_where method v

-- what a call that isn't a `for` is for: its value is used; it is a statement; it makes an object
pub data Use : Type 0 where
  as_value : Use
  as_stmt : Use
  as_object : (number : ℕ) → Use

-- what a call is for: such a use, or a `for` with this variable and body
pub data Purpose : Type 0 where
  a_use : Use → Purpose
  a_for : (local : ℕ) → (body : BodyTree) → Purpose

-- what arguments are for: a call, or a new object's initializer, whose turn was taken before
pub data Goal : Type 0 where
  call_of : Callee → Purpose → Goal
  new_object_of : (class : List ℕ) → (number : ℕ) → Goal

-- the loop that the running unit's yields run: its variable and its body, and the loop of the unit of its `for`
pub data Loop : Type 0 where
  no_loop : Loop
  a_loop : (local : ℕ) → (body : BodyTree) → (outer : Loop) → Loop

-- what is still to do
pub data Rest : Type 0 where
  at_end : Rest
  -- with a value
  then_unary : Unary → Rest → Rest
  then_right : Binary → (right : ExprTree) → Rest → Rest
  then_binary : Binary → (left : Value) → Rest → Rest
  then_and : (right : ExprTree) → Rest → Rest
  then_or : (right : ExprTree) → Rest → Rest
  then_args : Selector → (args : ExprTrees) → Purpose → Rest → Rest
  then_more : (done : List Value) → (args : ExprTrees) → Goal → Rest → Rest
  then_sink : Sink → Rest → Rest
  then_index : (index value : ExprTree) → Rest → Rest
  then_value : (array : Value) → (value : ExprTree) → Rest → Rest
  then_if : (body : BodyTree) → (other : ElseTree) → Rest → Rest
  then_while : (test : ExprTree) → (body : BodyTree) → Rest → Rest
  then_yield : Rest → Rest
  -- with how a statement ended
  then_again : (test : ExprTree) → (body : BodyTree) → Rest → Rest
  then_stmts : (rest : BodyTree) → Rest → Rest
  then_caught : (whens : WhenTrees) → Rest → Rest
  -- with how a unit, or a loop's body, ended
  then_close : (weight : ℕ) → Rest → Rest
  then_back : Use → Frame → (homes : List Frame) → Loop → Rest → Rest
  then_for : Loop → Rest → Rest
  then_resume : Frame → Loop → Rest → Rest

-- what is done next
pub data Now : Type 0 where
  now_eval : ExprTree → Now
  now_args : (done : List Value) → (args : ExprTrees) → Goal → Now
  now_exec : StmtTree → Now
  now_body : BodyTree → Now
  now_else : ElseTree → Now
  now_handle : WhenTrees → (exception : List ℕ) → (argument : Option Value) → Now
  now_value : Value → Now
  now_how : How → Now
  now_raise : (exception : List ℕ) → (argument : Option Value) → Now

-- the machine: what is done next, the loop that the running unit's yields run, what is still to do, and the state; or the
-- outcome that it stopped with
pub data Machine : Type 0 where
  At : Now → Loop → Rest → State → Machine
  Stopped : Outcome How → Machine

-- on with the value of an outcome
abbrev pub on_value : Outcome Value → Loop → Rest → Machine
on_value (Gives v st) lp k = At (now_value v) lp k st
on_value (Raises x v st) lp k = At (now_raise x v) lp k st
on_value (Halts h w) lp k = Stopped (Halts h w)

-- on with how a statement ended
abbrev pub on_how : Outcome How → Loop → Rest → Machine
on_how (Gives how st) lp k = At (now_how how) lp k st
on_how (Raises x v st) lp k = At (now_raise x v) lp k st
on_how (Halts h w) lp k = Stopped (Halts h w)

-- on with another outcome
abbrev pub on_some : {A : Type 0} → Outcome A → Loop → Rest → (A → State → Machine) → Machine
on_some (Gives a st) lp k go = go a st
on_some (Raises x v st) lp k go = At (now_raise x v) lp k st
on_some (Halts h w) lp k go = Stopped (Halts h w)

-- by a truth value
abbrev pub on_truth : Value → State → Machine → Machine → Machine
on_truth (Truth b) st first second = if b then first else second
on_truth (Int n) st first second = Stopped (Halts Stuck st.world)
on_truth (Ref k) st first second = Stopped (Halts Stuck st.world)
on_truth (Text bytes) st first second = Stopped (Halts Stuck st.world)

-- on with a number that there may be
abbrev pub on_number : Option ℕ → State → (ℕ → Machine) → Machine
on_number None st go = Stopped (Halts Stuck st.world)
on_number (Some n) st go = go n

-- on with the object whose method or initializer runs
abbrev pub on_self : State → (ℕ → Machine) → Machine
on_self st go = on_number st.frame.receiver st go

-- a unit is entered
abbrev pub enter_at : Option ProgramUnit → (receiver : Option ℕ) → (args : List Value) → Loop → Rest → (homes : List Frame) → World Value → Machine
enter_at None receiver args lp k homes w = Stopped (Halts Stuck w)
enter_at (Some u) receiver args lp k homes w =
    on_some (act (enter (call_weight u) u.name w) (record { frame = frame_of u receiver args; homes = homes; world = w })) lp k
    (λ _ st. At (now_body u.body) lp (then_close (call_weight u) k) st)

-- the value of a call, for its use
abbrev pub finish : Use → Option Value → Loop → Rest → State → Machine
finish as_value (Some v) lp k st = At (now_value v) lp k st
finish as_value None lp k st = Stopped (Halts Stuck st.world)
finish as_stmt v lp k st = At (now_how Done) lp k st
finish (as_object n) v lp k st = At (now_value (Ref n)) lp k st

-- a call whose turn is taken
abbrev pub begin : Program → Target → Purpose → Loop → Rest → State → Machine
begin p (Known v) (a_use u) lp k st = finish u (Some v) lp k st
begin p (Known v) (a_for x b) lp k st = Stopped (Halts Stuck st.world)
begin p (Enters unit receiver args) (a_use u) lp k st = enter_at (unit_named p unit) receiver args no_loop (then_back u st.frame st.homes lp k) [] st.world
begin p (Enters unit receiver args) (a_for x b) lp k st = enter_at (unit_named p unit) receiver args (a_loop x b lp) (then_for lp k) (st.frame ∷ st.homes) st.world

-- the arguments are there
abbrev pub args_done : Program → List Value → Goal → Loop → Rest → State → Machine
args_done p vs (call_of c purpose) lp k st = on_some (aimed_at p c vs st) lp k (λ t st1. begin p t purpose lp k st1)
args_done p vs (new_object_of class n) lp k st = begin p (Enters (init_name class) (Some n) vs) (a_use (as_object n)) lp k st

-- a yield's loop body, once its turn and its room are taken
abbrev pub visit : Loop → Value → Loop → Rest → State → Machine
visit no_loop v lp k st = Stopped (Halts Stuck st.world)
visit (a_loop x b outer) v lp k st = At (now_body b) outer (then_resume st.frame lp k) (set_local x v (at_home st))

-- the first step of a call
abbrev pub call_at : CallTree → Purpose → Loop → Rest → State → Machine
call_at (routine_call unit types supplies args) purpose lp k st = At (now_args [] args (call_of (the_routine unit) purpose)) lp k st
call_at (method_call of method e args) purpose lp k st = At (now_eval e) lp (then_args (by_method method) args purpose k) st
call_at (hidden_call class method args) purpose lp k st = on_self st (λ n. At (now_args [] args (call_of (the_object method n) purpose)) lp k st)
call_at (super_call class method args) purpose lp k st = on_self st (λ n. At (now_args [] args (call_of (the_super class method n) purpose)) lp k st)
call_at (where_call clapurpose method e args) purpose lp k st = At (now_eval e) lp (then_args (by_where method) args purpose k) st
call_at (init_call class types supplies args) purpose lp k st = on_self st (λ n. At (now_args [] args (call_of (the_init class n) purpose)) lp k st)

module _ (p : Program) where
  -- an expression
  abbrev pub eval_at : ExprTree → Loop → Rest → State → Machine
  eval_at (number_expr n) lp k st = on_value (Gives (Int (pos n)) st) lp k
  eval_at (truth_expr b) lp k st = on_value (Gives (Truth b) st) lp k
  eval_at (literal_expr bytes) lp k st = on_value (Gives (Text bytes) st) lp k
  eval_at self_expr lp k st = on_value (self_of st) lp k
  eval_at (local_expr n) lp k st = on_value (local_of n st) lp k
  eval_at (field_expr class f) lp k st = on_value (field_of class f st) lp k
  eval_at (negative_expr a) lp k st = At (now_eval a) lp (then_unary of_negative k) st
  eval_at (arith_expr op a b) lp k st = At (now_eval a) lp (then_right (of_arith op) b k) st
  eval_at (compare_expr op a b) lp k st = At (now_eval a) lp (then_right (of_compare op) b k) st
  eval_at (same_expr a b) lp k st = At (now_eval a) lp (then_right of_same b k) st
  eval_at (not_expr a) lp k st = At (now_eval a) lp (then_unary of_not k) st
  eval_at (and_expr a b) lp k st = At (now_eval a) lp (then_and b k) st
  eval_at (or_expr a b) lp k st = At (now_eval a) lp (then_or b k) st
  eval_at (join_expr a b) lp k st = At (now_eval a) lp (then_right of_join b k) st
  eval_at (letter_expr a b) lp k st = At (now_eval a) lp (then_right of_letter b k) st
  eval_at (extent_expr a) lp k st = At (now_eval a) lp (then_unary of_extent k) st
  eval_at (element_expr a b) lp k st = At (now_eval a) lp (then_right of_element b k) st
  eval_at (length_expr a) lp k st = At (now_eval a) lp (then_unary of_length k) st
  eval_at (cast_expr c a) lp k st = At (now_eval a) lp k st
  eval_at (call_expr c) lp k st = call_at c (a_use as_value) lp k st
  eval_at (new_expr class types supplies args) lp k st = on_some (new_of p class st) lp k (λ n st1. At (now_args [] args (new_object_of class n)) lp k st1)
  eval_at (new_array_expr t a b) lp k st = At (now_eval a) lp (then_right of_new_array b k) st
  eval_at get_byte_expr lp k st = on_value (get_byte_of st) lp k

  -- arguments
  abbrev pub args_at : List Value → ExprTrees → Goal → Loop → Rest → State → Machine
  args_at vs no_expr goal lp k st = args_done p vs goal lp k st
  args_at vs (more_exprs e es) goal lp k st = At (now_eval e) lp (then_more vs es goal k) st

  -- a statement
  abbrev pub exec_at : StmtTree → Loop → Rest → State → Machine
  exec_at (var_stmt x e) lp k st = At (now_eval e) lp (then_sink (to_local x.local) k) st
  exec_at (set_local_stmt n e) lp k st = At (now_eval e) lp (then_sink (to_local n) k) st
  exec_at (set_field_stmt class f e) lp k st = At (now_eval e) lp (then_sink (to_field class f) k) st
  exec_at (set_element_stmt a i e) lp k st = At (now_eval a) lp (then_index i e k) st
  exec_at (call_stmt c) lp k st = call_at c (a_use as_stmt) lp k st
  exec_at (drop_stmt c) lp k st = call_at c (a_use as_stmt) lp k st
  exec_at (if_stmt e b r) lp k st = At (now_eval e) lp (then_if b r k) st
  exec_at (while_stmt e b) lp k st = At (now_eval e) lp (then_while e b k) st
  exec_at (for_stmt x cast c b) lp k st = call_at c (a_for x.local b) lp k st
  exec_at break_stmt lp k st = At (now_how Exit) lp k st
  exec_at return_stmt lp k st = At (now_how (Return None)) lp k st
  exec_at (return_value_stmt e) lp k st = At (now_eval e) lp (then_sink to_return k) st
  exec_at (yield_stmt e) lp k st = At (now_eval e) lp (then_yield k) st
  exec_at (raise_stmt x) lp k st = At (now_raise x None) lp k st
  exec_at (raise_value_stmt x e) lp k st = At (now_eval e) lp (then_sink (to_raise x) k) st
  exec_at (begin_stmt b ws) lp k st = At (now_body b) lp (then_caught ws k) st
  exec_at (put_byte_stmt e) lp k st = At (now_eval e) lp (then_sink to_put_byte k) st
  exec_at (put_int_stmt e) lp k st = At (now_eval e) lp (then_sink to_put_int k) st
  exec_at (put_text_stmt e) lp k st = At (now_eval e) lp (then_sink to_put_text k) st

  abbrev pub body_at : BodyTree → Loop → Rest → State → Machine
  body_at no_stmt lp k st = At (now_how Done) lp k st
  body_at (more_stmts s rest) lp k st = At (now_exec s) lp (then_stmts rest k) st

  abbrev pub else_at : ElseTree → Loop → Rest → State → Machine
  else_at no_else lp k st = At (now_how Done) lp k st
  else_at (else_do b) lp k st = At (now_body b) lp k st
  else_at (elseif_then e b r) lp k st = At (now_eval e) lp (then_if b r k) st

  abbrev pub handle_at : WhenTrees → List ℕ → Option Value → Loop → Rest → State → Machine
  handle_at no_when x v lp k st = At (now_raise x v) lp k st
  handle_at (more_whens y variable b rest) x v lp k st = if bytes_eq x y then At (now_body b) lp k (bind_argument variable v st) else At (now_handle rest x v) lp k st

  -- a value goes to what waits for it
  abbrev pub value_at : Value → Rest → Loop → State → Machine
  value_at v (then_unary op k) lp st = on_value (unary_of op v st) lp k
  value_at v (then_right op b k) lp st = At (now_eval b) lp (then_binary op v k) st
  value_at v (then_binary op x k) lp st = on_value (binary_of op x v st) lp k
  value_at v (then_and b k) lp st = on_truth v st (At (now_eval b) lp k st) (At (now_value (Truth false)) lp k st)
  value_at v (then_or b k) lp st = on_truth v st (At (now_value (Truth true)) lp k st) (At (now_eval b) lp k st)
  value_at v (then_args s args purpose k) lp st = At (now_args [] args (call_of (selected s v) purpose)) lp k st
  value_at v (then_more vs es goal k) lp st = At (now_args (vs ++ v ∷ []) es goal) lp k st
  value_at v (then_sink s k) lp st = on_how (sink_of s v st) lp k
  value_at v (then_index i e k) lp st = At (now_eval i) lp (then_value v e k) st
  value_at v (then_value a e k) lp st = At (now_eval e) lp (then_sink (to_element a v) k) st
  value_at v (then_if b r k) lp st = on_truth v st (At (now_body b) lp k st) (At (now_else r) lp k st)
  value_at v (then_while e b k) lp st = on_truth v st
      (on_some (act (spend 1 st.world) st) lp k (λ _ st1. At (now_body b) lp (then_again e b k) st1)) (At (now_how Done) lp k st)
  value_at v (then_yield k) lp st = on_some (act (open_yield st.world) st) lp k (λ _ st1. visit lp v lp k st1)
  value_at v _ lp st = Stopped (Halts Stuck st.world)

  -- what follows the body of a `while`
  abbrev pub again_at : How → ExprTree → BodyTree → Loop → Rest → State → Machine
  again_at Done e b lp k st = At (now_eval e) lp (then_while e b k) st
  again_at Exit e b lp k st = At (now_how Done) lp k st
  again_at (Return v) e b lp k st = At (now_how (Return v)) lp k st
  again_at (Cut l) e b lp k st = At (now_how (Cut l)) lp k st

  -- what follows a statement
  abbrev pub stmts_at : How → BodyTree → Loop → Rest → State → Machine
  stmts_at Done rest lp k st = At (now_body rest) lp k st
  stmts_at Exit rest lp k st = At (now_how Exit) lp k st
  stmts_at (Return v) rest lp k st = At (now_how (Return v)) lp k st
  stmts_at (Cut l) rest lp k st = At (now_how (Cut l)) lp k st

  -- how a statement ended goes to what waits for it
  abbrev pub how_at : How → Rest → Loop → State → Machine
  how_at how at_end lp st = Stopped (Gives how st)
  how_at how (then_again e b k) lp st = again_at how e b lp k st
  how_at how (then_stmts rest k) lp st = stmts_at how rest lp k st
  how_at how (then_caught ws k) lp st = At (now_how how) lp k st
  how_at how (then_close weight k) lp st = At (now_how how) lp k (with_world st (give_back weight st.world))
  how_at how (then_back u frame homes lp1 k) lp st = finish u (returned how) lp1 k (record { frame = frame; homes = homes; world = st.world })
  how_at how (then_for lp1 k) lp st = on_how (for_how how (at_home st)) lp1 k
  how_at how (then_resume frame lp1 k) lp st = on_how (yielded (record { frame = frame; homes = []; world = st.world }) (Gives how st)) lp1 k
  how_at how _ lp st = Stopped (Halts Stuck st.world)

  -- an exception passes what waits for a value or for a statement, up to a handler
  abbrev pub raise_at : List ℕ → Option Value → Rest → Loop → State → Machine
  raise_at x v at_end lp st = Stopped (Raises x v st)
  raise_at x v (then_unary op k) lp st = At (now_raise x v) lp k st
  raise_at x v (then_right op b k) lp st = At (now_raise x v) lp k st
  raise_at x v (then_binary op y k) lp st = At (now_raise x v) lp k st
  raise_at x v (then_and b k) lp st = At (now_raise x v) lp k st
  raise_at x v (then_or b k) lp st = At (now_raise x v) lp k st
  raise_at x v (then_args s args purpose k) lp st = At (now_raise x v) lp k st
  raise_at x v (then_more vs es goal k) lp st = At (now_raise x v) lp k st
  raise_at x v (then_sink s k) lp st = At (now_raise x v) lp k st
  raise_at x v (then_index i e k) lp st = At (now_raise x v) lp k st
  raise_at x v (then_value a e k) lp st = At (now_raise x v) lp k st
  raise_at x v (then_if b r k) lp st = At (now_raise x v) lp k st
  raise_at x v (then_while e b k) lp st = At (now_raise x v) lp k st
  raise_at x v (then_yield k) lp st = At (now_raise x v) lp k st
  raise_at x v (then_again e b k) lp st = At (now_raise x v) lp k st
  raise_at x v (then_stmts rest k) lp st = At (now_raise x v) lp k st
  raise_at x v (then_caught ws k) lp st = At (now_handle ws x v) lp k st
  raise_at x v (then_close weight k) lp st = At (now_raise x v) lp k (with_world st (give_back weight st.world))
  raise_at x v (then_back u frame homes lp1 k) lp st = At (now_raise x v) lp1 k (record { frame = frame; homes = homes; world = st.world })
  raise_at x v (then_for lp1 k) lp st = At (now_raise x v) lp1 k (at_home st)
  raise_at x v (then_resume frame lp1 k) lp st = on_how (yielded (record { frame = frame; homes = []; world = st.world }) (Raises x v st)) lp1 k

  abbrev pub step_at : Now → Loop → Rest → State → Machine
  step_at (now_eval e) lp k st = eval_at e lp k st
  step_at (now_args vs es goal) lp k st = args_at vs es goal lp k st
  step_at (now_exec s) lp k st = exec_at s lp k st
  step_at (now_body b) lp k st = body_at b lp k st
  step_at (now_else r) lp k st = else_at r lp k st
  step_at (now_handle ws x v) lp k st = handle_at ws x v lp k st
  step_at (now_value v) lp k st = value_at v k lp st
  step_at (now_how how) lp k st = how_at how k lp st
  step_at (now_raise x v) lp k st = raise_at x v k lp st

  -- one step; a machine that stopped stays so
  abbrev pub step : Machine → Machine
  step (At now lp k st) = step_at now lp k st
  step (Stopped o) = Stopped o

  -- so many steps
  abbrev pub steps : ℕ → Machine → Machine
  steps zero m = m
  steps (suc n) m = steps n (step m)

-- the machine at the start of a run
abbrev pub first_at : Program → Option ProgramUnit → World Value → Machine
first_at p None w = Stopped (Halts Stuck w)
first_at p (Some main) w = enter_at (unit_named p main.name) None [] no_loop at_end [] w
