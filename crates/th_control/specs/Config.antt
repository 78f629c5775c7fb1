-- The state of the code as the machine's.
use Rattle.std.specs.Prelude.{ℕ, zero, suc, List, [], ◌∷◌, map, Option, Some, None, option_map}
use Rattle.th_meaning.specs.View.{expr_of, exprs_of, stmt_of, body_of, else_of, whens_of}
use Rattle.th_meaning.specs.Meaning.{Value, Frame, State, Leave, by_break, by_return, by_raise, by_leave, How, Done, Exit, Return, Cut}
use Rattle.th_meaning.specs.World.{World}
use Rattle.th_control.specs.declared.control.Home.{Home}
use Rattle.th_control.specs.declared.control.Raised.{Raised}
use Rattle.th_control.specs.declared.control.Leave.{Leave as CodeLeave}
use Rattle.th_control.specs.declared.control.Leave.TheVariants.{Break, Return as ByReturn, Raise as ByRaise}
use Rattle.th_control.specs.declared.control.How.{How as CodeHow}
use Rattle.th_control.specs.declared.control.How.TheVariants.{Done as CodeDone, Exit as CodeExit, Return as CodeReturn, Cut as CodeCut}
use Rattle.th_control.specs.declared.control.Unary.{Unary as CodeUnary}
use Rattle.th_control.specs.declared.control.Unary.TheVariants.{Negative, Not, Extent, Length}
use Rattle.th_control.specs.declared.control.Binary.{Binary as CodeBinary}
use Rattle.th_control.specs.declared.control.Binary.TheVariants.{Arith, Compare, Same, Join, Letter, Element, NewArray}
use Rattle.th_control.specs.declared.control.Sink.{Sink as CodeSink}
use Rattle.th_control.specs.declared.control.Sink.TheVariants.{Local as ToLocal, Field as ToField, Element as ToElement, Return as ToReturn, Raise as ToRaise, PutByte, PutInt, PutText}
use Rattle.th_control.specs.declared.control.Callee.{Callee as CodeCallee}
use Rattle.th_control.specs.declared.control.Callee.TheVariants.{Routine, Method, Object, Super, Where, Init}
use Rattle.th_control.specs.declared.control.Selector.{Selector as CodeSelector}
use Rattle.th_control.specs.declared.control.Selector.TheVariants.{Method as ByMethod, Where as ByWhere}
use Rattle.th_control.specs.declared.control.Usage.{Usage}
use Rattle.th_control.specs.declared.control.Usage.TheVariants.{Value as AsValue, Stmt as AsStmt, Object as AsObject}
use Rattle.th_control.specs.declared.control.Purpose.{Purpose as CodePurpose}
use Rattle.th_control.specs.declared.control.Purpose.TheVariants.{Plain, For as ForLoop}
use Rattle.th_control.specs.declared.control.Goal.{Goal as CodeGoal}
use Rattle.th_control.specs.declared.control.Goal.TheVariants.{Call, NewObject}
use Rattle.th_control.specs.declared.control.Rest.{Rest as CodeRest}
use Rattle.th_control.specs.declared.control.Rest.TheVariants.{Unary as RUnary, Right, Binary as RBinary, And, Or, Args, More, Sink as RSink, Index, Value as RValue, If, While, Yield, Again, Stmts, Caught, Close, Back, For, Resume}
use Rattle.th_control.specs.declared.control.Now.{Now as CodeNow}
use Rattle.th_control.specs.declared.control.Now.TheVariants.{Eval, Args as NowArgs, Exec, Body, Else, Handle, Value as NowValue, How as NowHow, Raise as NowRaise}
use Rattle.th_control.specs.declared.control.Control.{Control}
use Rattle.th_steps.specs.Machine.{Unary, of_negative, of_not, of_extent, of_length, Binary, of_arith, of_compare, of_same, of_join, of_letter, of_element, of_new_array, Sink, to_local, to_field, to_element, to_return, to_raise, to_put_byte, to_put_int, to_put_text, Callee, the_routine, the_method, the_object, the_super, the_where, the_init, Selector, by_method, by_where, Use, as_value, as_stmt, as_object, Purpose, a_use, a_for, Goal, call_of, new_object_of, Loop, no_loop, a_loop, Rest, at_end, then_unary, then_right, then_binary, then_and, then_or, then_args, then_more, then_sink, then_index, then_value, then_if, then_while, then_yield, then_again, then_stmts, then_caught, then_close, then_back, then_for, then_resume, Now, now_eval, now_args, now_exec, now_body, now_else, now_handle, now_value, now_how, now_raise, Machine, At}

-- the frames of homes
abbrev pub frames_of : List Home → List Frame
frames_of [] = []
frames_of (h ∷ homes) = h.frame ∷ frames_of homes

-- the loop that the running unit's yields run: that of the nearest home
abbrev pub loop_of : List Home → Loop
loop_of [] = no_loop
loop_of (h ∷ homes) = a_loop h.local (body_of h.body.now) (loop_of homes)

-- the loop around a loop
abbrev pub outer_of : Loop → Loop
outer_of no_loop = no_loop
outer_of (a_loop x b outer) = outer

-- how a loop's body left its loop
abbrev pub leave_of : CodeLeave → Leave
leave_of Break = by_break
leave_of (ByReturn v) = by_return v
leave_of (ByRaise r) = by_raise r.name.now r.argument

-- the same, and so many loops around it as well
abbrev pub leave_within : ℕ → Leave → Leave
leave_within zero l = l
leave_within (suc n) l = by_leave (leave_within n l)

-- how a statement ended
abbrev pub how_of : CodeHow → How
how_of CodeDone = Done
how_of CodeExit = Exit
how_of (CodeReturn v) = Return v
how_of (CodeCut l n) = Cut (leave_within n (leave_of l))

-- the operators
abbrev pub unary_of : CodeUnary → Unary
unary_of Negative = of_negative
unary_of Not = of_not
unary_of Extent = of_extent
unary_of Length = of_length

abbrev pub binary_of : CodeBinary → Binary
binary_of (Arith op) = of_arith op
binary_of (Compare op) = of_compare op
binary_of Same = of_same
binary_of Join = of_join
binary_of Letter = of_letter
binary_of Element = of_element
binary_of NewArray = of_new_array

-- what a statement does with its value
abbrev pub sink_of : CodeSink → Sink
sink_of (ToLocal k) = to_local k
sink_of (ToField class f) = to_field class.now f
sink_of (ToElement a i) = to_element a i
sink_of ToReturn = to_return
sink_of (ToRaise x) = to_raise x.now
sink_of PutByte = to_put_byte
sink_of PutInt = to_put_int
sink_of PutText = to_put_text

-- what a call calls
abbrev pub callee_of : CodeCallee → Callee
callee_of (Routine unit) = the_routine unit.now
callee_of (Method m v) = the_method m.now v
callee_of (Object m k) = the_object m.now k
callee_of (Super c m k) = the_super c.now m.now k
callee_of (Where m v) = the_where m.now v
callee_of (Init c k) = the_init c.now k

abbrev pub selector_of : CodeSelector → Selector
selector_of (ByMethod m) = by_method m.now
selector_of (ByWhere m) = by_where m.now

-- what a call is for
abbrev pub use_of : Usage → Use
use_of AsValue = as_value
use_of AsStmt = as_stmt
use_of (AsObject k) = as_object k

abbrev pub purpose_of : CodePurpose → Purpose
purpose_of (Plain u) = a_use (use_of u)
purpose_of (ForLoop x b) = a_for x (body_of b.now)

-- what arguments are for
abbrev pub goal_of : CodeGoal → Goal
goal_of (Call c purpose) = call_of (callee_of c) (purpose_of purpose)
goal_of (NewObject class k) = new_object_of class.now k

-- what is still to do, in a loop, the nearest first: a `for` waits in the loop around this one; a yield waits in the loop
-- that it runs; a call waits in the loop of its caller
abbrev pub rest_of : Loop → List CodeRest → Rest
rest_of lp [] = at_end
rest_of lp (RUnary op ∷ more) = then_unary (unary_of op) (rest_of lp more)
rest_of lp (Right op e ∷ more) = then_right (binary_of op) (expr_of e.now) (rest_of lp more)
rest_of lp (RBinary op v ∷ more) = then_binary (binary_of op) v (rest_of lp more)
rest_of lp (And e ∷ more) = then_and (expr_of e.now) (rest_of lp more)
rest_of lp (Or e ∷ more) = then_or (expr_of e.now) (rest_of lp more)
rest_of lp (Args s es purpose ∷ more) = then_args (selector_of s) (exprs_of es.now) (purpose_of purpose) (rest_of lp more)
rest_of lp (More vs es goal ∷ more) = then_more vs.items (exprs_of es.now) (goal_of goal) (rest_of lp more)
rest_of lp (RSink s ∷ more) = then_sink (sink_of s) (rest_of lp more)
rest_of lp (Index i e ∷ more) = then_index (expr_of i.now) (expr_of e.now) (rest_of lp more)
rest_of lp (RValue a e ∷ more) = then_value a (expr_of e.now) (rest_of lp more)
rest_of lp (If b r ∷ more) = then_if (body_of b.now) (else_of r.now) (rest_of lp more)
rest_of lp (While e b ∷ more) = then_while (expr_of e.now) (body_of b.now) (rest_of lp more)
rest_of lp (Yield ∷ more) = then_yield (rest_of lp more)
rest_of lp (Again e b ∷ more) = then_again (expr_of e.now) (body_of b.now) (rest_of lp more)
rest_of lp (Stmts b ∷ more) = then_stmts (body_of b.now) (rest_of lp more)
rest_of lp (Caught ws ∷ more) = then_caught (whens_of ws.now) (rest_of lp more)
rest_of lp (Close weight ∷ more) = then_close weight (rest_of lp more)
rest_of lp (Back u f homes ∷ more) = then_back (use_of u) f (frames_of homes) (loop_of homes) (rest_of (loop_of homes) more)
rest_of lp (For ∷ more) = then_for (outer_of lp) (rest_of (outer_of lp) more)
rest_of lp (Resume f x b ∷ more) = then_resume f (a_loop x (body_of b.now) lp) (rest_of (a_loop x (body_of b.now) lp) more)

-- what is done next
abbrev pub now_of : CodeNow → Now
now_of (Eval e) = now_eval (expr_of e.now)
now_of (NowArgs vs es goal) = now_args vs.items (exprs_of es.now) (goal_of goal)
now_of (Exec s) = now_exec (stmt_of s.now)
now_of (Body b) = now_body (body_of b.now)
now_of (Else r) = now_else (else_of r.now)
now_of (Handle ws r) = now_handle (whens_of ws.now) r.name.now r.argument
now_of (NowValue v) = now_value v
now_of (NowHow how) = now_how (how_of how)
now_of (NowRaise r) = now_raise r.name.now r.argument

-- the state with this world
abbrev pub state_of : Control → World Value → State
state_of c w = record { frame = c.frame; homes = frames_of c.homes; world = w }

-- the machine with this world
abbrev pub machine_at : Now → Control → World Value → Machine
machine_at now c w = At now (loop_of c.homes) (rest_of (loop_of c.homes) c.rest) (state_of c w)
