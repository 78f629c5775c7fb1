-- What a step has still to do with the world.
use Rattle.std.specs.Prelude.{◌≡◌, ℕ, List, [], Option, None, pos}
use Rattle.th_meaning.specs.Trees.{ExprTree, ExprTrees, CallTree, StmtTree, BodyTree, ElseTree, WhenTrees}
use Rattle.th_meaning.specs.View.{expr_of, exprs_of, body_of}
use Rattle.th_meaning.specs.Program.{Program}
use Rattle.th_meaning.specs.World.{World, Stuck, Unset, spend, open_yield, give_back, put_byte, put_int, put_text, join, new_array, element, array_length, set_element, field_value, set_field}
use Rattle.th_meaning.specs.Meaning.{Value, Int, Ref, Text, State, Outcome, Gives, Raises, Halts, How, Done, then_do, act, act_as, new_of, get_byte_of}
use Rattle.th_steps.specs.Machine.{Loop, Rest, Machine, At, Stopped, now_args, now_body, new_object_of, then_again, on_value, on_how, on_some, visit, args_done, eval_at, args_at, exec_at, body_at, else_at, handle_at, value_at, how_at, raise_at, call_at, call_of as the_call, Purpose, Goal}
use Rattle.th_control.specs.declared.control.Act.{Act}
use Rattle.th_control.specs.declared.control.Act.TheVariants.{Go, Stuck as IsStuck, Unset as IsUnset, Ended, Escaped, GetByte, Field, SetField, NewObject, Length, Element, SetElement, NewArray, Join, PutByte, PutInt, PutText, Again, Yield, GiveBack, Call, Init}
use Rattle.th_control.specs.declared.control.Control.{Control}
use Rattle.th_control.specs.Config.{how_of, callee_of, purpose_of, loop_of, rest_of, now_of, state_of, machine_at}

-- the loop that the yields run
abbrev pub the_loop : Control → Loop
the_loop c = loop_of c.homes

-- what is still to do
abbrev pub the_rest : Control → Rest
the_rest c = rest_of (loop_of c.homes) c.rest

-- a statement that ended
abbrev pub done_of : {A : Type 0} → Outcome A → Outcome How
done_of o = then_do o (λ _ st. Gives Done st)

-- the machine after an act
abbrev pub doing : Program → Act → Control → World Value → Machine
doing p (Go now) c w = machine_at (now_of now) c w
doing p IsStuck c w = Stopped (Halts Stuck w)
doing p IsUnset c w = Stopped (Halts Unset w)
doing p (Ended how) c w = Stopped (Gives (how_of how) (state_of c w))
doing p (Escaped r) c w = Stopped (Raises r.name.now r.argument (state_of c w))
doing p GetByte c w = on_value (get_byte_of (state_of c w)) (the_loop c) (the_rest c)
doing p (Field k class f) c w = on_value (act (field_value k class.now f w) (state_of c w)) (the_loop c) (the_rest c)
doing p (SetField k class f v) c w = on_how (done_of (act (set_field k class.now f v w) (state_of c w))) (the_loop c) (the_rest c)
doing p (NewObject class es) c w = on_some (new_of p class.now (state_of c w)) (the_loop c) (the_rest c)
    (λ n st. At (now_args [] (exprs_of es.now) (new_object_of class.now n)) (the_loop c) (the_rest c) st)
doing p (Length k) c w = on_value (act_as (λ n. Int (pos n)) (array_length k w) (state_of c w)) (the_loop c) (the_rest c)
doing p (Element k i) c w = on_value (act (element k i w) (state_of c w)) (the_loop c) (the_rest c)
doing p (SetElement k i v) c w = on_how (done_of (act (set_element k i v w) (state_of c w))) (the_loop c) (the_rest c)
doing p (NewArray n v) c w = on_value (act_as Ref (new_array n v w) (state_of c w)) (the_loop c) (the_rest c)
doing p (Join a b) c w = on_value (act_as Text (join a.now b.now w) (state_of c w)) (the_loop c) (the_rest c)
doing p (PutByte n) c w = on_how (done_of (act (put_byte n w) (state_of c w))) (the_loop c) (the_rest c)
doing p (PutInt n) c w = on_how (done_of (act (put_int n w) (state_of c w))) (the_loop c) (the_rest c)
doing p (PutText bytes) c w = on_how (done_of (act (put_text bytes.now w) (state_of c w))) (the_loop c) (the_rest c)
doing p (Again e b) c w = on_some (act (spend 1 w) (state_of c w)) (the_loop c) (the_rest c)
    (λ _ st. At (now_body (body_of b.now)) (the_loop c) (then_again (expr_of e.now) (body_of b.now) (the_rest c)) st)
doing p (Yield v) c w = on_some (act (open_yield w) (state_of c w)) (the_loop c) (the_rest c) (λ _ st. visit (the_loop c) v (the_loop c) (the_rest c) st)
doing p (GiveBack k now) c w = machine_at (now_of now) c (give_back k w)
doing p (Call callee vs purpose) c w = args_done p vs.items (the_call (callee_of callee) (purpose_of purpose)) (the_loop c) (the_rest c) (state_of c w)
doing p (Init class k vs) c w = args_done p vs.items (new_object_of class.now k) (the_loop c) (the_rest c) (state_of c w)

-- in every program and every world, the act leads where this does
abbrev pub Does : Act → Control → (Program → Loop → Rest → State → Machine) → Control → Type 0
Does a c go old = (p : Program) (w : World Value) → doing p a c w ≡ go p (the_loop old) (the_rest old) (state_of old w)

-- the act gives this value, whatever is still to do
abbrev pub HasValue : Act → (State → Outcome Value) → Type 0
HasValue a o = (c : Control) → Does a c (λ p lp k st. on_value (o st) lp k) c

-- the act ends a statement so, whatever is still to do
abbrev pub HasEnd : Act → (State → Outcome How) → Type 0
HasEnd a o = (c : Control) → Does a c (λ p lp k st. on_how (o st) lp k) c
