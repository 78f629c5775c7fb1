-- The machine does each form of evaluation.
use Rattle.std.proofs.Common.{◌≡◌, ℕ, zero, suc, Bool, true, false, List, [], ◌∷◌, ◌++◌, Option, Some, None, refl, sym, ap, subst, append_assoc, append-nil}
use Rattle.std.specs.Prelude.{pos, bytes_eq, if◌then◌else◌}
use Rattle.th_meaning.specs.Trees.{ExprTree, number_expr, truth_expr, literal_expr, self_expr, local_expr, field_expr, negative_expr, arith_expr, compare_expr, same_expr, not_expr, and_expr, or_expr, join_expr, letter_expr, extent_expr, element_expr, length_expr, cast_expr, call_expr, new_expr, new_array_expr, get_byte_expr, ExprTrees, no_expr, more_exprs, CallTree, routine_call, method_call, hidden_call, super_call, where_call, init_call, Variable, StmtTree, var_stmt, set_local_stmt, set_field_stmt, set_element_stmt, call_stmt, drop_stmt, if_stmt, while_stmt, for_stmt, break_stmt, return_stmt, return_value_stmt, yield_stmt, raise_stmt, raise_value_stmt, begin_stmt, put_byte_stmt, put_int_stmt, put_text_stmt, BodyTree, no_stmt, more_stmts, ElseTree, no_else, else_do, elseif_then, WhenTrees, no_when, more_whens}
use Rattle.th_meaning.specs.Program.{ProgramUnit, Program, unit_named, walk, init_name, main_of}
use Rattle.th_meaning.specs.Counts.{call_weight}
use Rattle.th_meaning.specs.World.{World, Halt, OutOfTurns, OutOfRoom, Unset, Stuck, Deep, spend, enter, open_yield}
use Rattle.th_meaning.specs.Meaning.{Value, Int, Truth, Ref, Text, Frame, State, Outcome, Gives, Raises, Halts, Leave, by_break, by_return, by_raise, by_leave, How, Done, Exit, Return, Cut, then_do, with_world, act, with_some, with_truth, set_local, self_of, local_of, field_of, get_byte_of, Target, Enters, Known, Body, no_body, Units, returned, back_in, called, value_called, made, new_of, eval, eval_all, aim, if_done, again_of, while_of, loops, for_how, at_home, for_ends, looped, yielded, yields, bind_argument, if_of, drop_called, exec, exec_body, exec_else, handle, closed, frame_of, run_unit, level}
use Rattle.th_steps.specs.Machine.{Unary, of_negative, of_not, of_extent, of_length, unary_of, Binary, of_arith, of_compare, of_same, of_join, of_letter, of_element, of_new_array, binary_of, Sink, to_local, to_field, to_element, to_return, to_raise, to_put_byte, to_put_int, to_put_text, sink_of, Callee, the_routine, the_method, the_object, the_super, the_where, the_init, aimed_at, Selector, by_method, by_where, selected, Use, as_value, as_stmt, as_object, Purpose, a_use, a_for, Goal, call_of, new_object_of, Loop, no_loop, a_loop, Rest, at_end, then_unary, then_right, then_binary, then_and, then_or, then_args, then_more, then_sink, then_index, then_value, then_if, then_while, then_yield, then_again, then_stmts, then_caught, then_close, then_back, then_for, then_resume, Now, now_eval, now_args, now_exec, now_body, now_else, now_handle, now_value, now_how, now_raise, Machine, At, Stopped, on_value, on_how, on_some, on_truth, enter_at, finish, begin, args_done, visit, call_at, step, steps, first_at}
use Rattle.th_steps.proofs.Follow.{Comes, Halting, Goes, To, val, hw, exc, here, first, on, goes_after, halts_at, how_goes, to_step, to_then, to_seq, to_value, to_how, to_some, to_gives, to_raises, to_stuck, to_truth, to_self, to_choice, to_catch, to_map}

-- what a yield of the machine's loop does is what one of this body does
pub record Visits (p : Program) (body : Body) (lp : Loop) : Type 0 where
  pub by : (v : Value) (k : Rest) → To p (visit lp v lp k) (λ st. yielded st (body v (at_home st))) (hw lp k) (exc lp k)

-- the machine does units as these runs
pub record UnitsTo (p : Program) (units : Units) : Type 0 where
  pub by : (unit : List ℕ) (receiver : Option ℕ) (args : List Value) (body : Body) (lp : Loop) (k : Rest) (homes : List Frame) (w : World Value) → Visits p body lp
      → Goes p (enter_at (unit_named p unit) receiver args lp k homes w) (units unit receiver args body homes w) (hw lp k) (exc lp k)

pub no_visits : {p : Program} → Visits p no_body no_loop
no_visits = record { by = λ v k. record { goes = λ st. here } }

back_to : (p : Program) (u : Use) (lp lp1 : Loop) (k : Rest) (st : State) (c : Machine) (o : Outcome How) → Goes p c o (hw lp1 (then_back u st.frame st.homes lp k)) (exc lp1 (then_back u st.frame st.homes lp k))
    → Goes p c (back_in st o) (λ v st1. finish u v lp k st1) (exc lp k)
back_to p u lp lp1 k st c (Gives how st1) g = on g (first here)
back_to p u lp lp1 k st c (Raises x v st1) g = on g (first here)
back_to p u lp lp1 k st c (Halts h w) g = g

for_how_to : (p : Program) (how : How) (lp : Loop) (k : Rest) (st : State) → Goes p (on_how (for_how how st) lp k) (for_how how st) (hw lp k) (exc lp k)
for_how_to p how lp k st = how_goes p (for_how how st) lp k

for_to : (p : Program) (lp lp1 : Loop) (k : Rest) (c : Machine) (o : Outcome How) → Goes p c o (hw lp1 (then_for lp k)) (exc lp1 (then_for lp k)) → Goes p c (for_ends o) (hw lp k) (exc lp k)
for_to p lp lp1 k c (Gives how st) g = goes_after p c (on_how (for_how how (at_home st)) lp k) (for_how how (at_home st)) (hw lp k) (exc lp k) (on g (first here)) (for_how_to p how lp k (at_home st))
for_to p lp lp1 k c (Raises x v st) g = on g (first here)
for_to p lp lp1 k c (Halts h w) g = g

yielded_to : (p : Program) (lp lp1 : Loop) (k : Rest) (st : State) (c : Machine) (o : Outcome How) → Goes p c o (hw lp1 (then_resume st.frame lp k)) (exc lp1 (then_resume st.frame lp k)) → Goes p c (yielded st o) (hw lp k) (exc lp k)
yielded_to p lp lp1 k st c (Gives Done st1) g = on g (first here)
yielded_to p lp lp1 k st c (Gives Exit st1) g = on g (first here)
yielded_to p lp lp1 k st c (Gives (Return v) st1) g = on g (first here)
yielded_to p lp lp1 k st c (Gives (Cut l) st1) g = on g (first here)
yielded_to p lp lp1 k st c (Raises x v st1) g = on g (first here)
yielded_to p lp lp1 k st c (Halts h w) g = g

closed_to : (p : Program) (weight : ℕ) (lp : Loop) (k : Rest) (c : Machine) (o : Outcome How) → Goes p c o (hw lp (then_close weight k)) (exc lp (then_close weight k)) → Goes p c (closed weight o) (hw lp k) (exc lp k)
closed_to p weight lp k c (Gives how st) g = on g (first here)
closed_to p weight lp k c (Raises x v st) g = on g (first here)
closed_to p weight lp k c (Halts h w) g = g

finish_value : {p : Program} (v : Option Value) (lp : Loop) (k : Rest) → To p (finish as_value v lp k) (λ st. with_some v Stuck st (λ x. Gives x st)) (val lp k) (exc lp k)
finish_value (Some v) lp k = to_gives v
finish_value None lp k = to_stuck

-- an operator on the value of an expression
unary_to : {p : Program} {c : State → Machine} {f : State → Outcome Value} (op : Unary) (lp : Loop) (k : Rest) → To p c f (val lp (then_unary op k)) (exc lp (then_unary op k)) → To p c (λ st. then_do (f st) (unary_of op)) (val lp k) (exc lp k)
unary_to op lp k h = to_then h (λ x v st. refl) (λ v. to_step (λ st. refl) (to_value (unary_of op v) lp k))

-- an operator on the values of two expressions
binary_to : {p : Program} {c : State → Machine} {f g : State → Outcome Value} (op : Binary) (b : ExprTree) (lp : Loop) (k : Rest) → To p c f (val lp (then_right op b k)) (exc lp (then_right op b k))
    → ((x : Value) → To p (At (now_eval b) lp (then_binary op x k)) g (val lp (then_binary op x k)) (exc lp (then_binary op x k)))
    → To p c (λ st. then_do (f st) (λ x st1. then_do (g st1) (λ y st2. binary_of op x y st2))) (val lp k) (exc lp k)
binary_to op b lp k h i = to_then h (λ x v st. refl) (λ x. to_step (λ st. refl) (to_then (i x) (λ y v st. refl) (λ y. to_step (λ st. refl) (to_value (binary_of op x y) lp k))))

-- a call's arguments and its turn
args_to : {p : Program} {c : State → Machine} {f : State → Outcome (List Value)} (callee : Callee) (u : Purpose) (lp : Loop) (k : Rest) → To p c f (λ vs st. args_done p vs (call_of callee u) lp k st) (exc lp k)
    → To p c (λ st. then_do (f st) (aimed_at p callee)) (λ t st. begin p t u lp k st) (exc lp k)
args_to {p = p} callee u lp k h = to_seq h (λ vs. to_some (aimed_at p callee vs) lp k (λ t st. begin p t u lp k st))

module _ {p : Program} {units : Units} (units_to : UnitsTo p units) where
  called_to : (u : Use) (t : Target) (lp : Loop) (k : Rest) → To p (begin p t (a_use u) lp k) (called units t) (λ v st. finish u v lp k st) (exc lp k)
  called_to u (Known v) lp k = to_gives (Some v)
  called_to u (Enters unit receiver args) lp k = record {
    goes = λ st. back_to p u lp no_loop k st (enter_at (unit_named p unit) receiver args no_loop (then_back u st.frame st.homes lp k) [] st.world) (units unit receiver args no_body [] st.world)
        (units_to.by unit receiver args no_body no_loop (then_back u st.frame st.homes lp k) [] st.world no_visits);
  }

  value_to : (t : Target) (lp : Loop) (k : Rest) → To p (begin p t (a_use as_value) lp k) (value_called units t) (val lp k) (exc lp k)
  value_to t lp k = to_seq (called_to as_value t lp k) (λ v. finish_value v lp k)

  drop_to : (t : Target) (lp : Loop) (k : Rest) → To p (begin p t (a_use as_stmt) lp k) (drop_called units t) (hw lp k) (exc lp k)
  drop_to t lp k = to_seq (called_to as_stmt t lp k) (λ v. to_gives Done)

  made_to : (class : List ℕ) (n : ℕ) (vs : List Value) (lp : Loop) (k : Rest) → To p (begin p (Enters (init_name class) (Some n) vs) (a_use (as_object n)) lp k) (made units class n vs) (val lp k) (exc lp k)
  made_to class n vs lp k = to_seq (called_to (as_object n) (Enters (init_name class) (Some n) vs) lp k) (λ v. to_gives (Ref n))

  looped_to : (x : ℕ) (b : BodyTree) (body : Body) (lp : Loop) → Visits p body (a_loop x b lp) → (t : Target) (k : Rest) → To p (begin p t (a_for x b) lp k) (looped units body t) (hw lp k) (exc lp k)
  looped_to x b body lp vis (Known v) k = to_stuck
  looped_to x b body lp vis (Enters unit receiver args) k = record {
    goes = λ st. for_to p lp (a_loop x b lp) k (enter_at (unit_named p unit) receiver args (a_loop x b lp) (then_for lp k) (st.frame ∷ st.homes) st.world) (units unit receiver args body (st.frame ∷ st.homes) st.world)
        (units_to.by unit receiver args body (a_loop x b lp) (then_for lp k) (st.frame ∷ st.homes) st.world vis);
  }

  mutual
    pub eval_to : (e : ExprTree) (lp : Loop) (k : Rest) → To p (At (now_eval e) lp k) (eval p units e) (val lp k) (exc lp k)
    eval_to (number_expr n) lp k = to_step (λ st. refl) (to_gives (Int (pos n)))
    eval_to (truth_expr b) lp k = to_step (λ st. refl) (to_gives (Truth b))
    eval_to (literal_expr bytes) lp k = to_step (λ st. refl) (to_gives (Text bytes))
    eval_to self_expr lp k = to_step (λ st. refl) (to_value self_of lp k)
    eval_to (local_expr n) lp k = to_step (λ st. refl) (to_value (local_of n) lp k)
    eval_to (field_expr class f) lp k = to_step (λ st. refl) (to_value (field_of class f) lp k)
    eval_to (negative_expr a) lp k = to_step (λ st. refl) (unary_to of_negative lp k (eval_to a lp (then_unary of_negative k)))
    eval_to (arith_expr op a b) lp k = to_step (λ st. refl) (binary_to (of_arith op) b lp k (eval_to a lp (then_right (of_arith op) b k)) (λ x. eval_to b lp (then_binary (of_arith op) x k)))
    eval_to (compare_expr op a b) lp k = to_step (λ st. refl) (binary_to (of_compare op) b lp k (eval_to a lp (then_right (of_compare op) b k)) (λ x. eval_to b lp (then_binary (of_compare op) x k)))
    eval_to (same_expr a b) lp k = to_step (λ st. refl) (binary_to of_same b lp k (eval_to a lp (then_right of_same b k)) (λ x. eval_to b lp (then_binary of_same x k)))
    eval_to (not_expr a) lp k = to_step (λ st. refl) (unary_to of_not lp k (eval_to a lp (then_unary of_not k)))
    eval_to (and_expr a b) lp k = to_step (λ st. refl) (to_then (eval_to a lp (then_and b k)) (λ x v st. refl) (λ v. to_step (λ st. refl) (to_truth v (eval_to b lp k) (to_gives (Truth false)))))
    eval_to (or_expr a b) lp k = to_step (λ st. refl) (to_then (eval_to a lp (then_or b k)) (λ x v st. refl) (λ v. to_step (λ st. refl) (to_truth v (to_gives (Truth true)) (eval_to b lp k))))
    eval_to (join_expr a b) lp k = to_step (λ st. refl) (binary_to of_join b lp k (eval_to a lp (then_right of_join b k)) (λ x. eval_to b lp (then_binary of_join x k)))
    eval_to (letter_expr a b) lp k = to_step (λ st. refl) (binary_to of_letter b lp k (eval_to a lp (then_right of_letter b k)) (λ x. eval_to b lp (then_binary of_letter x k)))
    eval_to (extent_expr a) lp k = to_step (λ st. refl) (unary_to of_extent lp k (eval_to a lp (then_unary of_extent k)))
    eval_to (element_expr a b) lp k = to_step (λ st. refl) (binary_to of_element b lp k (eval_to a lp (then_right of_element b k)) (λ x. eval_to b lp (then_binary of_element x k)))
    eval_to (length_expr a) lp k = to_step (λ st. refl) (unary_to of_length lp k (eval_to a lp (then_unary of_length k)))
    eval_to (cast_expr c a) lp k = to_step (λ st. refl) (eval_to a lp k)
    eval_to (call_expr c) lp k = to_step (λ st. refl) (to_seq (aim_to c (a_use as_value) lp k) (λ t. value_to t lp k))
    eval_to (new_expr class types supplies args) lp k = to_step (λ st. refl) (to_seq (to_some (new_of p class) lp k (λ n. At (now_args [] args (new_object_of class n)) lp k))
        (λ n. to_seq (all_to args [] (new_object_of class n) lp k) (λ vs. made_to class n vs lp k)))
    eval_to (new_array_expr t a b) lp k = to_step (λ st. refl) (binary_to of_new_array b lp k (eval_to a lp (then_right of_new_array b k)) (λ x. eval_to b lp (then_binary of_new_array x k)))
    eval_to get_byte_expr lp k = to_step (λ st. refl) (to_value get_byte_of lp k)

    pub all_to : (es : ExprTrees) (vs : List Value) (goal : Goal) (lp : Loop) (k : Rest) → To p (At (now_args vs es goal) lp k) (eval_all p units es) (λ ws st. args_done p (vs ++ ws) goal lp k st) (exc lp k)
    all_to no_expr vs goal lp k = to_step (λ st. refl) (record { goes = λ st. subst (λ us. Comes p (args_done p vs goal lp k st) (args_done p us goal lp k st)) (sym (append-nil vs)) here })
    all_to (more_exprs e es) vs goal lp k = to_step (λ st. refl) (to_then (eval_to e lp (then_more vs es goal k)) (λ x v st. refl)
        (λ v. to_step (λ st. refl) (to_seq (all_to es (vs ++ v ∷ []) goal lp k)
        (λ ws. record { goes = λ st. subst (λ us. Comes p (args_done p ((vs ++ v ∷ []) ++ ws) goal lp k st) (args_done p us goal lp k st)) (append_assoc vs (v ∷ []) ws) here }))))

    -- a call up to its turn
    pub aim_to : (c : CallTree) (u : Purpose) (lp : Loop) (k : Rest) → To p (call_at c u lp k) (aim p units c) (λ t st. begin p t u lp k st) (exc lp k)
    aim_to (routine_call unit types supplies args) u lp k = args_to (the_routine unit) u lp k (all_to args [] (call_of (the_routine unit) u) lp k)
    aim_to (method_call of method e args) u lp k = to_then (eval_to e lp (then_args (by_method method) args u k)) (λ x v st. refl) (λ v. to_step (λ st. refl) (args_to (the_method method v) u lp k (all_to args [] (call_of (the_method method v) u) lp k)))
    aim_to (hidden_call class method args) u lp k = to_self (λ n. args_to (the_object method n) u lp k (all_to args [] (call_of (the_object method n) u) lp k))
    aim_to (super_call class method args) u lp k = to_self (λ n. args_to (the_super class method n) u lp k (all_to args [] (call_of (the_super class method n) u) lp k))
    aim_to (where_call clause method e args) u lp k = to_then (eval_to e lp (then_args (by_where method) args u k)) (λ x v st. refl) (λ v. to_step (λ st. refl) (args_to (the_where method v) u lp k (all_to args [] (call_of (the_where method v) u) lp k)))
    aim_to (init_call class types supplies args) u lp k = to_self (λ n. args_to (the_init class n) u lp k (all_to args [] (call_of (the_init class n) u) lp k))

again_to : {p : Program} {e : ExprTree} {b : BodyTree} {lp : Loop} {k : Rest} {again : State → Outcome How} → To p (At (now_eval e) lp (then_while e b k)) again (hw lp k) (exc lp k)
    → (how : How) → To p (hw lp (then_again e b k) how) (again_of again how) (hw lp k) (exc lp k)
again_to h Done = to_step (λ st. refl) h
again_to h Exit = to_step (λ st. refl) (to_gives Done)
again_to h (Return v) = to_step (λ st. refl) (to_gives (Return v))
again_to h (Cut l) = to_step (λ st. refl) (to_gives (Cut l))

done_to : {p : Program} {rest : BodyTree} {lp : Loop} {k : Rest} {f : State → Outcome How} → To p (At (now_body rest) lp k) f (hw lp k) (exc lp k)
    → (how : How) → To p (hw lp (then_stmts rest k) how) (λ st. if_done how st (f st)) (hw lp k) (exc lp k)
done_to h Done = to_step (λ st. refl) h
done_to h Exit = to_step (λ st. refl) (to_gives Exit)
done_to h (Return v) = to_step (λ st. refl) (to_gives (Return v))
done_to h (Cut l) = to_step (λ st. refl) (to_gives (Cut l))

-- a statement that does something with the value of an expression
sink_to : {p : Program} {c : State → Machine} {f : State → Outcome Value} (s : Sink) (lp : Loop) (k : Rest) → To p c f (val lp (then_sink s k)) (exc lp (then_sink s k)) → To p c (λ st. then_do (f st) (sink_of s)) (hw lp k) (exc lp k)
sink_to s lp k h = to_then h (λ x v st. refl) (λ v. to_step (λ st. refl) (to_how (sink_of s v) lp k))

-- a test
if_to : {p : Program} {c : State → Machine} {f : State → Outcome Value} {g g1 : State → Outcome How} (b : BodyTree) (r : ElseTree) (lp : Loop) (k : Rest) → To p c f (val lp (then_if b r k)) (exc lp (then_if b r k))
    → To p (At (now_body b) lp k) g (hw lp k) (exc lp k) → To p (At (now_else r) lp k) g1 (hw lp k) (exc lp k) → To p c (λ st. then_do (f st) (if_of g g1)) (hw lp k) (exc lp k)
if_to b r lp k h i j = to_then h (λ x v st. refl) (λ v. to_step (λ st. refl) (to_truth v i j))

deep_to : {A : Type 0} {p : Program} {c : State → Machine} {good : A → State → Machine} {bad : List ℕ → Option Value → State → Machine} → To p c (λ st. Halts Deep st.world) good bad
deep_to = record { goes = λ st. tt }

-- a `while`
while_to : {p : Program} (e : ExprTree) (b : BodyTree) (lp : Loop) (k : Rest) (test : State → Outcome Value) (body : State → Outcome How) → To p (At (now_eval e) lp (then_while e b k)) test (val lp (then_while e b k)) (exc lp (then_while e b k))
    → To p (At (now_body b) lp (then_again e b k)) body (hw lp (then_again e b k)) (exc lp (then_again e b k)) → (j : ℕ) → To p (At (now_eval e) lp (then_while e b k)) (loops j test body) (hw lp k) (exc lp k)
while_to e b lp k test body t h zero = deep_to
while_to {p = p} e b lp k test body t h (suc j) = to_then t (λ x v st. refl) (λ v. to_step (λ st. refl)
    (to_truth v (to_seq (to_some (λ st. act (spend 1 st.world) st) lp k (λ _. At (now_body b) lp (then_again e b k))) (λ _. to_then h (λ x v st. refl) (again_to (while_to e b lp k test body t h j)))) (to_gives Done)))

-- the loop of a `for` does its body
for_visits : {p : Program} (x : ℕ) (b : BodyTree) (outer : Loop) (f : State → Outcome How) → ((k : Rest) → To p (At (now_body b) outer k) f (hw outer k) (exc outer k)) → Visits p (λ v st. f (set_local x v st)) (a_loop x b outer)
for_visits {p = p} x b outer f h = record {
  by = λ v k. record {
    goes = λ st. yielded_to p (a_loop x b outer) outer k st (At (now_body b) outer (then_resume st.frame (a_loop x b outer) k) (set_local x v (at_home st))) (f (set_local x v (at_home st)))
        ((h (then_resume st.frame (a_loop x b outer) k)).goes (set_local x v (at_home st)));
  };
}

module _ {p : Program} {units : Units} (units_to : UnitsTo p units) (n : ℕ) where
  mutual
    exec_to : (s : StmtTree) (body : Body) (lp : Loop) (k : Rest) → Visits p body lp → To p (At (now_exec s) lp k) (exec p units n s body) (hw lp k) (exc lp k)
    exec_to (var_stmt x e) body lp k vis = to_step (λ st. refl) (sink_to (to_local x.local) lp k (eval_to units_to e lp (then_sink (to_local x.local) k)))
    exec_to (set_local_stmt x e) body lp k vis = to_step (λ st. refl) (sink_to (to_local x) lp k (eval_to units_to e lp (then_sink (to_local x) k)))
    exec_to (set_field_stmt class f e) body lp k vis = to_step (λ st. refl) (sink_to (to_field class f) lp k (eval_to units_to e lp (then_sink (to_field class f) k)))
    exec_to (set_element_stmt a i e) body lp k vis = to_step (λ st. refl) (to_then (eval_to units_to a lp (then_index i e k)) (λ x v st. refl)
        (λ x. to_step (λ st. refl) (to_then (eval_to units_to i lp (then_value x e k)) (λ y v st. refl) (λ y. to_step (λ st. refl) (sink_to (to_element x y) lp k (eval_to units_to e lp (then_sink (to_element x y) k)))))))
    exec_to (call_stmt c) body lp k vis = to_step (λ st. refl) (to_seq (aim_to units_to c (a_use as_stmt) lp k) (λ t. drop_to units_to t lp k))
    exec_to (drop_stmt c) body lp k vis = to_step (λ st. refl) (to_seq (aim_to units_to c (a_use as_stmt) lp k) (λ t. drop_to units_to t lp k))
    exec_to (if_stmt e b r) body lp k vis = to_step (λ st. refl) (if_to b r lp k (eval_to units_to e lp (then_if b r k)) (body_to b body lp k vis) (else_to r body lp k vis))
    exec_to (while_stmt e b) body lp k vis = to_step (λ st. refl) (while_to e b lp k (eval p units e) (exec_body p units n b body) (eval_to units_to e lp (then_while e b k)) (body_to b body lp (then_again e b k) vis) n)
    exec_to (for_stmt x cast c b) body lp k vis = to_step (λ st. refl) (to_seq (aim_to units_to c (a_for x.local b) lp k)
        (λ t. looped_to units_to x.local b (λ v st. exec_body p units n b body (set_local x.local v st)) lp (for_visits x.local b lp (exec_body p units n b body) (λ k1. body_to b body lp k1 vis)) t k))
    exec_to break_stmt body lp k vis = to_step (λ st. refl) (to_gives Exit)
    exec_to return_stmt body lp k vis = to_step (λ st. refl) (to_gives (Return None))
    exec_to (return_value_stmt e) body lp k vis = to_step (λ st. refl) (sink_to to_return lp k (eval_to units_to e lp (then_sink to_return k)))
    exec_to (yield_stmt e) body lp k vis = to_step (λ st. refl) (to_then (eval_to units_to e lp (then_yield k)) (λ x v st. refl)
        (λ v. to_step (λ st. refl) (to_seq (to_some (λ st. act (open_yield st.world) st) lp k (λ _. visit lp v lp k)) (λ _. vis.by v k))))
    exec_to (raise_stmt x) body lp k vis = to_step (λ st. refl) (to_raises x None)
    exec_to (raise_value_stmt x e) body lp k vis = to_step (λ st. refl) (sink_to (to_raise x) lp k (eval_to units_to e lp (then_sink (to_raise x) k)))
    exec_to (begin_stmt b ws) body lp k vis = to_step (λ st. refl) (to_catch (body_to b body lp (then_caught ws k) vis) (λ x v. handle_to ws x v body lp k vis))
    exec_to (put_byte_stmt e) body lp k vis = to_step (λ st. refl) (sink_to to_put_byte lp k (eval_to units_to e lp (then_sink to_put_byte k)))
    exec_to (put_int_stmt e) body lp k vis = to_step (λ st. refl) (sink_to to_put_int lp k (eval_to units_to e lp (then_sink to_put_int k)))
    exec_to (put_text_stmt e) body lp k vis = to_step (λ st. refl) (sink_to to_put_text lp k (eval_to units_to e lp (then_sink to_put_text k)))

    pub body_to : (b : BodyTree) (body : Body) (lp : Loop) (k : Rest) → Visits p body lp → To p (At (now_body b) lp k) (exec_body p units n b body) (hw lp k) (exc lp k)
    body_to no_stmt body lp k vis = to_step (λ st. refl) (to_gives Done)
    body_to (more_stmts s rest) body lp k vis = to_step (λ st. refl) (to_then (exec_to s body lp (then_stmts rest k) vis) (λ x v st. refl) (done_to (body_to rest body lp k vis)))

    else_to : (r : ElseTree) (body : Body) (lp : Loop) (k : Rest) → Visits p body lp → To p (At (now_else r) lp k) (exec_else p units n r body) (hw lp k) (exc lp k)
    else_to no_else body lp k vis = to_step (λ st. refl) (to_gives Done)
    else_to (else_do b) body lp k vis = to_step (λ st. refl) (body_to b body lp k vis)
    else_to (elseif_then e b r) body lp k vis = to_step (λ st. refl) (if_to b r lp k (eval_to units_to e lp (then_if b r k)) (body_to b body lp k vis) (else_to r body lp k vis))

    handle_to : (ws : WhenTrees) (x : List ℕ) (v : Option Value) (body : Body) (lp : Loop) (k : Rest) → Visits p body lp → To p (At (now_handle ws x v) lp k) (handle p units n ws x v body) (hw lp k) (exc lp k)
    handle_to no_when x v body lp k vis = to_step (λ st. refl) (to_raises x v)
    handle_to (more_whens y variable b rest) x v body lp k vis = to_step (λ st. refl)
        (to_choice (bytes_eq x y) (to_map (bind_argument variable v) (body_to b body lp k vis)) (handle_to rest x v body lp k vis))

-- a unit's statements, and then its room is given back
closing_to : {p : Program} {c : State → Machine} {f : State → Outcome How} (weight : ℕ) (lp : Loop) (k : Rest) → To p c f (hw lp (then_close weight k)) (exc lp (then_close weight k)) → To p c (λ st. closed weight (f st)) (hw lp k) (exc lp k)
closing_to {p = p} {c = c} {f = f} weight lp k h = record { goes = λ st. closed_to p weight lp k (c st) (f st) (h.goes st) }

-- a unit is entered and run
entered_to : {p : Program} {units : Units} → UnitsTo p units → (n : ℕ) (u : Option ProgramUnit) (receiver : Option ℕ) (args : List Value) (body : Body) (lp : Loop) (k : Rest) (homes : List Frame) (w : World Value) → Visits p body lp
    → Goes p (enter_at u receiver args lp k homes w) (run_unit u receiver args homes w (λ b st. exec_body p units n b body st)) (hw lp k) (exc lp k)
entered_to units_to n None receiver args body lp k homes w vis = here
entered_to {p = p} {units = units} units_to n (Some u) receiver args body lp k homes w vis =
    let entry : To p (λ st. on_some (act (enter (call_weight u) u.name st.world) st) lp k (λ _ st1. At (now_body u.body) lp (then_close (call_weight u) k) st1))
    (λ st. then_do (act (enter (call_weight u) u.name st.world) st) (λ _ st1. closed (call_weight u) (exec_body p units n u.body body st1))) (hw lp k) (exc lp k) =
    to_seq (to_some (λ st. act (enter (call_weight u) u.name st.world) st) lp k (λ _ st1. At (now_body u.body) lp (then_close (call_weight u) k) st1))
    (λ _. closing_to (call_weight u) lp k (body_to units_to n u.body body lp (then_close (call_weight u) k) vis)) in
    entry.goes (record { frame = frame_of u receiver args; homes = homes; world = w })

-- the machine does units with at most n calls open within one another
pub level_to : (p : Program) (n : ℕ) → UnitsTo p (level p n)
level_to p zero = record { by = λ unit receiver args body lp k homes w vis. tt }
level_to p (suc n) = record { by = λ unit receiver args body lp k homes w vis. entered_to (level_to p n) (suc n) (unit_named p unit) receiver args body lp k homes w vis }
