-- Each form of evaluation with more turns.
use Rattle.std.proofs.Common.{◌≡◌, ℕ, zero, suc, ◌+◌, ◌<◌, ◌≤◌, Bool, true, false, List, [], ◌∷◌, Option, Some, None, refl, sym, ap, subst, arith}
use Rattle.std.specs.Prelude.{ℤ, pos, ◌+ℤ◌, ◌-ℤ◌, ◌*ℤ◌, neg_ℤ, not, length, bytes_eq, slice_get, nat_eq, if◌then◌else◌}
use Rattle.th_world.specs.Event.{Event, Prefix}
use Rattle.th_meaning.specs.declared.expr.ArithOp.{ArithOp}
use Rattle.th_meaning.specs.declared.expr.ArithOp.TheVariants.{Plus, Minus, Times, Divide, Remainder}
use Rattle.th_meaning.specs.declared.expr.CompareOp.{CompareOp}
use Rattle.th_meaning.specs.Trees.{ExprTree, number_expr, truth_expr, literal_expr, self_expr, local_expr, field_expr, negative_expr, arith_expr, compare_expr, same_expr, not_expr, and_expr, or_expr, join_expr, letter_expr, extent_expr, element_expr, length_expr, cast_expr, call_expr, new_expr, new_array_expr, get_byte_expr, ExprTrees, no_expr, more_exprs, CallTree, routine_call, method_call, hidden_call, super_call, where_call, init_call, Variable, StmtTree, var_stmt, set_local_stmt, set_field_stmt, set_element_stmt, call_stmt, drop_stmt, if_stmt, while_stmt, for_stmt, break_stmt, return_stmt, return_value_stmt, yield_stmt, raise_stmt, raise_value_stmt, begin_stmt, put_byte_stmt, put_int_stmt, put_text_stmt, BodyTree, no_stmt, more_stmts, ElseTree, no_else, else_do, elseif_then, WhenTrees, no_when, more_whens}
use Rattle.th_meaning.specs.Program.{ProgramUnit, Program, unit_named, walk, init_name}
use Rattle.th_meaning.specs.Counts.{call_weight}
use Rattle.th_meaning.specs.Weights.{object_weight}
use Rattle.th_meaning.specs.World.{Object, Instance, World, Halt, OutOfTurns, OutOfRoom, Unset, Stuck, Deep, Effect, Did, Fails, Stops, and_then, spend, reserve, enter, yield_weight, give_back, add_object, negation, array_length, get_byte, new_object, new_array, element, join, letter, field_value, set_field, set_element, put_byte, put_int, put_text, open_yield}
use Rattle.th_meaning.specs.Meaning.{Value, Int, Truth, Ref, Text, Frame, State, Outcome, Gives, Raises, Halts, Leave, by_break, by_return, by_raise, by_leave, How, Done, Exit, Return, Cut, then_do, with_world, act, with_some, with_truth, local_value, set_local, arith as arith_on, arith_of, number_of, compare, compare_of, same_of, join_of, letter_of, element_of, new_array_of, negative_of, not_of, and_of, or_of, extent_of, length_of, self_of, local_of, field_of, get_byte_of, Target, Enters, Known, class_of, entering, method_of_object, method_target, where_target, aimed, aim_method, aim_object, aim_where, Body, no_body, Units, returned, back_in, called, value_called, made, new_of, eval, eval_all, aim, if_done, again_of, while_of, loops, for_how, home, other_homes, at_home, for_ends, looped, again_in, yielded, yields, catch, bind_argument, set_local_of, set_field_of, set_element_of, drop_called, if_of, put_byte_of, put_int_of, put_text_of, exec, exec_body, exec_else, handle, closed, frame_of, run_unit, level}
use Rattle.th_meaning.proofs.Effects.{plus, Later, NotDeep, later_refl, later_trans, prefix_refl, prefix_trans, FineEffect, fine_spend}
use Rattle.th_meaning.proofs.EffectLaws.{fine_reserve, fine_enter, fine_open_yield, fine_unless_overflow, fine_quotient, fine_remainder, fine_put_byte, fine_put_int, fine_put_text, fine_get_byte, fine_join, fine_letter, fine_room_then_object, fine_new_object, fine_new_array, fine_element, fine_array_length, fine_set_element, fine_field_value, fine_set_field}
use Rattle.th_meaning.proofs.Fine.{outcome_world, trace_of, plus_state, Sane, HaltMore, More, Fine, Spends, Spent, fine_then, spent_then, then_spent, fine_less, sane_from, fine_act, fine_gives, fine_result, fine_raise, fine_stuck, fine_unset, fine_int, fine_truth, fine_ref, fine_text, fine_by, spent_by, fine_some, fine_self, spent_self, fine_both, fine_act_as, fine_choice, spent_charge, spent_first}

fine_arith : (d : ℕ) (op : ArithOp) (x y : ℤ) → FineEffect d (arith_on op x y)
fine_arith d Plus x y = fine_unless_overflow d (x +ℤ y) (x +ℤ y)
fine_arith d Minus x y = fine_unless_overflow d (x -ℤ y) (x -ℤ y)
fine_arith d Times x y = fine_unless_overflow d (x *ℤ y) (x *ℤ y)
fine_arith d Divide x y = fine_quotient d x y
fine_arith d Remainder x y = fine_remainder d x y

module _ {k d : ℕ} where
  negative_fine : (v : Value) → Fine k d (negative_of v) (negative_of v)
  negative_fine v = fine_int v (λ x. fine_act_as Int (fine_unless_overflow d (neg_ℤ x) (neg_ℤ x)))

  not_fine : (v : Value) → Fine k d (not_of v) (not_of v)
  not_fine v = fine_truth v (λ x. fine_result (Truth (not x)))

  extent_fine : (v : Value) → Fine k d (extent_of v) (extent_of v)
  extent_fine v = fine_text v (λ bytes. fine_result (Int (pos (length bytes))))

  length_fine : (v : Value) → Fine k d (length_of v) (length_of v)
  length_fine v = fine_ref v (λ n. fine_act_as (λ m. Int (pos m)) (fine_array_length d n))

  arith_fine : (op : ArithOp) (a b : Value) → Fine k d (arith_of op a b) (arith_of op a b)
  arith_fine op a b = fine_int a (λ x. fine_int b (λ y. fine_act_as Int (fine_arith d op x y)))

  compare_fine : (op : CompareOp) (a b : Value) → Fine k d (compare_of op a b) (compare_of op a b)
  compare_fine op (Int x) b = fine_int b (λ y. fine_result (Truth (compare op x y)))
  compare_fine op (Truth x) b = fine_truth b (λ y. fine_result (Truth (compare op (number_of x) (number_of y))))
  compare_fine op (Ref n) b = fine_stuck
  compare_fine op (Text bytes) b = fine_stuck

  same_fine : (a b : Value) → Fine k d (same_of a b) (same_of a b)
  same_fine a b = fine_ref a (λ m. fine_ref b (λ n. fine_result (Truth (nat_eq m n))))

  join_fine : (a b : Value) → Fine k d (join_of a b) (join_of a b)
  join_fine a b = fine_text a (λ s. fine_text b (λ t. fine_act_as Text (fine_join d s t)))

  letter_fine : (a b : Value) → Fine k d (letter_of a b) (letter_of a b)
  letter_fine a b = fine_text a (λ s. fine_int b (λ i. fine_act_as (λ c. Int (pos c)) (fine_letter d s i)))

  element_fine : (a b : Value) → Fine k d (element_of a b) (element_of a b)
  element_fine a b = fine_ref a (λ n. fine_int b (λ i. fine_act (fine_element d n i)))

  new_array_fine : (a b : Value) → Fine k d (new_array_of a b) (new_array_of a b)
  new_array_fine a b = fine_int a (λ n. fine_act_as Ref (fine_new_array d n b))

  and_fine : {c c1 : State → Outcome Value} → Fine k d c c1 → (v : Value) → Fine k d (and_of c v) (and_of c1 v)
  and_fine h v = fine_truth v (λ x. fine_choice x h (fine_result (Truth false)))

  or_fine : {c c1 : State → Outcome Value} → Fine k d c c1 → (v : Value) → Fine k d (or_of c v) (or_of c1 v)
  or_fine h v = fine_truth v (λ x. fine_choice x (fine_result (Truth true)) h)

  self_fine : Fine k d self_of self_of
  self_fine = fine_self (λ n. fine_result (Ref n))

  bound_fine : (o : Option Value) → Fine k d (λ st. with_some o Unset st (λ v. Gives v st)) (λ st. with_some o Unset st (λ v. Gives v st))
  bound_fine None = fine_unset
  bound_fine (Some v) = fine_result v

  local_fine : (n : ℕ) → Fine k d (local_of n) (local_of n)
  local_fine n = fine_by (local_value n) (λ st. refl) bound_fine

  field_fine : (class : List ℕ) (f : ℕ) → Fine k d (field_of class f) (field_of class f)
  field_fine class f = fine_self (λ n. fine_act (fine_field_value d n class f))

  get_byte_fine : Fine k d get_byte_of get_byte_of
  get_byte_fine = fine_act_as Int (fine_get_byte d)

  -- a call's turn
  aimed_spent : (target : Option Target) → Spent k d (aimed target) (aimed target)
  aimed_spent None = record { spends = λ st. (later_refl st.world, λ lt. tt); more = λ st. refl; grows = λ st. prefix_refl st.world.trace }
  aimed_spent (Some t) =
      let all : Fine k d (aimed (Some t)) (aimed (Some t)) = fine_then (fine_act (fine_spend d 1)) (λ _. fine_result t) in
      record { spends = λ st. on st (act (spend 1 st.world) st) (charge.spends st); more = all.more; grows = all.grows } where
        charge : Spent k d (λ st. act (spend 1 st.world) st) (λ st. act (spend 1 st.world) st)
        charge = spent_charge

        on : (st : State) (o : Outcome (Unit {0})) → Spends k st.world o → Spends k st.world (then_do o (λ _ st1. Gives t st1))
        on st (Gives a st1) h = h
        on st (Raises x v st1) h = h
        on st (Halts x w) h = h

  aim_method_spent : (p : Program) (method : List ℕ) (v : Value) (args : List Value) → Spent k d (aim_method p method v args) (aim_method p method v args)
  aim_method_spent p method v args = spent_by (λ st. method_target p method v args st.world) (target_same v) aimed_spent where
    target_same : (v : Value) (st : State) → method_target p method v args (plus d st.world) ≡ method_target p method v args st.world
    target_same (Int n) st = refl
    target_same (Truth b) st = refl
    target_same (Ref n) st = refl
    target_same (Text bytes) st = refl

  aim_where_spent : (p : Program) (method : List ℕ) (v : Value) (args : List Value) → Spent k d (aim_where p method v args) (aim_where p method v args)
  aim_where_spent p method v args = spent_by (λ st. where_target p method v args st.world) (target_same v) aimed_spent where
    target_same : (v : Value) (st : State) → where_target p method v args (plus d st.world) ≡ where_target p method v args st.world
    target_same (Int n) st = refl
    target_same (Truth b) st = refl
    target_same (Ref n) st = refl
    target_same (Text bytes) st = refl

  aim_object_spent : (p : Program) (method : List ℕ) (n : ℕ) (args : List Value) → Spent k d (aim_object p method n args) (aim_object p method n args)
  aim_object_spent p method n args = spent_by (λ st. method_of_object p method n args st.world) (λ st. refl) aimed_spent

  new_spent : (p : Program) (class : List ℕ) → Spent k d (new_of p class) (new_of p class)
  new_spent p class = spent_first (λ _ w1. and_then (reserve (object_weight p class) w1) (λ _ w2. add_object (Instance class []) w2)) (fine_room_then_object d (object_weight p class) (Instance class [])) (fine_new_object d class (object_weight p class))

-- the runs of units, and those with perhaps greater bounds
pub record FineBody (k d : ℕ) (body body1 : Body) : Type 0 where
  pub fine : (v : Value) → Fine k d (body v) (body1 v)

pub record FineUnits (k d : ℕ) (units units1 : Units) : Type 0 where
  pub sane : (unit : List ℕ) (receiver : Option ℕ) (args : List Value) (body body1 : Body) (homes : List Frame) → FineBody k d body body1 → (w : World Value) → Sane k w (units unit receiver args body homes w)
  pub more : (unit : List ℕ) (receiver : Option ℕ) (args : List Value) (body body1 : Body) (homes : List Frame) → FineBody k d body body1 → (w : World Value) → More d (units unit receiver args body homes w) (units1 unit receiver args body1 homes (plus d w))
  pub grows : (unit : List ℕ) (receiver : Option ℕ) (args : List Value) (body body1 : Body) (homes : List Frame) → FineBody k d body body1 → (w : World Value) → Prefix w.trace (trace_of (units1 unit receiver args body1 homes w))

pub no_body_fine : {k d : ℕ} → FineBody k d no_body no_body
no_body_fine = record { fine = λ v. fine_stuck }

back_sane : (k : ℕ) (w : World Value) (st : State) (o : Outcome How) → Sane k w o → Sane k w (back_in st o)
back_sane k w st (Gives how st1) h = h
back_sane k w st (Raises x v st1) h = h
back_sane k w st (Halts x w1) h = h

back_trace : (st : State) (o : Outcome How) → trace_of o ≡ trace_of (back_in st o)
back_trace st (Gives how st1) = refl
back_trace st (Raises x v st1) = refl
back_trace st (Halts x w1) = refl

back_halt : (d : ℕ) (h : Halt) (w : World Value) (st : State) (o : Outcome How) → HaltMore d h w o → HaltMore d h w (back_in st o)
back_halt d OutOfTurns w st o m = subst (λ t. Prefix w.trace t) (back_trace st o) m
back_halt d OutOfRoom w st o m = ap (λ x. back_in st x) m
back_halt d Unset w st o m = ap (λ x. back_in st x) m
back_halt d Stuck w st o m = ap (λ x. back_in st x) m
back_halt d Deep w st o m = tt

back_more : (d : ℕ) (st : State) (o o1 : Outcome How) → More d o o1 → More d (back_in st o) (back_in (plus_state d st) o1)
back_more d st (Gives how st1) o1 m = ap (λ x. back_in (plus_state d st) x) m
back_more d st (Raises x v st1) o1 m = ap (λ y. back_in (plus_state d st) y) m
back_more d st (Halts x w) o1 m = back_halt d x w (plus_state d st) o1 m

-- a map of outcomes, as by the end of a call, of a `for` or of a yield: it keeps the three facts
pub record Keeps (f : Outcome How → Outcome How) : Type 0 where
  pub sane : (k : ℕ) (w : World Value) (o : Outcome How) → Sane k w o → Sane k w (f o)
  pub trace : (o : Outcome How) → trace_of o ≡ trace_of (f o)
  pub halts : (h : Halt) (w : World Value) → f (Halts h w) ≡ Halts h w

keeps_halt : (f : Outcome How → Outcome How) → Keeps f → (d : ℕ) (h : Halt) (w : World Value) (o : Outcome How) → HaltMore d h w o → HaltMore d h w (f o)
keeps_halt f keeps d OutOfTurns w o m = subst (λ t. Prefix w.trace t) (keeps.trace o) m
keeps_halt f keeps d OutOfRoom w o m = subst (λ x. f o ≡ x) (keeps.halts OutOfRoom (plus d w)) (ap f m)
keeps_halt f keeps d Unset w o m = subst (λ x. f o ≡ x) (keeps.halts Unset (plus d w)) (ap f m)
keeps_halt f keeps d Stuck w o m = subst (λ x. f o ≡ x) (keeps.halts Stuck (plus d w)) (ap f m)
keeps_halt f keeps d Deep w o m = tt

module _ {k d : ℕ} {units units1 : Units} (fine : FineUnits k d units units1) where
  called_fine : (t : Target) → Fine k d (called units t) (called units1 t)
  called_fine (Enters unit receiver args) = record {
    sane = λ st. back_sane k st.world st (units unit receiver args no_body [] st.world) (fine.sane unit receiver args no_body no_body [] no_body_fine st.world);
    more = λ st. back_more d st (units unit receiver args no_body [] st.world) (units1 unit receiver args no_body [] (plus d st.world)) (fine.more unit receiver args no_body no_body [] no_body_fine st.world);
    grows = λ st. subst (λ t. Prefix st.world.trace t) (back_trace st (units1 unit receiver args no_body [] st.world)) (fine.grows unit receiver args no_body no_body [] no_body_fine st.world);
  }
  called_fine (Known v) = fine_result (Some v)

  value_fine : (t : Target) → Fine k d (value_called units t) (value_called units1 t)
  value_fine t = fine_then (called_fine t) (λ v. fine_some v (λ x. fine_result x))

  drop_fine : (t : Target) → Fine k d (drop_called units t) (drop_called units1 t)
  drop_fine t = fine_then (called_fine t) (λ v. fine_result Done)

  made_fine : (class : List ℕ) (n : ℕ) (args : List Value) → Fine k d (made units class n args) (made units1 class n args)
  made_fine class n args = fine_then (called_fine (Enters (init_name class) (Some n) args)) (λ _. fine_result (Ref n))

  module _ (p : Program) where
    mutual
      pub eval_fine : (e : ExprTree) → Fine (suc k) d (eval p units e) (eval p units1 e)
      eval_fine (number_expr n) = fine_result (Int (pos n))
      eval_fine (truth_expr b) = fine_result (Truth b)
      eval_fine (literal_expr bytes) = fine_result (Text bytes)
      eval_fine self_expr = self_fine
      eval_fine (local_expr n) = local_fine n
      eval_fine (field_expr class f) = field_fine class f
      eval_fine (negative_expr a) = fine_then (eval_fine a) negative_fine
      eval_fine (arith_expr op a b) = fine_both (eval_fine a) (eval_fine b) (arith_fine op)
      eval_fine (compare_expr op a b) = fine_both (eval_fine a) (eval_fine b) (compare_fine op)
      eval_fine (same_expr a b) = fine_both (eval_fine a) (eval_fine b) same_fine
      eval_fine (not_expr a) = fine_then (eval_fine a) not_fine
      eval_fine (and_expr a b) = fine_then (eval_fine a) (and_fine (eval_fine b))
      eval_fine (or_expr a b) = fine_then (eval_fine a) (or_fine (eval_fine b))
      eval_fine (join_expr a b) = fine_both (eval_fine a) (eval_fine b) join_fine
      eval_fine (letter_expr a b) = fine_both (eval_fine a) (eval_fine b) letter_fine
      eval_fine (extent_expr a) = fine_then (eval_fine a) extent_fine
      eval_fine (element_expr a b) = fine_both (eval_fine a) (eval_fine b) element_fine
      eval_fine (length_expr a) = fine_then (eval_fine a) length_fine
      eval_fine (cast_expr c a) = eval_fine a
      eval_fine (call_expr c) = spent_then (aim_spent c) value_fine
      eval_fine (new_expr class types supplies args) = spent_then (new_spent p class) (λ n. fine_then (fine_less (omega arith) (all_fine args)) (made_fine class n))
      eval_fine (new_array_expr t a b) = fine_both (eval_fine a) (eval_fine b) new_array_fine
      eval_fine get_byte_expr = get_byte_fine

      pub all_fine : (es : ExprTrees) → Fine (suc k) d (eval_all p units es) (eval_all p units1 es)
      all_fine no_expr = fine_result []
      all_fine (more_exprs e es) = fine_then (eval_fine e) (λ v. fine_then (all_fine es) (λ vs. fine_result (v ∷ vs)))

      pub aim_spent : (c : CallTree) → Spent k d (aim p units c) (aim p units1 c)
      aim_spent (routine_call unit types supplies args) = then_spent (all_fine args) (λ vs. aimed_spent (Some (Enters unit None vs)))
      aim_spent (method_call of method e args) = then_spent (eval_fine e) (λ v. then_spent (all_fine args) (aim_method_spent p method v))
      aim_spent (hidden_call class method args) = spent_self (λ n. then_spent (all_fine args) (aim_object_spent p method n))
      aim_spent (super_call class method args) = spent_self (λ n. then_spent (all_fine args) (λ vs. aimed_spent (entering (walk p class method) n vs)))
      aim_spent (where_call clause method e args) = then_spent (eval_fine e) (λ v. then_spent (all_fine args) (aim_where_spent p method v))
      aim_spent (init_call class types supplies args) = spent_self (λ n. then_spent (all_fine args) (λ vs. aimed_spent (Some (Enters (init_name class) (Some n) vs))))

module _ {k d : ℕ} where
  set_local_fine : (n : ℕ) (v : Value) → Fine k d (set_local_of n v) (set_local_of n v)
  set_local_fine n v = fine_gives Done (set_local n v) (λ st. later_refl st.world) (λ st. refl)

  set_field_fine : (class : List ℕ) (f : ℕ) (v : Value) → Fine k d (set_field_of class f v) (set_field_of class f v)
  set_field_fine class f v = fine_self (λ n. fine_then (fine_act (fine_set_field d n class f v)) (λ _. fine_result Done))

  set_element_fine : (a i v : Value) → Fine k d (set_element_of a i v) (set_element_of a i v)
  set_element_fine a i v = fine_ref a (λ n. fine_int i (λ j. fine_then (fine_act (fine_set_element d n j v)) (λ _. fine_result Done)))

  if_fine : {c c1 g g1 : State → Outcome How} → Fine k d c c1 → Fine k d g g1 → (v : Value) → Fine k d (if_of c g v) (if_of c1 g1 v)
  if_fine h i v = fine_truth v (λ x. fine_choice x h i)

  put_byte_fine : (v : Value) → Fine k d (put_byte_of v) (put_byte_of v)
  put_byte_fine v = fine_int v (λ x. fine_then (fine_act (fine_put_byte d x)) (λ _. fine_result Done))

  put_int_fine : (v : Value) → Fine k d (put_int_of v) (put_int_of v)
  put_int_fine v = fine_int v (λ x. fine_then (fine_act (fine_put_int d x)) (λ _. fine_result Done))

  put_text_fine : (v : Value) → Fine k d (put_text_of v) (put_text_of v)
  put_text_fine v = fine_text v (λ bytes. fine_then (fine_act (fine_put_text d bytes)) (λ _. fine_result Done))

  done_fine : {c c1 : State → Outcome How} (how : How) → Fine k d c c1 → Fine k d (λ st. if_done how st (c st)) (λ st. if_done how st (c1 st))
  done_fine Done h = h
  done_fine Exit h = fine_result Exit
  done_fine (Return v) h = fine_result (Return v)
  done_fine (Cut l) h = fine_result (Cut l)

  again_fine : {c c1 : State → Outcome How} → Fine k d c c1 → (how : How) → Fine k d (again_of c how) (again_of c1 how)
  again_fine h Done = h
  again_fine h Exit = fine_result Done
  again_fine h (Return v) = fine_result (Return v)
  again_fine h (Cut l) = fine_result (Cut l)

  -- an evaluation after a change of the frame alone
  fine_map : {A : Type 0} {c c1 : State → Outcome A} (g : State → State) → ((st : State) → (g st).world ≡ st.world) → ((st : State) → g (plus_state d st) ≡ plus_state d (g st)) → Fine k d c c1 → Fine k d (λ st. c (g st)) (λ st. c1 (g st))
  fine_map {c = c} {c1 = c1} g same comm h = record {
    sane = λ st. subst (λ w. Sane k w (c (g st))) (same st) (h.sane (g st));
    more = λ st. subst (λ s. More d (c (g st)) (c1 s)) (sym (comm st)) (h.more (g st));
    grows = λ st. subst (λ w. Prefix w.trace (trace_of (c1 (g st)))) (same st) (h.grows (g st));
  }

  bind_fine : {c c1 : State → Outcome How} (x : Option Variable) (v : Option Value) → Fine k d c c1 → Fine k d (λ st. c (bind_argument x v st)) (λ st. c1 (bind_argument x v st))
  bind_fine None v h = h
  bind_fine (Some x) None h = h
  bind_fine (Some x) (Some v) h = fine_map (set_local x.local v) (λ st. refl) (λ st. refl) h

-- a raised exception goes to a handler
catch_sane : (k : ℕ) (w : World Value) (o : Outcome How) (f : List ℕ → Option Value → State → Outcome How) → Sane k w o → ((x : List ℕ) (v : Option Value) (st : State) → Sane k st.world (f x v st)) → Sane k w (catch o f)
catch_sane k w (Gives how st) f h g = h
catch_sane k w (Raises x v st) f h g = sane_from k w st.world (f x v st) h (g x v st)
catch_sane k w (Halts x w1) f h g = h

catch_grows : (t : List Event) (o : Outcome How) (f : List ℕ → Option Value → State → Outcome How) → Prefix t (trace_of o) → ((x : List ℕ) (v : Option Value) (st : State) → Prefix st.world.trace (trace_of (f x v st))) → Prefix t (trace_of (catch o f))
catch_grows t (Gives how st) f h g = h
catch_grows t (Raises x v st) f h g = prefix_trans t st.world.trace (trace_of (f x v st)) h (g x v st)
catch_grows t (Halts x w) f h g = h

catch_halt : (d : ℕ) (h : Halt) (w : World Value) (o : Outcome How) (f : List ℕ → Option Value → State → Outcome How) → HaltMore d h w o → ((x : List ℕ) (v : Option Value) (st : State) → Prefix st.world.trace (trace_of (f x v st))) → HaltMore d h w (catch o f)
catch_halt d OutOfTurns w o f m g = catch_grows w.trace o f m g
catch_halt d OutOfRoom w o f m g = ap (λ x. catch x f) m
catch_halt d Unset w o f m g = ap (λ x. catch x f) m
catch_halt d Stuck w o f m g = ap (λ x. catch x f) m
catch_halt d Deep w o f m g = tt

catch_more : (d : ℕ) (o o1 : Outcome How) (f f1 : List ℕ → Option Value → State → Outcome How) → More d o o1 → ((x : List ℕ) (v : Option Value) (st : State) → More d (f x v st) (f1 x v (plus_state d st)))
    → ((x : List ℕ) (v : Option Value) (st : State) → Prefix st.world.trace (trace_of (f1 x v st))) → More d (catch o f) (catch o1 f1)
catch_more d (Gives how st) o1 f f1 m h g = ap (λ x. catch x f1) m
catch_more d (Raises x v st) o1 f f1 m h g = subst (λ y. More d (f x v st) (catch y f1)) (sym m) (h x v st)
catch_more d (Halts x w) o1 f f1 m h g = catch_halt d x w o1 f1 m g

fine_catch : {k d : ℕ} {c c1 : State → Outcome How} {f f1 : List ℕ → Option Value → State → Outcome How} → Fine k d c c1 → ((x : List ℕ) (v : Option Value) → Fine k d (f x v) (f1 x v)) → Fine k d (λ st. catch (c st) f) (λ st. catch (c1 st) f1)
fine_catch {k = k} {d = d} {c = c} {c1 = c1} {f = f} {f1 = f1} h g = record {
  sane = λ st. catch_sane k st.world (c st) f (h.sane st) (λ x v st1. (g x v).sane st1);
  more = λ st. catch_more d (c st) (c1 (plus_state d st)) f f1 (h.more st) (λ x v st1. (g x v).more st1) (λ x v st1. (g x v).grows st1);
  grows = λ st. catch_grows st.world.trace (c1 st) f1 (h.grows st) (λ x v st1. (g x v).grows st1);
}

-- how a `for` ends
how_sane : (k : ℕ) (w : World Value) (how : How) (st : State) → Later w st.world → Sane k w (for_how how st)
how_sane k w Done st h = h
how_sane k w Exit st h = h
how_sane k w (Return v) st h = h
how_sane k w (Cut by_break) st h = h
how_sane k w (Cut (by_return v)) st h = h
how_sane k w (Cut (by_raise x v)) st h = h
how_sane k w (Cut (by_leave l)) st h = h

how_world : (how : How) (st : State) → st.world ≡ outcome_world (for_how how st)
how_world Done st = refl
how_world Exit st = refl
how_world (Return v) st = refl
how_world (Cut by_break) st = refl
how_world (Cut (by_return v)) st = refl
how_world (Cut (by_raise x v)) st = refl
how_world (Cut (by_leave l)) st = refl

how_more : (d : ℕ) (how : How) (st : State) → More d (for_how how st) (for_how how (plus_state d st))
how_more d Done st = refl
how_more d Exit st = refl
how_more d (Return v) st = refl
how_more d (Cut by_break) st = refl
how_more d (Cut (by_return v)) st = refl
how_more d (Cut (by_raise x v)) st = refl
how_more d (Cut (by_leave l)) st = refl

for_sane : (k : ℕ) (w : World Value) (o : Outcome How) → Sane k w o → Sane k w (for_ends o)
for_sane k w (Gives how st) h = how_sane k w how (at_home st) h
for_sane k w (Raises x v st) h = h
for_sane k w (Halts x w1) h = h

for_trace : (o : Outcome How) → trace_of o ≡ trace_of (for_ends o)
for_trace (Gives how st) = ap (λ w. w.trace) (how_world how (at_home st))
for_trace (Raises x v st) = refl
for_trace (Halts x w) = refl

for_keeps : Keeps for_ends
for_keeps = record { sane = for_sane; trace = for_trace; halts = λ h w. refl }

for_more : (d : ℕ) (o o1 : Outcome How) → More d o o1 → More d (for_ends o) (for_ends o1)
for_more d (Gives how st) o1 m = subst (λ x. More d (for_how how (at_home st)) (for_ends x)) (sym m) (how_more d how (at_home st))
for_more d (Raises x v st) o1 m = ap for_ends m
for_more d (Halts x w) o1 m = keeps_halt for_ends for_keeps d x w o1 m

-- how a yield ends
yielded_sane : (k : ℕ) (w : World Value) (st : State) (o : Outcome How) → Sane k w o → Sane k w (yielded st o)
yielded_sane k w st (Gives Done st1) h = record { turns = h.turns; trace = h.trace }
yielded_sane k w st (Gives Exit st1) h = record { turns = h.turns; trace = h.trace }
yielded_sane k w st (Gives (Return v) st1) h = record { turns = h.turns; trace = h.trace }
yielded_sane k w st (Gives (Cut l) st1) h = record { turns = h.turns; trace = h.trace }
yielded_sane k w st (Raises x v st1) h = record { turns = h.turns; trace = h.trace }
yielded_sane k w st (Halts x w1) h = h

yielded_trace : (st : State) (o : Outcome How) → trace_of o ≡ trace_of (yielded st o)
yielded_trace st (Gives Done st1) = refl
yielded_trace st (Gives Exit st1) = refl
yielded_trace st (Gives (Return v) st1) = refl
yielded_trace st (Gives (Cut l) st1) = refl
yielded_trace st (Raises x v st1) = refl
yielded_trace st (Halts x w) = refl

yielded_keeps : (st : State) → Keeps (yielded st)
yielded_keeps st = record { sane = λ k w o. yielded_sane k w st o; trace = yielded_trace st; halts = λ h w. refl }

yielded_more : (d : ℕ) (st : State) (o o1 : Outcome How) → More d o o1 → More d (yielded st o) (yielded (plus_state d st) o1)
yielded_more d st (Gives Done st1) o1 m = ap (yielded (plus_state d st)) m
yielded_more d st (Gives Exit st1) o1 m = ap (yielded (plus_state d st)) m
yielded_more d st (Gives (Return v) st1) o1 m = ap (yielded (plus_state d st)) m
yielded_more d st (Gives (Cut l) st1) o1 m = ap (yielded (plus_state d st)) m
yielded_more d st (Raises x v st1) o1 m = ap (yielded (plus_state d st)) m
yielded_more d st (Halts x w) o1 m = keeps_halt (yielded (plus_state d st)) (yielded_keeps (plus_state d st)) d x w o1 m

in_home : {k d : ℕ} {c c1 : State → Outcome How} → Fine k d c c1 → Fine k d (λ st. yielded st (c (at_home st))) (λ st. yielded st (c1 (at_home st)))
in_home {k = k} {d = d} {c = c} {c1 = c1} h = record {
  sane = λ st. yielded_sane k st.world st (c (at_home st)) (h.sane (at_home st));
  more = λ st. yielded_more d st (c (at_home st)) (c1 (at_home (plus_state d st))) (h.more (at_home st));
  grows = λ st. subst (λ t. Prefix st.world.trace t) (yielded_trace st (c1 (at_home st))) (h.grows (at_home st));
}

yields_fine : {k d : ℕ} {body body1 : Body} → FineBody k d body body1 → (v : Value) → Fine k d (yields body v) (yields body1 v)
yields_fine {d = d} fb v = fine_then (fine_act (fine_open_yield d)) (λ _. in_home (fb.fine v))

-- how an open call ends
closed_sane : (k weight : ℕ) (w : World Value) (o : Outcome How) → Sane k w o → Sane k w (closed weight o)
closed_sane k weight w (Gives how st) h = record { turns = h.turns; trace = h.trace }
closed_sane k weight w (Raises x v st) h = record { turns = h.turns; trace = h.trace }
closed_sane k weight w (Halts x w1) h = h

closed_trace : (weight : ℕ) (o : Outcome How) → trace_of o ≡ trace_of (closed weight o)
closed_trace weight (Gives how st) = refl
closed_trace weight (Raises x v st) = refl
closed_trace weight (Halts x w) = refl

closed_keeps : (weight : ℕ) → Keeps (closed weight)
closed_keeps weight = record { sane = λ k w o. closed_sane k weight w o; trace = closed_trace weight; halts = λ h w. refl }

closed_more : (d weight : ℕ) (o o1 : Outcome How) → More d o o1 → More d (closed weight o) (closed weight o1)
closed_more d weight (Gives how st) o1 m = ap (closed weight) m
closed_more d weight (Raises x v st) o1 m = ap (closed weight) m
closed_more d weight (Halts x w) o1 m = keeps_halt (closed weight) (closed_keeps weight) d x w o1 m

closed_fine : {k d : ℕ} {c c1 : State → Outcome How} (weight : ℕ) → Fine k d c c1 → Fine k d (λ st. closed weight (c st)) (λ st. closed weight (c1 st))
closed_fine {k = k} {d = d} {c = c} {c1 = c1} weight h = record {
  sane = λ st. closed_sane k weight st.world (c st) (h.sane st);
  more = λ st. closed_more d weight (c st) (c1 (plus_state d st)) (h.more st);
  grows = λ st. subst (λ t. Prefix st.world.trace t) (closed_trace weight (c1 st)) (h.grows st);
}

-- a `while`
while_fine : {k j d : ℕ} {test test1 : State → Outcome Value} {body body1 again again1 : State → Outcome How} → suc j ≤ k → Fine k d test test1 → Fine k d body body1 → Fine j d again again1
    → Fine (suc j) d (λ st. then_do (test st) (while_of body again)) (λ st. then_do (test1 st) (while_of body1 again1))
while_fine le t b a = fine_then (fine_less le t) (λ v. fine_truth v (λ x. fine_choice x (spent_then spent_charge (λ _. fine_then (fine_less (omega (arith, le)) b) (again_fine a))) (fine_result Done)))

loops_fine : {k d : ℕ} {test test1 : State → Outcome Value} {body body1 : State → Outcome How} (j j1 : ℕ) → j ≤ j1 → j ≤ suc k → Fine (suc k) d test test1 → Fine (suc k) d body body1
    → Fine j d (loops j test body) (loops j1 test1 body1)
loops_fine zero zero le most t b = record { sane = λ st. (later_refl st.world, λ lt. absurd (omega (arith, lt))); more = λ st. tt; grows = λ st. prefix_refl st.world.trace }
loops_fine zero (suc j1) le most t b = record { sane = λ st. (later_refl st.world, λ lt. absurd (omega (arith, lt))); more = λ st. tt; grows = (while_fine (omega arith) t b (loops_fine zero j1 (omega arith) most t b)).grows }
loops_fine (suc j) zero le most t b = absurd (omega (arith, le))
loops_fine (suc j) (suc j1) le most t b = while_fine most t b (loops_fine j j1 (omega (arith, le)) (omega (arith, most)) t b)

-- a `for` over the iterator that is called
looped_fine : {k d : ℕ} {units units1 : Units} {body body1 : Body} → FineUnits k d units units1 → FineBody k d body body1 → (t : Target) → Fine k d (looped units body t) (looped units1 body1 t)
looped_fine {k = k} {d = d} {units = units} {units1 = units1} {body = body} {body1 = body1} fine fb (Enters unit receiver args) = record {
  sane = λ st. for_sane k st.world (units unit receiver args body (st.frame ∷ st.homes) st.world) (fine.sane unit receiver args body body1 (st.frame ∷ st.homes) fb st.world);
  more = λ st. for_more d (units unit receiver args body (st.frame ∷ st.homes) st.world) (units1 unit receiver args body1 (st.frame ∷ st.homes) (plus d st.world)) (fine.more unit receiver args body body1 (st.frame ∷ st.homes) fb st.world);
  grows = λ st. subst (λ t. Prefix st.world.trace t) (for_trace (units1 unit receiver args body1 (st.frame ∷ st.homes) st.world)) (fine.grows unit receiver args body body1 (st.frame ∷ st.homes) fb st.world);
}
looped_fine fine fb (Known v) = fine_stuck

less_body : {k d : ℕ} {body body1 : Body} → FineBody (suc k) d body body1 → FineBody k d body body1
less_body fb = record { fine = λ v. fine_less (omega arith) (fb.fine v) }

module _ {k d : ℕ} {units units1 : Units} (fine : FineUnits k d units units1) (p : Program) (n1 : ℕ) (le : suc k ≤ n1) where
  mutual
    exec_fine : (s : StmtTree) {body body1 : Body} → FineBody (suc k) d body body1 → Fine (suc k) d (exec p units (suc k) s body) (exec p units1 n1 s body1)
    exec_fine (var_stmt x e) fb = fine_then (eval_fine fine p e) (set_local_fine x.local)
    exec_fine (set_local_stmt n e) fb = fine_then (eval_fine fine p e) (set_local_fine n)
    exec_fine (set_field_stmt class f e) fb = fine_then (eval_fine fine p e) (set_field_fine class f)
    exec_fine (set_element_stmt a i e) fb = fine_both (eval_fine fine p a) (eval_fine fine p i) (λ x y. fine_then (eval_fine fine p e) (set_element_fine x y))
    exec_fine (call_stmt c) fb = spent_then (aim_spent fine p c) (drop_fine fine)
    exec_fine (drop_stmt c) fb = spent_then (aim_spent fine p c) (drop_fine fine)
    exec_fine (if_stmt e b r) fb = fine_then (eval_fine fine p e) (if_fine (body_fine b fb) (else_fine r fb))
    exec_fine (while_stmt e b) fb = loops_fine (suc k) n1 le (omega arith) (eval_fine fine p e) (body_fine b fb)
    exec_fine (for_stmt x cast c b) fb = spent_then (aim_spent fine p c)
        (looped_fine fine (record { fine = λ v. fine_map (set_local x.local v) (λ st. refl) (λ st. refl) (fine_less (omega arith) (body_fine b fb)) }))
    exec_fine break_stmt fb = fine_result Exit
    exec_fine return_stmt fb = fine_result (Return None)
    exec_fine (return_value_stmt e) fb = fine_then (eval_fine fine p e) (λ v. fine_result (Return (Some v)))
    exec_fine (yield_stmt e) fb = fine_then (eval_fine fine p e) (yields_fine fb)
    exec_fine (raise_stmt x) fb = fine_raise x None
    exec_fine (raise_value_stmt x e) fb = fine_then (eval_fine fine p e) (λ v. fine_raise x (Some v))
    exec_fine (begin_stmt b ws) fb = fine_catch (body_fine b fb) (λ x v. handle_fine ws x v fb)
    exec_fine (put_byte_stmt e) fb = fine_then (eval_fine fine p e) put_byte_fine
    exec_fine (put_int_stmt e) fb = fine_then (eval_fine fine p e) put_int_fine
    exec_fine (put_text_stmt e) fb = fine_then (eval_fine fine p e) put_text_fine

    pub body_fine : (b : BodyTree) {body body1 : Body} → FineBody (suc k) d body body1 → Fine (suc k) d (exec_body p units (suc k) b body) (exec_body p units1 n1 b body1)
    body_fine no_stmt fb = fine_result Done
    body_fine (more_stmts s rest) fb = fine_then (exec_fine s fb) (λ how. done_fine how (body_fine rest fb))

    else_fine : (r : ElseTree) {body body1 : Body} → FineBody (suc k) d body body1 → Fine (suc k) d (exec_else p units (suc k) r body) (exec_else p units1 n1 r body1)
    else_fine no_else fb = fine_result Done
    else_fine (else_do b) fb = body_fine b fb
    else_fine (elseif_then e b r) fb = fine_then (eval_fine fine p e) (if_fine (body_fine b fb) (else_fine r fb))

    handle_fine : (ws : WhenTrees) (x : List ℕ) (v : Option Value) {body body1 : Body} → FineBody (suc k) d body body1 → Fine (suc k) d (handle p units (suc k) ws x v body) (handle p units1 n1 ws x v body1)
    handle_fine no_when x v fb = fine_raise x v
    handle_fine (more_whens y variable b rest) x v fb = fine_choice (bytes_eq x y) (bind_fine variable v (body_fine b fb)) (handle_fine rest x v fb)

-- a unit that is entered
abbrev entered_in : ProgramUnit → (BodyTree → State → Outcome How) → State → Outcome How
entered_in u run st = then_do (act (enter (call_weight u) u.name st.world) st) (λ _ st1. closed (call_weight u) (run u.body st1))

abbrev state_of : ProgramUnit → Option ℕ → List Value → List Frame → World Value → State
state_of u receiver args homes w = record { frame = frame_of u receiver args; homes = homes; world = w }

entered_fine : {k d : ℕ} (u : ProgramUnit) (run run1 : BodyTree → State → Outcome How) → Fine k d (run u.body) (run1 u.body) → Fine k d (entered_in u run) (entered_in u run1)
entered_fine {d = d} u run run1 h = fine_then (fine_act (fine_enter d (call_weight u) u.name)) (λ _. closed_fine (call_weight u) h)

module _ {k d : ℕ} {run run1 : BodyTree → State → Outcome How} (fine : (b : BodyTree) → Fine k d (run b) (run1 b)) where
  run_sane : (u : Option ProgramUnit) (receiver : Option ℕ) (args : List Value) (homes : List Frame) (w : World Value) → Sane k w (run_unit u receiver args homes w run)
  run_sane None receiver args homes w = (later_refl w, λ lt. tt)
  run_sane (Some u) receiver args homes w = (entered_fine u run run1 (fine u.body)).sane (state_of u receiver args homes w)

  run_more : (u : Option ProgramUnit) (receiver : Option ℕ) (args : List Value) (homes : List Frame) (w : World Value) → More d (run_unit u receiver args homes w run) (run_unit u receiver args homes (plus d w) run1)
  run_more None receiver args homes w = refl
  run_more (Some u) receiver args homes w = (entered_fine u run run1 (fine u.body)).more (state_of u receiver args homes w)

  run_grows : (u : Option ProgramUnit) (receiver : Option ℕ) (args : List Value) (homes : List Frame) (w : World Value) → Prefix w.trace (trace_of (run_unit u receiver args homes w run1))
  run_grows None receiver args homes w = prefix_refl w.trace
  run_grows (Some u) receiver args homes w = (entered_fine u run run1 (fine u.body)).grows (state_of u receiver args homes w)

-- a loop's body that stops for want of turns
abbrev out_body : Body
out_body v st = Halts OutOfTurns st.world

out_fine : {d : ℕ} {body body1 : Body} (k : ℕ) → FineBody k d body body1 → FineBody 1 d out_body body1
out_fine {d = d} k fb = record { fine = λ v. record { sane = λ st. (later_refl st.world, λ lt. tt); more = λ st. (fb.fine v).grows (plus_state d st); grows = (fb.fine v).grows } }

-- the runs of units with at most k calls open within one another, and with at most k1
pub level_fine : (p : Program) (d k k1 : ℕ) → k ≤ k1 → FineUnits k d (level p k) (level p k1)
level_fine p d zero zero le = record {
  sane = λ unit receiver args body body1 homes fb w. (later_refl w, λ lt. absurd (omega (arith, lt)));
  more = λ unit receiver args body body1 homes fb w. tt;
  grows = λ unit receiver args body body1 homes fb w. prefix_refl w.trace;
}
level_fine p d zero (suc k1) le = record {
  sane = λ unit receiver args body body1 homes fb w. (later_refl w, λ lt. absurd (omega (arith, lt)));
  more = λ unit receiver args body body1 homes fb w. tt;
  grows = λ unit receiver args body body1 homes fb w.
      run_grows {k = 1} {d = d} {run = λ b st. exec_body p (level p zero) 1 b out_body st} {run1 = λ b st. exec_body p (level p k1) (suc k1) b body1 st}
      (λ b. body_fine (level_fine p d zero k1 (omega arith)) p (suc k1) (omega arith) b (out_fine 0 fb)) (unit_named p unit) receiver args homes w;
}
level_fine p d (suc k) zero le = absurd (omega (arith, le))
level_fine p d (suc k) (suc k1) le =
    let inner : FineUnits k d (level p k) (level p k1) = level_fine p d k k1 (omega (arith, le)) in
    record {
      sane = λ unit receiver args body body1 homes fb w. run_sane {run = λ b st. exec_body p (level p k) (suc k) b body st} {run1 = λ b st. exec_body p (level p k1) (suc k1) b body1 st}
          (λ b. body_fine inner p (suc k1) le b fb) (unit_named p unit) receiver args homes w;
      more = λ unit receiver args body body1 homes fb w. run_more {run = λ b st. exec_body p (level p k) (suc k) b body st} {run1 = λ b st. exec_body p (level p k1) (suc k1) b body1 st}
          (λ b. body_fine inner p (suc k1) le b fb) (unit_named p unit) receiver args homes w;
      grows = λ unit receiver args body body1 homes fb w. run_grows {run = λ b st. exec_body p (level p k) (suc k) b body st} {run1 = λ b st. exec_body p (level p k1) (suc k1) b body1 st}
          (λ b. body_fine inner p (suc k1) le b fb) (unit_named p unit) receiver args homes w;
    }
