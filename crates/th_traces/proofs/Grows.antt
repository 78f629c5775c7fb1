-- Each step keeps what was seen before.
use Rattle.std.proofs.Common.{refl, ap, ℕ, ◌+◌, ◌*◌, ℤ, pos, negsuc, ◌+ℤ◌, ◌-ℤ◌, ◌*ℤ◌, neg_ℤ, int_div, int_rem, Bool, true, false, cond, List, [], ◌∷◌, length, Option, Some, None, option_map, slice_get, nat_lt, bytes_eq}
use Rattle.std.specs.List.{find}
use Rattle.std.specs.Fmt.{signed_decimal}
use Rattle.th_world.specs.Event.{Event, Put, Took, FoundEnd, Entered, Prefix}
use Rattle.th_meaning.specs.declared.expr.ArithOp.{ArithOp}
use Rattle.th_meaning.specs.declared.expr.ArithOp.TheVariants.{Plus, Minus, Times, Divide, Remainder}
use Rattle.th_meaning.specs.declared.expr.CompareOp.{CompareOp}
use Rattle.th_meaning.specs.Trees.{ExprTree, number_expr, truth_expr, literal_expr, self_expr, local_expr, field_expr, negative_expr, arith_expr, compare_expr, same_expr, not_expr, and_expr, or_expr, join_expr, letter_expr, extent_expr, element_expr, length_expr, cast_expr, call_expr, new_expr, new_array_expr, get_byte_expr, ExprTrees, no_expr, more_exprs, CallTree, routine_call, method_call, hidden_call, super_call, where_call, init_call, Variable, StmtTree, var_stmt, set_local_stmt, set_field_stmt, set_element_stmt, call_stmt, drop_stmt, if_stmt, while_stmt, for_stmt, break_stmt, return_stmt, return_value_stmt, yield_stmt, raise_stmt, raise_value_stmt, begin_stmt, put_byte_stmt, put_int_stmt, put_text_stmt, BodyTree, no_stmt, more_stmts, ElseTree, no_else, else_do, elseif_then, WhenTrees, no_when, more_whens}
use Rattle.th_meaning.specs.Program.{ProgramUnit, Program, unit_named, walk, init_name}
use Rattle.th_meaning.specs.Counts.{call_weight}
use Rattle.th_meaning.specs.Weights.{object_weight}
use Rattle.th_meaning.specs.World.{Slot, Object, Instance, Array, World, Halt, Stuck, Unset, Effect, Did, Fails, Stops, and_then, spend, reserve, note, enter, open_yield, yield_weight, unless_overflow, fits_word, is_zero, put_byte, put_all, put_int, put_each, put_text, take_of, join, text_weight, within_bounds, item_at, new_object, new_array, on_array, element, array_length, set_element, on_instance, if_set, field_value, set_field, is_slot, greatest, lacks_room}
use Rattle.th_meaning.specs.Meaning.{Value, Int, Truth, Ref, Text, Frame, State, Outcome, Gives, Raises, Halts, by_break, by_return, by_raise, by_leave, How, Done, Exit, Return, Cut, then_do, act, act_as, with_int, with_truth, with_ref, with_text, with_some, arith, compare_of, local_value, Target, Enters, Known, aimed, method_target, method_of_object, where_target, entering, returned, for_how, at_home, yielded, bind_argument}
use Rattle.th_steps.specs.Machine.{Unary, of_negative, of_not, of_extent, of_length, unary_of, Binary, of_arith, of_compare, of_same, of_join, of_letter, of_element, of_new_array, binary_of, Sink, to_local, to_field, to_element, to_return, to_raise, to_put_byte, to_put_int, to_put_text, sink_of, Callee, the_routine, the_method, the_object, the_super, the_where, the_init, aimed_at, Use, as_value, as_stmt, as_object, Purpose, a_use, a_for, Goal, call_of, new_object_of, Loop, no_loop, a_loop, Rest, at_end, then_unary, then_right, then_binary, then_and, then_or, then_args, then_more, then_sink, then_index, then_value, then_if, then_while, then_yield, then_again, then_stmts, then_caught, then_close, then_back, then_for, then_resume, Now, now_eval, now_args, now_exec, now_body, now_else, now_handle, now_value, now_how, now_raise, Machine, At, Stopped, on_value, on_how, on_some, on_truth, on_number, enter_at, finish, begin, args_done, visit, call_at, eval_at, args_at, exec_at, body_at, else_at, handle_at, value_at, again_at, stmts_at, how_at, raise_at, step_at, step}
use Rattle.th_traces.specs.Traces.{trace_at}

pub same : (t : List Event) → Prefix t t
same t = record { more = []; is = refl }

-- one event more
more : (t : List Event) (e : Event) (u : List Event) → Prefix t u → Prefix t (e ∷ u)
more t e u h = record { more = e ∷ h.more; is = ap (λ v. e ∷ v) h.is }

module _ (t : List Event) where
  -- what an effect leaves begins so
  abbrev pub EffectGrows : {A : Type 0} → Effect Value A → Type 0
  EffectGrows (Did a w) = Prefix t w.trace
  EffectGrows (Fails x w) = Prefix t w.trace
  EffectGrows (Stops h w) = Prefix t w.trace

  -- what an outcome leaves begins so
  abbrev pub OutcomeGrows : {A : Type 0} → Outcome A → Type 0
  OutcomeGrows (Gives a st) = Prefix t st.world.trace
  OutcomeGrows (Raises x v st) = Prefix t st.world.trace
  OutcomeGrows (Halts h w) = Prefix t w.trace

  abbrev pub Grows : Machine → Type 0
  Grows m = Prefix t (trace_at m)

  if_effect : {A : Type 0} → (b : Bool) (x y : Effect Value A) → EffectGrows x → EffectGrows y → EffectGrows (cond b x y)
  if_effect true x y h k = h
  if_effect false x y h k = k

  pub after_effect : {A B : Type 0} → (e : Effect Value A) (f : A → World Value → Effect Value B) → EffectGrows e
      → ((a : A) (w : World Value) → Prefix t w.trace → EffectGrows (f a w)) → EffectGrows (and_then e f)
  after_effect (Did a w) f h k = k a w h
  after_effect (Fails x w) f h k = h
  after_effect (Stops x w) f h k = h

  pub spend_grows : (k : ℕ) (w : World Value) → Prefix t w.trace → EffectGrows (spend k w)
  spend_grows k w h = if_effect (nat_lt w.turns k) _ _ h h

  reserve_grows : (k : ℕ) (w : World Value) → Prefix t w.trace → EffectGrows (reserve k w)
  reserve_grows k w h = if_effect (lacks_room w.room k) _ _ h h

  enter_grows : (weight : ℕ) (unit : List ℕ) (w : World Value) → Prefix t w.trace → EffectGrows (enter weight unit w)
  enter_grows weight unit w h = after_effect (reserve weight w) _ (reserve_grows weight w h) (λ a w1 h1. more t (Entered unit) w1.trace h1)

  open_yield_grows : (w : World Value) → Prefix t w.trace → EffectGrows (open_yield w)
  open_yield_grows w h = after_effect (spend 1 w) _ (spend_grows 1 w h) (λ a w1 h1. reserve_grows yield_weight w1 h1)

  unless_grows : (x y : ℤ) (w : World Value) → Prefix t w.trace → EffectGrows (unless_overflow x y w)
  unless_grows x y w h = if_effect (fits_word x) _ _ h h

  arith_grows : (op : ArithOp) (x y : ℤ) (w : World Value) → Prefix t w.trace → EffectGrows (arith op x y w)
  arith_grows Plus x y w h = unless_grows (x +ℤ y) (x +ℤ y) w h
  arith_grows Minus x y w h = unless_grows (x -ℤ y) (x -ℤ y) w h
  arith_grows Times x y w h = unless_grows (x *ℤ y) (x *ℤ y) w h
  arith_grows Divide x y w h = if_effect (is_zero y) _ _ h (unless_grows (int_div x y) (int_div x y) w h)
  arith_grows Remainder x y w h = if_effect (is_zero y) _ _ h (unless_grows (int_div x y) (int_rem x y) w h)

  put_byte_grows : (n : ℤ) (w : World Value) → Prefix t w.trace → EffectGrows (put_byte n w)
  put_byte_grows (pos n) w h = if_effect (nat_lt n 256) _ _ (more t (Put n) w.trace h) h
  put_byte_grows (negsuc n) w h = h

  pub put_all_grows : (bytes : List ℕ) (w : World Value) → Prefix t w.trace → Prefix t (put_all bytes w).trace
  put_all_grows [] w h = h
  put_all_grows (b ∷ bytes) w h = put_all_grows bytes (note (Put b) w) (more t (Put b) w.trace h)

  put_int_grows : (n : ℤ) (w : World Value) → Prefix t w.trace → EffectGrows (put_int n w)
  put_int_grows n w h = after_effect (spend (length (signed_decimal n) + 1) w) _ (spend_grows _ w h) (λ a w1 h1. put_all_grows (signed_decimal n) w1 h1)

  pub put_each_grows : (bytes : List ℕ) (w : World Value) → Prefix t w.trace → EffectGrows (put_each bytes w)
  put_each_grows [] w h = h
  put_each_grows (b ∷ bytes) w h = after_effect (spend 1 w) _ (spend_grows 1 w h) (λ a w1 h1. put_each_grows bytes (note (Put b) w1) (more t (Put b) w1.trace h1))

  put_text_grows : (bytes : List ℕ) (w : World Value) → Prefix t w.trace → EffectGrows (put_text bytes w)
  put_text_grows bytes w h = after_effect (spend 1 w) _ (spend_grows 1 w h) (λ a w1 h1. put_each_grows bytes w1 h1)

  take_grows : (bytes : List ℕ) (w : World Value) → Prefix t w.trace → EffectGrows (take_of bytes w)
  take_grows [] w h = more t FoundEnd w.trace h
  take_grows (b ∷ bytes) w h = more t (Took b) w.trace h

  join_grows : (a b : List ℕ) (w : World Value) → Prefix t w.trace → EffectGrows (join a b w)
  join_grows a b w h = if_effect (nat_lt greatest (length a + length b)) _ _ h
      (after_effect (spend (length a + length b + 1) w) _ (spend_grows _ w h)
      (λ x w1 h1. after_effect (reserve (text_weight (length a + length b)) w1) _ (reserve_grows _ w1 h1) (λ y w2 h2. h2)))

  within_grows : {A : Type 0} → (o : Option A) (w : World Value) → Prefix t w.trace → EffectGrows (within_bounds o w)
  within_grows None w h = h
  within_grows (Some a) w h = h

  new_object_grows : (class : List ℕ) (weight : ℕ) (w : World Value) → Prefix t w.trace → EffectGrows (new_object class weight w)
  new_object_grows class weight w h = after_effect (spend 1 w) _ (spend_grows 1 w h)
      (λ x w1 h1. after_effect (reserve weight w1) _ (reserve_grows weight w1 h1) (λ y w2 h2. h2))

  new_array_grows : (n : ℤ) (v : Value) (w : World Value) → Prefix t w.trace → EffectGrows (new_array n v w)
  new_array_grows (pos n) v w h = after_effect (spend (n + 1) w) _ (spend_grows _ w h)
      (λ x w1 h1. after_effect (reserve (8 + 4 * n) w1) _ (reserve_grows _ w1 h1) (λ y w2 h2. h2))
  new_array_grows (negsuc n) v w h = h

  on_array_grows : {A : Type 0} → (o : Option (Object Value)) (w : World Value) (f : List Value → Effect Value A) → Prefix t w.trace
      → ((elements : List Value) → EffectGrows (f elements)) → EffectGrows (on_array o w f)
  on_array_grows None w f h k = h
  on_array_grows (Some (Instance class slots)) w f h k = h
  on_array_grows (Some (Array elements)) w f h k = k elements

  on_instance_grows : {A : Type 0} → (o : Option (Object Value)) (w : World Value) (f : List ℕ → List (Slot Value) → Effect Value A) → Prefix t w.trace
      → ((class : List ℕ) (slots : List (Slot Value)) → EffectGrows (f class slots)) → EffectGrows (on_instance o w f)
  on_instance_grows None w f h k = h
  on_instance_grows (Some (Instance class slots)) w f h k = k class slots
  on_instance_grows (Some (Array elements)) w f h k = h

  if_set_grows : {A : Type 0} → (o : Option A) (w : World Value) → Prefix t w.trace → EffectGrows (if_set o w)
  if_set_grows None w h = h
  if_set_grows (Some a) w h = h

  element_grows : (k : ℕ) (i : ℤ) (w : World Value) → Prefix t w.trace → EffectGrows (element k i w)
  element_grows k i w h = on_array_grows (slice_get w.objects k) w _ h (λ elements. within_grows (item_at elements i) w h)

  length_grows : (k : ℕ) (w : World Value) → Prefix t w.trace → EffectGrows (array_length k w)
  length_grows k w h = on_array_grows (slice_get w.objects k) w _ h (λ elements. h)

  set_element_grows : (k : ℕ) (i : ℤ) (v : Value) (w : World Value) → Prefix t w.trace → EffectGrows (set_element k i v w)
  set_element_grows k i v w h = on_array_grows (slice_get w.objects k) w _ h
      (λ elements. after_effect (within_bounds (item_at elements i) w) _ (within_grows (item_at elements i) w h) (λ x w1 h1. h1))

  field_grows : (k : ℕ) (class : List ℕ) (f : ℕ) (w : World Value) → Prefix t w.trace → EffectGrows (field_value k class f w)
  field_grows k class f w h = on_instance_grows (slice_get w.objects k) w _ h (λ c slots. if_set_grows (option_map (λ s. s.value) (find (is_slot class f) slots)) w h)

  set_field_grows : (k : ℕ) (class : List ℕ) (f : ℕ) (v : Value) (w : World Value) → Prefix t w.trace → EffectGrows (set_field k class f v w)
  set_field_grows k class f v w h = on_instance_grows (slice_get w.objects k) w _ h (λ c slots. h)

  -- outcomes
  act_grows : {A : Type 0} → (e : Effect Value A) (st : State) → EffectGrows e → OutcomeGrows (act e st)
  act_grows (Did a w) st h = h
  act_grows (Fails x w) st h = h
  act_grows (Stops x w) st h = h

  then_grows : {A B : Type 0} → (o : Outcome A) (f : A → State → Outcome B) → OutcomeGrows o
      → ((a : A) (st : State) → Prefix t st.world.trace → OutcomeGrows (f a st)) → OutcomeGrows (then_do o f)
  then_grows (Gives a st) f h k = k a st h
  then_grows (Raises x v st) f h k = h
  then_grows (Halts x w) f h k = h

  act_as_grows : {A : Type 0} → (kind : A → Value) (e : Effect Value A) (st : State) → EffectGrows e → OutcomeGrows (act_as kind e st)
  act_as_grows kind e st h = then_grows (act e st) _ (act_grows e st h) (λ a st1 h1. h1)

  int_grows : {A : Type 0} → (v : Value) (st : State) (f : ℤ → Outcome A) → Prefix t st.world.trace → ((n : ℤ) → OutcomeGrows (f n)) → OutcomeGrows (with_int v st f)
  int_grows (Int n) st f h k = k n
  int_grows (Truth b) st f h k = h
  int_grows (Ref n) st f h k = h
  int_grows (Text bytes) st f h k = h

  truth_grows : {A : Type 0} → (v : Value) (st : State) (f : Bool → Outcome A) → Prefix t st.world.trace → ((b : Bool) → OutcomeGrows (f b)) → OutcomeGrows (with_truth v st f)
  truth_grows (Int n) st f h k = h
  truth_grows (Truth b) st f h k = k b
  truth_grows (Ref n) st f h k = h
  truth_grows (Text bytes) st f h k = h

  ref_grows : {A : Type 0} → (v : Value) (st : State) (f : ℕ → Outcome A) → Prefix t st.world.trace → ((n : ℕ) → OutcomeGrows (f n)) → OutcomeGrows (with_ref v st f)
  ref_grows (Int n) st f h k = h
  ref_grows (Truth b) st f h k = h
  ref_grows (Ref n) st f h k = k n
  ref_grows (Text bytes) st f h k = h

  text_grows : {A : Type 0} → (v : Value) (st : State) (f : List ℕ → Outcome A) → Prefix t st.world.trace → ((s : List ℕ) → OutcomeGrows (f s)) → OutcomeGrows (with_text v st f)
  text_grows (Int n) st f h k = h
  text_grows (Truth b) st f h k = h
  text_grows (Ref n) st f h k = h
  text_grows (Text bytes) st f h k = k bytes

  some_grows : {A B : Type 0} → (o : Option A) (x : Halt) (st : State) (f : A → Outcome B) → Prefix t st.world.trace → ((a : A) → OutcomeGrows (f a)) → OutcomeGrows (with_some o x st f)
  some_grows None x st f h k = h
  some_grows (Some a) x st f h k = k a

  unary_grows : (op : Unary) (v : Value) (st : State) → Prefix t st.world.trace → OutcomeGrows (unary_of op v st)
  unary_grows of_negative v st h = int_grows v st _ h (λ n. act_as_grows Int _ st (unless_grows (neg_ℤ n) (neg_ℤ n) st.world h))
  unary_grows of_not v st h = truth_grows v st _ h (λ b. h)
  unary_grows of_extent v st h = text_grows v st _ h (λ s. h)
  unary_grows of_length v st h = ref_grows v st _ h (λ n. act_as_grows _ _ st (length_grows n st.world h))

  compare_grows : (v w : Value) (op : CompareOp) (st : State) → Prefix t st.world.trace → OutcomeGrows (compare_of op v w st)
  compare_grows (Int x) w op st h = int_grows w st _ h (λ n. h)
  compare_grows (Truth b) w op st h = truth_grows w st _ h (λ n. h)
  compare_grows (Ref k) w op st h = h
  compare_grows (Text bytes) w op st h = h

  binary_grows : (op : Binary) (v w : Value) (st : State) → Prefix t st.world.trace → OutcomeGrows (binary_of op v w st)
  binary_grows (of_arith op) v w st h = int_grows v st _ h (λ x. int_grows w st _ h (λ y. act_as_grows Int _ st (arith_grows op x y st.world h)))
  binary_grows (of_compare op) v w st h = compare_grows v w op st h
  binary_grows of_same v w st h = ref_grows v st _ h (λ x. ref_grows w st _ h (λ y. h))
  binary_grows of_join v w st h = text_grows v st _ h (λ x. text_grows w st _ h (λ y. act_as_grows Text _ st (join_grows x y st.world h)))
  binary_grows of_letter v w st h = text_grows v st _ h (λ x. int_grows w st _ h (λ i. act_as_grows _ _ st (within_grows (item_at x i) st.world h)))
  binary_grows of_element v w st h = ref_grows v st _ h (λ x. int_grows w st _ h (λ i. act_grows _ st (element_grows x i st.world h)))
  binary_grows of_new_array v w st h = int_grows v st _ h (λ n. act_as_grows Ref _ st (new_array_grows n w st.world h))

  done_grows : {A : Type 0} → (e : Effect Value A) (st : State) → EffectGrows e → OutcomeGrows (then_do (act e st) (λ _ st1. Gives Done st1))
  done_grows e st h = then_grows (act e st) _ (act_grows e st h) (λ a st1 h1. h1)

  sink_grows : (s : Sink) (v : Value) (st : State) → Prefix t st.world.trace → OutcomeGrows (sink_of s v st)
  sink_grows (to_local k) v st h = h
  sink_grows (to_field class f) v st h = some_grows st.frame.receiver Stuck st _ h (λ k. done_grows _ st (set_field_grows k class f v st.world h))
  sink_grows (to_element a i) v st h = ref_grows a st _ h (λ k. int_grows i st _ h (λ j. done_grows _ st (set_element_grows k j v st.world h)))
  sink_grows to_return v st h = h
  sink_grows (to_raise x) v st h = h
  sink_grows to_put_byte v st h = int_grows v st _ h (λ n. done_grows _ st (put_byte_grows n st.world h))
  sink_grows to_put_int v st h = int_grows v st _ h (λ n. done_grows _ st (put_int_grows n st.world h))
  sink_grows to_put_text v st h = text_grows v st _ h (λ s. done_grows _ st (put_text_grows s st.world h))

  aimed_grows : (target : Option Target) (st : State) → Prefix t st.world.trace → OutcomeGrows (aimed target st)
  aimed_grows target st h = some_grows target Stuck st _ h (λ x. then_grows (act (spend 1 st.world) st) _ (act_grows _ st (spend_grows 1 st.world h)) (λ a st1 h1. h1))

  aimed_at_grows : (p : Program) (c : Callee) (vs : List Value) (st : State) → Prefix t st.world.trace → OutcomeGrows (aimed_at p c vs st)
  aimed_at_grows p (the_routine unit) vs st h = aimed_grows (Some (Enters unit None vs)) st h
  aimed_at_grows p (the_method method v) vs st h = aimed_grows (method_target p method v vs st.world) st h
  aimed_at_grows p (the_object method k) vs st h = aimed_grows (method_of_object p method k vs st.world) st h
  aimed_at_grows p (the_super class method k) vs st h = aimed_grows (entering (walk p class method) k vs) st h
  aimed_at_grows p (the_where method v) vs st h = aimed_grows (where_target p method v vs st.world) st h
  aimed_at_grows p (the_init class k) vs st h = aimed_grows (Some (Enters (init_name class) (Some k) vs)) st h

  -- the machine
  on_value_grows : (o : Outcome Value) (lp : Loop) (k : Rest) → OutcomeGrows o → Grows (on_value o lp k)
  on_value_grows (Gives v st) lp k h = h
  on_value_grows (Raises x v st) lp k h = h
  on_value_grows (Halts x w) lp k h = h

  on_how_grows : (o : Outcome How) (lp : Loop) (k : Rest) → OutcomeGrows o → Grows (on_how o lp k)
  on_how_grows (Gives v st) lp k h = h
  on_how_grows (Raises x v st) lp k h = h
  on_how_grows (Halts x w) lp k h = h

  on_some_grows : {A : Type 0} → (o : Outcome A) (lp : Loop) (k : Rest) (go : A → State → Machine) → OutcomeGrows o
      → ((a : A) (st : State) → Prefix t st.world.trace → Grows (go a st)) → Grows (on_some o lp k go)
  on_some_grows (Gives a st) lp k go h f = f a st h
  on_some_grows (Raises x v st) lp k go h f = h
  on_some_grows (Halts x w) lp k go h f = h

  on_truth_grows : (v : Value) (st : State) (first second : Machine) → Prefix t st.world.trace → Grows first → Grows second → Grows (on_truth v st first second)
  on_truth_grows (Truth true) st first second h a b = a
  on_truth_grows (Truth false) st first second h a b = b
  on_truth_grows (Int n) st first second h a b = h
  on_truth_grows (Ref k) st first second h a b = h
  on_truth_grows (Text bytes) st first second h a b = h

  on_number_grows : (o : Option ℕ) (st : State) (go : ℕ → Machine) → Prefix t st.world.trace → ((n : ℕ) → Grows (go n)) → Grows (on_number o st go)
  on_number_grows None st go h f = h
  on_number_grows (Some n) st go h f = f n

  enter_at_grows : (u : Option ProgramUnit) (receiver : Option ℕ) (args : List Value) (lp : Loop) (k : Rest) (homes : List Frame) (w : World Value) → Prefix t w.trace
      → Grows (enter_at u receiver args lp k homes w)
  enter_at_grows None receiver args lp k homes w h = h
  enter_at_grows (Some u) receiver args lp k homes w h = on_some_grows _ lp k _ (act_grows _ _ (enter_grows (call_weight u) u.name w h)) (λ a st h1. h1)

  finish_grows : (u : Use) (v : Option Value) (lp : Loop) (k : Rest) (st : State) → Prefix t st.world.trace → Grows (finish u v lp k st)
  finish_grows as_value (Some v) lp k st h = h
  finish_grows as_value None lp k st h = h
  finish_grows as_stmt v lp k st h = h
  finish_grows (as_object n) v lp k st h = h

  begin_grows : (p : Program) (target : Target) (purpose : Purpose) (lp : Loop) (k : Rest) (st : State) → Prefix t st.world.trace → Grows (begin p target purpose lp k st)
  begin_grows p (Known v) (a_use u) lp k st h = finish_grows u (Some v) lp k st h
  begin_grows p (Known v) (a_for x b) lp k st h = h
  begin_grows p (Enters unit receiver args) (a_use u) lp k st h = enter_at_grows (unit_named p unit) receiver args _ _ _ st.world h
  begin_grows p (Enters unit receiver args) (a_for x b) lp k st h = enter_at_grows (unit_named p unit) receiver args _ _ _ st.world h

  args_done_grows : (p : Program) (vs : List Value) (goal : Goal) (lp : Loop) (k : Rest) (st : State) → Prefix t st.world.trace → Grows (args_done p vs goal lp k st)
  args_done_grows p vs (call_of c purpose) lp k st h = on_some_grows (aimed_at p c vs st) lp k _ (aimed_at_grows p c vs st h) (λ a st1 h1. begin_grows p a purpose lp k st1 h1)
  args_done_grows p vs (new_object_of class n) lp k st h = begin_grows p (Enters (init_name class) (Some n) vs) (a_use (as_object n)) lp k st h

  call_at_grows : (c : CallTree) (purpose : Purpose) (lp : Loop) (k : Rest) (st : State) → Prefix t st.world.trace → Grows (call_at c purpose lp k st)
  call_at_grows (routine_call unit types supplies args) purpose lp k st h = h
  call_at_grows (method_call of method e args) purpose lp k st h = h
  call_at_grows (hidden_call class method args) purpose lp k st h = on_number_grows st.frame.receiver st _ h (λ n. h)
  call_at_grows (super_call class method args) purpose lp k st h = on_number_grows st.frame.receiver st _ h (λ n. h)
  call_at_grows (where_call c method e args) purpose lp k st h = h
  call_at_grows (init_call class types supplies args) purpose lp k st h = on_number_grows st.frame.receiver st _ h (λ n. h)

  eval_grows : (p : Program) (e : ExprTree) (lp : Loop) (k : Rest) (st : State) → Prefix t st.world.trace → Grows (eval_at p e lp k st)
  eval_grows p (number_expr n) lp k st h = h
  eval_grows p (truth_expr b) lp k st h = h
  eval_grows p (literal_expr bytes) lp k st h = h
  eval_grows p self_expr lp k st h = on_value_grows _ lp k (some_grows st.frame.receiver Stuck st _ h (λ n. h))
  eval_grows p (local_expr n) lp k st h = on_value_grows _ lp k (some_grows (local_value n st) Unset st _ h (λ v. h))
  eval_grows p (field_expr class f) lp k st h = on_value_grows _ lp k (some_grows st.frame.receiver Stuck st _ h (λ n. act_grows _ st (field_grows n class f st.world h)))
  eval_grows p (negative_expr a) lp k st h = h
  eval_grows p (arith_expr op a b) lp k st h = h
  eval_grows p (compare_expr op a b) lp k st h = h
  eval_grows p (same_expr a b) lp k st h = h
  eval_grows p (not_expr a) lp k st h = h
  eval_grows p (and_expr a b) lp k st h = h
  eval_grows p (or_expr a b) lp k st h = h
  eval_grows p (join_expr a b) lp k st h = h
  eval_grows p (letter_expr a b) lp k st h = h
  eval_grows p (extent_expr a) lp k st h = h
  eval_grows p (element_expr a b) lp k st h = h
  eval_grows p (length_expr a) lp k st h = h
  eval_grows p (cast_expr c a) lp k st h = h
  eval_grows p (call_expr c) lp k st h = call_at_grows c (a_use as_value) lp k st h
  eval_grows p (new_expr class types supplies args) lp k st h = on_some_grows _ lp k _ (act_grows _ st (new_object_grows class (object_weight p class) st.world h)) (λ n st1 h1. h1)
  eval_grows p (new_array_expr of a b) lp k st h = h
  eval_grows p get_byte_expr lp k st h = on_value_grows _ lp k (act_as_grows Int _ st (take_grows st.world.input st.world h))

  args_grows : (p : Program) (vs : List Value) (args : ExprTrees) (goal : Goal) (lp : Loop) (k : Rest) (st : State) → Prefix t st.world.trace → Grows (args_at p vs args goal lp k st)
  args_grows p vs no_expr goal lp k st h = args_done_grows p vs goal lp k st h
  args_grows p vs (more_exprs e es) goal lp k st h = h

  exec_grows : (p : Program) (s : StmtTree) (lp : Loop) (k : Rest) (st : State) → Prefix t st.world.trace → Grows (exec_at p s lp k st)
  exec_grows p (var_stmt x e) lp k st h = h
  exec_grows p (set_local_stmt n e) lp k st h = h
  exec_grows p (set_field_stmt class f e) lp k st h = h
  exec_grows p (set_element_stmt a i e) lp k st h = h
  exec_grows p (call_stmt c) lp k st h = call_at_grows c (a_use as_stmt) lp k st h
  exec_grows p (drop_stmt c) lp k st h = call_at_grows c (a_use as_stmt) lp k st h
  exec_grows p (if_stmt e b r) lp k st h = h
  exec_grows p (while_stmt e b) lp k st h = h
  exec_grows p (for_stmt x cast c b) lp k st h = call_at_grows c (a_for x.local b) lp k st h
  exec_grows p break_stmt lp k st h = h
  exec_grows p return_stmt lp k st h = h
  exec_grows p (return_value_stmt e) lp k st h = h
  exec_grows p (yield_stmt e) lp k st h = h
  exec_grows p (raise_stmt x) lp k st h = h
  exec_grows p (raise_value_stmt x e) lp k st h = h
  exec_grows p (begin_stmt b ws) lp k st h = h
  exec_grows p (put_byte_stmt e) lp k st h = h
  exec_grows p (put_int_stmt e) lp k st h = h
  exec_grows p (put_text_stmt e) lp k st h = h

  body_grows : (p : Program) (b : BodyTree) (lp : Loop) (k : Rest) (st : State) → Prefix t st.world.trace → Grows (body_at p b lp k st)
  body_grows p no_stmt lp k st h = h
  body_grows p (more_stmts s rest) lp k st h = h

  else_grows : (p : Program) (r : ElseTree) (lp : Loop) (k : Rest) (st : State) → Prefix t st.world.trace → Grows (else_at p r lp k st)
  else_grows p no_else lp k st h = h
  else_grows p (else_do b) lp k st h = h
  else_grows p (elseif_then e b r) lp k st h = h

  bound_grows : (x : Option Variable) (v : Option Value) (st : State) → Prefix t st.world.trace → Prefix t (bind_argument x v st).world.trace
  bound_grows None v st h = h
  bound_grows (Some x) None st h = h
  bound_grows (Some x) (Some v) st h = h

  if_machine : (b : Bool) (x y : Machine) → Grows x → Grows y → Grows (cond b x y)
  if_machine true x y h k = h
  if_machine false x y h k = k

  handle_grows : (p : Program) (ws : WhenTrees) (x : List ℕ) (v : Option Value) (lp : Loop) (k : Rest) (st : State) → Prefix t st.world.trace → Grows (handle_at p ws x v lp k st)
  handle_grows p no_when x v lp k st h = h
  handle_grows p (more_whens y variable b rest) x v lp k st h = if_machine (bytes_eq x y) _ _ (bound_grows variable v st h) h

  visit_grows : (loop : Loop) (v : Value) (lp : Loop) (k : Rest) (st : State) → Prefix t st.world.trace → Grows (visit loop v lp k st)
  visit_grows no_loop v lp k st h = h
  visit_grows (a_loop x b outer) v lp k st h = h

  value_grows : (p : Program) (v : Value) (k : Rest) (lp : Loop) (st : State) → Prefix t st.world.trace → Grows (value_at p v k lp st)
  value_grows p v at_end lp st h = h
  value_grows p v (then_unary op k) lp st h = on_value_grows _ lp k (unary_grows op v st h)
  value_grows p v (then_right op b k) lp st h = h
  value_grows p v (then_binary op x k) lp st h = on_value_grows _ lp k (binary_grows op x v st h)
  value_grows p v (then_and b k) lp st h = on_truth_grows v st _ _ h h h
  value_grows p v (then_or b k) lp st h = on_truth_grows v st _ _ h h h
  value_grows p v (then_args s args purpose k) lp st h = h
  value_grows p v (then_more vs es goal k) lp st h = h
  value_grows p v (then_sink s k) lp st h = on_how_grows _ lp k (sink_grows s v st h)
  value_grows p v (then_index i e k) lp st h = h
  value_grows p v (then_value a e k) lp st h = h
  value_grows p v (then_if b r k) lp st h = on_truth_grows v st _ _ h h h
  value_grows p v (then_while e b k) lp st h = on_truth_grows v st _ _ h (on_some_grows _ lp k _ (act_grows _ st (spend_grows 1 st.world h)) (λ a st1 h1. h1)) h
  value_grows p v (then_yield k) lp st h = on_some_grows _ lp k _ (act_grows _ st (open_yield_grows st.world h)) (λ a st1 h1. visit_grows lp v lp k st1 h1)
  value_grows p v (then_again e b k) lp st h = h
  value_grows p v (then_stmts rest k) lp st h = h
  value_grows p v (then_caught ws k) lp st h = h
  value_grows p v (then_close weight k) lp st h = h
  value_grows p v (then_back u frame homes lp1 k) lp st h = h
  value_grows p v (then_for lp1 k) lp st h = h
  value_grows p v (then_resume frame lp1 k) lp st h = h

  again_grows : (p : Program) (how : How) (e : ExprTree) (b : BodyTree) (lp : Loop) (k : Rest) (st : State) → Prefix t st.world.trace → Grows (again_at p how e b lp k st)
  again_grows p Done e b lp k st h = h
  again_grows p Exit e b lp k st h = h
  again_grows p (Return v) e b lp k st h = h
  again_grows p (Cut l) e b lp k st h = h

  stmts_grows : (p : Program) (how : How) (rest : BodyTree) (lp : Loop) (k : Rest) (st : State) → Prefix t st.world.trace → Grows (stmts_at p how rest lp k st)
  stmts_grows p Done rest lp k st h = h
  stmts_grows p Exit rest lp k st h = h
  stmts_grows p (Return v) rest lp k st h = h
  stmts_grows p (Cut l) rest lp k st h = h

  for_how_grows : (how : How) (st : State) → Prefix t st.world.trace → OutcomeGrows (for_how how st)
  for_how_grows Done st h = h
  for_how_grows Exit st h = h
  for_how_grows (Return v) st h = h
  for_how_grows (Cut by_break) st h = h
  for_how_grows (Cut (by_return v)) st h = h
  for_how_grows (Cut (by_raise x v)) st h = h
  for_how_grows (Cut (by_leave l)) st h = h

  yielded_grows : (st : State) (how : How) (st1 : State) → Prefix t st1.world.trace → OutcomeGrows (yielded st (Gives how st1))
  yielded_grows st Done st1 h = h
  yielded_grows st Exit st1 h = h
  yielded_grows st (Return v) st1 h = h
  yielded_grows st (Cut l) st1 h = h

  how_grows : (p : Program) (how : How) (k : Rest) (lp : Loop) (st : State) → Prefix t st.world.trace → Grows (how_at p how k lp st)
  how_grows p how at_end lp st h = h
  how_grows p how (then_again e b k) lp st h = again_grows p how e b lp k st h
  how_grows p how (then_stmts rest k) lp st h = stmts_grows p how rest lp k st h
  how_grows p how (then_caught ws k) lp st h = h
  how_grows p how (then_close weight k) lp st h = h
  how_grows p how (then_back u frame homes lp1 k) lp st h = finish_grows u (returned how) lp1 k _ h
  how_grows p how (then_for lp1 k) lp st h = on_how_grows _ lp1 k (for_how_grows how (at_home st) h)
  how_grows p how (then_resume frame lp1 k) lp st h = on_how_grows _ lp1 k (yielded_grows (record { frame = frame; homes = []; world = st.world }) how st h)
  how_grows p how (then_unary op k) lp st h = h
  how_grows p how (then_right op b k) lp st h = h
  how_grows p how (then_binary op x k) lp st h = h
  how_grows p how (then_and b k) lp st h = h
  how_grows p how (then_or b k) lp st h = h
  how_grows p how (then_args s args purpose k) lp st h = h
  how_grows p how (then_more vs es goal k) lp st h = h
  how_grows p how (then_sink s k) lp st h = h
  how_grows p how (then_index i e k) lp st h = h
  how_grows p how (then_value a e k) lp st h = h
  how_grows p how (then_if b r k) lp st h = h
  how_grows p how (then_while e b k) lp st h = h
  how_grows p how (then_yield k) lp st h = h

  raise_grows : (p : Program) (x : List ℕ) (v : Option Value) (k : Rest) (lp : Loop) (st : State) → Prefix t st.world.trace → Grows (raise_at p x v k lp st)
  raise_grows p x v at_end lp st h = h
  raise_grows p x v (then_unary op k) lp st h = h
  raise_grows p x v (then_right op b k) lp st h = h
  raise_grows p x v (then_binary op y k) lp st h = h
  raise_grows p x v (then_and b k) lp st h = h
  raise_grows p x v (then_or b k) lp st h = h
  raise_grows p x v (then_args s args purpose k) lp st h = h
  raise_grows p x v (then_more vs es goal k) lp st h = h
  raise_grows p x v (then_sink s k) lp st h = h
  raise_grows p x v (then_index i e k) lp st h = h
  raise_grows p x v (then_value a e k) lp st h = h
  raise_grows p x v (then_if b r k) lp st h = h
  raise_grows p x v (then_while e b k) lp st h = h
  raise_grows p x v (then_yield k) lp st h = h
  raise_grows p x v (then_again e b k) lp st h = h
  raise_grows p x v (then_stmts rest k) lp st h = h
  raise_grows p x v (then_caught ws k) lp st h = h
  raise_grows p x v (then_close weight k) lp st h = h
  raise_grows p x v (then_back u frame homes lp1 k) lp st h = h
  raise_grows p x v (then_for lp1 k) lp st h = h
  raise_grows p x v (then_resume frame lp1 k) lp st h = h

  step_at_grows : (p : Program) (now : Now) (lp : Loop) (k : Rest) (st : State) → Prefix t st.world.trace → Grows (step_at p now lp k st)
  step_at_grows p (now_eval e) lp k st h = eval_grows p e lp k st h
  step_at_grows p (now_args vs es goal) lp k st h = args_grows p vs es goal lp k st h
  step_at_grows p (now_exec s) lp k st h = exec_grows p s lp k st h
  step_at_grows p (now_body b) lp k st h = body_grows p b lp k st h
  step_at_grows p (now_else r) lp k st h = else_grows p r lp k st h
  step_at_grows p (now_handle ws x v) lp k st h = handle_grows p ws x v lp k st h
  step_at_grows p (now_value v) lp k st h = value_grows p v k lp st h
  step_at_grows p (now_how how) lp k st h = how_grows p how k lp st h
  step_at_grows p (now_raise x v) lp k st h = raise_grows p x v k lp st h

-- a step keeps what was seen
pub step_grows : (p : Program) (m : Machine) → Prefix (trace_at m) (trace_at (step p m))
step_grows p (At now lp k st) = step_at_grows st.world.trace p now lp k st (same st.world.trace)
step_grows p (Stopped o) = same (trace_at (Stopped o))
