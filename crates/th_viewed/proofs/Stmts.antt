-- Flat follows the evaluation on words: statements.
use Rattle.std.proofs.Common.{◌≡◌, ℕ, zero, suc, ◌+◌, ◌<◌, ◌≤◌, Bool, true, false, not, List, [], ◌∷◌, ◌++◌, length, Option, Some, None, refl, sym, ap, ◌∙◌, subst, arith, length-append}
use Rattle.std.specs.Prelude.{slice_get, nat_lt, bytes_eq, if◌then◌else◌, ◌&&◌}
use Rattle.std.proofs.lemmas.Bool.{lt-ltb, le-leb, ne_eqb}
use Rattle.th_meaning.specs.Trees.{Variable, CastTree, ExprTree, CallTree, routine_call, method_call, hidden_call, super_call, where_call, init_call, StmtTree, var_stmt, set_local_stmt, set_field_stmt, set_element_stmt, call_stmt, drop_stmt, if_stmt, while_stmt, for_stmt, break_stmt, return_stmt, return_value_stmt, yield_stmt, raise_stmt, raise_value_stmt, begin_stmt, put_byte_stmt, put_int_stmt, put_text_stmt, BodyTree, no_stmt, more_stmts, ElseTree, no_else, else_do, elseif_then, WhenTrees, no_when, more_whens}
use Rattle.th_meaning.specs.Counts.{variable_nodes}
use Rattle.th_meaning.specs.World.{yield_weight}
use Rattle.th_flat.specs.declared.op.FlatOp.{FlatOp}
use Rattle.th_flat.specs.declared.op.FlatOp.TheVariants.{OpSet, OpSetat, OpDrop, OpGo, OpUnless, OpRaise, OpReturn, OpTurn, OpPutbyte, OpPutint, OpPuttext, OpBlock, OpHandle, OpOver, OpNext, OpResume}
use Rattle.th_flat.specs.declared.module.FlatUnit.{FlatUnit}
use Rattle.th_flat.specs.Values.{FlatValue, FlatWorld, Status, Fine, Thrown}
use Rattle.th_flat.specs.Deeds.{Deed, Act, Failing, free, takes_turns, takes_room, end_exception, handle_deed}
use Rattle.th_flat.specs.Configs.{NoLoop, Upto, Here, Stack, Paused, Config, Run, Visiting, stuck, is_body, is_iterator, is_call, is_next, cover_upto, inside, paid, finish, op_deed, paid, finish, op_deed, go_to, fail_at, fail_to, way_of, failure_of, open_at, visit}
use Rattle.th_lowering.specs.Sizes.{dropped, expr_size, operands_size, else_jump, stmt_size, body_size, else_size, whens_size, may_cast_size}
use Rattle.th_lowering.specs.Site.{Site, word_of, may_cast_code}
use Rattle.th_lowering.specs.Code.{call_op, drop_code, next_handler, expr_code, operands_code, bind_code, stmt_code, body_code, else_code, whens_code}
use Rattle.th_lower_law.proofs.Lengths.{expr_length, operands_length, may_cast_length, bind_length, stmt_length, body_length, else_length, whens_length}
use Rattle.th_lower_law.proofs.Onward.{stands_rest}
use Rattle.th_lower_law.proofs.Onward.{stands_rest}
use Rattle.th_viewed.specs.Sources.{WordProgram, AreLoweredFrom, flat_of}
use Rattle.th_viewed.specs.Evaluation.{State, Outcome, Gives, Throws, Halted, Leave, How, Done, Exit, Return, Cut, then_do, with_world, pay, given, store, set_field_of, set_element_of, return_of, put_byte_of, put_int_of, put_text_of, Body, Units, Target, call, aim, view_of, kept_words, one_dropped, none_left, statement_words, looped, visiting, may_cast, for_ends, at_home, yielded, yields, if_done, again_of, while_of, loops, if_of, catch, bind_argument, eval, operands, exec, exec_body, exec_else, handle}
use Rattle.th_viewed.proofs.Follow.{Comes, here, one, first, comes_on, Goes, goes_after, goes_then, goes_with, goes_paid}
use Rattle.th_viewed.proofs.Acts.{push_all, run, bad, goes_op, at_end, go_within, fails_to}
use Rattle.th_viewed.proofs.Ops.{store_goes, set_field_goes, setat_goes, put_byte_goes, put_int_goes, put_text_goes, drop_goes, return_goes, raise_goes, turn_goes, jump_goes, unless_goes}
use Rattle.th_viewed.proofs.Places.{Placed, placed_front, placed_back, placed_here, placed_rest, placed_at, covered, labelled, cover_step, one_passes, expr_passes, operands_pass, call_passes, may_cast_passes, bind_passes, stmt_passes, body_passes, block_passes}
use Rattle.th_viewed.proofs.Calls.{Below, words_in, flag_of, enters, Backs, call_goes, aim_goes, aim_backs}
use Rattle.th_viewed.proofs.Exprs.{flag_one, operands_count, eval_runs, operands_run, cast_runs}
use Rattle.th_viewed.proofs.Ways.{good, Yields, UnitsRun, calls_run, below_it, up_it, for_back, yield_back}

flag_none : (c : CallTree) → flag_of c 0 ≡ kept_words c
flag_none (routine_call f ts ss es) = refl
flag_none (method_call t m e es) = refl
flag_none (hidden_call c m es) = refl
flag_none (super_call c m es) = refl
flag_none (where_call k m e es) = refl
flag_none (init_call c ts ss es) = refl

some_same : (a b : ℕ) → Some a ≡ Some b → a ≡ b
some_same a b e = cc

module _ (w : WordProgram) (lowered : AreLoweredFrom w) (units : Units) (runs : UnitsRun w.flat units) (m : ℕ) (u : FlatUnit) (s : Site) (size : length u.ops ≡ s.count) (plain : is_body u ≡ false) (below : Below) (up : Leave → State → Config) (body : Body) (yielding : Yields w.flat body below up) where
  -- a statement leads where its outcome says
  abbrev pub L : Stack → ℕ → ℕ → Option ℕ → Config → Outcome How → Type 0
  L held x pc1 h c r = Goes w.flat c r (good u held below up x pc1) (bad w.flat u held below h)

  abbrev pub at_op : Stack → ℕ → State → Config
  at_op held pc st = run w.flat u held below pc [] st

  abbrev pub StmtRuns : StmtTree → Type 0
  StmtRuns t = (b pc1 x hi : ℕ) (h : Option ℕ) (held : Stack) (st : State) → b + stmt_size t ≡ pc1 → Placed u.ops held h hi b (stmt_code s t b x) → L held x pc1 h (at_op held b st) (exec w units u s m t b body st)

  abbrev pub BodyRuns : BodyTree → Type 0
  BodyRuns t = (b pc1 x hi : ℕ) (h : Option ℕ) (held : Stack) (st : State) → b + body_size t ≡ pc1 → Placed u.ops held h hi b (body_code s t b x) → L held x pc1 h (at_op held b st) (exec_body w units u s m t b body st)

  -- from behind the jump past what follows
  abbrev pub ElseRuns : ElseTree → Type 0
  ElseRuns r = (b pc1 x hi : ℕ) (h : Option ℕ) (held : Stack) (st : State) → b + else_size r ≡ pc1 → Placed u.ops held h hi b (else_code s r b x) → L held x pc1 h (at_op held (b + else_jump r) st) (exec_else w units u s m r b body st)

  -- where an exception comes to handlers: behind the jump past them; where there is none, to those around
  abbrev pub handling : Stack → Option ℕ → WhenTrees → ℕ → List ℕ → Option FlatValue → State → Config
  handling held h no_when b y v st = bad w.flat u held below h y v st
  handling held h (more_whens z x t ws) b y v st = Run u (b + 1) NoLoop (record { stack = []; locals = st.locals; status = Thrown y v }) held (below st.homes) st.world

  abbrev pub WhensRun : WhenTrees → Type 0
  WhensRun ws = (b pc1 x hi : ℕ) (h : Option ℕ) (held : Stack) (y : List ℕ) (v : Option FlatValue) (st : State) → b + whens_size ws ≡ pc1 → Placed u.ops held h hi b (whens_code s ws b x)
      → L held x pc1 h (handling held h ws b y v st) (handle w units u s m ws b y v body st)

  -- an expression at the head of a statement
  head : {B : Type 0} (e : ExprTree) (tail : List FlatOp) (f : FlatValue → State → Outcome B) (good1 : B → State → Config) (b hi : ℕ) (h : Option ℕ) (held : Stack) (stack : List FlatValue) (st : State) → Placed u.ops held h hi b (expr_code s e b ++ tail)
      → ((v : FlatValue) (st1 : State) → Goes w.flat (run w.flat u held below (b + expr_size e) (v ∷ stack) st1) (f v st1) good1 (bad w.flat u held below h))
      → Goes w.flat (run w.flat u held below b stack st) (then_do (eval w units u s e b st) f) good1 (bad w.flat u held below h)
  head e tail f good1 b hi h held stack st k g =
      goes_then w.flat (run w.flat u held below b stack st) (eval w units u s e b st) f (λ v st1. run w.flat u held below (b + expr_size e) (v ∷ stack) st1) good1 (bad w.flat u held below h)
      (eval_runs w lowered units (calls_run w units runs) u s size plain held below h hi e b (b + expr_size e) stack st refl (placed_front u.ops held h hi b (expr_code s e b) tail k)) g

  after_head : (e : ExprTree) (tail : List FlatOp) (b hi : ℕ) (h : Option ℕ) (held : Stack) → Placed u.ops held h hi b (expr_code s e b ++ tail) → Placed u.ops held h hi (b + expr_size e) tail
  after_head e tail b hi h held k = placed_back u.ops held h hi b (b + expr_size e) (expr_size e) (expr_code s e b) tail (expr_length s e b) refl (λ p l. expr_passes s e b p) k

  after_body : (t : BodyTree) (tail : List FlatOp) (b x hi : ℕ) (h : Option ℕ) (held : Stack) → Placed u.ops held h hi b (body_code s t b x ++ tail) → Placed u.ops held h hi (b + body_size t) tail
  after_body t tail b x hi h held k = placed_back u.ops held h hi b (b + body_size t) (body_size t) (body_code s t b x) tail (body_length s t b x) refl (λ p l. body_passes s t b x p l) k

  end_in : (b n hi : ℕ) (h : Option ℕ) (held : Stack) (xs : List FlatOp) → length xs ≡ n → Placed u.ops held h hi b xs → b + n ≤ hi
  end_in b n hi h held xs e k = let f : b + length xs ≤ hi = k.fits in omega (arith, e, f)

  -- a way to a label within, with nothing on the stack
  way_in : (b l hi : ℕ) (h : Option ℕ) (held : Stack) (xs : List FlatOp) (st : State) (z : Status) → Placed u.ops held h hi b xs → b ≤ l → l ≤ hi
      → go_to l u (record { stack = []; locals = st.locals; status = z }) held (below st.homes) st.world ≡ Run u l NoLoop (record { stack = []; locals = st.locals; status = z }) held (below st.homes) st.world
  way_in b l hi h held xs st z k lo le = go_within w.flat u held below l (record { stack = []; locals = st.locals; status = z }) (below st.homes) st.world plain (labelled u.ops held h hi b l xs le k) (k.inside l lo le)

  jump_in : (b pc l hi : ℕ) (h : Option ℕ) (held : Stack) (xs : List FlatOp) (st : State) → Placed u.ops held h hi b xs → b ≤ l → l ≤ hi → slice_get u.ops pc ≡ Some (OpGo l) → Comes w.flat (at_op held pc st) (at_op held l st)
  jump_in b pc l hi h held xs st k lo le at =
      jump_goes w units u s.count size held below h pc l [] st (Gives (tt {0}) st) (λ t st1. at_op held l st1) plain (labelled u.ops held h hi b l xs le k) (k.inside l lo le) at (here w.flat (at_op held l st))

  -- what follows where a statement is done
  goes_done : (held : Stack) (x mid pc1 : ℕ) (h : Option ℕ) (c : Config) (r : Outcome How) → L held x mid h c r → ((st : State) → Comes w.flat (at_op held mid st) (at_op held pc1 st)) → L held x pc1 h c r
  goes_done held x mid pc1 h c (Gives Done st) g k = comes_on w.flat c (at_op held mid st) (at_op held pc1 st) g (k st)
  goes_done held x mid pc1 h c (Gives Exit st) g k = g
  goes_done held x mid pc1 h c (Gives (Return v) st) g k = g
  goes_done held x mid pc1 h c (Gives (Cut l) st) g k = g
  goes_done held x mid pc1 h c (Throws y v st) g k = g
  goes_done held x mid pc1 h c (Halted y wd) g k = g

  -- one statement after another
  goes_next : (held : Stack) (x mid pc1 : ℕ) (h : Option ℕ) (c : Config) (r : Outcome How) (f : State → Outcome How) → L held x mid h c r → ((st : State) → L held x pc1 h (at_op held mid st) (f st)) → L held x pc1 h c (then_do r (λ how st1. if_done how st1 (f st1)))
  goes_next held x mid pc1 h c (Gives Done st) f g k = goes_after w.flat c (at_op held mid st) (f st) (good u held below up x pc1) (bad w.flat u held below h) g (k st)
  goes_next held x mid pc1 h c (Gives Exit st) f g k = g
  goes_next held x mid pc1 h c (Gives (Return v) st) f g k = g
  goes_next held x mid pc1 h c (Gives (Cut l) st) f g k = g
  goes_next held x mid pc1 h c (Throws y v st) f g k = g
  goes_next held x mid pc1 h c (Halted y wd) f g k = g

  store_case : (k : ℕ) (e : ExprTree) (b pc1 x hi : ℕ) (h : Option ℕ) (held : Stack) (st : State) → b + (expr_size e + 1) ≡ pc1 → Placed u.ops held h hi b (expr_code s e b ++ OpSet k ∷ [])
      → L held x pc1 h (at_op held b st) (then_do (eval w units u s e b st) (λ v st1. store k v st1 (Gives Done)))
  store_case k e b pc1 x hi h held st q p =
      let z = b + expr_size e in
      let p1 = after_head e (OpSet k ∷ []) b hi h held p in
      head e (OpSet k ∷ []) (λ v st1. store k v st1 (Gives Done)) (good u held below up x pc1) b hi h held [] st p
      (λ v st1. store_goes w units u s.count size held below h k v z [] st1 (Gives Done) (good u held below up x pc1) (placed_here u.ops held h hi z _ _ p1) (λ st2. at_end w.flat u held below (z + 1) pc1 [] st2 (omega (arith, q))))

  set_field_case : (c : List ℕ) (f : ℕ) (e : ExprTree) → StmtRuns (set_field_stmt c f e)
  set_field_case c f e b pc1 x hi h held st q p =
      let z = b + expr_size e in
      let p1 = after_head e _ b hi h held p in
      head e _ (λ v st1. set_field_of w u c (s.clauses + f) v st1 (Gives Done)) (good u held below up x pc1) b hi h held [] st p
      (λ v st1. set_field_goes w units u s.count size held below h c (s.clauses + f) v z [] st1 (Gives Done) (good u held below up x pc1) (placed_here u.ops held h hi z _ _ p1) (λ st2. at_end w.flat u held below (z + 1) pc1 [] st2 (omega (arith, q))))

  set_element_case : (a i e : ExprTree) → StmtRuns (set_element_stmt a i e)
  set_element_case a i e b pc1 x hi h held st q p =
      let za = b + expr_size a in
      let zi = za + expr_size i in
      let ze = zi + expr_size e in
      let p1 = after_head a (expr_code s i za ++ (expr_code s e zi ++ OpSetat s.count ∷ [])) b hi h held p in
      let p2 = after_head i (expr_code s e zi ++ OpSetat s.count ∷ []) za hi h held p1 in
      let p3 = after_head e (OpSetat s.count ∷ []) zi hi h held p2 in
      head a (expr_code s i za ++ (expr_code s e zi ++ OpSetat s.count ∷ [])) (λ y st1. then_do (eval w units u s i za st1) (λ j st2. then_do (eval w units u s e zi st2) (set_element_of y j))) (good u held below up x pc1) b hi h held [] st p
      (λ y st1. head i (expr_code s e zi ++ OpSetat s.count ∷ []) (λ j st2. then_do (eval w units u s e zi st2) (set_element_of y j)) (good u held below up x pc1) za hi h held (y ∷ []) st1 p1
      (λ j st2. head e (OpSetat s.count ∷ []) (set_element_of y j) (good u held below up x pc1) zi hi h held (j ∷ y ∷ []) st2 p2
      (λ v st3. setat_goes w units u s.count size held below h y j v ze pc1 [] st3 (good u held below up x pc1) (placed_here u.ops held h hi ze _ _ p3) (covered u.ops held h hi ze _ _ p3) (λ st4. at_end w.flat u held below (ze + 1) pc1 [] st4 (omega (arith, q))))))

  -- the operands of a call, and then the call with its loop
  aimed : {B : Type 0} (c : CallTree) (tail : List FlatOp) (f : List FlatValue → State → Outcome B) (good1 : B → State → Config) (b hi : ℕ) (h : Option ℕ) (held : Stack) (st : State) → Placed u.ops held h hi b (operands_code s c b ++ tail)
      → ((vs : List FlatValue) (st1 : State) → length vs ≡ words_in c → Goes w.flat (run w.flat u held below (b + operands_size c) (push_all vs []) st1) (f vs st1) good1 (bad w.flat u held below h))
      → Goes w.flat (at_op held b st) (then_do (operands w units u s c b st) f) good1 (bad w.flat u held below h)
  aimed c tail f good1 b hi h held st k g =
      goes_with w.flat (λ vs. length vs ≡ words_in c) (at_op held b st) (operands w units u s c b st) f (λ vs st1. run w.flat u held below (b + operands_size c) (push_all vs []) st1) good1 (bad w.flat u held below h)
      (operands_count w units u s c b st)
      (operands_run w lowered units (calls_run w units runs) u s size plain held below h hi c b (b + operands_size c) [] st refl (placed_front u.ops held h hi b (operands_code s c b) tail k)) g

  after_operands : (c : CallTree) (tail : List FlatOp) (b hi : ℕ) (h : Option ℕ) (held : Stack) → Placed u.ops held h hi b (operands_code s c b ++ tail) → Placed u.ops held h hi (b + operands_size c) tail
  after_operands c tail b hi h held k = placed_back u.ops held h hi b (b + operands_size c) (operands_size c) (operands_code s c b) tail (operands_length s c b) refl (λ p l. operands_pass s c b p) k

  -- a word that is dropped
  one_dropped_goes : (x z pc1 : ℕ) (h : Option ℕ) (held : Stack) (vs : List FlatValue) (st : State) → z + 1 ≡ pc1 → slice_get u.ops z ≡ Some OpDrop → L held x pc1 h (run w.flat u held below z (vs ++ []) st) (one_dropped vs st)
  one_dropped_goes x z pc1 h held [] st e at = tt
  one_dropped_goes x z pc1 h held (v ∷ []) st e at = drop_goes w units u s.count size held below h v z [] st (Gives Done st) (good u held below up x pc1) at (at_end w.flat u held below (z + 1) pc1 [] st e)
  one_dropped_goes x z pc1 h held (v ∷ y ∷ vs) st e at = tt

  none_left_goes : (x z pc1 : ℕ) (h : Option ℕ) (held : Stack) (vs : List FlatValue) (st : State) → z ≡ pc1 → L held x pc1 h (run w.flat u held below z (vs ++ []) st) (none_left vs st)
  none_left_goes x z pc1 h held [] st e = at_end w.flat u held below z pc1 [] st e
  none_left_goes x z pc1 h held (v ∷ vs) st e = tt

  statement_goes : (c : CallTree) (x z pc1 hi : ℕ) (h : Option ℕ) (held : Stack) (vs : List FlatValue) (st : State) → z + dropped c ≡ pc1 → Placed u.ops held h hi z (drop_code c) → L held x pc1 h (run w.flat u held below z (vs ++ []) st) (statement_words c vs st)
  statement_goes (routine_call f ts ss es) x z pc1 hi h held vs st e k = none_left_goes x z pc1 h held vs st (omega (arith, e))
  statement_goes (method_call t m es e) x z pc1 hi h held vs st e1 k = none_left_goes x z pc1 h held vs st (omega (arith, e1))
  statement_goes (hidden_call c m es) x z pc1 hi h held vs st e k = none_left_goes x z pc1 h held vs st (omega (arith, e))
  statement_goes (super_call c m es) x z pc1 hi h held vs st e k = none_left_goes x z pc1 h held vs st (omega (arith, e))
  statement_goes (where_call j m es e) x z pc1 hi h held vs st e1 k = none_left_goes x z pc1 h held vs st (omega (arith, e1))
  statement_goes (init_call c ts ss es) x z pc1 hi h held vs st e k = one_dropped_goes x z pc1 h held vs st e (placed_here u.ops held h hi z _ _ k)

  -- a call as a statement, whose words are f
  call_words : (c : CallTree) (f g : ℕ) (tail : List FlatOp) (last : List FlatValue → State → Outcome How) (b pc1 x hi : ℕ) (h : Option ℕ) (held : Stack) (st : State) → flag_of c f ≡ g
      → Placed u.ops held h hi b (operands_code s c b ++ call_op s c f ∷ tail)
      → (Placed u.ops held h hi (b + operands_size c + 1) tail → (vs : List FlatValue) (st1 : State) → L held x pc1 h (run w.flat u held below (b + operands_size c + 1) (vs ++ []) st1) (last vs st1))
      → L held x pc1 h (at_op held b st) (then_do (operands w units u s c b st) (λ vs st1. then_do (aim w u s c vs st1) (λ t st2. then_do (call w units (view_of w u s c) g t st2) last)))
  call_words c f g tail last b pc1 x hi h held st flag p k =
      let q = b + operands_size c in
      let p1 = after_operands c (call_op s c f ∷ tail) b hi h held p in
      let at = placed_here u.ops held h hi q (call_op s c f) tail p1 in
      let backs = subst (λ j. Backs w.flat u s.count held (view_of w u s c) j q) flag (aim_backs w lowered units u s size held below h c f q at) in
      let p2 = placed_rest u.ops held h hi q (call_op s c f) tail (λ z acc. call_passes s c f z acc) p1 in
      aimed c (call_op s c f ∷ tail) (λ vs st1. then_do (aim w u s c vs st1) (λ t st2. then_do (call w units (view_of w u s c) g t st2) last)) (good u held below up x pc1) b hi h held st p
      (λ vs st1 len. goes_then w.flat (run w.flat u held below q (push_all vs []) st1) (aim w u s c vs st1) (λ t st2. then_do (call w units (view_of w u s c) g t st2) last) (enters u held below NoLoop q []) (good u held below up x pc1) (bad w.flat u held below h)
      (aim_goes w lowered units u s size held below h c f vs NoLoop q [] st1 len at)
      (λ t st2. goes_then w.flat (enters u held below NoLoop q [] t st2) (call w units (view_of w u s c) g t st2) last (λ xs st3. run w.flat u held below (q + 1) (xs ++ []) st3) (good u held below up x pc1) (bad w.flat u held below h)
      (call_goes w lowered units u s.count size held below h (calls_run w units runs) (view_of w u s c) g q (q + 1) [] t st2 refl backs (covered u.ops held h hi q (call_op s c f) tail p1))
      (λ xs st3. k p2 xs st3)))

  call_case : (c : CallTree) → StmtRuns (call_stmt c)
  call_case c b pc1 x hi h held st q p =
      call_words c 0 (kept_words c) (drop_code c) (statement_words c) b pc1 x hi h held st (flag_none c) p
      (λ p2 vs st1. statement_goes c x (b + operands_size c + 1) pc1 hi h held vs st1 (omega (arith, q)) p2)

  drop_case : (c : CallTree) → StmtRuns (drop_stmt c)
  drop_case c b pc1 x hi h held st q p =
      call_words c 1 1 (OpDrop ∷ []) one_dropped b pc1 x hi h held st (flag_one c) p
      (λ p2 vs st1. one_dropped_goes x (b + operands_size c + 1) pc1 h held vs st1 (omega (arith, q)) (placed_here u.ops held h hi (b + operands_size c + 1) OpDrop [] p2))

  -- past what follows the statements after a `then`
  past_else : (r : ElseTree) (b0 b pc1 x hi : ℕ) (h : Option ℕ) (held : Stack) (xs : List FlatOp) (st : State) → b + else_size r ≡ pc1 → Placed u.ops held h hi b0 xs → b0 ≤ pc1 → pc1 ≤ hi → Placed u.ops held h hi b (else_code s r b x) → Comes w.flat (at_op held b st) (at_op held pc1 st)
  past_else no_else b0 b pc1 x hi h held xs st e k lo le p = at_end w.flat u held below b pc1 [] st (omega (arith, e))
  past_else (else_do t) b0 b pc1 x hi h held xs st e k lo le p = jump_in b0 b pc1 hi h held xs st k lo le (placed_here u.ops held h hi b _ _ p ∙ ap (λ l. Some (OpGo l)) e)
  past_else (elseif_then e1 t r) b0 b pc1 x hi h held xs st e k lo le p = jump_in b0 b pc1 hi h held xs st k lo le (placed_here u.ops held h hi b _ _ p ∙ ap (λ l. Some (OpGo l)) e)

  -- a test, the statements after `then`, and what follows them; from the place b of the test
  tested : (e : ExprTree) (t : BodyTree) (r : ElseTree) → BodyRuns t → ElseRuns r → (b pc1 x hi : ℕ) (h : Option ℕ) (held : Stack) (st : State) → b + expr_size e + 1 + body_size t + else_size r ≡ pc1
      → Placed u.ops held h hi b (expr_code s e b ++ OpUnless (b + expr_size e + 1 + body_size t + else_jump r) ∷ (body_code s t (b + expr_size e + 1) x ++ else_code s r (b + expr_size e + 1 + body_size t) x))
      → L held x pc1 h (at_op held b st) (then_do (eval w units u s e b st) (if_of (exec_body w units u s m t (b + expr_size e + 1) body) (exec_else w units u s m r (b + expr_size e + 1 + body_size t) body)))
  tested e t r rt rr b pc1 x hi h held st q p =
      let z = b + expr_size e in
      let y = z + 1 + body_size t in
      let l = y + else_jump r in
      let tail = body_code s t (z + 1) x ++ else_code s r y x in
      let p1 = after_head e (OpUnless l ∷ tail) b hi h held p in
      let p2 = placed_rest u.ops held h hi z (OpUnless l) tail (λ k acc. refl) p1 in
      let p3 = after_body t (else_code s r y x) (z + 1) x hi h held p2 in
      let le : y + else_size r ≤ hi = end_in y (else_size r) hi h held (else_code s r y x) (else_length s r y x) p3 in
      let jump : else_jump r ≤ else_size r = jump_fits r in
      let end : pc1 ≤ hi = omega (arith, le, q) in
      head e (OpUnless l ∷ tail) (if_of (exec_body w units u s m t (z + 1) body) (exec_else w units u s m r y body)) (good u held below up x pc1) b hi h held [] st p
      (λ v st1. unless_goes w units u s.count size held below h z l v [] st1 (exec_else w units u s m r y body st1) (exec_body w units u s m t (z + 1) body st1) (good u held below up x pc1) plain
      (labelled u.ops held h hi z l (OpUnless l ∷ tail) (omega (arith, le, jump)) p1) (p1.inside l (omega arith) (omega (arith, le, jump))) (placed_here u.ops held h hi z (OpUnless l) tail p1)
      (rr y pc1 x hi h held st1 q p3)
      (goes_done held x y pc1 h (at_op held (z + 1) st1) (exec_body w units u s m t (z + 1) body st1) (rt (z + 1) y x hi h held st1 refl (placed_front u.ops held h hi (z + 1) (body_code s t (z + 1) x) (else_code s r y x) p2))
      (λ st2. past_else r z y pc1 x hi h held (OpUnless l ∷ tail) st2 q p1 (omega (arith, q)) end p3)))
    where
      jump_fits : (a : ElseTree) → else_jump a ≤ else_size a
      jump_fits no_else = omega arith
      jump_fits (else_do a) = omega arith
      jump_fits (elseif_then a c d) = omega arith

  if_case : (e : ExprTree) (t : BodyTree) (r : ElseTree) → BodyRuns t → ElseRuns r → StmtRuns (if_stmt e t r)
  if_case e t r rt rr b pc1 x hi h held st q p = tested e t r rt rr b pc1 x hi h held st (omega (arith, q)) p

  else_case : (t : BodyTree) → BodyRuns t → ElseRuns (else_do t)
  else_case t rt b pc1 x hi h held st q p = rt (b + 1) pc1 x hi h held st (omega (arith, q)) (placed_rest u.ops held h hi b _ _ (λ k acc. refl) p)

  elseif_case : (e : ExprTree) (t : BodyTree) (r : ElseTree) → BodyRuns t → ElseRuns r → ElseRuns (elseif_then e t r)
  elseif_case e t r rt rr b pc1 x hi h held st q p = tested e t r rt rr (b + 1) pc1 x hi h held st (omega (arith, q)) (placed_rest u.ops held h hi b _ _ (λ k acc. refl) p)

  no_else_case : ElseRuns no_else
  no_else_case b pc1 x hi h held st q p = at_end w.flat u held below (b + 0) pc1 [] st (omega (arith, q))

  -- a loop's body, which a `break` leaves to the loop's end
  goes_again : (x t pc1 b hi : ℕ) (h : Option ℕ) (held : Stack) (xs : List FlatOp) (c : Config) (r : Outcome How) (f : State → Outcome How) → Placed u.ops held h hi b xs → b ≤ pc1 → pc1 ≤ hi
      → L held pc1 t h c r → ((st : State) → L held x pc1 h (at_op held t st) (f st)) → L held x pc1 h c (then_do r (again_of f))
  goes_again x t pc1 b hi h held xs c (Gives Done st) f k lo le g n = goes_after w.flat c (at_op held t st) (f st) (good u held below up x pc1) (bad w.flat u held below h) g (n st)
  goes_again x t pc1 b hi h held xs c (Gives Exit st) f k lo le g n = subst (λ d. Comes w.flat c d) (way_in b pc1 hi h held xs st Fine k lo le) g
  goes_again x t pc1 b hi h held xs c (Gives (Return v) st) f k lo le g n = g
  goes_again x t pc1 b hi h held xs c (Gives (Cut l) st) f k lo le g n = g
  goes_again x t pc1 b hi h held xs c (Throws y v st) f k lo le g n = g
  goes_again x t pc1 b hi h held xs c (Halted y wd) f k lo le g n = g

  -- a `while` from its test on: the test at t, its jump at t1, and the turn at y
  while_runs : (x b t t1 y pc1 hi : ℕ) (h : Option ℕ) (held : Stack) (xs : List FlatOp) (test : State → Outcome FlatValue) (run1 : State → Outcome How) → Placed u.ops held h hi b xs → b ≤ pc1 → pc1 ≤ hi → b ≤ y → y ≤ hi
      → slice_get u.ops t1 ≡ Some (OpUnless pc1) → slice_get u.ops (t1 + 1) ≡ Some (OpGo y) → slice_get u.ops y ≡ Some OpTurn
      → ((st : State) → Goes w.flat (at_op held t st) (test st) (λ v st1. run w.flat u held below t1 (v ∷ []) st1) (bad w.flat u held below h))
      → ((st : State) → L held pc1 t h (at_op held (y + 1) st) (run1 st))
      → (k : ℕ) (st : State) → L held x pc1 h (at_op held t st) (loops k test run1 st)
  while_runs x b t t1 y pc1 hi h held xs test run1 p lo le lo1 le1 at1 at2 at3 rt rb zero st = tt
  while_runs x b t t1 y pc1 hi h held xs test run1 p lo le lo1 le1 at1 at2 at3 rt rb (suc k) st =
      let again : State → Outcome How = loops k test run1 in
      goes_then w.flat (at_op held t st) (test st) (while_of run1 again) (λ v st1. run w.flat u held below t1 (v ∷ []) st1) (good u held below up x pc1) (bad w.flat u held below h) (rt st)
      (λ v st1. unless_goes w units u s.count size held below h t1 pc1 v [] st1 (Gives Done st1) (pay (takes_turns 1) st1 (λ st2. then_do (run1 st2) (again_of again))) (good u held below up x pc1) plain
      (labelled u.ops held h hi b pc1 xs le p) (p.inside pc1 lo le) at1 (here w.flat (at_op held pc1 st1))
      (goes_after w.flat (at_op held (t1 + 1) st1) (at_op held y st1) (pay (takes_turns 1) st1 (λ st2. then_do (run1 st2) (again_of again))) (good u held below up x pc1) (bad w.flat u held below h) (jump_in b (t1 + 1) y hi h held xs st1 p lo1 le1 at2)
      (turn_goes w units u s.count size held below h y [] st1 (λ st2. then_do (run1 st2) (again_of again)) (good u held below up x pc1) at3
      (λ st2. goes_again x t pc1 b hi h held xs (at_op held (y + 1) st2) (run1 st2) again p lo le (rb st2) (λ st3. while_runs x b t t1 y pc1 hi h held xs test run1 p lo le lo1 le1 at1 at2 at3 rt rb k st3)))))

  while_case : (e : ExprTree) (t : BodyTree) → BodyRuns t → StmtRuns (while_stmt e t)
  while_case e t rt b pc1 x hi h held st q p =
      let z = b + 2 + body_size t in
      let z1 = z + expr_size e in
      let last = z1 + 2 in
      let end : last ≡ pc1 = omega (arith, q) in
      let two : b + 1 + 1 ≡ b + 2 = omega arith in
      let tests = expr_code s e z ++ OpUnless last ∷ OpGo (b + 1) ∷ [] in
      let p1 = placed_rest u.ops held h hi b (OpGo z) (OpTurn ∷ (body_code s t (b + 2) last ++ tests)) (λ k acc. refl) p in
      let p2 = placed_at u.ops held h hi (b + 1 + 1) (b + 2) (body_code s t (b + 2) last ++ tests) two (placed_rest u.ops held h hi (b + 1) OpTurn (body_code s t (b + 2) last ++ tests) (λ k acc. refl) p1) in
      let p3 = after_body t tests (b + 2) last hi h held p2 in
      let p4 = after_head e (OpUnless last ∷ OpGo (b + 1) ∷ []) z hi h held p3 in
      let le : z1 + 2 ≤ hi = end_in z1 2 hi h held (OpUnless last ∷ OpGo (b + 1) ∷ []) refl p4 in
      goes_after w.flat (at_op held b st) (at_op held z st) (loops m (eval w units u s e z) (exec_body w units u s m t (b + 2) body) st) (good u held below up x pc1) (bad w.flat u held below h)
      (jump_in b b z hi h held _ st p (omega arith) (omega (arith, le)) (placed_here u.ops held h hi b _ _ p))
      (while_runs x b z z1 (b + 1) pc1 hi h held _ (eval w units u s e z) (exec_body w units u s m t (b + 2) body) p (omega (arith, q)) (omega (arith, le, end)) (omega arith) (omega (arith, le))
      (placed_here u.ops held h hi z1 _ _ p4 ∙ ap (λ l. Some (OpUnless l)) end) (placed_here u.ops held h hi (z1 + 1) (OpGo (b + 1)) [] (placed_rest u.ops held h hi z1 (OpUnless last) (OpGo (b + 1) ∷ []) (λ k acc. refl) p4)) (placed_here u.ops held h hi (b + 1) _ _ p1)
      (λ st1. eval_runs w lowered units (calls_run w units runs) u s size plain held below h hi e z z1 [] st1 refl (placed_front u.ops held h hi z (expr_code s e z) (OpUnless last ∷ OpGo (b + 1) ∷ []) p3))
      (λ st1. subst (λ k. L held pc1 z h (at_op held k st1) (exec_body w units u s m t (b + 2) body st1)) (sym two)
      (subst (λ l. L held l z h (at_op held (b + 2) st1) (exec_body w units u s m t (b + 2) body st1)) end
      (rt (b + 2) z last hi h held st1 refl (placed_front u.ops held h hi (b + 2) (body_code s t (b + 2) last) tests p2))))
      m st)

  return_value_case : (e : ExprTree) → StmtRuns (return_value_stmt e)
  return_value_case e b pc1 x hi h held st q p =
      let z = b + expr_size e in
      head e (OpReturn 1 ∷ []) (λ v st1. return_of w u (Some v) st1) (good u held below up x pc1) b hi h held [] st p
      (λ v st1. return_goes w units u s.count size held below h (Some v) z [] st1 (good u held below up x pc1) plain (placed_here u.ops held h hi z _ _ (after_head e (OpReturn 1 ∷ []) b hi h held p)) (here w.flat _))

  return_case : StmtRuns return_stmt
  return_case b pc1 x hi h held st q p = return_goes w units u s.count size held below h None b [] st (good u held below up x pc1) plain (placed_here u.ops held h hi b _ _ p) (here w.flat _)

  break_case : StmtRuns break_stmt
  break_case b pc1 x hi h held st q p = goes_op w.flat u held below b [] st (OpGo x) (Gives Exit st) (good u held below up x pc1) (bad w.flat u held below h) (placed_here u.ops held h hi b _ _ p) (here w.flat _)

  raise_case : (y : List ℕ) → StmtRuns (raise_stmt y)
  raise_case y b pc1 x hi h held st q p = raise_goes w units u s.count size held below h y None b [] st (good u held below up x pc1) (placed_here u.ops held h hi b _ _ p) (covered u.ops held h hi b _ _ p)

  raise_value_case : (y : List ℕ) (e : ExprTree) → StmtRuns (raise_value_stmt y e)
  raise_value_case y e b pc1 x hi h held st q p =
      let z = b + expr_size e in
      let p1 = after_head e (OpRaise y 1 s.count ∷ []) b hi h held p in
      head e (OpRaise y 1 s.count ∷ []) (λ v st1. Throws y (Some v) st1) (good u held below up x pc1) b hi h held [] st p
      (λ v st1. raise_goes w units u s.count size held below h y (Some v) z [] st1 (good u held below up x pc1) (placed_here u.ops held h hi z _ _ p1) (covered u.ops held h hi z _ _ p1))

  put_byte_case : (e : ExprTree) → StmtRuns (put_byte_stmt e)
  put_byte_case e b pc1 x hi h held st q p =
      let z = b + expr_size e in
      let p1 = after_head e (OpPutbyte s.count ∷ []) b hi h held p in
      head e (OpPutbyte s.count ∷ []) put_byte_of (good u held below up x pc1) b hi h held [] st p
      (λ v st1. put_byte_goes w units u s.count size held below h v z [] st1 (good u held below up x pc1) (placed_here u.ops held h hi z _ _ p1) (covered u.ops held h hi z _ _ p1) (λ st2. at_end w.flat u held below (z + 1) pc1 [] st2 (omega (arith, q))))

  put_int_case : (e : ExprTree) → StmtRuns (put_int_stmt e)
  put_int_case e b pc1 x hi h held st q p =
      let z = b + expr_size e in
      let p1 = after_head e (OpPutint ∷ []) b hi h held p in
      head e (OpPutint ∷ []) put_int_of (good u held below up x pc1) b hi h held [] st p
      (λ v st1. put_int_goes w units u s.count size held below h v z [] st1 (good u held below up x pc1) (placed_here u.ops held h hi z _ _ p1) (λ st2. at_end w.flat u held below (z + 1) pc1 [] st2 (omega (arith, q))))

  put_text_case : (e : ExprTree) → StmtRuns (put_text_stmt e)
  put_text_case e b pc1 x hi h held st q p =
      let z = b + expr_size e in
      let p1 = after_head e (OpPuttext ∷ []) b hi h held p in
      head e (OpPuttext ∷ []) put_text_of (good u held below up x pc1) b hi h held [] st p
      (λ v st1. put_text_goes w units u s.count size held below h v z [] st1 (good u held below up x pc1) (placed_here u.ops held h hi z _ _ p1) (λ st2. at_end w.flat u held below (z + 1) pc1 [] st2 (omega (arith, q))))

  yield_case : (e : ExprTree) → StmtRuns (yield_stmt e)
  yield_case e b pc1 x hi h held st q p =
      let z = b + expr_size e in
      let at = placed_here u.ops held h hi z OpResume [] (after_head e (OpResume ∷ []) b hi h held p) in
      let end : z + 1 ≡ pc1 = omega (arith, q) in
      head e (OpResume ∷ []) (yields body) (good u held below up x pc1) b hi h held [] st p
      (λ v st1. goes_op w.flat u held below z (v ∷ []) st1 OpResume (yields body v st1) (good u held below up x pc1) (bad w.flat u held below h) at
      (goes_paid w.flat (takes_turns 1) st1 _ (λ st2. yielded st2 (body v (at_home st2))) (good u held below up x pc1) (bad w.flat u held below h)
      (λ y. subst (λ k. Goes w.flat (visit (below st1.homes) v u z [] st1.locals held y) (yielded (with_world st1 y) (body v (at_home (with_world st1 y)))) (good u held below up x k) (bad w.flat u held below h)) end
      (yielding.by u z x h held v (with_world st1 y) at))))

  list_case : (t : StmtTree) (rest : BodyTree) → StmtRuns t → BodyRuns rest → BodyRuns (more_stmts t rest)
  list_case t rest rt rr b pc1 x hi h held st q p =
      let mid = b + stmt_size t in
      let p1 = placed_back u.ops held h hi b mid (stmt_size t) (stmt_code s t b x) (body_code s rest mid x) (stmt_length s t b x) refl (λ k l. stmt_passes s t b x k l) p in
      goes_next held x mid pc1 h (at_op held b st) (exec w units u s m t b body st) (λ st1. exec_body w units u s m rest mid body st1)
      (rt b mid x hi h held st refl (placed_front u.ops held h hi b (stmt_code s t b x) (body_code s rest mid x) p))
      (λ st1. rr mid pc1 x hi h held st1 (omega (arith, q)) p1)

  -- past handlers
  past_whens : (ws : WhenTrees) (b0 b pc1 x hi : ℕ) (h : Option ℕ) (held : Stack) (xs : List FlatOp) (st : State) → b + whens_size ws ≡ pc1 → Placed u.ops held h hi b0 xs → b0 ≤ pc1 → pc1 ≤ hi → Placed u.ops held h hi b (whens_code s ws b x) → Comes w.flat (at_op held b st) (at_op held pc1 st)
  past_whens no_when b0 b pc1 x hi h held xs st e k lo le p = at_end w.flat u held below b pc1 [] st (omega (arith, e))
  past_whens (more_whens y v t ws) b0 b pc1 x hi h held xs st e k lo le p = jump_in b0 b pc1 hi h held xs st k lo le (placed_here u.ops held h hi b _ _ p ∙ ap (λ l. Some (OpGo l)) e)

  -- a block's exceptions go to its handlers
  goes_catch : (held : Stack) (x pc1 mid k b hi : ℕ) (h : Option ℕ) (xs : List FlatOp) (c : Config) (r : Outcome How) (f : List ℕ → Option FlatValue → State → Outcome How) → Placed u.ops held h hi b xs → b ≤ k → k ≤ hi
      → L held x mid (Some k) c r → ((st : State) → Comes w.flat (at_op held mid st) (at_op held pc1 st))
      → ((y : List ℕ) (v : Option FlatValue) (st : State) → L held x pc1 h (Run u k NoLoop (record { stack = []; locals = st.locals; status = Thrown y v }) held (below st.homes) st.world) (f y v st))
      → L held x pc1 h c (catch r f)
  goes_catch held x pc1 mid k b hi h xs c (Gives Done st) f p lo le g n hs = comes_on w.flat c (at_op held mid st) (at_op held pc1 st) g (n st)
  goes_catch held x pc1 mid k b hi h xs c (Gives Exit st) f p lo le g n hs = g
  goes_catch held x pc1 mid k b hi h xs c (Gives (Return v) st) f p lo le g n hs = g
  goes_catch held x pc1 mid k b hi h xs c (Gives (Cut l) st) f p lo le g n hs = g
  goes_catch held x pc1 mid k b hi h xs c (Throws y v st) f p lo le g n hs =
      let d = Run u k NoLoop (record { stack = []; locals = st.locals; status = Thrown y v }) held (below st.homes) st.world in
      goes_after w.flat c d (f y v st) (good u held below up x pc1) (bad w.flat u held below h) (subst (λ z. Comes w.flat c z) (way_in b k hi h held xs st (Thrown y v) p lo le) g) (hs y v st)
  goes_catch held x pc1 mid k b hi h xs c (Halted y wd) f p lo le g n hs = g

  -- a block without handlers
  caught_none : (held : Stack) (x pc1 : ℕ) (h : Option ℕ) (c : Config) (r : Outcome How) → L held x pc1 h c r → L held x pc1 h c (catch r (λ y v st. Throws y v st))
  caught_none held x pc1 h c (Gives Done st) g = g
  caught_none held x pc1 h c (Gives Exit st) g = g
  caught_none held x pc1 h c (Gives (Return v) st) g = g
  caught_none held x pc1 h c (Gives (Cut l) st) g = g
  caught_none held x pc1 h c (Throws y v st) g = g
  caught_none held x pc1 h c (Halted y wd) g = g

  bare_case : (t : BodyTree) → BodyRuns t → StmtRuns (begin_stmt t no_when)
  bare_case t rt b pc1 x hi h held st q p =
      let nought : b + 0 ≡ b = omega arith in
      let end : b + 0 + body_size t ≡ pc1 = omega (arith, q) in
      caught_none held x pc1 h (at_op held b st) (exec_body w units u s m t (b + 0) body st)
      (goes_after w.flat (at_op held b st) (at_op held (b + 0) st) (exec_body w units u s m t (b + 0) body st) (good u held below up x pc1) (bad w.flat u held below h) (at_end w.flat u held below b (b + 0) [] st (sym nought))
      (rt (b + 0) pc1 x hi h held st end (placed_at u.ops held h hi b (b + 0) (body_code s t (b + 0) x) (sym nought) (placed_front u.ops held h hi b (body_code s t (b + 0) x) [] p))))

  -- the handlers of a `when` begin with a jump and a handler
  first_len : (y : List ℕ) (v : Option Variable) (t : BodyTree) (ws : WhenTrees) → 2 ≤ whens_size (more_whens y v t ws)
  first_len y v t ws = omega arith

  guarded_case : (t : BodyTree) (y : List ℕ) (v : Option Variable) (t1 : BodyTree) (ws1 : WhenTrees) → BodyRuns t → WhensRun (more_whens y v t1 ws1) → StmtRuns (begin_stmt t (more_whens y v t1 ws1))
  guarded_case t y v t1 ws1 rt rw b pc1 x hi h held st q p =
      let ws = more_whens y v t1 ws1 in
      let e = b + 1 + body_size t in
      let tail = body_code s t (b + 1) x ++ whens_code s ws e x in
      let block = OpBlock (e + 1) e in
      let there : slice_get u.ops b ≡ Some block = placed_here u.ops held h hi b block tail p in
      let len : length tail ≡ body_size t + whens_size ws = omega (arith, length-append (body_code s t (b + 1) x) (whens_code s ws e x), body_length s t (b + 1) x, whens_length s ws e x) in
      let whole : b + suc (length tail) ≤ hi = p.fits in
      let two : 2 ≤ whens_size ws = first_len y v t1 ws1 in
      let less : e + 2 ≤ hi = omega (arith, len, whole, two) in
      let bound : hi < length u.ops = p.bound in
      let p0 = placed_front u.ops held h hi b (block ∷ body_code s t (b + 1) x) (whens_code s ws e x) p in
      -- what stands behind the block's end has the handlers around
      let p2 = placed_back u.ops held h hi b e (1 + body_size t) (block ∷ body_code s t (b + 1) x) (whens_code s ws e x) (omega (arith, body_length s t (b + 1) x)) (omega arith)
      (λ k l. one_passes k block (body_code s t (b + 1) x) (block_passes (e + 1) e k l) (body_passes s t (b + 1) x k l)) p in
      -- within it the block's own count
      let p1 : Placed u.ops held (Some (e + 1)) e (b + 1) (body_code s t (b + 1) x) = record {
        stands = stands_rest u.ops b block (body_code s t (b + 1) x) p0.stands;
        fits = omega (arith, body_length s t (b + 1) x);
        bound = omega (arith, less, bound);
        inside = λ l a c. p.inside l (omega (arith, a)) (omega (arith, c, less));
        behind = λ l a. let z : e + 1 ≡ l = some_same (e + 1) l a in omega (arith, z);
        there = λ l a. let z : e + 1 ≡ l = some_same (e + 1) l a in omega (arith, z, less, bound);
        outer = λ k a c. cover_step u.ops b k block there ∙ ap (λ z. if z then Some (e + 1) else cover_upto u.ops b k) (lt-ltb k e c);
      } in
      goes_after w.flat (at_op held b st) (at_op held (b + 1) st) (exec w units u s m (begin_stmt t ws) b body st) (good u held below up x pc1) (bad w.flat u held below h)
      (goes_op w.flat u held below b [] st block (Gives (tt {0}) st) (λ z st1. at_op held (b + 1) st1) (bad w.flat u held below h) there (here w.flat (at_op held (b + 1) st)))
      (goes_catch held x pc1 e (e + 1) b hi h (block ∷ tail) (at_op held (b + 1) st) (exec_body w units u s m t (b + 1) body st) (λ z zv st1. handle w units u s m ws e z zv body st1) p (omega arith) (omega (arith, less))
      (rt (b + 1) e x e (Some (e + 1)) held st refl p1)
      (λ st1. past_whens ws b e pc1 x hi h held (block ∷ tail) st1 (omega (arith, q)) p (omega (arith, q)) (omega (arith, q, len, whole)) p2)
      (λ z zv st1. rw e pc1 x hi h held z zv st1 (omega (arith, q)) p2))

  -- an exception goes on to the next handler, or out of the block
  on_goes : (ws : WhenTrees) (pc b x hi : ℕ) (h : Option ℕ) (held : Stack) (y : List ℕ) (v : Option FlatValue) (st : State) → cover_upto u.ops pc pc ≡ h → Placed u.ops held h hi b (whens_code s ws b x)
      → fail_to (Some (next_handler s ws b)) u pc (Thrown y v) st.locals held (below st.homes) st.world ≡ handling held h ws b y v st
  on_goes no_when pc b x hi h held y v st ch p = fails_to w.flat u held below s.count pc h y v st size ch
  on_goes (more_whens z zv t ws) pc b x hi h held y v st ch p =
      let len : length (whens_code s (more_whens z zv t ws) b x) ≡ whens_size (more_whens z zv t ws) = whens_length s (more_whens z zv t ws) b x in
      let whole : b + length (whens_code s (more_whens z zv t ws) b x) ≤ hi = p.fits in
      let two : 2 ≤ whens_size (more_whens z zv t ws) = first_len z zv t ws in
      let le : b + 1 ≤ hi = omega (arith, len, whole, two) in
      let bound : hi < length u.ops = p.bound in
      ap (λ k. fail_at k u (Thrown y v) st.locals held (below st.homes) st.world) (ap (λ k. if k then cover_upto u.ops pc pc else Some (b + 1)) (ne_eqb (b + 1) (length u.ops) (λ k. absurd (omega (arith, k, le, bound)))))
      ∙ way_in b (b + 1) hi h held (whens_code s (more_whens z zv t ws) b x) st (Thrown y v) p (omega arith) le

  -- where a handler's deed leads
  abbrev pub handles : FlatOp → ℕ → Stack → List ℕ → Option FlatValue → State → Deed Act → Config
  handles op pc held y v st d = paid w.flat d.charge st.world (λ y1. finish w.flat (d.act y1) (way_of op) (failure_of op) u pc NoLoop (record { stack = []; locals = st.locals; status = Thrown y v }) held (below st.homes))

  -- the exception ends, and its argument is bound
  bound_goes : (z : List ℕ) (zv : Option Variable) (l pc x pc1 hi : ℕ) (h : Option ℕ) (held : Stack) (y : List ℕ) (v : Option FlatValue) (st : State) (run1 : State → Outcome How) (rest : List FlatOp) → Placed u.ops held h hi (pc + 1) (bind_code s zv ++ rest)
      → ((st1 : State) → L held x pc1 h (at_op held (pc + 1 + variable_nodes zv) st1) (run1 st1))
      → L held x pc1 h (handles (OpHandle z (variable_nodes zv) l) pc held y v st (end_exception (variable_nodes zv) v [])) (bind_argument w u s zv v st run1)
  bound_goes z None l pc x pc1 hi h held y v st run1 rest p g =
      let nought : pc + 1 ≡ pc + 1 + 0 = omega arith in
      subst (λ k. L held x pc1 h (at_op held k st) (run1 st)) (sym nought) (g st)
  bound_goes z (Some a) l pc x pc1 hi h held y None st run1 rest p g = tt
  bound_goes z (Some a) l pc x pc1 hi h held y (Some v) st run1 rest p g =
      store_goes w units u s.count size held below h (word_of s a.local) v (pc + 1) [] st run1 (good u held below up x pc1) (placed_here u.ops held h hi (pc + 1) (OpSet (word_of s a.local)) rest p) g

  when_case : (z : List ℕ) (zv : Option Variable) (t : BodyTree) (ws : WhenTrees) → BodyRuns t → WhensRun ws → WhensRun (more_whens z zv t ws)
  when_case z zv t ws rt rw b pc1 x hi h held y v st q p =
      let n = variable_nodes zv in
      let b1 = b + 1 + 1 + n in
      let mid = b1 + body_size t in
      let op = OpHandle z n (next_handler s ws mid) in
      let rest = body_code s t b1 x ++ whens_code s ws mid x in
      let jump = OpGo (b + whens_size (more_whens z zv t ws)) in
      let p1 = placed_rest u.ops held h hi b jump (op ∷ (bind_code s zv ++ rest)) (λ k acc. refl) p in
      let p2 = placed_rest u.ops held h hi (b + 1) op (bind_code s zv ++ rest) (λ k acc. refl) p1 in
      let p3 = placed_back u.ops held h hi (b + 1 + 1) b1 n (bind_code s zv) rest (bind_length s zv) refl (λ k l. bind_passes s zv k) p2 in
      let p4 = after_body t (whens_code s ws mid x) b1 x hi h held p3 in
      let le : mid + whens_size ws ≤ hi = end_in mid (whens_size ws) hi h held (whens_code s ws mid x) (whens_length s ws mid x) p4 in
      let at = placed_here u.ops held h hi (b + 1) op (bind_code s zv ++ rest) p1 in
      let ch = covered u.ops held h hi (b + 1) op (bind_code s zv ++ rest) p1 in
      let run1 : State → Outcome How = exec_body w units u s m t b1 body in
      -- the statements of the handler, and the jump past the others
      let inner : (st1 : State) → L held x pc1 h (at_op held b1 st1) (run1 st1) = λ st1. goes_done held x mid pc1 h (at_op held b1 st1) (run1 st1) (rt b1 mid x hi h held st1 refl (placed_front u.ops held h hi b1 (body_code s t b1 x) (whens_code s ws mid x) p3))
      (λ st2. past_whens ws b mid pc1 x hi h held (jump ∷ (op ∷ (bind_code s zv ++ rest))) st2 (omega (arith, q)) p (omega (arith, q)) (omega (arith, q, le)) p4) in
      let c = handling held h (more_whens z zv t ws) b y v st in
      let d : Option FlatOp → Deed Config = λ o. op_deed w.flat o u (b + 1) NoLoop (record { stack = []; locals = st.locals; status = Thrown y v }) held (below st.homes) st.world in
      goes_after w.flat c (handles op (b + 1) held y v st (handle_deed z n [] (Thrown y v))) (handle w units u s m (more_whens z zv t ws) b y v body st) (good u held below up x pc1) (bad w.flat u held below h)
      (one w.flat c (handles op (b + 1) held y v st (handle_deed z n [] (Thrown y v))) (ap (λ o. paid w.flat (d o).charge st.world (d o).act) at))
      (by_name (bytes_eq y z) (bound_goes z zv (next_handler s ws mid) (b + 1) x pc1 hi h held y v st run1 rest p2 inner)
      (subst (λ k. L held x pc1 h k (handle w units u s m ws mid y v body st)) (sym (on_goes ws (b + 1) mid x hi h held y v st ch p4)) (rw mid pc1 x hi h held y v st (omega (arith, q)) p4)))
    where
      by_name : (k : Bool)
          → L held x pc1 h (handles (OpHandle z (variable_nodes zv) (next_handler s ws (b + 1 + 1 + variable_nodes zv + body_size t))) (b + 1) held y v st (end_exception (variable_nodes zv) v [])) (bind_argument w u s zv v st (exec_body w units u s m t (b + 1 + 1 + variable_nodes zv) body))
          → L held x pc1 h (fail_to (Some (next_handler s ws (b + 1 + 1 + variable_nodes zv + body_size t))) u (b + 1) (Thrown y v) st.locals held (below st.homes) st.world) (handle w units u s m ws (b + 1 + 1 + variable_nodes zv + body_size t) y v body st)
          → L held x pc1 h (handles (OpHandle z (variable_nodes zv) (next_handler s ws (b + 1 + 1 + variable_nodes zv + body_size t))) (b + 1) held y v st (if k then end_exception (variable_nodes zv) v [] else free (λ y1. Failing (Thrown y v) y1)))
          (if k then bind_argument w u s zv v st (exec_body w units u s m t (b + 1 + 1 + variable_nodes zv) body) else handle w units u s m ws (b + 1 + 1 + variable_nodes zv + body_size t) y v body st)
      by_name true g1 g2 = g1
      by_name false g1 g2 = g2

  no_when_case : WhensRun no_when
  no_when_case b pc1 x hi h held y v st q p = here w.flat (bad w.flat u held below h y v st)

  may_cast_runs : (c : Option CastTree) (v : FlatValue) (b pc1 hi : ℕ) (h : Option ℕ) (held : Stack) (st : State) → b + may_cast_size c ≡ pc1 → Placed u.ops held h hi b (may_cast_code c)
      → Goes w.flat (run w.flat u held below b (v ∷ []) st) (may_cast w c v st) (λ y st1. run w.flat u held below pc1 (y ∷ []) st1) (bad w.flat u held below h)
  may_cast_runs None v b pc1 hi h held st e p = at_end w.flat u held below b pc1 (v ∷ []) st (omega (arith, e))
  may_cast_runs (Some c) v b pc1 hi h held st e p = cast_runs w lowered units (calls_run w units runs) u s size plain held below h hi c v b pc1 [] st e p

  in_loop : (q e l : ℕ) → q ≤ l → l < e → inside (Upto q e) l ≡ true
  in_loop q e l a b = ap (λ t. t && nat_lt l e) (le-leb q l a) ∙ lt-ltb l e b

  -- the body of the loop whose `over` is the operation q, and whose `next` is the operation e
  for_yields : (v : Variable) (k : Option CastTree) (t : BodyTree) → BodyRuns t → (held : Stack) (x q e pc1 hi : ℕ) (h : Option ℕ) → e + 1 ≡ pc1 → q + 2 + may_cast_size k + 1 + body_size t ≡ e → pc1 ≤ hi
      → Placed u.ops held h hi (q + 2) (may_cast_code k ++ OpSet (word_of s v.local) ∷ (body_code s t (q + 2 + may_cast_size k + 1) (e + 1) ++ OpNext ∷ []))
      → Yields w.flat (visiting w u s v k (exec_body w units u s m t (q + 2 + may_cast_size k + 1) body)) (below_it w lowered units u s.count size plain held below up x (q + 1) (q + 2) e pc1 h) (up_it w lowered units u s.count size plain held below up x (q + 1) (q + 2) e pc1 h)
  for_yields v k t rt held x q e pc1 hi h en sizes le p = record { by = go }
    where
      z : ℕ
      z = q + 2 + may_cast_size k

      set : FlatOp
      set = OpSet (word_of s v.local)

      run1 : State → Outcome How
      run1 = exec_body w units u s m t (z + 1) body

      p1 : Placed u.ops held h hi z (set ∷ (body_code s t (z + 1) (e + 1) ++ OpNext ∷ []))
      p1 = placed_back u.ops held h hi (q + 2) z (may_cast_size k) (may_cast_code k) (set ∷ (body_code s t (z + 1) (e + 1) ++ OpNext ∷ [])) (may_cast_length k) refl (λ j l. may_cast_passes k j) p

      p2 : Placed u.ops held h hi (z + 1) (body_code s t (z + 1) (e + 1) ++ OpNext ∷ [])
      p2 = placed_rest u.ops held h hi z set (body_code s t (z + 1) (e + 1) ++ OpNext ∷ []) (λ j acc. refl) p1

      next : slice_get u.ops e ≡ Some OpNext
      next = subst (λ j. slice_get u.ops j ≡ Some OpNext) sizes (placed_here u.ops held h hi (z + 1 + body_size t) OpNext [] (after_body t (OpNext ∷ []) (z + 1) (e + 1) hi h held p2))

      -- within the body labels leave no loop, this one neither
      to_hold : (it : FlatUnit) (pc : ℕ) (ls : List (Option FlatValue)) (holds : Stack) (b : ℕ) (xs : List FlatOp) → q + 2 ≤ b → b + length xs ≤ e → Placed u.ops held h hi b xs → Placed u.ops (Paused it pc [] ls holds (q + 1) (Upto (q + 2) (e + 1)) held) h e b xs
      to_hold it pc ls holds b xs lo fit pb = record {
        stands = pb.stands;
        fits = fit;
        bound = omega (arith, pb.bound, le, en);
        inside = λ l a c. ap not (in_loop (q + 2) (e + 1) l (omega (arith, lo, a)) (omega (arith, c)));
        behind = λ l a. let f : hi ≤ l = pb.behind l a in omega (arith, f, le, en);
        there = pb.there;
        outer = λ j a c. pb.outer j a (omega (arith, c, le, en));
      }

      go : (it : FlatUnit) (pc xi : ℕ) (hi1 : Option ℕ) (holds : Stack) (y : FlatValue) (st : State) → slice_get it.ops pc ≡ Some OpResume
          → Goes w.flat (visit (below_it w lowered units u s.count size plain held below up x (q + 1) (q + 2) e pc1 h st.homes) y it pc [] st.locals holds st.world) (yielded st (visiting w u s v k run1 y (at_home st)))
          (good it holds (below_it w lowered units u s.count size plain held below up x (q + 1) (q + 2) e pc1 h) (up_it w lowered units u s.count size plain held below up x (q + 1) (q + 2) e pc1 h) xi (pc + 1)) (bad w.flat it holds (below_it w lowered units u s.count size plain held below up x (q + 1) (q + 2) e pc1 h) hi1)
      go it pc xi hi1 holds y st resume =
          let hold = Paused it pc [] st.locals holds (q + 1) (Upto (q + 2) (e + 1)) held in
          let hst : State = at_home st in
          let c = Visiting y u (q + 2) hst.locals hold (below hst.homes) hst.world in
          let r = visiting w u s v k run1 y hst in
          let bound : hi < length u.ops = p.bound in
          let enter : FlatWorld → Config = λ wd. run w.flat u hold below (q + 2) (y ∷ []) (with_world hst wd) in
          let rest : State → Outcome How = λ st1. then_do (may_cast w k y st1) (λ y2 st2. store (word_of s v.local) y2 st2 run1) in
          let lens : length (body_code s t (z + 1) (e + 1)) ≡ body_size t = body_length s t (z + 1) (e + 1) in
          let mlen : length (may_cast_code k) ≡ may_cast_size k = may_cast_length k in
          let hp0 = to_hold it pc st.locals holds (q + 2) (may_cast_code k) (omega arith) (omega (arith, mlen, sizes)) (placed_front u.ops held h hi (q + 2) (may_cast_code k) (set ∷ (body_code s t (z + 1) (e + 1) ++ OpNext ∷ [])) p) in
          let hp2 = to_hold it pc st.locals holds (z + 1) (body_code s t (z + 1) (e + 1)) (omega arith) (omega (arith, lens, sizes)) (placed_front u.ops held h hi (z + 1) (body_code s t (z + 1) (e + 1)) (OpNext ∷ []) p2) in
          yield_back w lowered units u s.count size plain held below up x (q + 1) (q + 2) e pc1 h it pc holds xi hi1 st en (p.inside pc1 (omega (arith, en, sizes)) le) (λ l a. let f : hi ≤ l = p.behind l a in omega (arith, f, le)) next resume
          c r (lt-ltb pc1 (length u.ops) (omega (arith, le, bound))) p.there
          (goes_after w.flat c (paid w.flat (takes_room yield_weight) hst.world enter) r (good u hold below up (e + 1) e) (bad w.flat u hold below h) (one w.flat c (paid w.flat (takes_room yield_weight) hst.world enter) refl)
          (goes_paid w.flat (takes_room yield_weight) hst enter rest (good u hold below up (e + 1) e) (bad w.flat u hold below h)
          (λ wd. goes_then w.flat (enter wd) (may_cast w k y (with_world hst wd)) (λ y2 st2. store (word_of s v.local) y2 st2 run1) (λ y2 st2. run w.flat u hold below z (y2 ∷ []) st2) (good u hold below up (e + 1) e) (bad w.flat u hold below h)
          (may_cast_runs k y (q + 2) z e h hold (with_world hst wd) refl hp0)
          (λ y2 st2. store_goes w units u s.count size hold below h (word_of s v.local) y2 z [] st2 run1 (good u hold below up (e + 1) e) (placed_here u.ops held h hi z set (body_code s t (z + 1) (e + 1) ++ OpNext ∷ []) p1)
          (λ st3. rt (z + 1) e (e + 1) e h hold st3 sizes hp2)))))

  is_call_op : (c : CallTree) → is_call (Some (call_op s c 0)) ≡ true
  is_call_op (routine_call f ts ss es) = refl
  is_call_op (method_call t m1 e es) = refl
  is_call_op (hidden_call c m1 es) = refl
  is_call_op (super_call c m1 es) = refl
  is_call_op (where_call j m1 e es) = refl
  is_call_op (init_call c ts ss es) = refl

  -- the iterator of a `for`, from its entry
  looped_goes : (view : Option (List ℕ)) (f : ℕ) (vis : Body) (held : Stack) (x q start e pc1 : ℕ) (h : Option ℕ) → e + 1 ≡ pc1 → Backs w.flat u s.count held view f q → cover_upto u.ops q q ≡ h
      → Yields w.flat vis (below_it w lowered units u s.count size plain held below up x q start e pc1 h) (up_it w lowered units u s.count size plain held below up x q start e pc1 h)
      → (g : Target) (st : State) → L held x pc1 h (enters u held below (Upto start (e + 1)) q [] g st) (looped w units view f vis g st)
  looped_goes view f vis held x q start e pc1 h en backs ch yields_it g st = go (is_iterator (flat_of g.unit) && not (is_body (flat_of g.unit))) refl
    where
      c : Config
      c = enters u held below (Upto start (e + 1)) q [] g st

      r : Outcome How
      r = units g.unit g.args vis (st.locals ∷ st.homes) st.world

      go : (y : Bool) → (is_iterator (flat_of g.unit) && not (is_body (flat_of g.unit))) ≡ y → L held x pc1 h c (given y st (for_ends w view f r))
      go true is =
          for_back w lowered units u s.count size plain held below up x q start e pc1 h view f c r en backs ch
          (runs.by g.unit g.args vis (st.locals ∷ st.homes) st.world (below_it w lowered units u s.count size plain held below up x q start e pc1 h) (up_it w lowered units u s.count size plain held below up x q start e pc1 h) is yields_it)
      go false is = tt

  for_case : (v : Variable) (k : Option CastTree) (c : CallTree) (t : BodyTree) → BodyRuns t → StmtRuns (for_stmt v k c t)
  for_case v k c t rt b pc1 x hi h held st q p =
      let o = b + operands_size c in
      let z = o + 2 + may_cast_size k in
      let e = z + 1 + body_size t in
      let set = OpSet (word_of s v.local) in
      let inner = may_cast_code k ++ set ∷ (body_code s t (z + 1) (e + 1) ++ OpNext ∷ []) in
      let view = view_of w u s c in
      let run1 : State → Outcome How = exec_body w units u s m t (z + 1) body in
      let vis = visiting w u s v k run1 in
      let rest : List FlatValue → State → Outcome How = λ vs st1. then_do (aim w u s c vs st1) (looped w units view (kept_words c) vis) in
      let p1 = after_operands c (OpOver e ∷ call_op s c 0 ∷ inner) b hi h held p in
      let p2 = placed_rest u.ops held h hi o (OpOver e) (call_op s c 0 ∷ inner) (λ j acc. refl) p1 in
      let two : o + 1 + 1 ≡ o + 2 = omega arith in
      let p3 = placed_at u.ops held h hi (o + 1 + 1) (o + 2) inner two (placed_rest u.ops held h hi (o + 1) (call_op s c 0) inner (λ j acc. call_passes s c 0 j acc) p2) in
      let p4 = placed_back u.ops held h hi (o + 2) z (may_cast_size k) (may_cast_code k) (set ∷ (body_code s t (z + 1) (e + 1) ++ OpNext ∷ [])) (may_cast_length k) refl (λ j l. may_cast_passes k j) p3 in
      let p5 = placed_rest u.ops held h hi z set (body_code s t (z + 1) (e + 1) ++ OpNext ∷ []) (λ j acc. refl) p4 in
      let p6 = after_body t (OpNext ∷ []) (z + 1) (e + 1) hi h held p5 in
      let le : e + 1 ≤ hi = end_in e 1 hi h held (OpNext ∷ []) refl p6 in
      let en : e + 1 ≡ pc1 = omega (arith, q) in
      let at_over = placed_here u.ops held h hi o (OpOver e) (call_op s c 0 ∷ inner) p1 in
      let at_call1 = placed_here u.ops held h hi (o + 1) (call_op s c 0) inner p2 in
      let at_next = placed_here u.ops held h hi e OpNext [] p6 in
      let ch = covered u.ops held h hi (o + 1) (call_op s c 0) inner p2 in
      let backs = subst (λ j. Backs w.flat u s.count held view j (o + 1)) (flag_none c) (aim_backs w lowered units u s size held below h c 0 (o + 1) at_call1) in
      let yields_it = for_yields v k t rt held x o e pc1 hi h en refl (omega (arith, le, en)) p3 in
      let loop = Upto (o + 2) (e + 1) in
      aimed c (OpOver e ∷ call_op s c 0 ∷ inner) rest (good u held below up x pc1) b hi h held st p
      (λ vs st1 len.
      let here_record : Here = record { stack = push_all vs []; locals = st1.locals; status = Fine } in
      let opened : open_at (Some e) u o here_record held (below st1.homes) st1.world ≡ Run u (o + 1) loop here_record held (below st1.homes) st1.world =
      ap (λ y. if y && is_next (slice_get u.ops e) && nat_lt (o + 1) e then Run u (o + 1) loop here_record held (below st1.homes) st1.world else stuck st1.world) (ap is_call at_call1 ∙ is_call_op c)
      ∙ ap (λ y. if true && y && nat_lt (o + 1) e then Run u (o + 1) loop here_record held (below st1.homes) st1.world else stuck st1.world) (ap is_next at_next)
      ∙ ap (λ y. if true && true && y then Run u (o + 1) loop here_record held (below st1.homes) st1.world else stuck st1.world) (lt-ltb (o + 1) e (omega arith)) in
      goes_op w.flat u held below o (push_all vs []) st1 (OpOver e) (rest vs st1) (good u held below up x pc1) (bad w.flat u held below h) at_over
      (subst (λ d. Goes w.flat d (rest vs st1) (good u held below up x pc1) (bad w.flat u held below h)) (sym opened)
      (goes_then w.flat (Run u (o + 1) loop here_record held (below st1.homes) st1.world) (aim w u s c vs st1) (looped w units view (kept_words c) vis) (enters u held below loop (o + 1) []) (good u held below up x pc1) (bad w.flat u held below h)
      (aim_goes w lowered units u s size held below h c 0 vs loop (o + 1) [] st1 len at_call1)
      (λ g st2. looped_goes view (kept_words c) vis held x (o + 1) (o + 2) e pc1 h en backs ch yields_it g st2))))

  mutual
    pub stmt_runs : (t : StmtTree) → StmtRuns t
    stmt_runs (var_stmt v e) = store_case (word_of s v.local) e
    stmt_runs (set_local_stmt k e) = store_case (word_of s k) e
    stmt_runs (set_field_stmt c f e) = set_field_case c f e
    stmt_runs (set_element_stmt a i e) = set_element_case a i e
    stmt_runs (call_stmt c) = call_case c
    stmt_runs (drop_stmt c) = drop_case c
    stmt_runs (if_stmt e t r) = if_case e t r (body_runs t) (else_runs r)
    stmt_runs (while_stmt e t) = while_case e t (body_runs t)
    stmt_runs (for_stmt v k c t) = for_case v k c t (body_runs t)
    stmt_runs break_stmt = break_case
    stmt_runs return_stmt = return_case
    stmt_runs (return_value_stmt e) = return_value_case e
    stmt_runs (yield_stmt e) = yield_case e
    stmt_runs (raise_stmt y) = raise_case y
    stmt_runs (raise_value_stmt y e) = raise_value_case y e
    stmt_runs (begin_stmt t no_when) = bare_case t (body_runs t)
    stmt_runs (begin_stmt t (more_whens y v t1 ws)) = guarded_case t y v t1 ws (body_runs t) (when_case y v t1 ws (body_runs t1) (whens_run ws))
    stmt_runs (put_byte_stmt e) = put_byte_case e
    stmt_runs (put_int_stmt e) = put_int_case e
    stmt_runs (put_text_stmt e) = put_text_case e

    pub body_runs : (t : BodyTree) → BodyRuns t
    body_runs no_stmt = λ b pc1 x hi h held st q p. at_end w.flat u held below b pc1 [] st (omega (arith, q))
    body_runs (more_stmts first rest) = list_case first rest (stmt_runs first) (body_runs rest)

    pub else_runs : (r : ElseTree) → ElseRuns r
    else_runs no_else = no_else_case
    else_runs (else_do t) = else_case t (body_runs t)
    else_runs (elseif_then e t r) = elseif_case e t r (body_runs t) (else_runs r)

    pub whens_run : (ws : WhenTrees) → WhensRun ws
    whens_run no_when = no_when_case
    whens_run (more_whens y v t ws) = when_case y v t ws (body_runs t) (whens_run ws)
