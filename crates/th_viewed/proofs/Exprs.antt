-- Flat follows the evaluation on words: expressions and operands.
use Rattle.std.proofs.Common.{◌≡◌, ℕ, suc, ◌+◌, ◌≤◌, Bool, true, false, List, [], ◌∷◌, ◌++◌, length, Option, Some, None, refl, sym, ap, subst, arith, length-append}
use Rattle.std.specs.Prelude.{slice_get}
use Rattle.th_meaning.specs.Trees.{TypeTrees, SupplyTree, by_primitive, by_method, passed, CastTree, ExprTree, number_expr, truth_expr, literal_expr, self_expr, local_expr, field_expr, negative_expr, arith_expr, compare_expr, same_expr, not_expr, and_expr, or_expr, join_expr, letter_expr, extent_expr, element_expr, length_expr, cast_expr, call_expr, new_expr, new_array_expr, get_byte_expr, ExprTrees, no_expr, more_exprs, CallTree, routine_call, method_call, hidden_call, super_call, where_call, init_call}
use Rattle.th_meaning.specs.Program.{UnitSort, of_routine, of_method, of_init, init_name, name_of_type}
use Rattle.th_flat.specs.declared.op.FlatOp.{FlatOp}
use Rattle.th_flat.specs.declared.op.FlatOp.TheVariants.{OpWord, OpLocal, OpArith, OpCompare, OpSame, OpGo, OpCast, OpArray, OpAt, OpLength, OpUnitword, OpTurn, OpText, OpAppend, OpLetter, OpExtent, OpNew, OpCall}
use Rattle.th_flat.specs.declared.module.FlatUnit.{FlatUnit}
use Rattle.th_flat.specs.Values.{FlatValue, Int, Text, Code, Fine, signed, truth}
use Rattle.th_flat.specs.Deeds.{Deed, Act, Falls, free, takes_turns}
use Rattle.th_flat.specs.Configs.{NoLoop, Stack, Config, cover_upto, is_body}
use Rattle.th_lowering.specs.Homes.{home}
use Rattle.th_lowering.specs.Sizes.{between_size, cast_size, count, expr_size, exprs_size, operands_size}
use Rattle.th_lowering.specs.Site.{Site, class_around, word_of, stub_name, where_op, cast_between, cast_code, supply_op, supplies_code}
use Rattle.th_lowering.specs.Code.{arith_number, compare_number, truth_number, call_op, expr_code, exprs_code, operands_code}
use Rattle.th_lower_law.proofs.Lengths.{expr_length, exprs_length, operands_length, supplies_length}
use Rattle.th_viewed.specs.Sources.{WordProgram, AreLoweredFrom}
use Rattle.th_viewed.specs.Evaluation.{State, Outcome, Gives, then_do, both, pay, load, arith_of, negative_of, compare_of, same_of, not_of, and_of, or_of, join_of, letter_of, extent_of, element_of, length_of, new_array_of, cast_to, cast, where_word, stub_word, supply, supplies, new_of, one_word, Units, Target, call, aim, view_of, call_named, eval, eval_all, operands}
use Rattle.th_viewed.specs.Evaluation.{cast_between as word_cast_between}
use Rattle.th_viewed.proofs.Follow.{Comes, here, comes_on, Goes, goes_after, goes_then, goes_with, goes_end, Holds, holds_any, holds_then, holds_turns}
use Rattle.th_viewed.proofs.Acts.{push_all, push_append, run, bad, leads, goes_op, at_end}
use Rattle.th_viewed.proofs.Ops.{arith_goes, negative_goes, compare_goes, same_goes, join_goes, letter_goes, extent_goes, element_goes, length_goes, get_goes, array_goes, own_goes, field_goes, cast_goes, load_goes, new_goes, turn_goes, jump_goes, unless_goes}
use Rattle.th_viewed.proofs.Places.{Placed, placed_front, placed_back, placed_here, placed_rest, placed_at, covered, labelled, expr_passes, exprs_pass, operands_pass, supplies_pass, where_passes, supply_passes}
use Rattle.th_viewed.proofs.Calls.{Below, CallsRun, words_in, flag_of, enters, Backs, stub_goes, named_goes, call_goes, call_backs, aim_goes, aim_backs}

pub flag_one : (c : CallTree) → flag_of c 1 ≡ 1
flag_one (routine_call f ts ss es) = refl
flag_one (method_call t m e es) = refl
flag_one (hidden_call c m es) = refl
flag_one (super_call c m es) = refl
flag_one (where_call k m e es) = refl
flag_one (init_call c ts ss es) = refl

-- as many words as forms
module _ (w : WordProgram) (units : Units) (u : FlatUnit) (s : Site) where
  supplies_count : (ss : List SupplyTree) (b : ℕ) (st : State) → Holds (λ vs. length vs ≡ length ss) (supplies w u s ss b st)
  supplies_count [] b st = refl
  supplies_count (x ∷ xs) b st =
      holds_then (λ v. Unit {0}) (λ vs. length vs ≡ suc (length xs)) (supply w u s x b st) (λ v st1. then_do (supplies w u s xs (b + 1) st1) (λ vs st2. Gives (v ∷ vs) st2)) (holds_any (supply w u s x b st))
      (λ v st1 t. holds_then (λ vs. length vs ≡ length xs) (λ vs. length vs ≡ suc (length xs)) (supplies w u s xs (b + 1) st1) (λ vs st2. Gives (v ∷ vs) st2) (supplies_count xs (b + 1) st1) (λ vs st2 h. ap suc h))

  exprs_count : (es : ExprTrees) (b : ℕ) (st : State) → Holds (λ vs. length vs ≡ count es) (eval_all w units u s es b st)
  exprs_count no_expr b st = refl
  exprs_count (more_exprs e es) b st =
      holds_then (λ v. Unit {0}) (λ vs. length vs ≡ suc (count es)) (eval w units u s e b st) (λ v st1. then_do (eval_all w units u s es (b + expr_size e) st1) (λ vs st2. Gives (v ∷ vs) st2)) (holds_any (eval w units u s e b st))
      (λ v st1 t. holds_then (λ vs. length vs ≡ count es) (λ vs. length vs ≡ suc (count es)) (eval_all w units u s es (b + expr_size e) st1) (λ vs st2. Gives (v ∷ vs) st2) (exprs_count es (b + expr_size e) st1) (λ vs st2 h. ap suc h))

  -- one word, and arguments behind it
  first_count : (r : Outcome FlatValue) (es : ExprTrees) (b m : ℕ) → count es + 1 ≡ m → Holds (λ vs. length vs ≡ m) (then_do r (λ v st1. then_do (eval_all w units u s es b st1) (λ vs st2. Gives (v ∷ vs) st2)))
  first_count r es b m e =
      holds_then (λ v. Unit {0}) (λ vs. length vs ≡ m) r (λ v st1. then_do (eval_all w units u s es b st1) (λ vs st2. Gives (v ∷ vs) st2)) (holds_any r)
      (λ v st1 t. holds_then (λ vs. length vs ≡ count es) (λ vs. length vs ≡ m) (eval_all w units u s es b st1) (λ vs st2. Gives (v ∷ vs) st2) (exprs_count es b st1) (λ vs st2 h. omega (arith, h, e)))

  pub operands_count : (c : CallTree) (b : ℕ) (st : State) → Holds (λ vs. length vs ≡ words_in c) (operands w units u s c b st)
  operands_count (routine_call f ts ss es) b st =
      holds_then (λ xs. length xs ≡ length ss) (λ vs. length vs ≡ length ss + count es) (supplies w u s ss b st) (λ xs st1. then_do (eval_all w units u s es (b + length ss) st1) (λ vs st2. Gives (xs ++ vs) st2)) (supplies_count ss b st)
      (λ xs st1 h. holds_then (λ vs. length vs ≡ count es) (λ vs. length vs ≡ length ss + count es) (eval_all w units u s es (b + length ss) st1) (λ vs st2. Gives (xs ++ vs) st2) (exprs_count es (b + length ss) st1)
      (λ vs st2 k. omega (arith, h, k, length-append xs vs)))
  operands_count (method_call of m e es) b st =
      holds_then (λ v. Unit {0}) (λ vs. length vs ≡ count es + 1) (eval w units u s e b st) (λ v st1. then_do (cast_to w of (home s.known of m) v st1) (λ x st2. then_do (eval_all w units u s es (b + expr_size e + 1) st2) (λ vs st3. Gives (x ∷ vs) st3))) (holds_any (eval w units u s e b st))
      (λ v st1 t. first_count (cast_to w of (home s.known of m) v st1) es (b + expr_size e + 1) (count es + 1) refl)
  operands_count (hidden_call c m es) b st = first_count (load 0 st) es (b + 1) (count es + 1) refl
  operands_count (super_call c m es) b st = first_count (load 0 st) es (b + 1) (count es + 1) refl
  operands_count (where_call k m e es) b st =
      holds_then (λ v. Unit {0}) (λ vs. length vs ≡ count es + 1 + 1) (where_word w u s s.sort k st) (λ x st1. then_do (eval w units u s e (b + 1) st1) (λ v st2. then_do (eval_all w units u s es (b + 1 + expr_size e) st2) (λ vs st3. Gives (x ∷ v ∷ vs) st3))) (holds_any (where_word w u s s.sort k st))
      (λ x st1 t. holds_then (λ v. Unit {0}) (λ vs. length vs ≡ count es + 1 + 1) (eval w units u s e (b + 1) st1) (λ v st2. then_do (eval_all w units u s es (b + 1 + expr_size e) st2) (λ vs st3. Gives (x ∷ v ∷ vs) st3)) (holds_any (eval w units u s e (b + 1) st1))
      (λ v st2 t1. holds_then (λ vs. length vs ≡ count es) (λ vs. length vs ≡ count es + 1 + 1) (eval_all w units u s es (b + 1 + expr_size e) st2) (λ vs st3. Gives (x ∷ v ∷ vs) st3) (exprs_count es (b + 1 + expr_size e) st2) (λ vs st3 h. omega (arith, h))))
  operands_count (init_call c ts ss es) b st =
      let rest : FlatValue → List FlatValue → State → Outcome (List FlatValue) = λ v xs st2. then_do (eval_all w units u s es (b + 1 + length ss) st2) (λ vs st3. pay (takes_turns 1) st3 (λ st4. Gives (v ∷ (xs ++ vs)) st4)) in
      holds_then (λ v. Unit {0}) (λ vs. length vs ≡ length ss + count es + 1) (load 0 st) (λ v st1. then_do (supplies w u s ss (b + 1) st1) (rest v)) (holds_any (load 0 st))
      (λ v st1 t. holds_then (λ xs. length xs ≡ length ss) (λ vs. length vs ≡ length ss + count es + 1) (supplies w u s ss (b + 1) st1) (rest v) (supplies_count ss (b + 1) st1)
      (λ xs st2 h. holds_then (λ vs. length vs ≡ count es) (λ vs. length vs ≡ length ss + count es + 1) (eval_all w units u s es (b + 1 + length ss) st2) (λ vs st3. pay (takes_turns 1) st3 (λ st4. Gives (v ∷ (xs ++ vs)) st4)) (exprs_count es (b + 1 + length ss) st2)
      (λ vs st3 k. holds_turns (λ ys. length ys ≡ length ss + count es + 1) 1 st3 (λ st4. Gives (v ∷ (xs ++ vs)) st4) (λ st4. omega (arith, h, k, length-append xs vs)))))

module _ (w : WordProgram) (lowered : AreLoweredFrom w) (units : Units) (calls : CallsRun w units) (u : FlatUnit) (s : Site) (size : length u.ops ≡ s.count) (plain : is_body u ≡ false) (held : Stack) (below : Below) (h : Option ℕ) (hi : ℕ) where
  abbrev pub At : ℕ → List FlatOp → Type 0
  At = Placed u.ops held h hi

  abbrev pub G : {A : Type 0} → Config → Outcome A → (A → State → Config) → Type 0
  G c r good = Goes w.flat c r good (bad w.flat u held below h)

  abbrev pub here_at : ℕ → List FlatValue → State → Config
  here_at = run w.flat u held below

  -- where an evaluation leads that leaves a word on the stack
  abbrev pub pushed : ℕ → List FlatValue → FlatValue → State → Config
  pushed pc stack v st = run w.flat u held below pc (v ∷ stack) st

  abbrev pub all_pushed : ℕ → List FlatValue → List FlatValue → State → Config
  all_pushed pc stack vs st = run w.flat u held below pc (push_all vs stack) st

  seq : {A B : Type 0} (c : Config) (r : Outcome A) (f : A → State → Outcome B) (mid : A → State → Config) (good : B → State → Config) → G c r mid → ((a : A) (st : State) → G (mid a st) (f a st) good) → G c (then_do r f) good
  seq c r f mid good g k = goes_then w.flat c r f mid good (bad w.flat u held below h) g k

  after : {A : Type 0} (c d : Config) (r : Outcome A) (good : A → State → Config) → Comes w.flat c d → G d r good → G c r good
  after c d r good g k = goes_after w.flat c d r good (bad w.flat u held below h) g k

  -- a number
  word_goes : (k pc pc1 : ℕ) (stack : List FlatValue) (st : State) → pc + 1 ≡ pc1 → slice_get u.ops pc ≡ Some (OpWord k) → G (here_at pc stack st) (Gives (Int (signed k)) st) (pushed pc1 stack)
  word_goes k pc pc1 stack st e at = goes_op w.flat u held below pc stack st (OpWord k) (Gives (Int (signed k)) st) (pushed pc1 stack) (bad w.flat u held below h) at (at_end w.flat u held below (pc + 1) pc1 (Int (signed k) ∷ stack) st e)

  truth_goes : (t : Bool) (pc pc1 : ℕ) (stack : List FlatValue) (st : State) → pc + 1 ≡ pc1 → slice_get u.ops pc ≡ Some (OpWord (truth_number t)) → G (here_at pc stack st) (Gives (truth t) st) (pushed pc1 stack)
  truth_goes true pc pc1 stack st e at = word_goes 1 pc pc1 stack st e at
  truth_goes false pc pc1 stack st e at = word_goes 0 pc pc1 stack st e at

  -- a jump to the end
  jump_on : (b pc l : ℕ) (xs : List FlatOp) (stack : List FlatValue) (st : State) → At b xs → b ≤ l → l ≤ hi → slice_get u.ops pc ≡ Some (OpGo l) → Comes w.flat (here_at pc stack st) (here_at l stack st)
  jump_on b pc l xs stack st k lo le at =
      jump_goes w units u s.count size held below h pc l stack st (Gives (tt {0}) st) (λ t st1. here_at l stack st1) plain (labelled u.ops held h hi b l xs le k) (k.inside l lo le) at (here w.flat (here_at l stack st))

  fits_in : (b m : ℕ) (xs : List FlatOp) → length xs ≡ m → At b xs → b + m ≤ hi
  fits_in b m xs e k = let f : b + length xs ≤ hi = k.fits in omega (arith, e, f)

  abbrev pub EvalRuns : ExprTree → Type 0
  EvalRuns e = (b pc1 : ℕ) (stack : List FlatValue) (st : State) → b + expr_size e ≡ pc1 → At b (expr_code s e b) → G (here_at b stack st) (eval w units u s e b st) (pushed pc1 stack)

  abbrev pub ExprsRun : ExprTrees → Type 0
  ExprsRun es = (b pc1 : ℕ) (stack : List FlatValue) (st : State) → b + exprs_size es ≡ pc1 → At b (exprs_code s es b) → G (here_at b stack st) (eval_all w units u s es b st) (all_pushed pc1 stack)

  abbrev pub OperandsRun : CallTree → Type 0
  OperandsRun c = (b pc1 : ℕ) (stack : List FlatValue) (st : State) → b + operands_size c ≡ pc1 → At b (operands_code s c b) → G (here_at b stack st) (operands w units u s c b st) (all_pushed pc1 stack)

  -- what follows the code of an expression
  behind_expr : (e : ExprTree) (b : ℕ) (ys : List FlatOp) → At b (expr_code s e b ++ ys) → At (b + expr_size e) ys
  behind_expr e b ys k = placed_back u.ops held h hi b (b + expr_size e) (expr_size e) (expr_code s e b) ys (expr_length s e b) refl (λ p l. expr_passes s e b p) k

  front : (b : ℕ) (xs ys : List FlatOp) → At b (xs ++ ys) → At b xs
  front b xs ys k = placed_front u.ops held h hi b xs ys k

  at_of : (b : ℕ) (op : FlatOp) (xs : List FlatOp) → At b (op ∷ xs) → slice_get u.ops b ≡ Some op
  at_of b op xs k = placed_here u.ops held h hi b op xs k

  -- one operand and an operation
  unary : (x : ExprTree) (op : FlatOp) (f : FlatValue → State → Outcome FlatValue) → EvalRuns x
      → ((v : FlatValue) (pc pc1 : ℕ) (stack : List FlatValue) (st : State) → pc + 1 ≡ pc1 → slice_get u.ops pc ≡ Some op → cover_upto u.ops pc pc ≡ h → G (here_at pc (v ∷ stack) st) (f v st) (pushed pc1 stack))
      → (b pc1 : ℕ) (stack : List FlatValue) (st : State) → b + (expr_size x + 1) ≡ pc1 → At b (expr_code s x b ++ op ∷ []) → G (here_at b stack st) (then_do (eval w units u s x b st) f) (pushed pc1 stack)
  unary x op f rx g b pc1 stack st e k =
      let q = b + expr_size x in
      let k1 = behind_expr x b (op ∷ []) k in
      seq (here_at b stack st) (eval w units u s x b st) f (pushed q stack) (pushed pc1 stack) (rx b q stack st refl (front b (expr_code s x b) (op ∷ []) k))
      (λ v st1. g v q pc1 stack st1 (omega (arith, e)) (at_of q op [] k1) (covered u.ops held h hi q op [] k1))

  -- two operands and an operation
  binary : (x y : ExprTree) (op : FlatOp) (f : FlatValue → FlatValue → State → Outcome FlatValue) → EvalRuns x → EvalRuns y
      → ((v1 v2 : FlatValue) (pc pc1 : ℕ) (stack : List FlatValue) (st : State) → pc + 1 ≡ pc1 → slice_get u.ops pc ≡ Some op → cover_upto u.ops pc pc ≡ h → G (here_at pc (v2 ∷ v1 ∷ stack) st) (f v1 v2 st) (pushed pc1 stack))
      → (b pc1 : ℕ) (stack : List FlatValue) (st : State) → b + (expr_size x + expr_size y + 1) ≡ pc1 → At b (expr_code s x b ++ (expr_code s y (b + expr_size x) ++ op ∷ []))
      → G (here_at b stack st) (both (eval w units u s x b st) (eval w units u s y (b + expr_size x)) f) (pushed pc1 stack)
  binary x y op f rx ry g b pc1 stack st e k =
      let q = b + expr_size x in
      let r = q + expr_size y in
      let k1 = behind_expr x b (expr_code s y q ++ op ∷ []) k in
      let k2 = behind_expr y q (op ∷ []) k1 in
      seq (here_at b stack st) (eval w units u s x b st) (λ v1 st1. then_do (eval w units u s y q st1) (λ v2 st2. f v1 v2 st2)) (pushed q stack) (pushed pc1 stack) (rx b q stack st refl (front b (expr_code s x b) (expr_code s y q ++ op ∷ []) k))
      (λ v1 st1. seq (here_at q (v1 ∷ stack) st1) (eval w units u s y q st1) (λ v2 st2. f v1 v2 st2) (pushed r (v1 ∷ stack)) (pushed pc1 stack) (ry q r (v1 ∷ stack) st1 refl (front q (expr_code s y q) (op ∷ []) k1))
      (λ v2 st2. g v1 v2 r pc1 stack st2 (omega (arith, e)) (at_of r op [] k2) (covered u.ops held h hi r op [] k2)))

  not_case : (x : ExprTree) → EvalRuns x → EvalRuns (not_expr x)
  not_case x rx b pc1 stack st e k =
      let q = b + expr_size x in
      let k1 = behind_expr x b _ k in
      let k2 = placed_rest u.ops held h hi q _ _ (λ p acc. refl) k1 in
      let k3 = placed_rest u.ops held h hi (q + 1) _ _ (λ p acc. refl) k2 in
      let k4 = placed_rest u.ops held h hi (q + 1 + 1) _ _ (λ p acc. refl) k3 in
      let end : q + 4 ≡ pc1 = omega (arith, e) in
      let le : q + 4 ≤ hi = fits_in q 4 _ refl k1 in
      let three : q + 1 + 1 + 1 ≡ q + 3 = omega arith in
      seq (here_at b stack st) (eval w units u s x b st) not_of (pushed q stack) (pushed pc1 stack) (rx b q stack st refl (front b (expr_code s x b) _ k))
      (λ v st1. unless_goes w units u s.count size held below h q (q + 3) v stack st1 (Gives (truth true) st1) (Gives (truth false) st1) (pushed pc1 stack) plain
      (labelled u.ops held h hi q (q + 3) _ (omega (arith, le)) k1) (k1.inside (q + 3) (omega arith) (omega (arith, le))) (at_of q _ _ k1)
      (truth_goes true (q + 3) pc1 stack st1 (omega (arith, end)) (subst (λ m. slice_get u.ops m ≡ Some (OpWord 1)) three (at_of (q + 1 + 1 + 1) _ _ k4)))
      (comes_on w.flat (here_at (q + 1) stack st1) (here_at (q + 1 + 1) (truth false ∷ stack) st1) (here_at pc1 (truth false ∷ stack) st1) (truth_goes false (q + 1) (q + 1 + 1) stack st1 refl (at_of (q + 1) _ _ k2))
      (comes_on w.flat (here_at (q + 1 + 1) (truth false ∷ stack) st1) (here_at (q + 4) (truth false ∷ stack) st1) (here_at pc1 (truth false ∷ stack) st1)
      (jump_on q (q + 1 + 1) (q + 4) _ (truth false ∷ stack) st1 k1 (omega arith) le (at_of (q + 1 + 1) _ _ k3)) (at_end w.flat u held below (q + 4) pc1 (truth false ∷ stack) st1 end))))

  and_case : (x y : ExprTree) → EvalRuns x → EvalRuns y → EvalRuns (and_expr x y)
  and_case x y rx ry b pc1 stack st e k =
      let q = b + expr_size x in
      let r = q + 1 + expr_size y in
      let k1 = behind_expr x b _ k in
      let k2 = placed_rest u.ops held h hi q _ _ (λ p acc. refl) k1 in
      let k3 = behind_expr y (q + 1) _ k2 in
      let k4 = placed_rest u.ops held h hi r _ _ (λ p acc. refl) k3 in
      let le : r + 2 ≤ hi = fits_in r 2 _ refl k3 in
      let end : r + 2 ≡ pc1 = omega (arith, e) in
      seq (here_at b stack st) (eval w units u s x b st) (and_of (eval w units u s y (q + 1))) (pushed q stack) (pushed pc1 stack) (rx b q stack st refl (front b (expr_code s x b) _ k))
      (λ v st1. unless_goes w units u s.count size held below h q (r + 1) v stack st1 (Gives (truth false) st1) (eval w units u s y (q + 1) st1) (pushed pc1 stack) plain
      (labelled u.ops held h hi q (r + 1) _ (omega (arith, le)) k1) (k1.inside (r + 1) (omega arith) (omega (arith, le))) (at_of q _ _ k1)
      (truth_goes false (r + 1) pc1 stack st1 (omega (arith, end)) (at_of (r + 1) _ _ k4))
      (goes_end w.flat (here_at (q + 1) stack st1) (eval w units u s y (q + 1) st1) (pushed r stack) (pushed pc1 stack) (bad w.flat u held below h) (ry (q + 1) r stack st1 refl (front (q + 1) (expr_code s y (q + 1)) _ k2))
      (λ v2 st2. comes_on w.flat (pushed r stack v2 st2) (pushed (r + 2) stack v2 st2) (pushed pc1 stack v2 st2) (jump_on r r (r + 2) _ (v2 ∷ stack) st2 k3 (omega arith) le (at_of r _ _ k3)) (at_end w.flat u held below (r + 2) pc1 (v2 ∷ stack) st2 end))))

  or_case : (x y : ExprTree) → EvalRuns x → EvalRuns y → EvalRuns (or_expr x y)
  or_case x y rx ry b pc1 stack st e k =
      let q = b + expr_size x in
      let k1 = behind_expr x b _ k in
      let k2 = placed_rest u.ops held h hi q _ _ (λ p acc. refl) k1 in
      let k3 = placed_rest u.ops held h hi (q + 1) _ _ (λ p acc. refl) k2 in
      let k4 = placed_rest u.ops held h hi (q + 1 + 1) _ _ (λ p acc. refl) k3 in
      let three : q + 1 + 1 + 1 ≡ q + 3 = omega arith in
      let k5 = placed_at u.ops held h hi (q + 1 + 1 + 1) (q + 3) (expr_code s y (q + 3)) three k4 in
      let le : q + 3 + expr_size y ≤ hi = fits_in (q + 3) (expr_size y) _ (expr_length s y (q + 3)) k5 in
      let end : q + 3 + expr_size y ≡ pc1 = omega (arith, e) in
      seq (here_at b stack st) (eval w units u s x b st) (or_of (eval w units u s y (q + 3))) (pushed q stack) (pushed pc1 stack) (rx b q stack st refl (front b (expr_code s x b) _ k))
      (λ v st1. unless_goes w units u s.count size held below h q (q + 3) v stack st1 (eval w units u s y (q + 3) st1) (Gives (truth true) st1) (pushed pc1 stack) plain
      (labelled u.ops held h hi q (q + 3) _ (omega (arith, le)) k1) (k1.inside (q + 3) (omega arith) (omega (arith, le))) (at_of q _ _ k1)
      (ry (q + 3) pc1 stack st1 end k5)
      (comes_on w.flat (here_at (q + 1) stack st1) (here_at (q + 1 + 1) (truth true ∷ stack) st1) (here_at pc1 (truth true ∷ stack) st1) (truth_goes true (q + 1) (q + 1 + 1) stack st1 refl (at_of (q + 1) _ _ k2))
      (comes_on w.flat (here_at (q + 1 + 1) (truth true ∷ stack) st1) (here_at (q + 3 + expr_size y) (truth true ∷ stack) st1) (here_at pc1 (truth true ∷ stack) st1)
      (jump_on q (q + 1 + 1) (q + 3 + expr_size y) _ (truth true ∷ stack) st1 k1 (omega arith) le (at_of (q + 1 + 1) _ _ k3)) (at_end w.flat u held below (q + 3 + expr_size y) pc1 (truth true ∷ stack) st1 end))))

  pub cast_runs : (c : CastTree) (v : FlatValue) (b pc1 : ℕ) (stack : List FlatValue) (st : State) → b + cast_size c ≡ pc1 → At b (cast_code c) → G (here_at b (v ∷ stack) st) (cast w c v st) (pushed pc1 stack)
  cast_runs c v b pc1 stack st e k = go (name_of_type c.from) (name_of_type c.to) e k
    where
      go : (from to : Option (List ℕ)) → b + between_size from to ≡ pc1 → At b (cast_between from to) → G (here_at b (v ∷ stack) st) (word_cast_between w from to v st) (pushed pc1 stack)
      go None to e k = at_end w.flat u held below b pc1 (v ∷ stack) st (omega (arith, e))
      go (Some from) None e k = at_end w.flat u held below b pc1 (v ∷ stack) st (omega (arith, e))
      go (Some from) (Some to) e k = cast_goes w units u s.count size held below h from to v b pc1 stack st e (at_of b _ _ k)

  cast_case : (c : CastTree) (x : ExprTree) → EvalRuns x → EvalRuns (cast_expr c x)
  cast_case c x rx b pc1 stack st e k =
      let q = b + expr_size x in
      seq (here_at b stack st) (eval w units u s x b st) (cast w c) (pushed q stack) (pushed pc1 stack) (rx b q stack st refl (front b (expr_code s x b) (cast_code c) k))
      (λ v st1. cast_runs c v q pc1 stack st1 (omega (arith, e)) (behind_expr x b (cast_code c) k))

  -- what stands for where-methods
  where_goes : (t : UnitSort) (j pc pc1 : ℕ) (stack : List FlatValue) (st : State) → pc + 1 ≡ pc1 → slice_get u.ops pc ≡ Some (where_op t j) → G (here_at pc stack st) (where_word w u s t j st) (pushed pc1 stack)
  where_goes of_routine j pc pc1 stack st e at = load_goes w units u s.count size held below h j pc pc1 stack st e at
  where_goes (of_method c m) j pc pc1 stack st e at = field_goes w units u s.count size held below h c j pc pc1 stack st e at
  where_goes (of_init c) j pc pc1 stack st e at = load_goes w units u s.count size held below h (j + 1) pc pc1 stack st e at

  stub_word_goes : (j pc pc1 : ℕ) (stack : List FlatValue) (st : State) → pc + 1 ≡ pc1 → slice_get u.ops pc ≡ Some (OpUnitword (stub_name s.module_name (s.before + j))) → G (here_at pc stack st) (stub_word w u s j st) (pushed pc1 stack)
  stub_word_goes j pc pc1 stack st e at =
      let name = stub_name s.module_name (s.before + j) in
      let K : Deed Act → Config = leads w.flat u held below (OpUnitword name) NoLoop pc stack st in
      goes_op w.flat u held below pc stack st (OpUnitword name) (stub_word w u s j st) (pushed pc1 stack) (bad w.flat u held below h) at
      (stub_goes w lowered units u s.count size held below h K st (pushed pc1 stack) name (λ x. free (λ w1. Falls (Code name ∷ stack) Fine w1)) (λ g. Gives (Code name) st)
      (λ g. at_end w.flat u held below (pc + 1) pc1 (Code name ∷ stack) st e))

  supply_goes : (x : SupplyTree) (b pc1 : ℕ) (stack : List FlatValue) (st : State) → b + 1 ≡ pc1 → slice_get u.ops b ≡ Some (supply_op s x b) → G (here_at b stack st) (supply w u s x b st) (pushed pc1 stack)
  supply_goes (by_primitive q) b pc1 stack st e at = stub_word_goes b b pc1 stack st e at
  supply_goes (by_method of m) b pc1 stack st e at = stub_word_goes b b pc1 stack st e at
  supply_goes (passed j) b pc1 stack st e at = where_goes s.sort j b pc1 stack st e at

  supplies_run : (ss : List SupplyTree) (b pc1 : ℕ) (stack : List FlatValue) (st : State) → b + length ss ≡ pc1 → At b (supplies_code s ss b) → G (here_at b stack st) (supplies w u s ss b st) (all_pushed pc1 stack)
  supplies_run [] b pc1 stack st e k = at_end w.flat u held below b pc1 stack st (omega (arith, e))
  supplies_run (x ∷ xs) b pc1 stack st e k =
      seq (here_at b stack st) (supply w u s x b st) (λ v st1. then_do (supplies w u s xs (b + 1) st1) (λ vs st2. Gives (v ∷ vs) st2)) (pushed (b + 1) stack) (all_pushed pc1 stack)
      (supply_goes x b (b + 1) stack st refl (at_of b _ _ k))
      (λ v st1. seq (here_at (b + 1) (v ∷ stack) st1) (supplies w u s xs (b + 1) st1) (λ vs st2. Gives (v ∷ vs) st2) (all_pushed pc1 (v ∷ stack)) (all_pushed pc1 stack)
      (supplies_run xs (b + 1) pc1 (v ∷ stack) st1 (omega (arith, e)) (placed_rest u.ops held h hi b _ _ (λ p acc. supply_passes s x b p acc) k))
      (λ vs st2. here w.flat (all_pushed pc1 (v ∷ stack) vs st2)))

  behind_supplies : (ss : List SupplyTree) (b : ℕ) (ys : List FlatOp) → At b (supplies_code s ss b ++ ys) → At (b + length ss) ys
  behind_supplies ss b ys k = placed_back u.ops held h hi b (b + length ss) (length ss) (supplies_code s ss b) ys (supplies_length s ss b) refl (λ p l. supplies_pass s ss b p) k

  behind_exprs : (es : ExprTrees) (b : ℕ) (ys : List FlatOp) → At b (exprs_code s es b ++ ys) → At (b + exprs_size es) ys
  behind_exprs es b ys k = placed_back u.ops held h hi b (b + exprs_size es) (exprs_size es) (exprs_code s es b) ys (exprs_length s es b) refl (λ p l. exprs_pass s es b p) k

  exprs_case : (x : ExprTree) (es : ExprTrees) → EvalRuns x → ExprsRun es → ExprsRun (more_exprs x es)
  exprs_case x es rx rs b pc1 stack st e k =
      let q = b + expr_size x in
      seq (here_at b stack st) (eval w units u s x b st) (λ v st1. then_do (eval_all w units u s es q st1) (λ vs st2. Gives (v ∷ vs) st2)) (pushed q stack) (all_pushed pc1 stack)
      (rx b q stack st refl (front b (expr_code s x b) (exprs_code s es q) k))
      (λ v st1. seq (here_at q (v ∷ stack) st1) (eval_all w units u s es q st1) (λ vs st2. Gives (v ∷ vs) st2) (all_pushed pc1 (v ∷ stack)) (all_pushed pc1 stack)
      (rs q pc1 (v ∷ stack) st1 (omega (arith, e)) (behind_expr x b (exprs_code s es q) k)) (λ vs st2. here w.flat (all_pushed pc1 (v ∷ stack) vs st2)))

  -- one word is on the stack, and arguments follow
  more_args : (v : FlatValue) (es : ExprTrees) → ExprsRun es → (b pc1 : ℕ) (stack : List FlatValue) (st : State) → b + exprs_size es ≡ pc1 → At b (exprs_code s es b)
      → G (here_at b (v ∷ stack) st) (then_do (eval_all w units u s es b st) (λ vs st2. Gives (v ∷ vs) st2)) (all_pushed pc1 stack)
  more_args v es rs b pc1 stack st e k =
      seq (here_at b (v ∷ stack) st) (eval_all w units u s es b st) (λ vs st2. Gives (v ∷ vs) st2) (all_pushed pc1 (v ∷ stack)) (all_pushed pc1 stack) (rs b pc1 (v ∷ stack) st e k) (λ vs st2. here w.flat (all_pushed pc1 (v ∷ stack) vs st2))

  -- words in two parts
  two_parts : (xs vs : List FlatValue) (pc : ℕ) (stack : List FlatValue) (st : State) → Comes w.flat (here_at pc (push_all vs (push_all xs stack)) st) (here_at pc (push_all (xs ++ vs) stack) st)
  two_parts xs vs pc stack st = subst (λ z. Comes w.flat (here_at pc (push_all vs (push_all xs stack)) st) (here_at pc z st)) (sym (push_append xs vs stack)) (here w.flat (here_at pc (push_all vs (push_all xs stack)) st))

  routine_case : (f : List ℕ) (ts : TypeTrees) (ss : List SupplyTree) (es : ExprTrees) → ExprsRun es → OperandsRun (routine_call f ts ss es)
  routine_case f ts ss es rs b pc1 stack st e k =
      let q = b + length ss in
      seq (here_at b stack st) (supplies w u s ss b st) (λ xs st1. then_do (eval_all w units u s es q st1) (λ vs st2. Gives (xs ++ vs) st2)) (all_pushed q stack) (all_pushed pc1 stack)
      (supplies_run ss b q stack st refl (front b (supplies_code s ss b) (exprs_code s es q) k))
      (λ xs st1. seq (here_at q (push_all xs stack) st1) (eval_all w units u s es q st1) (λ vs st2. Gives (xs ++ vs) st2) (all_pushed pc1 (push_all xs stack)) (all_pushed pc1 stack)
      (rs q pc1 (push_all xs stack) st1 (omega (arith, e)) (behind_supplies ss b (exprs_code s es q) k)) (λ vs st2. two_parts xs vs pc1 stack st2))

  method_case : (of m : List ℕ) (x : ExprTree) (es : ExprTrees) → EvalRuns x → ExprsRun es → OperandsRun (method_call of m x es)
  method_case of m x es rx rs b pc1 stack st e k =
      let q = b + expr_size x in
      let hm = home s.known of m in
      let k1 = behind_expr x b (OpCast of hm ∷ exprs_code s es (q + 1)) k in
      seq (here_at b stack st) (eval w units u s x b st) (λ v st1. then_do (cast_to w of hm v st1) (λ y st2. then_do (eval_all w units u s es (q + 1) st2) (λ vs st3. Gives (y ∷ vs) st3))) (pushed q stack) (all_pushed pc1 stack)
      (rx b q stack st refl (front b (expr_code s x b) (OpCast of hm ∷ exprs_code s es (q + 1)) k))
      (λ v st1. seq (here_at q (v ∷ stack) st1) (cast_to w of hm v st1) (λ y st2. then_do (eval_all w units u s es (q + 1) st2) (λ vs st3. Gives (y ∷ vs) st3)) (pushed (q + 1) stack) (all_pushed pc1 stack)
      (cast_goes w units u s.count size held below h of hm v q (q + 1) stack st1 refl (at_of q _ _ k1))
      (λ y st2. more_args y es rs (q + 1) pc1 stack st2 (omega (arith, e)) (placed_rest u.ops held h hi q _ _ (λ p acc. refl) k1)))

  -- the receiver of a call of a method of `self`
  self_args : (es : ExprTrees) → ExprsRun es → (b pc1 : ℕ) (stack : List FlatValue) (st : State) → b + (exprs_size es + 1) ≡ pc1 → At b (OpLocal 0 ∷ exprs_code s es (b + 1))
      → G (here_at b stack st) (then_do (load 0 st) (λ v st1. then_do (eval_all w units u s es (b + 1) st1) (λ vs st2. Gives (v ∷ vs) st2))) (all_pushed pc1 stack)
  self_args es rs b pc1 stack st e k =
      seq (here_at b stack st) (load 0 st) (λ v st1. then_do (eval_all w units u s es (b + 1) st1) (λ vs st2. Gives (v ∷ vs) st2)) (pushed (b + 1) stack) (all_pushed pc1 stack)
      (load_goes w units u s.count size held below h 0 b (b + 1) stack st refl (at_of b _ _ k))
      (λ v st1. more_args v es rs (b + 1) pc1 stack st1 (omega (arith, e)) (placed_rest u.ops held h hi b _ _ (λ p acc. refl) k))

  where_case : (j : ℕ) (m : List ℕ) (x : ExprTree) (es : ExprTrees) → EvalRuns x → ExprsRun es → OperandsRun (where_call j m x es)
  where_case j m x es rx rs b pc1 stack st e k =
      let q = b + 1 + expr_size x in
      let k1 = placed_rest u.ops held h hi b (where_op s.sort j) (expr_code s x (b + 1) ++ exprs_code s es q) (λ p acc. where_passes s s.sort j p acc) k in
      seq (here_at b stack st) (where_word w u s s.sort j st) (λ y st1. then_do (eval w units u s x (b + 1) st1) (λ v st2. then_do (eval_all w units u s es q st2) (λ vs st3. Gives (y ∷ v ∷ vs) st3))) (pushed (b + 1) stack) (all_pushed pc1 stack)
      (where_goes s.sort j b (b + 1) stack st refl (at_of b _ _ k))
      (λ y st1. seq (here_at (b + 1) (y ∷ stack) st1) (eval w units u s x (b + 1) st1) (λ v st2. then_do (eval_all w units u s es q st2) (λ vs st3. Gives (y ∷ v ∷ vs) st3)) (pushed q (y ∷ stack)) (all_pushed pc1 stack)
      (rx (b + 1) q (y ∷ stack) st1 refl (front (b + 1) (expr_code s x (b + 1)) (exprs_code s es q) k1))
      (λ v st2. seq (here_at q (v ∷ y ∷ stack) st2) (eval_all w units u s es q st2) (λ vs st3. Gives (y ∷ v ∷ vs) st3) (all_pushed pc1 (v ∷ y ∷ stack)) (all_pushed pc1 stack)
      (rs q pc1 (v ∷ y ∷ stack) st2 (omega (arith, e)) (behind_expr x (b + 1) (exprs_code s es q) k1)) (λ vs st3. here w.flat (all_pushed pc1 (v ∷ y ∷ stack) vs st3))))

  init_case : (c : List ℕ) (ts : TypeTrees) (ss : List SupplyTree) (es : ExprTrees) → ExprsRun es → OperandsRun (init_call c ts ss es)
  init_case c ts ss es rs b pc1 stack st e k =
      let q = b + 1 + length ss in
      let t = q + exprs_size es in
      let rest : FlatValue → List FlatValue → State → Outcome (List FlatValue) = λ v xs st2. then_do (eval_all w units u s es q st2) (λ vs st3. pay (takes_turns 1) st3 (λ st4. Gives (v ∷ (xs ++ vs)) st4)) in
      let k1 = placed_rest u.ops held h hi b (OpLocal 0) (supplies_code s ss (b + 1) ++ (exprs_code s es q ++ OpTurn ∷ [])) (λ p acc. refl) k in
      let k2 = behind_supplies ss (b + 1) (exprs_code s es q ++ OpTurn ∷ []) k1 in
      let k3 = behind_exprs es q (OpTurn ∷ []) k2 in
      seq (here_at b stack st) (load 0 st) (λ v st1. then_do (supplies w u s ss (b + 1) st1) (rest v)) (pushed (b + 1) stack) (all_pushed pc1 stack)
      (load_goes w units u s.count size held below h 0 b (b + 1) stack st refl (at_of b _ _ k))
      (λ v st1. seq (here_at (b + 1) (v ∷ stack) st1) (supplies w u s ss (b + 1) st1) (rest v) (all_pushed q (v ∷ stack)) (all_pushed pc1 stack)
      (supplies_run ss (b + 1) q (v ∷ stack) st1 refl (front (b + 1) (supplies_code s ss (b + 1)) (exprs_code s es q ++ OpTurn ∷ []) k1))
      (λ xs st2. seq (here_at q (push_all xs (v ∷ stack)) st2) (eval_all w units u s es q st2) (λ vs st3. pay (takes_turns 1) st3 (λ st4. Gives (v ∷ (xs ++ vs)) st4)) (all_pushed t (push_all xs (v ∷ stack))) (all_pushed pc1 stack)
      (rs q t (push_all xs (v ∷ stack)) st2 refl (front q (exprs_code s es q) (OpTurn ∷ []) k2))
      (λ vs st3. turn_goes w units u s.count size held below h t (push_all vs (push_all xs (v ∷ stack))) st3 (λ st4. Gives (v ∷ (xs ++ vs)) st4) (all_pushed pc1 stack) (at_of t OpTurn [] k3)
      (λ st4. comes_on w.flat (here_at (t + 1) (push_all vs (push_all xs (v ∷ stack))) st4) (here_at pc1 (push_all vs (push_all xs (v ∷ stack))) st4) (here_at pc1 (push_all (xs ++ vs) (v ∷ stack)) st4)
      (at_end w.flat u held below (t + 1) pc1 (push_all vs (push_all xs (v ∷ stack))) st4 (omega (arith, e))) (two_parts xs vs pc1 (v ∷ stack) st4)))))

  -- the one word that a call gives
  one_goes : (vs : List FlatValue) (pc : ℕ) (stack : List FlatValue) (st : State) → G (here_at pc (vs ++ stack) st) (one_word vs st) (pushed pc stack)
  one_goes [] pc stack st = tt
  one_goes (v ∷ []) pc stack st = here w.flat (here_at pc (v ∷ stack) st)
  one_goes (v ∷ x ∷ vs) pc stack st = tt

  -- from the entry to the word
  value_goes : (view : Option (List ℕ)) (pc pc1 : ℕ) (stack : List FlatValue) (t : Target) (st : State) → pc + 1 ≡ pc1 → Backs w.flat u s.count held view 1 pc → cover_upto u.ops pc pc ≡ h
      → G (enters u held below NoLoop pc stack t st) (then_do (call w units view 1 t st) one_word) (pushed pc1 stack)
  value_goes view pc pc1 stack t st e backs ch =
      seq (enters u held below NoLoop pc stack t st) (call w units view 1 t st) one_word (λ vs st1. here_at pc1 (vs ++ stack) st1) (pushed pc1 stack)
      (call_goes w lowered units u s.count size held below h calls view 1 pc pc1 stack t st e backs ch) (λ vs st1. one_goes vs pc1 stack st1)

  call_case : (c : CallTree) → OperandsRun c → EvalRuns (call_expr c)
  call_case c rc b pc1 stack st e k =
      let q = b + operands_size c in
      let k1 = placed_back u.ops held h hi b q (operands_size c) (operands_code s c b) (call_op s c 1 ∷ []) (operands_length s c b) refl (λ p l. operands_pass s c b p) k in
      let at = at_of q (call_op s c 1) [] k1 in
      let backs = subst (λ f. Backs w.flat u s.count held (view_of w u s c) f q) (flag_one c) (aim_backs w lowered units u s size held below h c 1 q at) in
      goes_with w.flat (λ vs. length vs ≡ words_in c) (here_at b stack st) (operands w units u s c b st) (λ vs st1. then_do (aim w u s c vs st1) (λ t st2. then_do (call w units (view_of w u s c) 1 t st2) one_word))
      (all_pushed q stack) (pushed pc1 stack) (bad w.flat u held below h) (operands_count w units u s c b st) (rc b q stack st refl (front b (operands_code s c b) (call_op s c 1 ∷ []) k))
      (λ vs st1 len. seq (here_at q (push_all vs stack) st1) (aim w u s c vs st1) (λ t st2. then_do (call w units (view_of w u s c) 1 t st2) one_word) (enters u held below NoLoop q stack) (pushed pc1 stack)
      (aim_goes w lowered units u s size held below h c 1 vs NoLoop q stack st1 len at)
      (λ t st2. value_goes (view_of w u s c) q pc1 stack t st2 (omega (arith, e)) backs (covered u.ops held h hi q (call_op s c 1) [] k1)))

  new_case : (c : List ℕ) (ts : TypeTrees) (ss : List SupplyTree) (es : ExprTrees) → ExprsRun es → EvalRuns (new_expr c ts ss es)
  new_case c ts ss es rs b pc1 stack st e k =
      let q = b + 1 + length ss in
      let t = q + exprs_size es in
      let op = OpCall (init_name c) (length ss + count es + 1) 1 s.count in
      let view = w.flat.called_result (init_name c) in
      let last : FlatValue → List FlatValue → List FlatValue → State → Outcome FlatValue = λ v xs vs st3. then_do (call_named w (init_name c) (v ∷ (xs ++ vs)) st3) (λ g st4. then_do (call w units view 1 g st4) one_word) in
      let rest : FlatValue → List FlatValue → State → Outcome FlatValue = λ v xs st2. then_do (eval_all w units u s es q st2) (last v xs) in
      let k1 = placed_rest u.ops held h hi b (OpNew c) (supplies_code s ss (b + 1) ++ (exprs_code s es q ++ op ∷ [])) (λ p acc. refl) k in
      let k2 = behind_supplies ss (b + 1) (exprs_code s es q ++ op ∷ []) k1 in
      let k3 = behind_exprs es q (op ∷ []) k2 in
      let at = at_of t op [] k3 in
      seq (here_at b stack st) (new_of w u s c st) (λ v st1. then_do (supplies w u s ss (b + 1) st1) (rest v)) (pushed (b + 1) stack) (pushed pc1 stack)
      (new_goes w units u s.count size held below h c s b (b + 1) stack st refl (at_of b _ _ k))
      (λ v st1. goes_with w.flat (λ xs. length xs ≡ length ss) (here_at (b + 1) (v ∷ stack) st1) (supplies w u s ss (b + 1) st1) (rest v) (all_pushed q (v ∷ stack)) (pushed pc1 stack) (bad w.flat u held below h)
      (supplies_count w units u s ss (b + 1) st1) (supplies_run ss (b + 1) q (v ∷ stack) st1 refl (front (b + 1) (supplies_code s ss (b + 1)) (exprs_code s es q ++ op ∷ []) k1))
      (λ xs st2 hx. goes_with w.flat (λ vs. length vs ≡ count es) (here_at q (push_all xs (v ∷ stack)) st2) (eval_all w units u s es q st2) (last v xs) (all_pushed t (push_all xs (v ∷ stack))) (pushed pc1 stack) (bad w.flat u held below h)
      (exprs_count w units u s es q st2) (rs q t (push_all xs (v ∷ stack)) st2 refl (front q (exprs_code s es q) (op ∷ []) k2))
      (λ vs st3 hv. after (here_at t (push_all vs (push_all xs (v ∷ stack))) st3) (here_at t (push_all (xs ++ vs) (v ∷ stack)) st3) (last v xs vs st3) (pushed pc1 stack) (two_parts xs vs t (v ∷ stack) st3)
      (seq (here_at t (push_all (v ∷ (xs ++ vs)) stack) st3) (call_named w (init_name c) (v ∷ (xs ++ vs)) st3) (λ g st4. then_do (call w units view 1 g st4) one_word) (enters u held below NoLoop t stack) (pushed pc1 stack)
      (named_goes w lowered units u s.count size held below h (init_name c) (length ss + count es + 1) 1 (v ∷ (xs ++ vs)) NoLoop t stack st3 (omega (arith, hx, hv, length-append xs vs)) at)
      (λ g st4. value_goes view t pc1 stack g st4 (omega (arith, e)) (call_backs w lowered units u s.count size held below h (init_name c) (length ss + count es + 1) 1 t at) (covered u.ops held h hi t op [] k3))))))

  mutual
    pub eval_runs : (e : ExprTree) → EvalRuns e
    eval_runs (number_expr k) = λ b pc1 stack st e m. word_goes k b pc1 stack st e (at_of b _ _ m)
    eval_runs (truth_expr t) = λ b pc1 stack st e m. truth_goes t b pc1 stack st e (at_of b _ _ m)
    eval_runs (literal_expr bytes) = λ b pc1 stack st e m. goes_op w.flat u held below b stack st (OpText bytes) (Gives (Text bytes) st) (pushed pc1 stack) (bad w.flat u held below h) (at_of b _ _ m) (at_end w.flat u held below (b + 1) pc1 (Text bytes ∷ stack) st e)
    eval_runs self_expr = λ b pc1 stack st e m. own_goes w units u s.count size held below h (class_around s.sort) b pc1 stack st e (at_of b _ _ m)
    eval_runs (local_expr j) = λ b pc1 stack st e m. load_goes w units u s.count size held below h (word_of s j) b pc1 stack st e (at_of b _ _ m)
    eval_runs (field_expr c f) = λ b pc1 stack st e m. field_goes w units u s.count size held below h c (s.clauses + f) b pc1 stack st e (at_of b _ _ m)
    eval_runs (negative_expr x) = unary x (OpArith 5 s.count) negative_of (eval_runs x) (λ v pc pc1 stack st e at ch. negative_goes w units u s.count size held below h v pc pc1 stack st e at ch)
    eval_runs (arith_expr op x y) = binary x y (OpArith (arith_number op) s.count) (arith_of op) (eval_runs x) (eval_runs y) (λ v1 v2 pc pc1 stack st e at ch. arith_goes w units u s.count size held below h op v1 v2 pc pc1 stack st e at ch)
    eval_runs (compare_expr op x y) = binary x y (OpCompare (compare_number op)) (compare_of op) (eval_runs x) (eval_runs y) (λ v1 v2 pc pc1 stack st e at ch. compare_goes w units u s.count size held below h op v1 v2 pc pc1 stack st e at)
    eval_runs (same_expr x y) = binary x y OpSame same_of (eval_runs x) (eval_runs y) (λ v1 v2 pc pc1 stack st e at ch. same_goes w units u s.count size held below h v1 v2 pc pc1 stack st e at)
    eval_runs (not_expr x) = not_case x (eval_runs x)
    eval_runs (and_expr x y) = and_case x y (eval_runs x) (eval_runs y)
    eval_runs (or_expr x y) = or_case x y (eval_runs x) (eval_runs y)
    eval_runs (join_expr x y) = binary x y (OpAppend s.count) join_of (eval_runs x) (eval_runs y) (λ v1 v2 pc pc1 stack st e at ch. join_goes w units u s.count size held below h v1 v2 pc pc1 stack st e at ch)
    eval_runs (letter_expr x y) = binary x y (OpLetter s.count) letter_of (eval_runs x) (eval_runs y) (λ v1 v2 pc pc1 stack st e at ch. letter_goes w units u s.count size held below h v1 v2 pc pc1 stack st e at ch)
    eval_runs (extent_expr x) = unary x OpExtent extent_of (eval_runs x) (λ v pc pc1 stack st e at ch. extent_goes w units u s.count size held below h v pc pc1 stack st e at)
    eval_runs (element_expr x y) = binary x y (OpAt s.count) element_of (eval_runs x) (eval_runs y) (λ v1 v2 pc pc1 stack st e at ch. element_goes w units u s.count size held below h v1 v2 pc pc1 stack st e at ch)
    eval_runs (length_expr x) = unary x OpLength length_of (eval_runs x) (λ v pc pc1 stack st e at ch. length_goes w units u s.count size held below h v pc pc1 stack st e at)
    eval_runs (cast_expr c x) = cast_case c x (eval_runs x)
    eval_runs (call_expr c) = call_case c (operands_run c)
    eval_runs (new_expr c ts ss es) = new_case c ts ss es (exprs_run es)
    eval_runs (new_array_expr t x y) = binary x y (OpArray s.count) new_array_of (eval_runs x) (eval_runs y) (λ v1 v2 pc pc1 stack st e at ch. array_goes w units u s.count size held below h v1 v2 pc pc1 stack st e at ch)
    eval_runs get_byte_expr = λ b pc1 stack st e m. get_goes w units u s.count size held below h b pc1 stack st e (at_of b _ _ m) (covered u.ops held h hi b _ _ m)

    pub exprs_run : (es : ExprTrees) → ExprsRun es
    exprs_run no_expr = λ b pc1 stack st e m. at_end w.flat u held below b pc1 stack st (omega (arith, e))
    exprs_run (more_exprs x es) = exprs_case x es (eval_runs x) (exprs_run es)

    pub operands_run : (c : CallTree) → OperandsRun c
    operands_run (routine_call f ts ss es) = routine_case f ts ss es (exprs_run es)
    operands_run (method_call of m x es) = method_case of m x es (eval_runs x) (exprs_run es)
    operands_run (hidden_call c m es) = λ b pc1 stack st e k. self_args es (exprs_run es) b pc1 stack st e k
    operands_run (super_call c m es) = λ b pc1 stack st e k. self_args es (exprs_run es) b pc1 stack st e k
    operands_run (where_call j m x es) = where_case j m x es (eval_runs x) (exprs_run es)
    operands_run (init_call c ts ss es) = init_case c ts ss es (exprs_run es)
