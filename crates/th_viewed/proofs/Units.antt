-- Flat follows the evaluation on words: whole units, and whole runs.
use Rattle.std.proofs.Common.{◌≡◌, ℕ, zero, suc, ◌+◌, ◌<◌, Bool, true, false, not, List, [], ◌∷◌, ◌++◌, length, Option, Some, None, refl, sym, ap, ◌∙◌, subst, arith, length-append}
use Rattle.std.specs.Prelude.{slice_get, nat_eq, nat_lt, if◌then◌else◌, ◌&&◌, option_map}
use Rattle.std.proofs.lemmas.Bool.{lt-ltb}
use Rattle.th_runs.specs.Stand.{Stand, GoesOn}
use Rattle.th_meaning.specs.declared.types.Primitive.{Primitive}
use Rattle.th_meaning.specs.Trees.{TypeTree}
use Rattle.th_meaning.specs.Program.{TypeDecl, UnitSort, of_routine, of_method, of_init, ProgramUnit}
use Rattle.th_meaning.specs.World.{OutOfTurns, OutOfRoom, Unset, Stuck, Deep, give_back}
use Rattle.th_flat.specs.declared.op.FlatOp.{FlatOp}
use Rattle.th_flat.specs.declared.op.FlatOp.TheVariants.{OpLocal, OpOwn, OpSetfield, OpReturn, OpCompare, OpCast, OpDispatch}
use Rattle.th_flat.specs.declared.module.FlatUnit.{FlatUnit}
use Rattle.th_flat.specs.Values.{FlatValue, FlatWorld, Fine, Thrown, truth}
use Rattle.th_flat.specs.Program.{FlatProgram}
use Rattle.th_flat.specs.Deeds.{Deed, Act, free, holds}
use Rattle.th_flat.specs.Configs.{NoLoop, Bottom, Config, FlatEnd, Run, Entering, Visiting, Returned, Putting, Over, Ends, Raises, is_body, is_iterator, can_enter, entry_charge, entered, frame, words_of, weight_of, step, steps, paid, stuck, cover_upto}
use Rattle.th_flat.specs.Runs.{FlatRun, begin, start, end_of_config}
use Rattle.th_flat.specs.Runs.{stand_of as flat_stand_of}
use Rattle.th_lowering.specs.Homes.{MethodShape}
use Rattle.th_lowering.specs.Sizes.{body_size}
use Rattle.th_lowering.specs.Code.{body_code}
use Rattle.th_lowering.specs.Stubs.{primitive_number, primitive_stub, method_stub, locals_code, flag}
use Rattle.th_lowering.specs.Units.{kind_of, keep_code, start_code, start_size, end_code, end_size, site_of, body_start, body_end, lowered_unit}
use Rattle.th_lower_law.proofs.Lengths.{start_length, unit_length, body_length}
use Rattle.th_lower_law.proofs.Onward.{StandsAt, stands_here, stands_rest, stands_first, stands_then, stands_whole}
use Rattle.th_viewed.specs.Sources.{Source, from_unit, from_primitive, from_method, flat_of, WordProgram, AreLoweredFrom}
use Rattle.th_viewed.specs.Evaluation.{Locals, State, Outcome, Gives, Throws, Halted, Leave, How, Done, Exit, Return, Cut, then_do, with_world, with_int, given, load, set_field_of, own, return_of, cast_to, dispatch, call, Body, no_body, Units, at_home, exec_body}
use Rattle.th_viewed.specs.Levels.{load_all, closed, keep, start_of, end_of, ends_of, primitive, returned, run_of, level, outcome_of, stand_of, words_run, IsFit}
use Rattle.th_viewed.specs.Laws.{RunsAreThoseOnWords}
use Rattle.th_viewed.proofs.Follow.{Comes, here, one, comes_on, Goes, goes_after, goes_then, goes_with, goes_paid, Holds, holds_any, holds_then}
use Rattle.th_viewed.proofs.Acts.{push_all, run, bad, leads, goes_op, goes_int, at_end, go_within}
use Rattle.th_viewed.proofs.Ops.{load_goes, own_goes, set_field_goes, return_goes, turn_goes, cast_goes}
use Rattle.th_viewed.proofs.Places.{Placed, Passes, none_pass, one_passes, pass_part}
use Rattle.th_viewed.proofs.Calls.{Below, fin, thrown, no_up, enters, dispatch_goes, dispatch_backs, call_goes}
use Rattle.th_viewed.proofs.Ways.{good, Yields, UnitsRun, calls_run, no_yields, ends_plain}
use Rattle.th_viewed.proofs.Stmts.{body_runs}

-- where a unit's statements and what stands behind them lead, before the unit's room is given back
abbrev ends_at : FlatUnit → Below → (Leave → State → Config) → How → State → Config
ends_at u below up Done st = Over Ends (give_back (weight_of u + 0) st.world)
ends_at u below up Exit st = Over Ends (give_back (weight_of u + 0) st.world)
ends_at u below up (Return v) st = Returned Fine v (below st.homes) (give_back (weight_of u + 0) st.world)
ends_at u below up (Cut l) st = up l (at_home (with_world st (give_back (weight_of u + 0) st.world)))

nought : (k : ℕ) → k + 0 ≡ k
nought k = omega arith

kind_plain : (sort : UnitSort) (t : Bool) → nat_eq (kind_of sort t) 5 ≡ false
kind_plain of_routine true = refl
kind_plain of_routine false = refl
kind_plain (of_method c m) true = refl
kind_plain (of_method c m) false = refl
kind_plain (of_init c) t = refl

locals_length : (k n : ℕ) → length (locals_code k n) ≡ n
locals_length k zero = refl
locals_length k (suc n) = ap suc (locals_length (k + 1) n)

locals_pass : (k n p : ℕ) → Passes p (locals_code k n)
locals_pass k zero p = none_pass p
locals_pass k (suc n) p = one_passes p _ _ (λ acc. refl) (locals_pass (k + 1) n p)

keep_passes : (c : List ℕ) (k n p : ℕ) → Passes p (keep_code c k n)
keep_passes c k zero p = none_pass p
keep_passes c k (suc n) p = one_passes p _ _ (λ acc. refl) (one_passes p _ _ (λ acc. refl) (keep_passes c (k + 1) n p))

start_passes : (sort : UnitSort) (n p : ℕ) → Passes p (start_code sort n)
start_passes of_routine n p = none_pass p
start_passes (of_method c m) n p = none_pass p
start_passes (of_init c) n p = keep_passes c 0 n p

load_all_count : (k n : ℕ) (st : State) → Holds (λ vs. length vs ≡ n) (load_all k n st)
load_all_count k zero st = refl
load_all_count k (suc n) st =
    holds_then (λ v. Unit {0}) (λ vs. length vs ≡ suc n) (load k st) (λ v st1. then_do (load_all (k + 1) n st1) (λ vs st2. Gives (v ∷ vs) st2)) (holds_any (load k st))
    (λ v st1 t. holds_then (λ vs. length vs ≡ n) (λ vs. length vs ≡ suc n) (load_all (k + 1) n st1) (λ vs st2. Gives (v ∷ vs) st2) (load_all_count (k + 1) n st1) (λ vs st2 h. ap suc h))

module _ (w : WordProgram) (lowered : AreLoweredFrom w) (units : Units) (runs : UnitsRun w.flat units) (below : Below) (up : Leave → State → Config) where
  -- a unit's room is given back as it ends
  closed_goes : (u : FlatUnit) (c : Config) (r : Outcome How) → is_body u ≡ false → Goes w.flat c r (ends_at u below up) (bad w.flat u Bottom below None) → Goes w.flat c (closed (weight_of u) r) (fin below up) (thrown below)
  closed_goes u c (Gives Done st) plain g = subst (λ k. Comes w.flat c (Over Ends (give_back k st.world))) (nought (weight_of u)) g
  closed_goes u c (Gives Exit st) plain g = subst (λ k. Comes w.flat c (Over Ends (give_back k st.world))) (nought (weight_of u)) g
  closed_goes u c (Gives (Return v) st) plain g = subst (λ k. Comes w.flat c (Returned Fine v (below st.homes) (give_back k st.world))) (nought (weight_of u)) g
  closed_goes u c (Gives (Cut l) st) plain g = subst (λ k. Comes w.flat c (up l (at_home (with_world st (give_back k st.world))))) (nought (weight_of u)) g
  closed_goes u c (Throws x v st) plain g =
      subst (λ k. Comes w.flat c (Returned (Thrown x v) None (below st.homes) (give_back k st.world))) (nought (weight_of u))
      (subst (λ d. Comes w.flat c d) (ends_plain u (Thrown x v) None st.locals Bottom (below st.homes) st.world plain) g)
  closed_goes u c (Halted x wd) plain g = g

  module _ (u : FlatUnit) (n : ℕ) (size : length u.ops ≡ n) (plain : is_body u ≡ false) where
    -- a unit leads where its outcome says
    abbrev pub E : Config → Outcome How → Type 0
    E c r = Goes w.flat c r (ends_at u below up) (bad w.flat u Bottom below None)

    abbrev pub at_op : ℕ → List FlatValue → State → Config
    at_op pc stack st = run w.flat u Bottom below pc stack st

    keep_goes : (c : List ℕ) (k count pc : ℕ) (f : State → Outcome How) (st : State) → StandsAt u.ops pc (keep_code c k count) → ((st1 : State) → E (at_op (pc + count + count) [] st1) (f st1)) → E (at_op pc [] st) (keep w u c k count f st)
    keep_goes c k zero pc f st has g = let e : pc + 0 + 0 ≡ pc = omega arith in subst (λ j. E (at_op j [] st) (f st)) e (g st)
    keep_goes c k (suc count) pc f st has g =
        let has1 = stands_rest u.ops pc (OpLocal (k + 1)) (OpSetfield c k ∷ keep_code c (k + 1) count) has in
        let e : pc + 1 + 1 + count + count ≡ pc + suc count + suc count = omega arith in
        goes_then w.flat (at_op pc [] st) (load (k + 1) st) (λ v st1. set_field_of w u c k v st1 (keep w u c (k + 1) count f)) (λ v st1. at_op (pc + 1) (v ∷ []) st1) (ends_at u below up) (bad w.flat u Bottom below None)
        (load_goes w units u n size Bottom below None (k + 1) pc (pc + 1) [] st refl (stands_here u.ops pc _ _ has))
        (λ v st1. set_field_goes w units u n size Bottom below None c k v (pc + 1) [] st1 (keep w u c (k + 1) count f) (ends_at u below up) (stands_here u.ops (pc + 1) _ _ has1)
        (λ st2. keep_goes c (k + 1) count (pc + 1 + 1) f st2 (stands_rest u.ops (pc + 1) (OpSetfield c k) (keep_code c (k + 1) count) has1) (λ st3. subst (λ j. E (at_op j [] st3) (f st3)) (sym e) (g st3))))

    start_goes : (sort : UnitSort) (count : ℕ) (f : State → Outcome How) (st : State) → StandsAt u.ops 0 (start_code sort count) → ((st1 : State) → E (at_op (start_size sort count) [] st1) (f st1)) → E (at_op 0 [] st) (start_of w u sort count f st)
    start_goes of_routine count f st has g = g st
    start_goes (of_method c m) count f st has g = g st
    start_goes (of_init c) count f st has g = let e : count + count ≡ 0 + count + count = omega arith in keep_goes c 0 count 0 f st has (λ st1. subst (λ j. E (at_op j [] st1) (f st1)) e (g st1))

    end_goes : (sort : UnitSort) (pc : ℕ) (st : State) → StandsAt u.ops pc (end_code sort) → E (at_op pc [] st) (end_of w u sort st)
    end_goes of_routine pc st has = return_goes w units u n size Bottom below None None pc [] st (ends_at u below up) plain (stands_here u.ops pc _ _ has) (here w.flat _)
    end_goes (of_method c m) pc st has = return_goes w units u n size Bottom below None None pc [] st (ends_at u below up) plain (stands_here u.ops pc _ _ has) (here w.flat _)
    end_goes (of_init c) pc st has =
        goes_then w.flat (at_op pc [] st) (own w u c st) (λ v st1. return_of w u (Some v) st1) (λ v st1. at_op (pc + 1) (v ∷ []) st1) (ends_at u below up) (bad w.flat u Bottom below None)
        (own_goes w units u n size Bottom below None c pc (pc + 1) [] st refl (stands_here u.ops pc _ _ has))
        (λ v st1. return_goes w units u n size Bottom below None (Some v) (pc + 1) [] st1 (ends_at u below up) plain (stands_here u.ops (pc + 1) _ _ (stands_rest u.ops pc (OpOwn c) (OpReturn 1 ∷ []) has)) (here w.flat _))

    ends_goes : (sort : UnitSort) (pc : ℕ) (c : Config) (r : Outcome How) → StandsAt u.ops pc (end_code sort) → nat_lt pc (length u.ops) ≡ true → Goes w.flat c r (good u Bottom below up pc pc) (bad w.flat u Bottom below None) → E c (then_do r (ends_of w u sort))
    ends_goes sort pc c (Gives Done st) has lt g = goes_after w.flat c (at_op pc [] st) (end_of w u sort st) (ends_at u below up) (bad w.flat u Bottom below None) g (end_goes sort pc st has)
    ends_goes sort pc c (Gives Exit st) has lt g =
        goes_after w.flat c (at_op pc [] st) (end_of w u sort st) (ends_at u below up) (bad w.flat u Bottom below None)
        (subst (λ d. Comes w.flat c d) (go_within w.flat u Bottom below pc (record { stack = []; locals = st.locals; status = Fine }) (below st.homes) st.world plain lt refl) g) (end_goes sort pc st has)
    ends_goes sort pc c (Gives (Return v) st) has lt g = g
    ends_goes sort pc c (Gives (Cut l) st) has lt g = g
    ends_goes sort pc c (Throws x v st) has lt g = g
    ends_goes sort pc c (Halted x wd) has lt g = g

    -- the words of a stub's operands
    load_all_goes : (k count pc : ℕ) (stack : List FlatValue) (st : State) → StandsAt u.ops pc (locals_code k count)
        → Goes w.flat (at_op pc stack st) (load_all k count st) (λ vs st1. at_op (pc + count) (push_all vs stack) st1) (bad w.flat u Bottom below None)
    load_all_goes k zero pc stack st has = at_end w.flat u Bottom below pc (pc + 0) stack st (omega arith)
    load_all_goes k (suc count) pc stack st has =
        let e : pc + 1 + count ≡ pc + suc count = omega arith in
        goes_then w.flat (at_op pc stack st) (load k st) (λ v st1. then_do (load_all (k + 1) count st1) (λ vs st2. Gives (v ∷ vs) st2)) (λ v st1. at_op (pc + 1) (v ∷ stack) st1) (λ vs st1. at_op (pc + suc count) (push_all vs stack) st1) (bad w.flat u Bottom below None)
        (load_goes w units u n size Bottom below None k pc (pc + 1) stack st refl (stands_here u.ops pc _ _ has))
        (λ v st1. goes_then w.flat (at_op (pc + 1) (v ∷ stack) st1) (load_all (k + 1) count st1) (λ vs st2. Gives (v ∷ vs) st2) (λ vs st2. at_op (pc + 1 + count) (push_all vs (v ∷ stack)) st2) (λ vs st2. at_op (pc + suc count) (push_all vs stack) st2) (bad w.flat u Bottom below None)
        (load_all_goes (k + 1) count (pc + 1) (v ∷ stack) st1 (stands_rest u.ops pc (OpLocal k) (locals_code (k + 1) count) has))
        (λ vs st2. at_end w.flat u Bottom below (pc + 1 + count) (pc + suc count) (push_all vs (v ∷ stack)) st2 e))

    -- what a stub returns
    returned_goes : (gives : Option TypeTree) (vs : List FlatValue) (pc : ℕ) (st : State) → slice_get u.ops pc ≡ Some (OpReturn (flag gives)) → E (at_op pc (vs ++ []) st) (returned w u gives vs st)
    returned_goes None [] pc st at = return_goes w units u n size Bottom below None None pc [] st (ends_at u below up) plain at (here w.flat _)
    returned_goes None (v ∷ vs) pc st at = tt
    returned_goes (Some t) [] pc st at = tt
    returned_goes (Some t) (v ∷ []) pc st at = return_goes w units u n size Bottom below None (Some v) pc [] st (ends_at u below up) plain at (here w.flat _)
    returned_goes (Some t) (v ∷ x ∷ vs) pc st at = tt

  -- a unit of a module
  unit_goes : (m : ℕ) (name : List ℕ) (known : List TypeDecl) (before : ℕ) (v : ProgramUnit) (body : Body) (st : State) → Yields w.flat body below up
      → Goes w.flat (run w.flat (lowered_unit name known before v) Bottom below 0 [] st) (run_of w units m (from_unit name known before v) body st) (ends_at (lowered_unit name known before v) below up) (bad w.flat (lowered_unit name known before v) Bottom below None)
  unit_goes m name known before v body st yielding =
      let u = lowered_unit name known before v in
      let s = site_of name known before v in
      let size : length u.ops ≡ s.count = unit_length name known before v in
      let plain : is_body u ≡ false = kind_plain v.sort v.sig.iterator in
      let first_part = start_code v.sort (length v.clauses) in
      let code = body_code s v.body (body_start v) (body_end v) in
      let whole : StandsAt u.ops 0 u.ops = stands_whole u.ops [] in
      let has = stands_then u.ops 0 (body_start v) first_part (code ++ end_code v.sort) (omega (arith, start_length v.sort (length v.clauses))) whole in
      let lens : length code ≡ body_size v.body = body_length s v.body (body_start v) (body_end v) in
      let has_end = stands_then u.ops (body_start v) (body_end v) code (end_code v.sort) (omega (arith, lens)) has in
      let short : body_end v < length u.ops = shorter v.sort (length u.ops) size in
      let placed : Placed u.ops Bottom None (body_end v) (body_start v) code = record {
        stands = stands_first u.ops (body_start v) code (end_code v.sort) has;
        fits = omega (arith, lens);
        bound = short;
        inside = λ l a c. refl;
        behind = λ l a. absurd (cc);
        there = λ l a. absurd (cc);
        outer = λ p a c. starts p;
      } in
      start_goes u s.count size plain v.sort (length v.clauses) (λ st1. then_do (exec_body w units u s m v.body (body_start v) body st1) (ends_of w u v.sort)) st (stands_first u.ops 0 first_part (code ++ end_code v.sort) whole)
      (λ st1. ends_goes u s.count size plain v.sort (body_end v) (run w.flat u Bottom below (body_start v) [] st1) (exec_body w units u s m v.body (body_start v) body st1) has_end (lt-ltb (body_end v) (length u.ops) short)
      (body_runs w lowered units runs m u s size plain below up body yielding v.body (body_start v) (body_end v) (body_end v) (body_end v) None Bottom st1 refl placed))
    where
      u : FlatUnit
      u = lowered_unit name known before v

      -- something stands behind the statements
      shorter : (sort : UnitSort) (k : ℕ) → k ≡ start_size v.sort (length v.clauses) + body_size v.body + end_size sort → body_end v < k
      shorter of_routine k e = omega (arith, e)
      shorter (of_method c q) k e = omega (arith, e)
      shorter (of_init c) k e = omega (arith, e)

      -- no block stands before the statements
      starts : (p : ℕ) → cover_upto u.ops (body_start v) p ≡ None
      starts p =
          pass_part u.ops (start_code v.sort (length v.clauses)) 0 (body_start v) p (omega (arith, start_length v.sort (length v.clauses)))
          (stands_first u.ops 0 (start_code v.sort (length v.clauses)) _ (stands_whole u.ops [])) (start_passes v.sort (length v.clauses) p)

  -- the stub of a primitive
  primitive_goes : (name : List ℕ) (q : Primitive) (st : State)
      → Goes w.flat (run w.flat (primitive_stub name q) Bottom below 0 [] st) (primitive w (primitive_stub name q) q st) (ends_at (primitive_stub name q) below up) (bad w.flat (primitive_stub name q) Bottom below None)
  primitive_goes name q st =
      turn_goes w units u 5 refl Bottom below None 0 [] st (λ st1. then_do (load 0 st1) (λ a st2. then_do (load 1 st2) (λ b st3. compared a b st3))) (ends_at u below up) refl
      (λ st1. goes_then w.flat (run w.flat u Bottom below 1 [] st1) (load 0 st1) (λ a st2. then_do (load 1 st2) (λ b st3. compared a b st3)) (λ a st2. run w.flat u Bottom below 2 (a ∷ []) st2) (ends_at u below up) (bad w.flat u Bottom below None)
      (load_goes w units u 5 refl Bottom below None 0 1 2 [] st1 refl refl)
      (λ a st2. goes_then w.flat (run w.flat u Bottom below 2 (a ∷ []) st2) (load 1 st2) (λ b st3. compared a b st3) (λ b st3. run w.flat u Bottom below 3 (b ∷ a ∷ []) st3) (ends_at u below up) (bad w.flat u Bottom below None)
      (load_goes w units u 5 refl Bottom below None 1 2 3 (a ∷ []) st2 refl refl)
      (λ b st3. goes_op w.flat u Bottom below 3 (b ∷ a ∷ []) st3 (OpCompare (primitive_number q)) (compared a b st3) (ends_at u below up) (bad w.flat u Bottom below None) refl
      (goes_int w.flat (K a b st3) st3 (ends_at u below up) (bad w.flat u Bottom below None) a _ _
      (λ x. goes_int w.flat (K a b st3) st3 (ends_at u below up) (bad w.flat u Bottom below None) b _ _
      (λ y. return_goes w units u 5 refl Bottom below None (Some (truth (holds (primitive_number q) x y))) 4 [] st3 (ends_at u below up) refl refl (here w.flat _)))))))
    where
      u : FlatUnit
      u = primitive_stub name q

      K : FlatValue → FlatValue → State → Deed Act → Config
      K a b st3 = leads w.flat u Bottom below (OpCompare (primitive_number q)) NoLoop 3 (b ∷ a ∷ []) st3

      compared : FlatValue → FlatValue → State → Outcome How
      compared a b st3 = with_int a st3 (λ x. with_int b st3 (λ y. return_of w u (Some (truth (holds (primitive_number q) x y))) st3))

  -- the stub of a method
  method_goes : (name of hm m : List ℕ) (x : MethodShape) (body : Body) (k : ℕ) (st : State)
      → Goes w.flat (run w.flat (method_stub name of hm m x) Bottom below 0 [] st) (run_of w units k (from_method name of hm m x) body st) (ends_at (method_stub name of hm m x) below up) (bad w.flat (method_stub name of hm m x) Bottom below None)
  method_goes name of hm m x body k st =
      let view = w.flat.dispatched_result hm m in
      let last : FlatValue → List FlatValue → State → Outcome How = λ r vs st3. then_do (dispatch w hm m (r ∷ vs) st3) (λ t st4. then_do (call w units view (flag x.gives) t st4) (returned w u x.gives)) in
      goes_then w.flat (at_op u (x.formals + 4) size refl 0 [] st) (load 0 st) (λ v st1. then_do (cast_to w of hm v st1) (λ r st2. then_do (load_all 1 x.formals st2) (last r))) (λ v st1. at_op u (x.formals + 4) size refl 1 (v ∷ []) st1) (ends_at u below up) (bad w.flat u Bottom below None)
      (load_goes w units u (x.formals + 4) size Bottom below None 0 0 1 [] st refl refl)
      (λ v st1. goes_then w.flat (at_op u (x.formals + 4) size refl 1 (v ∷ []) st1) (cast_to w of hm v st1) (λ r st2. then_do (load_all 1 x.formals st2) (last r)) (λ r st2. at_op u (x.formals + 4) size refl 2 (r ∷ []) st2) (ends_at u below up) (bad w.flat u Bottom below None)
      (cast_goes w units u (x.formals + 4) size Bottom below None of hm v 1 2 [] st1 refl refl)
      (λ r st2. goes_with w.flat (λ vs. length vs ≡ x.formals) (at_op u (x.formals + 4) size refl 2 (r ∷ []) st2) (load_all 1 x.formals st2) (last r) (λ vs st3. at_op u (x.formals + 4) size refl (2 + x.formals) (push_all vs (r ∷ [])) st3) (ends_at u below up) (bad w.flat u Bottom below None)
      (load_all_count 1 x.formals st2)
      (load_all_goes u (x.formals + 4) size refl 1 x.formals 2 (r ∷ []) st2 (stands_first u.ops 2 locals tail has2))
      (λ vs st3 len. goes_then w.flat (at_op u (x.formals + 4) size refl (2 + x.formals) (push_all vs (r ∷ [])) st3) (dispatch w hm m (r ∷ vs) st3) (λ t st4. then_do (call w units view (flag x.gives) t st4) (returned w u x.gives)) (enters u Bottom below NoLoop (2 + x.formals) []) (ends_at u below up) (bad w.flat u Bottom below None)
      (dispatch_goes w lowered units u (x.formals + 4) size Bottom below None hm m (x.formals + 1) (flag x.gives) (r ∷ vs) NoLoop (2 + x.formals) [] st3 (omega (arith, len)) at)
      (λ t st4. goes_then w.flat (enters u Bottom below NoLoop (2 + x.formals) [] t st4) (call w units view (flag x.gives) t st4) (returned w u x.gives) (λ ys st5. at_op u (x.formals + 4) size refl (2 + x.formals + 1) (ys ++ []) st5) (ends_at u below up) (bad w.flat u Bottom below None)
      (call_goes w lowered units u (x.formals + 4) size Bottom below None (calls_run w units runs) view (flag x.gives) (2 + x.formals) (2 + x.formals + 1) [] t st4 refl (dispatch_backs w lowered units u (x.formals + 4) size Bottom below None hm m (x.formals + 1) (flag x.gives) (2 + x.formals) at) covers)
      (λ ys st5. returned_goes u (x.formals + 4) size refl x.gives ys (2 + x.formals + 1) st5 at_end1)))))
    where
      u : FlatUnit
      u = method_stub name of hm m x

      locals : List FlatOp
      locals = locals_code 1 x.formals

      call_it : FlatOp
      call_it = OpDispatch hm m (x.formals + 1) (flag x.gives) (x.formals + 4)

      tail : List FlatOp
      tail = call_it ∷ OpReturn (flag x.gives) ∷ []

      lens : length locals ≡ x.formals
      lens = locals_length 1 x.formals

      size : length u.ops ≡ x.formals + 4
      size = omega (arith, length-append locals tail, lens)

      whole : StandsAt u.ops 0 (OpLocal 0 ∷ OpCast of hm ∷ (locals ++ tail))
      whole = stands_whole u.ops []

      has2 : StandsAt u.ops 2 (locals ++ tail)
      has2 = stands_rest u.ops 1 (OpCast of hm) (locals ++ tail) (stands_rest u.ops 0 (OpLocal 0) (OpCast of hm ∷ (locals ++ tail)) whole)

      has3 : StandsAt u.ops (2 + x.formals) tail
      has3 = stands_then u.ops 2 (2 + x.formals) locals tail (omega (arith, lens)) has2

      at : slice_get u.ops (2 + x.formals) ≡ Some call_it
      at = stands_here u.ops (2 + x.formals) call_it (OpReturn (flag x.gives) ∷ []) has3

      at_end1 : slice_get u.ops (2 + x.formals + 1) ≡ Some (OpReturn (flag x.gives))
      at_end1 = stands_here u.ops (2 + x.formals + 1) (OpReturn (flag x.gives)) [] (stands_rest u.ops (2 + x.formals) call_it (OpReturn (flag x.gives) ∷ []) has3)

      covers : cover_upto u.ops (2 + x.formals) (2 + x.formals) ≡ None
      covers = pass_part u.ops locals 2 (2 + x.formals) (2 + x.formals) (omega (arith, lens)) (stands_first u.ops 2 locals tail has2) (locals_pass 1 x.formals (2 + x.formals))

-- the runs of units
pub level_run : (w : WordProgram) (lowered : AreLoweredFrom w) (k : ℕ) → UnitsRun w.flat (level w k)
level_run w lowered zero = record { by = λ g args body homes wd below up can yielding. tt }
level_run w lowered (suc k) = record { by = go (level_run w lowered k) }
  where
    source_goes : UnitsRun w.flat (level w k) → (g : Source) (body : Body) (below : Below) (up : Leave → State → Config) (st : State) → Yields w.flat body below up
        → Goes w.flat (run w.flat (flat_of g) Bottom below 0 [] st) (run_of w (level w k) (suc k) g body st) (ends_at (flat_of g) below up) (bad w.flat (flat_of g) Bottom below None)
    source_goes runs (from_unit name known before v) body below up st yielding = unit_goes w lowered (level w k) runs below up (suc k) name known before v body st yielding
    source_goes runs (from_primitive name q) body below up st yielding = primitive_goes w lowered (level w k) runs below up name q st
    source_goes runs (from_method name of hm m x) body below up st yielding = method_goes w lowered (level w k) runs below up name of hm m x body (suc k) st

    source_plain : (g : Source) → is_body (flat_of g) ≡ false
    source_plain (from_unit name known before v) = kind_plain v.sort v.sig.iterator
    source_plain (from_primitive name q) = refl
    source_plain (from_method name of hm m x) = refl

    go : UnitsRun w.flat (level w k) → (g : Source) (args : List FlatValue) (body : Body) (homes : List Locals) (wd : FlatWorld) (below : Below) (up : Leave → State → Config) → can_enter (flat_of g) (below homes) ≡ true → Yields w.flat body below up
        → Goes w.flat (Entering (flat_of g) args (below homes) wd) (level w (suc k) g args body homes wd) (fin below up) (thrown below)
    go runs g args body homes wd below up can yielding =
        let u = flat_of g in
        let st : State = record { locals = frame (words_of u) args; homes = homes; world = wd } in
        let enter : FlatWorld → Config = λ y. run w.flat u Bottom below 0 [] (with_world st (entered u y)) in
        let f : State → Outcome How = λ st1. closed (weight_of u) (run_of w (level w k) (suc k) g body (with_world st1 (entered u st1.world))) in
        let c = Entering u args (below homes) wd in
        let d : Bool → Deed Config = λ b. if b then record { charge = entry_charge u; act = enter } else free stuck in
        goes_after w.flat c (paid w.flat (entry_charge u) wd enter) (level w (suc k) g args body homes wd) (fin below up) (thrown below)
        (one w.flat c (paid w.flat (entry_charge u) wd enter) (ap (λ b. paid w.flat (d b).charge wd (d b).act) can))
        (goes_paid w.flat (entry_charge u) st enter f (fin below up) (thrown below)
        (λ y. closed_goes w lowered (level w k) runs below up u (enter y) (run_of w (level w k) (suc k) g body (with_world st (entered u y))) (source_plain g)
        (source_goes runs g body below up (with_world st (entered u y)) yielding)))

-- a run that comes to its end
module _ (w : WordProgram) where
  abbrev top : Below
  top hs = Bottom

  over_so : (c d : Config) (s : Stand) → Comes w.flat c d → flat_stand_of w.flat d ≡ s → (n : ℕ) × (flat_stand_of w.flat (steps w.flat n c) ≡ s)
  over_so c d s g e = (g.count, ap (λ x. flat_stand_of w.flat x) g.is ∙ e)

  ends_so : (c : Config) (r : Outcome How) → IsFit r → Goes w.flat c r (fin top no_up) (thrown top) → (n : ℕ) × (flat_stand_of w.flat (steps w.flat n c) ≡ stand_of r)
  ends_so c (Gives Done st) fit g = over_so c _ _ g refl
  ends_so c (Gives Exit st) fit g = over_so c _ _ g refl
  ends_so c (Gives (Return v) st) fit g = over_so c (Over Ends st.world) _ (comes_on w.flat c (Returned Fine v Bottom st.world) (Over Ends st.world) g (one w.flat _ _ refl)) refl
  ends_so c (Gives (Cut l) st) fit g = over_so c _ _ g refl
  ends_so c (Throws x v st) fit g = over_so c (Over (Raises x) st.world) _ (comes_on w.flat c (Returned (Thrown x v) None Bottom st.world) (Over (Raises x) st.world) g (one w.flat _ _ refl)) refl
  ends_so c (Halted OutOfTurns wd) fit g = over_so c _ _ g refl
  ends_so c (Halted OutOfRoom wd) fit g = over_so c _ _ g refl
  ends_so c (Halted Unset wd) fit g = over_so c _ _ g refl
  ends_so c (Halted Stuck wd) fit g = absurd fit
  ends_so c (Halted Deep wd) fit g = absurd fit

  stopped : (r : Outcome How) → (stand_of r).end ≡ GoesOn → ⊥
  stopped (Gives how st) e = cc
  stopped (Throws x v st) e = cc
  stopped (Halted OutOfTurns wd) e = cc
  stopped (Halted OutOfRoom wd) e = cc
  stopped (Halted Unset wd) e = cc
  stopped (Halted Stuck wd) e = cc
  stopped (Halted Deep wd) e = cc

  run_by : (lowered : AreLoweredFrom w) (input : List ℕ) (room : Option ℕ) (turns : ℕ) (o : Option Source) → w.flat.main ≡ option_map flat_of o → IsFit (outcome_of w o (start input room turns)) → FlatRun w.flat input room turns (stand_of (outcome_of w o (start input room turns)))
  run_by lowered input room turns None e fit = absurd fit
  run_by lowered input room turns (Some g) e fit = entered_by (not (is_iterator (flat_of g)) && not (is_body (flat_of g))) refl fit
    where
      wd : FlatWorld
      wd = start input room turns

      empty : State
      empty = record { locals = []; homes = []; world = wd }

      r : Outcome How
      r = level w (suc turns) g [] no_body [] wd

      entered_by : (b : Bool) → (not (is_iterator (flat_of g)) && not (is_body (flat_of g))) ≡ b → IsFit (given b empty r) → FlatRun w.flat input room turns (stand_of (given b empty r))
      entered_by false is fit1 = absurd fit1
      entered_by true is fit1 =
          let c = Entering (flat_of g) [] Bottom wd in
          let k = ends_so c r fit1 ((level_run w lowered (suc turns)).by g [] no_body [] wd top no_up is (no_yields w.flat top no_up)) in
          record {
            count = k.0;
            is = ap (λ m. flat_stand_of w.flat (steps w.flat k.0 (begin m wd))) e ∙ k.1;
            over = λ q. stopped r q;
          }

-- a run comes to its end in one way
module _ (p : FlatProgram) where
  stays : (k : ℕ) (e : FlatEnd) (wd : FlatWorld) → steps p k (Over e wd) ≡ Over e wd
  stays zero e wd = refl
  stays (suc k) e wd = stays k e wd

  first_over : (k : ℕ) (c : Config) → (end_of_config c ≡ GoesOn → ⊥) → flat_stand_of p c ≡ flat_stand_of p (steps p k c)
  first_over k (Run u at loop h held bel wd) over = absurd (over refl)
  first_over k (Entering u args bel wd) over = absurd (over refl)
  first_over k (Visiting v u at ls held bel wd) over = absurd (over refl)
  first_over k (Returned s v bel wd) over = absurd (over refl)
  first_over k (Putting bytes u at h held bel wd) over = absurd (over refl)
  first_over k (Over e wd) over = ap (λ c. flat_stand_of p c) (sym (stays k e wd))

  alike : (j k : ℕ) (c : Config) → (end_of_config (steps p j c) ≡ GoesOn → ⊥) → (end_of_config (steps p k c) ≡ GoesOn → ⊥) → flat_stand_of p (steps p j c) ≡ flat_stand_of p (steps p k c)
  alike zero k c a b = first_over k c a
  alike (suc j) zero c a b = sym (first_over (suc j) c b)
  alike (suc j) (suc k) c a b = alike j k (step p c) a b

  pub runs_alike : (input : List ℕ) (room : Option ℕ) (turns : ℕ) (s t : Stand) → FlatRun p input room turns s → FlatRun p input room turns t → s ≡ t
  runs_alike input room turns s t g k =
      sym g.is ∙ alike g.count k.count (begin p.main (start input room turns)) (λ e. g.over (sym (ap (λ z. z.end) g.is) ∙ e)) (λ e. k.over (sym (ap (λ z. z.end) k.is) ∙ e)) ∙ k.is

pub runs_on_words : RunsAreThoseOnWords
runs_on_words w lowered input room turns fit =
    let run1 = run_by w lowered input room turns w.main lowered.main fit in
    record { run = run1; only = λ other g. runs_alike w.flat input room turns other (words_run w input room turns) g run1 }
