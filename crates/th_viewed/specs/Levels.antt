-- The runs of units on words, and of whole programs.
use Rattle.std.specs.Prelude.{ℕ, zero, suc, ◌+◌, ◌&&◌, not, List, [], ◌∷◌, length, Option, Some, None}
use Rattle.th_runs.specs.Stand.{Ended, Raised, Stand}
use Rattle.th_meaning.specs.declared.types.Primitive.{Primitive}
use Rattle.th_meaning.specs.Trees.{TypeTree}
use Rattle.th_meaning.specs.Program.{UnitSort, of_routine, of_method, of_init}
use Rattle.th_meaning.specs.World.{Unset, Stuck, Deep, OutOfTurns, OutOfRoom, give_back}
use Rattle.th_flat.specs.declared.module.FlatUnit.{FlatUnit}
use Rattle.th_flat.specs.Values.{FlatValue, FlatWorld, truth}
use Rattle.th_flat.specs.Deeds.{takes_turns, holds}
use Rattle.th_flat.specs.Configs.{is_body, is_iterator, Halts, weight_of, entry_charge, entered, frame, words_of}
use Rattle.th_flat.specs.Runs.{stand_end, start}
use Rattle.th_lowering.specs.Stubs.{primitive_number, flag}
use Rattle.th_lowering.specs.Units.{body_start, site_of}
use Rattle.th_viewed.specs.Sources.{Source, from_unit, from_primitive, from_method, flat_of, WordProgram}
use Rattle.th_viewed.specs.Evaluation.{State, Outcome, Gives, Throws, Halted, How, Done, Exit, Return, Cut, then_do, with_world, stuck, pay, with_int, given, load, Body, no_body, Units, call, dispatch, cast_to, own, set_field_of, return_of, exec_body}

-- the words of locals, from the local k on, so many of them
abbrev pub load_all : (k count : ℕ) → State → Outcome (List FlatValue)
load_all k zero st = Gives [] st
load_all k (suc n) st = then_do (load k st) (λ v st1. then_do (load_all (k + 1) n st1) (λ vs st2. Gives (v ∷ vs) st2))

-- the room of an open call is given back as it ends
abbrev pub closed : (weight : ℕ) → Outcome How → Outcome How
closed k (Gives how st) = Gives how (with_world st (give_back k st.world))
closed k (Throws x v st) = Throws x v (with_world st (give_back k st.world))
closed k (Halted h w) = Halted h w

module _ (w : WordProgram) (u : FlatUnit) where
  -- an initializer of a class sets the where-words k, k + 1 and so on of the new object, so many of them; their local words stand
  -- behind the receiver
  abbrev pub keep : (class : List ℕ) → (k count : ℕ) → (State → Outcome How) → State → Outcome How
  keep c k zero f st = f st
  keep c k (suc n) f st = then_do (load (k + 1) st) (λ v st1. set_field_of w u c k v st1 (keep c (k + 1) n f))

  -- what stands before a unit's statements
  abbrev pub start_of : UnitSort → (clauses : ℕ) → (State → Outcome How) → State → Outcome How
  start_of of_routine n f st = f st
  start_of (of_method c m) n f st = f st
  start_of (of_init c) n f st = keep c 0 n f st

  -- what stands behind a unit's statements: it returns, an initializer with the object
  abbrev pub end_of : UnitSort → State → Outcome How
  end_of of_routine st = return_of w u None st
  end_of (of_method c m) st = return_of w u None st
  end_of (of_init c) st = then_do (own w u c st) (λ v st1. return_of w u (Some v) st1)

  -- how a unit ends whose statements ended so
  abbrev pub ends_of : UnitSort → How → State → Outcome How
  ends_of sort Done st = end_of sort st
  ends_of sort Exit st = end_of sort st
  ends_of sort (Return v) st = Gives (Return v) st
  ends_of sort (Cut l) st = Gives (Cut l) st

  -- a primitive of two words
  abbrev pub primitive : Primitive → State → Outcome How
  primitive q st = pay (takes_turns 1) st (λ st1. then_do (load 0 st1) (λ a st2. then_do (load 1 st2) (λ b st3.
      with_int a st3 (λ x. with_int b st3 (λ y. return_of w u (Some (truth (holds (primitive_number q) x y))) st3)))))

  -- what a stub returns of what its method gave: a word where the method gives one
  abbrev pub returned : Option TypeTree → List FlatValue → State → Outcome How
  returned None [] st = return_of w u None st
  returned None (v ∷ vs) st = stuck st
  returned (Some t) [] st = stuck st
  returned (Some t) (v ∷ []) st = return_of w u (Some v) st
  returned (Some t) (v ∷ x ∷ vs) st = stuck st

module _ (w : WordProgram) (units : Units) where
  -- the statements of a unit, or what a stub does
  abbrev pub run_of : (n : ℕ) → Source → Body → State → Outcome How
  run_of n (from_unit m known before u) body st =
      start_of w (flat_of (from_unit m known before u)) u.sort (length u.clauses)
      (λ st1. then_do (exec_body w units (flat_of (from_unit m known before u)) (site_of m known before u) n u.body (body_start u) body st1) (ends_of w (flat_of (from_unit m known before u)) u.sort)) st
  run_of n (from_primitive name q) body st = primitive w (flat_of (from_primitive name q)) q st
  run_of n (from_method name of h m x) body st =
      then_do (load 0 st) (λ v st1. then_do (cast_to w of h v st1) (λ r st2. then_do (load_all 1 x.formals st2)
      (λ vs st3. then_do (dispatch w h m (r ∷ vs) st3) (λ t st4. then_do (call w units (w.flat.dispatched_result h m) (flag x.gives) t st4) (returned w (flat_of (from_method name of h m x)) x.gives)))))

-- the runs of units with at most n calls open within one another
abbrev pub level : WordProgram → ℕ → Units
level w zero g args body homes wd = Halted Deep wd
level w (suc n) g args body homes wd =
    pay (entry_charge (flat_of g)) (record { locals = frame (words_of (flat_of g)) args; homes = homes; world = wd })
    (λ st. closed (weight_of (flat_of g)) (run_of w (level w n) (suc n) g body (with_world st (entered (flat_of g) st.world))))

-- the outcome of `main`
abbrev pub outcome_of : WordProgram → Option Source → FlatWorld → Outcome How
outcome_of w None wd = Halted Stuck wd
outcome_of w (Some g) wd = given (not (is_iterator (flat_of g)) && not (is_body (flat_of g))) (record { locals = []; homes = []; world = wd }) (level w (suc wd.turns) g [] no_body [] wd)

-- how a run stands after its first unit came to this outcome
abbrev pub stand_of : Outcome How → Stand
stand_of (Gives how st) = record { end = Ended; trace = st.world.trace }
stand_of (Throws x v st) = record { end = Raised x; trace = st.world.trace }
stand_of (Halted h wd) = record { end = stand_end (Halts h); trace = wd.trace }

-- the outcome of a run on an input with so much room (None: unlimited) and so many turns, and how it stands
abbrev pub words_outcome : WordProgram → (input : List ℕ) → (room : Option ℕ) → (turns : ℕ) → Outcome How
words_outcome w input room turns = outcome_of w w.main (start input room turns)

abbrev pub words_run : WordProgram → (input : List ℕ) → (room : Option ℕ) → (turns : ℕ) → Stand
words_run w input room turns = stand_of (words_outcome w input room turns)

-- the run isn't stuck, and no bound of the definition ran out
abbrev pub IsFit : {A : Type 0} → Outcome A → Type 0
IsFit (Gives a st) = Unit {0}
IsFit (Throws x v st) = Unit {0}
IsFit (Halted OutOfTurns wd) = Unit {0}
IsFit (Halted OutOfRoom wd) = Unit {0}
IsFit (Halted Unset wd) = Unit {0}
IsFit (Halted Stuck wd) = ⊥
IsFit (Halted Deep wd) = ⊥
