-- Calls: their turn, and the unit that is entered.
use Rattle.std.proofs.Common.{◌≡◌, refl, sym, ap, ◌∙◌, subst, ℕ, List, [], ◌∷◌, ◌++◌, map, replicate, Option, Some, None}
use denote.Ref.{Bor}
use Rattle.th_world.specs.Event.{Entered}
use Rattle.th_meaning.specs.declared.stmt.CoreBody.{CoreBody}
use Rattle.th_meaning.specs.Trees.{BodyTree}
use Rattle.th_meaning.specs.View.{unit_of, body_of}
use Rattle.th_meaning.specs.Program.{Program, ProgramUnit, unit_named}
use Rattle.th_meaning.specs.Counts.{unit_locals, call_weight}
use Rattle.th_meaning.specs.World.{World, Effect, Did, Fails, Stops, Halt, Stuck, OutOfTurns, OutOfRoom, and_then, spend, reserve, enter, note}
use Rattle.th_meaning.specs.Meaning.{Value, Outcome, Gives, Raises, Halts, State, Frame, Target as TheTarget, Enters, Known, then_do, act, aimed, with_world, frame_of}
use Rattle.th_steps.specs.Machine.{Machine, At, Stopped, Loop, no_loop, a_loop, Rest, at_end, then_close, then_back, then_for, Callee, Purpose, a_use, a_for, call_of, now_body, on_some, begin, enter_at, first_at, args_done}
use Rattle.th_control.specs.declared.control.Control.{Control}
use Rattle.th_control.specs.declared.control.Home.{Home}
use Rattle.th_control.specs.declared.control.Rest.{Rest as CodeRest}
use Rattle.th_control.specs.declared.control.Now.TheVariants.{Body}
use Rattle.th_control.specs.declared.control.Rest.TheVariants.{Close}
use Rattle.th_control.specs.Config.{now_of, loop_of, rest_of, frames_of, state_of, machine_at}
use Rattle.th_control.specs.Acts.{the_loop, the_rest}
use Rattle.th_store.specs.Stock.{Stock}
use Rattle.th_store.specs.Charges.{with_left}
use Rattle.th_store.specs.Alike.{Alike}
use Rattle.th_store.proofs.Charges.{left_alike}
use Rattle.th_units.specs.declared.units.UnitRow.{UnitRow}
use Rattle.th_units.specs.Units.{IsNamed, FindsUnit}
use Rattle.th_frames.specs.Opened.{opened}
use Rattle.th_acts.specs.declared.runner.Runner.{Runner}
use Rattle.th_acts.specs.declared.runner.Over.TheVariants.{NoTurns, NoRoom, Stuck as CodeStuck}
use Rattle.th_acts.specs.declared.runner.Next.{Next}
use Rattle.th_acts.specs.declared.runner.Next.TheVariants.{Go, Over}
use Rattle.th_acts.specs.Stands.{Told, Stands, Leads}
use Rattle.th_acts.specs.Admits.{LetIn, KeptOut, Admits}
use Rattle.th_acts.specs.First.{FindsFirst}
use Rattle.th_acts.specs.Targets.{target_of, EntersUnit}
use Rattle.th_acts.proofs.Acts.{goes_on, stops, stands_same}
use Rattle.th_acts.proofs.Aiming.{aimed_is}
use Rattle.th_acts.proofs.Charging.{some_did, some_stopped}
use Rattle.th_acts.proofs.Entering.{stands_entered}

-- nothing is called
pub call_nothing : (p : Program) (c : Callee) (vs : List Value) (purpose : Purpose) (lp : Loop) (k : Rest) (st : State) → target_of p c vs st.world ≡ None
    → args_done p vs (call_of c purpose) lp k st ≡ Stopped (Halts Stuck st.world)
call_nothing p c vs purpose lp k st none =
    ap (λ o. on_some o lp k (λ t st1. begin p t purpose lp k st1)) (aimed_is p c vs st)
    ∙ ap (λ o. on_some (aimed o st) lp k (λ t st1. begin p t purpose lp k st1)) none

then_gives : {A B : Type 0} → (o : Outcome A) (b : B) (lp : Loop) (k : Rest) (go : B → State → Machine) → on_some (then_do o (λ _ st1. Gives b st1)) lp k go ≡ on_some o lp k (λ _ st1. go b st1)
then_gives (Gives a st) b lp k go = refl
then_gives (Raises x v st) b lp k go = refl
then_gives (Halts h w) b lp k go = refl

-- a target is called, once its turn is taken
pub call_some : (p : Program) (c : Callee) (vs : List Value) (purpose : Purpose) (lp : Loop) (k : Rest) (st : State) (t : TheTarget) → target_of p c vs st.world ≡ Some t
    → args_done p vs (call_of c purpose) lp k st ≡ on_some (act (spend 1 st.world) st) lp k (λ _ st1. begin p t purpose lp k st1)
call_some p c vs purpose lp k st t some =
    ap (λ o. on_some o lp k (λ t1 st1. begin p t1 purpose lp k st1)) (aimed_is p c vs st)
    ∙ ap (λ o. on_some (aimed o st) lp k (λ t1 st1. begin p t1 purpose lp k st1)) some
    ∙ then_gives (act (spend 1 st.world) st) t lp k (λ t1 st1. begin p t1 purpose lp k st1)

module _ (e : Told) (r : Runner) (left now : Option (List ℕ)) (w : World Value) (c : Callee) (vs vs1 : List Value) (purpose : Purpose) (k : Control) (same : vs1 ≡ vs) where
  -- a call of nothing
  pub nothing_leads : Stands e r left now w → target_of e.program c vs1 w ≡ None
      → Leads e r left now (Over CodeStuck) (args_done e.program vs (call_of c purpose) (the_loop k) (the_rest k) (state_of k w))
  nothing_leads h none =
      stops e r left now w CodeStuck Stuck _ h refl (call_nothing e.program c vs purpose (the_loop k) (the_rest k) (state_of k w) (ap (λ xs. target_of e.program c xs w) (sym same) ∙ none))

  -- a call of a unit
  pub enters_leads : (next : Next) (unit : Option UnitRow) (receiver : Option ℕ) → EntersUnit e.program vs1 unit receiver (target_of e.program c vs1 w)
      → ((name : List ℕ) → FindsUnit e.program name unit → Leads e r left now next (on_some (act (spend 1 w) (state_of k w)) (the_loop k) (the_rest k)
      (λ _ st. begin e.program (Enters name receiver vs) purpose (the_loop k) (the_rest k) st)))
      → Leads e r left now next (args_done e.program vs (call_of c purpose) (the_loop k) (the_rest k) (state_of k w))
  enters_leads next unit receiver enters h =
      let t : EntersUnit e.program vs unit receiver (target_of e.program c vs w) = subst (λ xs. EntersUnit e.program xs unit receiver (target_of e.program c xs w)) same enters in
      subst (Leads e r left now next) (sym (call_some e.program c vs purpose (the_loop k) (the_rest k) (state_of k w) (Enters t.unit receiver vs) t.is)) (h t.unit t.row)

  -- a call whose value is known
  pub known_leads : (next : Next) (v : Value) → target_of e.program c vs1 w ≡ Some (Known v)
      → Leads e r left now next (on_some (act (spend 1 w) (state_of k w)) (the_loop k) (the_rest k) (λ _ st. begin e.program (Known v) purpose (the_loop k) (the_rest k) st))
      → Leads e r left now next (args_done e.program vs (call_of c purpose) (the_loop k) (the_rest k) (state_of k w))
  known_leads next v known h =
      subst (Leads e r left now next)
      (sym (call_some e.program c vs purpose (the_loop k) (the_rest k) (state_of k w) (Known v) (ap (λ xs. target_of e.program c xs w) (sym same) ∙ known))) h

module _ (e : Told) (left now : Option (List ℕ)) (w : World Value) (c : Control) where
  -- there is no turn
  pub turn_short : (old new : Runner) (go : Unit {0} → State → Machine) → Stands e old left now w → new.tables ≡ old.tables → new.entered ≡ old.entered → new.store ≡ old.store
      → spend 1 w ≡ Stops OutOfTurns w → Leads e new left now (Over NoTurns) (on_some (act (spend 1 w) (state_of c w)) (the_loop c) (the_rest c) go)
  turn_short old new go h tables entered store short =
      stops e new left now w NoTurns OutOfTurns _ (stands_same e old new left now w h tables entered store) refl
      (some_stopped (spend 1 w) OutOfTurns w (state_of c w) (the_loop c) (the_rest c) go short)

  -- a turn is taken
  pub turn_taken : (new : Runner) (v : World Value) (next : Next) (go : Unit {0} → State → Machine) → spend 1 w ≡ Did tt v → Leads e new left now next (go tt (state_of c v))
      → Leads e new left now next (on_some (act (spend 1 w) (state_of c w)) (the_loop c) (the_rest c) go)
  turn_taken new v next go taken h = subst (Leads e new left now next) (sym (some_did (spend 1 w) tt v (state_of c w) (the_loop c) (the_rest c) go taken)) h

-- the unit isn't there
pub begin_nothing : (p : Program) (name : List ℕ) (receiver : Option ℕ) (args : List Value) (purpose : Purpose) (lp : Loop) (k : Rest) (st : State)
    → unit_named p name ≡ None → begin p (Enters name receiver args) purpose lp k st ≡ Stopped (Halts Stuck st.world)
begin_nothing p name receiver args (a_use u) lp k st none = ap (λ o. enter_at o receiver args no_loop (then_back u st.frame st.homes lp k) [] st.world) none
begin_nothing p name receiver args (a_for x b) lp k st none = ap (λ o. enter_at o receiver args (a_loop x b lp) (then_for lp k) (st.frame ∷ st.homes) st.world) none

-- the unit is entered
enter_did : (u : ProgramUnit) (receiver : Option ℕ) (args : List Value) (lp : Loop) (k : Rest) (homes : List Frame) (w v : World Value) → enter (call_weight u) u.name w ≡ Did tt v
    → enter_at (Some u) receiver args lp k homes w ≡ At (now_body u.body) lp (then_close (call_weight u) k) (record { frame = frame_of u receiver args; homes = homes; world = v })
enter_did u receiver args lp k homes w v did =
    some_did (enter (call_weight u) u.name w) tt v (record { frame = frame_of u receiver args; homes = homes; world = w }) lp k (λ _ st. At (now_body u.body) lp (then_close (call_weight u) k) st) did

-- there is too little room for it
enter_short : (u : ProgramUnit) (receiver : Option ℕ) (args : List Value) (lp : Loop) (k : Rest) (homes : List Frame) (w : World Value) → enter (call_weight u) u.name w ≡ Stops OutOfRoom w
    → enter_at (Some u) receiver args lp k homes w ≡ Stopped (Halts OutOfRoom w)
enter_short u receiver args lp k homes w short =
    some_stopped (enter (call_weight u) u.name w) OutOfRoom w (record { frame = frame_of u receiver args; homes = homes; world = w }) lp k (λ _ st. At (now_body u.body) lp (then_close (call_weight u) k) st) short

module _ (p : Program) (name : List ℕ) (u : ProgramUnit) (receiver : Option ℕ) (args : List Value) where
  pub begin_opened : (purpose : Purpose) (lp : Loop) (k : Rest) (st : State) (v : World Value) → unit_named p name ≡ Some u → enter (call_weight u) u.name st.world ≡ Did tt v
      → begin p (Enters name receiver args) purpose lp k st ≡ opened purpose (frame_of u receiver args) (call_weight u) u.body lp k (with_world st v)
  begin_opened (a_use x) lp k st v there did =
      ap (λ o. enter_at o receiver args no_loop (then_back x st.frame st.homes lp k) [] st.world) there
      ∙ enter_did u receiver args no_loop (then_back x st.frame st.homes lp k) [] st.world v did
  begin_opened (a_for x b) lp k st v there did =
      ap (λ o. enter_at o receiver args (a_loop x b lp) (then_for lp k) (st.frame ∷ st.homes) st.world) there
      ∙ enter_did u receiver args (a_loop x b lp) (then_for lp k) (st.frame ∷ st.homes) st.world v did

  pub begin_short : (purpose : Purpose) (lp : Loop) (k : Rest) (st : State) → unit_named p name ≡ Some u → enter (call_weight u) u.name st.world ≡ Stops OutOfRoom st.world
      → begin p (Enters name receiver args) purpose lp k st ≡ Stopped (Halts OutOfRoom st.world)
  begin_short (a_use x) lp k st there short =
      ap (λ o. enter_at o receiver args no_loop (then_back x st.frame st.homes lp k) [] st.world) there
      ∙ enter_short u receiver args no_loop (then_back x st.frame st.homes lp k) [] st.world short
  begin_short (a_for x b) lp k st there short =
      ap (λ o. enter_at o receiver args (a_loop x b lp) (then_for lp k) (st.frame ∷ st.homes) st.world) there
      ∙ enter_short u receiver args (a_loop x b lp) (then_for lp k) (st.frame ∷ st.homes) st.world short

module _ (e : Told) (left now : Option (List ℕ)) (w : World Value) (name : List ℕ) (row : UnitRow) (receiver : Option ℕ) (args : List Value) where
  -- a unit for which there is too little room
  pub row_short : (c : Control) (new : Runner) (purpose : Purpose) → IsNamed e.program name row → KeptOut e (unit_of row.unit.now) new left now w
      → Leads e new left now (Over NoRoom) (begin e.program (Enters name receiver args) purpose (the_loop c) (the_rest c) (state_of c w))
  row_short c new purpose is out =
      stops e new left now w NoRoom OutOfRoom _ out.stands refl (begin_short e.program name (unit_of row.unit.now) receiver args purpose (the_loop c) (the_rest c) (state_of c w) is.unit out.short)

  -- a unit that is entered
  pub row_entered : (c : Control) (mid new : Runner) (frame : Frame) (purpose : Purpose) (b : Bor CoreBody) → IsNamed e.program name row → LetIn e (unit_of row.unit.now) receiver args frame mid left now w
      → mid.control ≡ c → new.tables ≡ mid.tables → new.entered ≡ mid.entered → new.store ≡ mid.store → body_of b.now ≡ (unit_of row.unit.now).body
      → ((body : BodyTree) (v : World Value) → machine_at (now_body body) new.control v ≡ opened purpose frame row.weight body (the_loop mid.control) (the_rest mid.control) (state_of mid.control v))
      → Leads e new left now (Go (Body b)) (begin e.program (Enters name receiver args) purpose (the_loop c) (the_rest c) (state_of c w))
  row_entered c mid new frame purpose b is let_in same tables entered store body opens =
      let u = unit_of row.unit.now in
      let v = let_in.world in
      goes_on e new left now v (Body b) _ (stands_same e mid new left now v let_in.stands tables entered store)
      (begin_opened e.program name u receiver args purpose (the_loop c) (the_rest c) (state_of c w) v is.unit let_in.did
      ∙ ap (λ d. opened purpose (frame_of u receiver args) (call_weight u) u.body (the_loop d) (the_rest d) (state_of d v)) (sym same)
      ∙ ap (λ f. opened purpose f (call_weight u) u.body (the_loop mid.control) (the_rest mid.control) (state_of mid.control v)) (sym let_in.frame_is)
      ∙ ap (λ n. opened purpose frame n u.body (the_loop mid.control) (the_rest mid.control) (state_of mid.control v)) (sym is.weight)
      ∙ sym (opens u.body v)
      ∙ ap (λ t. machine_at (now_body t) new.control v) (sym body))

at_first : (b : BodyTree) (hs : List Home) (ks : List CodeRest) (f g : Frame) (weight n : ℕ) (v : World Value) → hs ≡ [] → ks ≡ Close weight ∷ [] → f ≡ g → weight ≡ n
    → At (now_body b) no_loop (then_close n at_end) (record { frame = g; homes = []; world = v }) ≡ At (now_body b) (loop_of hs) (rest_of (loop_of hs) ks) (record { frame = f; homes = frames_of hs; world = v })
at_first b hs ks f g weight n v none rest frame same =
    ap (λ m. At (now_body b) no_loop (then_close m at_end) (record { frame = g; homes = []; world = v })) (sym same)
    ∙ ap (λ x. At (now_body b) no_loop (then_close weight at_end) (record { frame = x; homes = []; world = v })) (sym frame)
    ∙ ap (λ xs. At (now_body b) no_loop (rest_of no_loop xs) (record { frame = f; homes = []; world = v })) (sym rest)
    ∙ ap (λ xs. At (now_body b) (loop_of xs) (rest_of (loop_of xs) ks) (record { frame = f; homes = frames_of xs; world = v })) (sym none)

module _ (e : Told) (left now : Option (List ℕ)) (w : World Value) (name : List ℕ) (row : UnitRow) where
  -- the first unit, for which there is too little room
  pub first_short : (new : Runner) → IsNamed e.program name row → KeptOut e (unit_of row.unit.now) new left now w
      → Leads e new left now (Over NoRoom) (enter_at (unit_named e.program name) None [] no_loop at_end [] w)
  first_short new is out =
      stops e new left now w NoRoom OutOfRoom _ out.stands refl
      (ap (λ o. enter_at o None [] no_loop at_end [] w) is.unit ∙ enter_short (unit_of row.unit.now) None [] no_loop at_end [] w out.short)

  -- the first unit
  pub first_entered : (old mid new : Runner) (frame : Frame) (b : Bor CoreBody) → IsNamed e.program name row → LetIn e (unit_of row.unit.now) None [] frame mid left now w
      → mid.control ≡ old.control → old.control.rest ≡ [] → old.control.homes ≡ [] → new.tables ≡ mid.tables → new.entered ≡ mid.entered → new.store ≡ mid.store → body_of b.now ≡ (unit_of row.unit.now).body
      → new.control.homes ≡ mid.control.homes → new.control.frame ≡ frame → new.control.rest ≡ Close row.weight ∷ mid.control.rest
      → Leads e new left now (Go (Body b)) (enter_at (unit_named e.program name) None [] no_loop at_end [] w)
  first_entered old mid new frame b is let_in same rest homes tables entered store body homes1 frame1 rest1 =
      let u = unit_of row.unit.now in
      let v = let_in.world in
      goes_on e new left now v (Body b) _ (stands_same e mid new left now v let_in.stands tables entered store)
      (ap (λ o. enter_at o None [] no_loop at_end [] w) is.unit
      ∙ enter_did u None [] no_loop at_end [] w v let_in.did
      ∙ at_first u.body new.control.homes new.control.rest new.control.frame (frame_of u None []) row.weight (call_weight u) v
      (homes1 ∙ ap (λ c. c.homes) same ∙ homes) (rest1 ∙ ap (λ c. Close row.weight ∷ c.rest) same ∙ ap (λ ks. Close row.weight ∷ ks) rest) (frame1 ∙ let_in.frame_is) is.weight
      ∙ ap (λ t. machine_at (now_body t) new.control v) (sym body))

entered_did : (weight : ℕ) (name : List ℕ) (w v : World Value) → reserve weight w ≡ Did tt v → enter weight name w ≡ Did tt (note (Entered name) v)
entered_did weight name w v h = ap (λ x. and_then x (λ _ w1. Did tt (note (Entered name) w1))) h

entered_short : (weight : ℕ) (name : List ℕ) (w v : World Value) → reserve weight w ≡ Stops OutOfRoom v → enter weight name w ≡ Stops OutOfRoom v
entered_short weight name w v h = ap (λ x. and_then x (λ _ w1. Did tt (note (Entered name) w1))) h

module _ (e : Told) (left now : Option (List ℕ)) (w : World Value) (name : List ℕ) (row : UnitRow) where
  -- too little room
  pub kept_out : (old new : Runner) → Stands e old left now w → IsNamed e.program name row → reserve row.weight w ≡ Stops OutOfRoom w → new.tables ≡ old.tables → new.entered ≡ old.entered → new.store ≡ old.store
      → KeptOut e (unit_of row.unit.now) new left now w
  kept_out old new h is short tables entered store = record {
    short = entered_short (call_weight (unit_of row.unit.now)) (unit_of row.unit.now).name w w (ap (λ k. reserve k w) (sym is.weight) ∙ short);
    stands = stands_same e old new left now w h tables entered store;
  }

  -- room, and the number of the unit
  pub let_in : (receiver : Option ℕ) (args : List Value) (locals : List (Option Value)) (frame : Frame) (old new : Runner) → Stands e old left now w → IsNamed e.program name row
      → reserve row.weight w ≡ Did tt (with_left new.store w) → new.tables ≡ old.tables → new.store.objects ≡ old.store.objects → new.entered.items ≡ old.entered.items ++ row.number ∷ []
      → locals ≡ map Some args ++ replicate row.locals None → frame ≡ record { receiver = receiver; locals = locals }
      → LetIn e (unit_of row.unit.now) receiver args frame new left now w
  let_in receiver args locals frame old new h is room tables objects more bound is_frame = record {
    world = note (Entered name) (with_left new.store w);
    did =
        entered_did (call_weight (unit_of row.unit.now)) (unit_of row.unit.now).name w (with_left new.store w) (ap (λ k. reserve k w) (sym is.weight) ∙ room)
        ∙ ap (λ n. Did tt (note (Entered n) (with_left new.store w))) is.name;
    stands = stands_entered e old new left now w name row.number h tables objects more is.number;
    frame_is =
        is_frame
        ∙ ap (λ xs. record { receiver = receiver; locals = xs }) bound
        ∙ ap (λ n. record { receiver = receiver; locals = map Some args ++ replicate n None }) is.locals;
  }

-- there is no first unit
pub no_first : (e : Told) (r : Runner) (left now : Option (List ℕ)) (w : World Value) (main : Option ProgramUnit) → Stands e r left now w → FindsFirst e.program main None → Leads e r left now (Over CodeStuck) (first_at e.program main w)
no_first e r left now w None h finds = stops e r left now w CodeStuck Stuck _ h refl refl
no_first e r left now w (Some main) h finds = stops e r left now w CodeStuck Stuck _ h refl (ap (λ o. enter_at o None [] no_loop at_end [] w) finds)

-- there is one
pub first_row : (e : Told) (r : Runner) (left now : Option (List ℕ)) (w : World Value) (row : UnitRow) (next : Next) (main : Option ProgramUnit) → FindsFirst e.program main (Some row)
    → ((name : List ℕ) → IsNamed e.program name row → Leads e r left now next (enter_at (unit_named e.program name) None [] no_loop at_end [] w)) → Leads e r left now next (first_at e.program main w)
first_row e r left now w row next None finds h = absurd (cc)
first_row e r left now w row next (Some main) finds h = h main.name finds
