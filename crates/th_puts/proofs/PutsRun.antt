-- What a program does whose `main` only puts bytes.
use Rattle.std.proofs.Common.{◌≡◌, ℕ, suc, ◌-◌, ◌<◌, List, [], ◌∷◌, ◌++◌, Option, Some, None, Bool, true, false, option_map, refl, sym, ap, subst, ◌∙◌, map, reverse, append_assoc}
use Rattle.std.specs.Prelude.{nat_lt, codes, bytes_eq, if◌then◌else◌}
use Rattle.std.proofs.lemmas.Bool.{lt-ltb}
use Rattle.std.proofs.lemmas.Slice.Eq.{bytes_eq-Decides}
use Rattle.std.proofs.lemmas.List.{reverse-append}
use Rattle.std.proofs.lemmas.List.Elements.{All-head, All-tail}
use Rattle.th_world.specs.Event.{Event, Put, Entered}
use Rattle.th_runs.specs.Stand.{Ended, NoRoom, Stand}
use Rattle.th_meaning.specs.Program.{ProgramUnit, Program, full_name, main_of, unit_named}
use Rattle.th_meaning.specs.Counts.{call_weight}
use Rattle.th_meaning.specs.World.{World, note, lacks_room}
use Rattle.th_meaning.specs.Meaning.{Value, State, Body, Units, Gives, Done, exec_body, frame_of, run_unit, closed, level, no_body}
use Rattle.th_meaning.specs.Run.{stand_of, start, outcome_of, source_run}
use Rattle.th_puts.specs.Form.{AreBytes, puts_body, main_unit, puts_program}
use Rattle.th_puts.specs.Runs.{puts_stand, puts_weight, RunsAsPuts}

-- the trace after these bytes are put
abbrev put_each : List ℕ → List Event → List Event
put_each [] t = t
put_each (b ∷ bs) t = put_each bs (Put b ∷ t)

put_each-reverse : (bs : List ℕ) (t : List Event) → put_each bs t ≡ reverse (map Put bs) ++ t
put_each-reverse [] t = refl
put_each-reverse (b ∷ bs) t =
    put_each-reverse bs (Put b ∷ t)
    ∙ sym (append_assoc (reverse (map Put bs)) (Put b ∷ []) t)
    ∙ ap (λ r. r ++ t) (sym (reverse-append (Put b ∷ []) (map Put bs)))

abbrev after_puts : List ℕ → State → State
after_puts bs st = record st { world = record st.world { trace = put_each bs st.world.trace } }

-- the statements put the bytes
puts_exec : (p : Program) (units : Units) (n : ℕ) (bs : List ℕ) (body : Body) (st : State) → AreBytes bs → exec_body p units n (puts_body bs) body st ≡ Gives Done (after_puts bs st)
puts_exec p units n [] body st all = refl
puts_exec p units n (b ∷ bs) body st all =
    let small : nat_lt b 256 ≡ true = lt-ltb b 256 (All-head (λ c. c < 256) b bs all) in
    rw small (puts_exec p units n bs body (record st { world = note (Put b) st.world }) (All-tail (λ c. c < 256) b bs all))

-- the state in which a unit of this weight begins
abbrev entered : ProgramUnit → (weight : ℕ) → World Value → State
entered u k w = record { frame = frame_of u None []; homes = []; world = note (Entered u.name) (record w { room = option_map (λ room. room - k) w.room }) }

-- how a world stands after a `main` of this name and weight, that puts these bytes
abbrev main_stand : (unit : List ℕ) → (weight : ℕ) → List ℕ → World Value → Stand
main_stand unit k bs w = if lacks_room w.room k then record { end = NoRoom; trace = w.trace } else record { end = Ended; trace = put_each bs (Entered unit ∷ w.trace) }

module _ (p : Program) (units : Units) (n : ℕ) (u : ProgramUnit) (bs : List ℕ) (w : World Value) (is : u.body ≡ puts_body bs) (all : AreBytes bs) where
  -- the run of a `main` that puts these bytes, with room for it and without
  run_by : (b : Bool) → lacks_room w.room (call_weight u) ≡ b → stand_of (run_unit (Some u) None [] [] w (λ b st. exec_body p units n b no_body st)) ≡ main_stand u.name (call_weight u) bs w
  run_by true lacks = rw lacks refl
  run_by false lacks = rw lacks
      (ap (λ o. stand_of (closed (call_weight u) o)) (ap (λ b. exec_body p units n b no_body (entered u (call_weight u) w)) is ∙ puts_exec p units n bs no_body (entered u (call_weight u) w) all))

  main_run : stand_of (run_unit (Some u) None [] [] w (λ b st. exec_body p units n b no_body st)) ≡ main_stand u.name (call_weight u) bs w
  main_run = run_by (lacks_room w.room (call_weight u)) refl

-- a name is equal to itself
same_name : (name : List ℕ) → bytes_eq name name ≡ true
same_name name = (bytes_eq-Decides name name).1 refl

-- the program's `main` is its one unit
main_found : (m bytes : List ℕ) → main_of (puts_program m bytes) ≡ Some (main_unit m (puts_body bytes))
main_found m bytes = let same : bytes_eq (full_name m (codes "main")) (full_name m (codes "main")) ≡ true = same_name (full_name m (codes "main")) in rw same refl

unit_found : (m bytes : List ℕ) → unit_named (puts_program m bytes) (full_name m (codes "main")) ≡ Some (main_unit m (puts_body bytes))
unit_found m bytes = let same : bytes_eq (full_name m (codes "main")) (full_name m (codes "main")) ≡ true = same_name (full_name m (codes "main")) in rw same refl

program_run : (m bytes input : List ℕ) (room : Option ℕ) (turns : ℕ) → AreBytes bytes → source_run (puts_program m bytes) input room turns ≡ puts_stand (full_name m (codes "main")) (puts_weight m bytes) bytes room
program_run m bytes input room turns all =
    let p : Program = puts_program m bytes in
    let u : ProgramUnit = main_unit m (puts_body bytes) in
    let w : World Value = start input room turns in
    let units : Units = level p turns in
    ap (λ o. stand_of (outcome_of p o w)) (main_found m bytes)
    ∙ ap (λ o. stand_of (run_unit o None [] [] w (λ b st. exec_body p units (suc turns) b no_body st))) (unit_found m bytes)
    ∙ main_run p units (suc turns) u bytes w refl all
    ∙ ap (λ t. if lacks_room room (puts_weight m bytes) then record { end = NoRoom; trace = [] } else record { end = Ended; trace = t }) (put_each-reverse bytes (Entered u.name ∷ []))

-- a program that puts bytes runs so
pub runs_as_puts : RunsAsPuts
runs_as_puts p m bytes puts input room turns =
    subst (λ q. source_run q input room turns ≡ puts_stand (full_name m (codes "main")) (puts_weight m bytes) bytes room) (sym puts.is) (program_run m bytes input room turns puts.are_bytes)
