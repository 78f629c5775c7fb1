-- The machine with code that puts bytes agrees with a source that enters a unit, puts these bytes and ends.
use Rattle.std.proofs.Common.{◌≡◌, ◌≢◌, ℕ, zero, suc, ◌+◌, ◌-◌, ◌*◌, ◌<◌, ◌≤◌, List, [], ◌∷◌, ◌++◌, length, map, reverse, Option, Some, None, true, false, nat_lt, refl, sym, ap, ◌∙◌, subst, ◌⊎◌, inl, ⊎_elim, arith, append_assoc}
use Rattle.std.proofs.lemmas.Bool.{lt-ltb, le-ltb, cases_lt}
use Rattle.std.proofs.lemmas.List.{reverse-append}
use Rattle.th_world.specs.Event.{Event, Put, Entered, Prefix}
use Rattle.th_runs.specs.Stand.{End, GoesOn, Ended, NoRoom, Stand}
use Rattle.th_runs.specs.Runs.{Program, IsOwn, exceeds, bounded_run}
use Rattle.th_runs.specs.Simulation.{Moves, Stops, Simulation}
use Rattle.th_runs.specs.Agreement.{Agreement}
use Rattle.th_runs.proofs.Agrees.{agrees}
use Rattle.th_rv.specs.declared.instr.Instr.{Instr}
use Rattle.th_rv.specs.Memory.{Area}
use Rattle.th_rv.specs.Step.{State, Halt, Act, Next, Puts, Gets, Halts, Traps, step}
use Rattle.th_rv.specs.Step as rv
use Rattle.th_elf.specs.Run.{Running, Stopped, Run, after, while_running, run_step, end_of, entry_of, trace, stand, machine, run}
use Rattle.th_elf.proofs.Standing.{run_stays, run_grows, stand_of_run}
use Rattle.th_link.specs.Puts.{puts_code}
use Rattle.th_link.proofs.Spots.{Spot, Before, Loaded, Ready, Ending, ahead, Stands, Goes, Does, does}

-- what an instruction makes of a run
acted : (r : Run) (a : Act) → r.status ≡ Running → step r.state ≡ a → run_step r ≡ after r a
unfolding run_step
acted r a runs is = ap (λ s. while_running s (after r (step r.state)) r) runs ∙ ap (after r) is

-- the program, instruction by instruction: how many were executed, the place of the next (None: the run ended), the trace
pub record Place : Type 0 where
  pub count : ℕ
  pub spot : Option Spot
  pub trace : List Event

abbrev pub next_spot : Option Spot → Option Spot
next_spot None = None
next_spot (Some (Before [])) = Some Ending
next_spot (Some (Before (b ∷ left))) = Some (Loaded b left)
next_spot (Some (Loaded b left)) = Some (Ready b left)
next_spot (Some (Ready b left)) = Some (Before left)
next_spot (Some Ending) = None

-- what the instruction at a place puts
abbrev pub put_at : Option Spot → List Event
put_at None = []
put_at (Some (Before left)) = []
put_at (Some (Loaded b left)) = []
put_at (Some (Ready b left)) = Put b ∷ []
put_at (Some Ending) = []

abbrev pub end_at : Option Spot → End
end_at None = Ended
end_at (Some p) = GoesOn

-- the first instruction needs the room of the open call, which is then in use
abbrev pub need_at : ℕ → ℕ → ℕ
need_at weight zero = weight
need_at weight (suc k) = 0

abbrev pub used_at : ℕ → ℕ → ℕ
used_at weight zero = 0
used_at weight (suc k) = weight

abbrev pub length_at : Option Spot → ℕ
length_at None = 0
length_at (Some p) = length (ahead p)

ended_goes : Ended ≢ GoesOn
ended_goes h = cc

no_room_goes : NoRoom ≢ GoesOn
no_room_goes h = cc

module _ (unit : List ℕ) (weight : ℕ) where
  -- the first instruction enters the unit
  abbrev pub entry_at : ℕ → List Event
  entry_at zero = Entered unit ∷ []
  entry_at (suc k) = []

  abbrev pub next_place : Place → Place
  next_place g = record { count = suc g.count; spot = next_spot g.spot; trace = put_at g.spot ++ entry_at g.count ++ g.trace }

  abbrev pub program : Program Place
  program = record { next = next_place; end = λ g. end_at g.spot; trace = λ g. g.trace; cost = λ g. 0; need = λ g. need_at weight g.count; used = λ g. used_at weight g.count }

  -- the room is enough for the weight
  within : (room : Option ℕ) (k : ℕ) → exceeds weight room ≡ false → exceeds (used_at weight k + need_at weight k) room ≡ false
  within room zero h = let e : 0 + weight ≡ weight = omega arith in ap (λ n. exceeds n room) e ∙ h
  within room (suc k) h = let e : weight + 0 ≡ weight = omega arith in ap (λ n. exceeds n room) e ∙ h

  one_more : (room : Option ℕ) (operations turns k : ℕ) (p : Spot) (t : List Event) → exceeds weight room ≡ false
      → bounded_run program room (suc operations) turns (record { count = k; spot = Some p; trace = t })
      ≡ bounded_run program room operations (turns - 0) (next_place (record { count = k; spot = Some p; trace = t }))
  one_more room operations turns k p t enough =
      let paid : nat_lt turns 0 ≡ false = le-ltb turns 0 (omega arith) in
      let there : exceeds (used_at weight k + need_at weight k) room ≡ false = within room k enough in
      rw (paid, there) refl

  -- how many instructions put bytes and end
  abbrev pub operations_of : List ℕ → ℕ
  operations_of [] = 2
  operations_of (b ∷ left) = suc (suc (suc (operations_of left)))

  put_first : (b : ℕ) (left : List ℕ) (t : List Event) → reverse (map Put left) ++ (Put b ∷ t) ≡ reverse (map Put (b ∷ left)) ++ t
  put_first b left t = sym (append_assoc (reverse (map Put left)) (Put b ∷ []) t) ∙ ap (λ r. r ++ t) (sym (reverse-append (Put b ∷ []) (map Put left)))

  -- the program from a later place on
  later_run : (room : Option ℕ) (left : List ℕ) (turns k : ℕ) (t : List Event) → exceeds weight room ≡ false
      → bounded_run program room (operations_of left) turns (record { count = suc k; spot = Some (Before left); trace = t })
      ≡ record { end = Ended; trace = reverse (map Put left) ++ t }
  later_run room [] turns k t enough =
      one_more room 1 turns (suc k) (Before []) t enough
      ∙ one_more room 0 (turns - 0) (suc (suc k)) Ending t enough
  later_run room (b ∷ left) turns k t enough =
      one_more room (suc (suc (operations_of left))) turns (suc k) (Before (b ∷ left)) t enough
      ∙ one_more room (suc (operations_of left)) (turns - 0) (suc (suc k)) (Loaded b left) t enough
      ∙ one_more room (operations_of left) (turns - 0 - 0) (suc (suc (suc k))) (Ready b left) t enough
      ∙ later_run room left (turns - 0 - 0 - 0) (suc (suc (suc k))) (Put b ∷ t) enough
      ∙ ap (λ u. record { end = Ended; trace = u }) (put_first b left t)

  -- the place at which the program begins
  abbrev pub first : List ℕ → Place
  first bytes = record { count = 0; spot = Some (Before bytes); trace = [] }

  first_run : (room : Option ℕ) (bytes : List ℕ) (turns : ℕ) → exceeds weight room ≡ false
      → bounded_run program room (operations_of bytes) turns (first bytes) ≡ record { end = Ended; trace = reverse (map Put bytes) ++ (Entered unit ∷ []) }
  first_run room [] turns enough =
      one_more room 1 turns 0 (Before []) [] enough
      ∙ one_more room 0 (turns - 0) 1 Ending (Entered unit ∷ []) enough
  first_run room (b ∷ left) turns enough =
      one_more room (suc (suc (operations_of left))) turns 0 (Before (b ∷ left)) [] enough
      ∙ one_more room (suc (operations_of left)) (turns - 0) 1 (Loaded b left) (Entered unit ∷ []) enough
      ∙ one_more room (operations_of left) (turns - 0 - 0) 2 (Ready b left) (Entered unit ∷ []) enough
      ∙ later_run room left (turns - 0 - 0 - 0) 2 (Put b ∷ Entered unit ∷ []) enough
      ∙ ap (λ u. record { end = Ended; trace = u }) (put_first b left (Entered unit ∷ []))

  first_short : (room : ℕ) (bytes : List ℕ) (turns : ℕ) → room < weight → bounded_run program (Some room) 1 turns (first bytes) ≡ record { end = NoRoom; trace = [] }
  first_short room bytes turns short =
      let paid : nat_lt turns 0 ≡ false = le-ltb turns 0 (omega arith) in
      let over : nat_lt room (0 + weight) ≡ true = lt-ltb room (0 + weight) (omega arith) in
      rw (paid, over) refl

  -- a source that enters the unit, where the room is enough for the weight, puts the bytes and ends
  pub record Source (bytes : List ℕ) (source : Option ℕ → ℕ → Stand) : Type 0 where
    pub unlimited : (turns : ℕ) → source None turns ≡ record { end = Ended; trace = reverse (map Put bytes) ++ (Entered unit ∷ []) }
    pub enough : (room turns : ℕ) → weight ≤ room → source (Some room) turns ≡ record { end = Ended; trace = reverse (map Put bytes) ++ (Entered unit ∷ []) }
    pub short : (room turns : ℕ) → room < weight → source (Some room) turns ≡ record { end = NoRoom; trace = [] }

  source_is : (bytes : List ℕ) (source : Option ℕ → ℕ → Stand) → Source bytes source → (room : Option ℕ) (turns : ℕ) → (operations : ℕ) × (source room turns ≡ bounded_run program room operations turns (first bytes))
  source_is bytes source h None turns = (operations_of bytes, h.unlimited turns ∙ sym (first_run None bytes turns refl))
  source_is bytes source h (Some room) turns = ⊎_elim few many (cases_lt room weight)
    where
      few : room < weight → (operations : ℕ) × (source (Some room) turns ≡ bounded_run program (Some room) operations turns (first bytes))
      few lt = (1, h.short room turns lt ∙ sym (first_short room bytes turns lt))

      many : weight ≤ room → (operations : ℕ) × (source (Some room) turns ≡ bounded_run program (Some room) operations turns (first bytes))
      many le = (operations_of bytes, h.enough room turns le ∙ sym (first_run (Some room) bytes turns (le-ltb room weight le)))

  source_over : (bytes : List ℕ) (source : Option ℕ → ℕ → Stand) → Source bytes source → (room : Option ℕ) (turns : ℕ) → (source room turns).end ≢ GoesOn
  source_over bytes source h None turns e = ended_goes (sym (ap (λ s. s.end) (h.unlimited turns)) ∙ e)
  source_over bytes source h (Some room) turns e =
      ⊎_elim
      (λ (lt : room < weight). no_room_goes (sym (ap (λ s. s.end) (h.short room turns lt)) ∙ e))
      (λ (le : weight ≤ room). ended_goes (sym (ap (λ s. s.end) (h.enough room turns le)) ∙ e))
      (cases_lt room weight)

  longer : (g : Place) → Prefix g.trace (next_place g).trace
  longer g = record { more = put_at g.spot ++ entry_at g.count; is = refl }

  module _ (code : List Instr) (ms : List Area) (names : ℕ → Option (List ℕ)) where
    -- the machine's state stands for the program's
    abbrev pub MeetsAt : ℕ → Option Spot → Run → Type 0
    MeetsAt k (Some p) r = (r.status ≡ Running) × Stands code ms k p r.state
    MeetsAt k None r = r.status ≡ Stopped rv.Ended

    abbrev pub Meets : Place → Run → Type 0
    Meets g r = MeetsAt g.count g.spot r × (trace names r.log ≡ g.trace)

    own_at : (o : Option Spot) → IsOwn (end_at o)
    own_at None = tt
    own_at (Some p) = tt

    same_end_at : (k : ℕ) (o : Option Spot) (r : Run) → MeetsAt k o r → (machine names).end r ≡ end_at o
    unfolding stand
    same_end_at k None r me = ap (end_of r.state) me
    same_end_at k (Some p) r me = ap (end_of r.state) me.0

    same_trace : (g : Place) (r : Run) → Meets g r → (machine names).trace r ≡ g.trace
    unfolding stand
    same_trace g r me = me.1

    -- the unit's name is that of the first address alone
    module _ (named : (k : ℕ) → entry_of (names (0x00010000 + 4 * k)) ≡ entry_at k) (small : length code ≤ 1000000) where
      seen : (k : ℕ) (r : Run) (t : List Event) → r.state.pc ≡ 0x00010000 + 4 * k → trace names r.log ≡ t → (did : List Event) → did ++ entry_of (names r.state.pc) ++ trace names r.log ≡ did ++ entry_at k ++ t
      seen k r t pc is did = ap (λ a. did ++ entry_of (names a) ++ trace names r.log) pc ∙ ap (λ e. did ++ e ++ trace names r.log) (named k) ∙ ap (λ u. did ++ entry_at k ++ u) is

      went : (k : ℕ) (p q : Spot) (r : Run) (t : List Event) → r.status ≡ Running → Stands code ms k p r.state → trace names r.log ≡ t → Goes code ms k q (step r.state) → Meets (record { count = suc k; spot = Some q; trace = [] ++ entry_at k ++ t }) (run_step r)
      went k p q r t runs at is (s, act, there) =
          subst (Meets (record { count = suc k; spot = Some q; trace = [] ++ entry_at k ++ t })) (sym (acted r (Next s) runs act)) ((refl, there), seen k r t at.pc is [])

      put : (k b : ℕ) (left : List ℕ) (r : Run) (t : List Event) → r.status ≡ Running → Stands code ms k (Ready b left) r.state → trace names r.log ≡ t → Does code ms k (Ready b left) (step r.state) → Meets (record { count = suc k; spot = Some (Before left); trace = (Put b ∷ []) ++ entry_at k ++ t }) (run_step r)
      put k b left r t runs at is (s, act, there) =
          subst (Meets (record { count = suc k; spot = Some (Before left); trace = (Put b ∷ []) ++ entry_at k ++ t })) (sym (acted r (Puts b s) runs act)) ((refl, there), seen k r t at.pc is (Put b ∷ []))

      ended : (k : ℕ) (r : Run) (t : List Event) → r.status ≡ Running → Stands code ms k Ending r.state → trace names r.log ≡ t → Does code ms k Ending (step r.state) → Meets (record { count = suc k; spot = None; trace = [] ++ entry_at k ++ t }) (run_step r)
      ended k r t runs at is (s, act) =
          subst (Meets (record { count = suc k; spot = None; trace = [] ++ entry_at k ++ t })) (sym (acted r (Halts rv.Ended s) runs act)) (refl, seen k r t at.pc is [])

      lands : (k : ℕ) (p : Spot) (r : Run) (t : List Event) → Meets (record { count = k; spot = Some p; trace = t }) r → Meets (next_place (record { count = k; spot = Some p; trace = t })) (run_step r)
      lands k (Before []) r t me = went k (Before []) Ending r t me.0.0 me.0.1 me.1 (does code ms k (Before []) r.state me.0.1 small)
      lands k (Before (b ∷ left)) r t me = went k (Before (b ∷ left)) (Loaded b left) r t me.0.0 me.0.1 me.1 (does code ms k (Before (b ∷ left)) r.state me.0.1 small)
      lands k (Loaded b left) r t me = went k (Loaded b left) (Ready b left) r t me.0.0 me.0.1 me.1 (does code ms k (Loaded b left) r.state me.0.1 small)
      lands k (Ready b left) r t me = put k b left r t me.0.0 me.0.1 me.1 (does code ms k (Ready b left) r.state me.0.1 small)
      lands k Ending r t me = ended k r t me.0.0 me.0.1 me.1 (does code ms k Ending r.state me.0.1 small)

      abbrev size : Place → ℕ
      size g = 1

      abbrev potential : ℕ → Place → ℕ
      potential n g = length_at g.spot

      law_at : (room k : ℕ) (o : Option Spot) (t : List Event) (r : Run) → Meets (record { count = k; spot = o; trace = t }) r → end_at o ≡ GoesOn
          → Moves program (machine names) Meets size (record { count = k; spot = o; trace = t }) r ⊎ Stops program (machine names) size room (record { count = k; spot = o; trace = t }) r
      law_at room k None t r me e = absurd (ended_goes e)
      law_at room k (Some p) t r me e = inl (record {
        last = 0;
        paid = omega arith;
        within = omega arith;
        goes = λ h. same_end_at k (Some p) r me.0;
        quiet = refl;
        lands = lands k p r t me;
      })

      shorter : (o : Option Spot) → end_at o ≡ GoesOn → 1 + length_at (next_spot o) ≤ length_at o
      shorter None e = absurd (ended_goes e)
      shorter (Some (Before [])) e = omega arith
      shorter (Some (Before (b ∷ left))) e = omega arith
      shorter (Some (Loaded b left)) e = omega arith
      shorter (Some (Ready b left)) e = omega arith
      shorter (Some Ending) e = omega arith

      bounded : (words : ℕ) (n : ℕ) → words ≤ 2 * words * (n + 1)
      bounded words n = omega arith

      -- from the first address on, with the bytes to put, the machine agrees with such a source
      pub agreement : (bytes : List ℕ) (source : Option ℕ → ℕ → Stand) (r : Run) (room : ℕ) → code ≡ puts_code bytes → Source bytes source → Meets (first bytes) r
          → Agreement source (λ k. stand names (run k r)) room (length code)
      agreement bytes source r room is from starts = agrees simulation
        where
          all_paid : (n : ℕ) → length (puts_code bytes) ≤ 2 * length code * (n + 1)
          all_paid n = subst (λ w. w ≤ 2 * length code * (n + 1)) (ap length is) (bounded (length code) n)

          simulation : Simulation program (machine names) Meets size potential (first bytes) r source (λ k. stand names (run k r)) room (length code)
          simulation = record {
            stays = run_stays names;
            grows = run_grows names;
            longer = λ g e. longer g;
            own = λ g s me. own_at g.spot;
            same_end = λ g s me. same_end_at g.count g.spot s me.0;
            same_trace = same_trace;
            law = λ g s me e. law_at room g.count g.spot g.trace s me e;
            falls = λ n g s me e le. shorter g.spot e;
            starts = starts;
            bounded = all_paid;
            machine_is = λ k. sym (stand_of_run names k r);
            source_is = source_is bytes source from;
            source_over = source_over bytes source from;
          }
