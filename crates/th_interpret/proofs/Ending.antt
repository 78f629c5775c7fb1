-- What a run's end says of the run that the program means.
use Rattle.std.proofs.Common.{◌≡◌, refl, sym, ap, ◌∙◌, subst, ℕ, List, [], ◌++◌, append-nil, map, Option, Some, None, option_map, IfSome}
use Rattle.th_world.specs.Event.{Event, puts, takes, entries, Prefix}
use Rattle.th_runs.specs.Stand.{Stand}
use Rattle.th_meaning.specs.Program.{Program, main_of}
use Rattle.th_meaning.specs.Meaning.{Outcome, How}
use Rattle.th_meaning.specs.Run.{start, outcome_of, stand_of, source_run}
use Rattle.th_steps.specs.Machine.{Machine, Stopped, steps, first_at}
use Rattle.th_traces.specs.Traces.{trace_at}
use Rattle.th_traces.proofs.Running.{stops_with, part_of_run, prefix_same, prefix_then}
use Rattle.th_acts.specs.declared.runner.Over.{Over as CodeOver}
use Rattle.th_acts.specs.declared.runner.Runner.{Runner}
use Rattle.th_acts.specs.Stands.{Told, Shows, IsOver, over_end, number_at}
use Rattle.th_acts.specs.Parts.{Partly}
use Rattle.th_interpret.specs.Answers.{end_of, Answers, Shown, ShownPart}
use Rattle.th_interpret.specs.declared.run.End.{End as CodeEnd}
use Rattle.th_interpret.specs.declared.run.Run.{Run}

-- what is told of a run of a program on these bytes, whose sink had these
abbrev pub told : Program → List ℕ → Option (List ℕ) → Told
told p had before = record { program = p; had = had; before = before }

-- what the streams show
shown_by : (e : Told) (trace : List Event) (rest : List ℕ) (left now : Option (List ℕ)) → Shows e trace rest left now → Shown trace e.had left e.before now
shown_by e trace rest left now h = record {
  taken = ap (option_map (λ r. takes trace ++ r)) h.left ∙ ap Some h.taken;
  put = h.put;
}

module _ (p : Program) (before left1 now1 : Option (List ℕ)) (turns : ℕ) (room : Option ℕ) where
  -- the machine of the run
  abbrev run_at : (n : ℕ) → (had : List ℕ) → Machine
  run_at n had = steps p n (first_at p (main_of p) (start had room turns))

  module _ (over : CodeOver) (r : Runner) where
    -- the run is over as the machine is
    abbrev pub Ends : Option (List ℕ) → Type 0
    Ends left = (had : List ℕ) → left ≡ Some had → (n : ℕ) × IsOver (told p had before) r left1 now1 over (run_at n had)

    -- the answer
    pub answers : (left : Option (List ℕ)) (end : CodeEnd) (run : Run) → Ends left → end_of end ≡ over_end over → run.end ≡ end → run.entered ≡ r.entered.items
        → IfSome left (λ had. Answers p run (source_run p had room turns))
    answers None end run h is same numbers = tt
    answers (Some had) end run h is same numbers =
        let x : (n : ℕ) × IsOver (told p had before) r left1 now1 over (run_at n had) = h had refl in
        let o : x.1.outcome ≡ outcome_of p (main_of p) (start had room turns) = stops_with p had room turns x.0 x.1.outcome x.1.is in
        record {
          end = ap end_of same ∙ is ∙ x.1.end ∙ ap (λ y. (stand_of y).end) o;
          entered = numbers ∙ x.1.units ∙ ap (λ y. map (number_at p) (entries (stand_of y).trace)) o;
        }

    -- what the streams show
    pub shown : (left : Option (List ℕ)) → Ends left → IfSome left (λ had. Shown (source_run p had room turns).trace had left1 before now1)
    shown None h = tt
    shown (Some had) h =
        let x : (n : ℕ) × IsOver (told p had before) r left1 now1 over (run_at n had) = h had refl in
        let o : x.1.outcome ≡ outcome_of p (main_of p) (start had room turns) = stops_with p had room turns x.0 x.1.outcome x.1.is in
        subst (λ y. Shown (stand_of y).trace had left1 before now1) o (shown_by (told p had before) (stand_of x.1.outcome).trace x.1.rest left1 now1 x.1.shows)

    -- the same, where there is no memory for the answer
    pub shown_whole : (left : Option (List ℕ)) → Ends left → IfSome left (λ had. ShownPart (source_run p had room turns).trace had left1 before now1)
    shown_whole None h = tt
    shown_whole (Some had) h = record {
      part = (source_run p had room turns).trace;
      is_prefix = prefix_same (source_run p had room turns).trace;
      shown = shown (Some had) h;
    }

  -- the run was cut off
  pub shown_part : (left : Option (List ℕ)) → ((had : List ℕ) → left ≡ Some had → (n : ℕ) × Partly (told p had before) left1 now1 (run_at n had))
      → IfSome left (λ had. ShownPart (source_run p had room turns).trace had left1 before now1)
  shown_part None h = tt
  shown_part (Some had) h =
      let x : (n : ℕ) × Partly (told p had before) left1 now1 (run_at n had) = h had refl in
      record {
        part = x.1.part;
        is_prefix = prefix_then x.1.is_prefix (part_of_run p had room turns x.0);
        shown = shown_by (told p had before) x.1.part x.1.rest left1 now1 x.1.shows;
      }

no_puts : (before : Option (List ℕ)) → before ≡ option_map (λ bytes. bytes ++ []) before
no_puts None = refl
no_puts (Some bytes) = ap Some (sym (append-nil bytes))

-- nothing was done
pub shown_nothing : (p : Program) (before : Option (List ℕ)) (turns : ℕ) (room : Option ℕ) (left : Option (List ℕ)) → IfSome left (λ had. ShownPart (source_run p had room turns).trace had left before before)
shown_nothing p before turns room None = tt
shown_nothing p before turns room (Some had) = record {
  part = [];
  is_prefix = record { more = (source_run p had room turns).trace; is = sym (append-nil (source_run p had room turns).trace) };
  shown = record { taken = refl; put = no_puts before };
}
