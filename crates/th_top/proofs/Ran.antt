-- What follows for the command `run`: that a loadable file is run as the definition has it, and others are refused.
use Rattle.std.proofs.Common.{◌≡◌, ℕ, suc, ◌<◌, ◌≤◌, List, [], ◌∷◌, length, Some, None, refl, sym, ap, subst, ◌∙◌, ◌⊎◌, inl, inr, arith}
use Rattle.th_world.specs.Outside.{Rose}
use Rattle.th_rv.specs.declared.instr.Cause.{Cause}
use Rattle.th_rv.specs.Step as halt
use Rattle.th_rv.specs.Step.{State}
use Rattle.th_elf.specs.declared.error.Field.{Field}
use Rattle.th_elf.specs.Loadable.{first_failing, segments_of}
use Rattle.th_elf.specs.Run.{Machine, Status, Running, Stopped, Trapped, Retired, Retires, Takes, loaded, run, run_of, start, running}
use Rattle.th_elf.proofs.Logs.{retires_run, trapping_run}
use Rattle.th_mach.specs.declared.answer.Outcome.{Outcome}
use Rattle.th_mach.specs.declared.answer.Outcome.TheVariants.{Ended, Raised, RoomUsed, StepsUsed, Trap, ReadFault, WriteFault}
use Rattle.th_mach.specs.Counted.{Counted}
use Rattle.th_mach.specs.Ran as mach
use Rattle.th_mach.specs.Ran.{Seen, seen, Ran, Retiring, TrapsNow, TakesTold}
use Rattle.th_words.specs.Words.{Command, Run, IsCommand, IsAtMostOne}
use Rattle.th_files.specs.Reading.{Holds, CannotRead}
use Rattle.th_top.specs.Outside.{Outside}
use Rattle.th_top.specs.Report.{Report}
use Rattle.th_top.specs.Answers as answers
use Rattle.th_top.specs.Answers.{Verdict, Done, BadFile, NotBuilt, BadElf, RunRaised, NoRoom, NoSteps, NoMemory, StreamFailed, status_of, file_limit, Unread, TellsOf, RunsFile, Runs, Does, Refuses, Obeys, Answers}
use Rattle.th_top.specs.Complete.{GivenRun, NoFault, IsStatusOf, RanAsDefined, RunCompleteFor, RunRefusedFor}
use Rattle.th_top.proofs.Told.{same_text, not_both}
use Rattle.th_top.proofs.Derived.{took_told}

-- how a run of a fresh machine stands after it, and after how many steps of the definition
pub record Reached (s0 : State) (input : List ℕ) (steps : ℕ) (outcome : Outcome) (middle later : Seen) (log : List Retired) : Type 0 where
  pub taken : ℕ
  pub few : taken ≤ steps
  pub all : outcome ≡ StepsUsed → taken ≡ steps
  pub rest : List ℕ
  pub left : later.left ≡ Some rest
  pub put : later.put ≡ middle.put
  pub is : run taken (start s0 input) ≡ run_of later.machine rest log

stopped : (s0 : State) (input rest : List ℕ) (steps : ℕ) (outcome : Outcome) (middle later : Seen) (log : List Retired) → Retires (running s0) log middle.machine → Takes input log rest → middle.left ≡ Some rest
    → later ≡ middle → length log ≤ steps → (outcome ≡ StepsUsed → length log ≡ steps) → Reached s0 input steps outcome middle later log
stopped s0 input rest steps outcome middle later log retires takes left same few all = record {
  taken = length log;
  few = few;
  all = all;
  rest = rest;
  left = ap (λ (s : Seen). s.left) same ∙ left;
  put = ap (λ (s : Seen). s.put) same;
  is = retires_run (running s0) log middle.machine input rest retires takes ∙ ap (λ (s : Seen). run_of s.machine rest log) (sym same);
}

trapped : (s0 : State) (input rest : List ℕ) (steps : ℕ) (cause : Cause) (pc : ℕ) (middle later : Seen) (log : List Retired) → Retires (running s0) log middle.machine → Takes input log rest → middle.left ≡ Some rest
    → later.machine.status ≡ Trapped cause pc → ((later ≡ middle) × (length log ≡ 0)) ⊎ (TrapsNow middle later × (length log < steps)) → Reached s0 input steps (Trap cause pc) middle later log
trapped s0 input rest steps cause pc middle later [] retires takes left stands (inl still) =
    let no : Running ≡ Trapped cause pc = ap (λ (m : Machine). m.status) retires ∙ ap (λ (s : Seen). s.machine.status) (sym still.0) ∙ stands in
    absurd (cc)
trapped s0 input rest steps cause pc middle later (e ∷ log) retires takes left stands (inl still) = absurd (omega (arith, still.1))
trapped s0 input rest steps cause pc middle later log retires takes left stands (inr now) = record {
  taken = suc (length log);
  few = omega (arith, now.1);
  all = λ e. absurd cc;
  rest = rest;
  left = ap (λ (s : Seen). s.left) now.0.rest ∙ left;
  put = ap (λ (s : Seen). s.put) now.0.rest;
  is = trapping_run (running s0) log middle.machine later.machine input rest retires now.0.trapping takes;
}

-- no stream failed behind the last instruction
abbrev Unfailed : Seen → Seen → Type 0
Unfailed middle later = (Rose middle.read_faults later.read_faults → ⊥) × (Rose middle.write_faults later.write_faults → ⊥)

reached : (s0 : State) (input rest : List ℕ) (steps : ℕ) (outcome : Outcome) (middle later : Seen) (log : List Retired) → Retires (running s0) log middle.machine → Takes input log rest → middle.left ≡ Some rest
    → Unfailed middle later → mach.Ends outcome (length log) steps middle later → Reached s0 input steps outcome middle later log
reached s0 input rest steps Ended middle later log retires takes left none ends = stopped s0 input rest steps Ended middle later log retires takes left ends.0 ends.2 (λ e. absurd cc)
reached s0 input rest steps (Raised at n) middle later log retires takes left none ends = stopped s0 input rest steps (Raised at n) middle later log retires takes left ends.0 ends.2 (λ e. absurd cc)
reached s0 input rest steps RoomUsed middle later log retires takes left none ends = stopped s0 input rest steps RoomUsed middle later log retires takes left ends.0 ends.2 (λ e. absurd cc)
reached s0 input rest steps StepsUsed middle later log retires takes left none ends = stopped s0 input rest steps StepsUsed middle later log retires takes left ends.0 (omega (arith, ends.2)) (λ e. ends.2)
reached s0 input rest steps (Trap cause pc) middle later log retires takes left none ends = trapped s0 input rest steps cause pc middle later log retires takes left ends.0 ends.1
reached s0 input rest steps ReadFault middle later log retires takes left none ends = absurd (none.0 ends.0.rose)
reached s0 input rest steps WriteFault middle later log retires takes left none ends = absurd (none.1 ends.0.rose)

by_status : (s t : Status) (status : ℕ) → s ≡ t → IsStatusOf t status → IsStatusOf s status
by_status s t status is h = subst (λ x. IsStatusOf x status) (sym is) h

-- the status is that of how the machine stands
status_is : (outcome : Outcome) (v : Verdict) (last : Counted) (n steps : ℕ) (middle later : Seen) (status : ℕ) → mach.Ends outcome n steps middle later → Unfailed middle later → TellsOf outcome last v → status ≡ status_of v
    → IsStatusOf later.machine.status status
status_is Ended v last n steps middle later status ends none tells is =
    by_status _ (Stopped halt.Ended) status (ap (λ (s : Seen). s.machine.status) ends.0 ∙ ends.1) (is ∙ ap status_of tells)
status_is (Raised at k) v last n steps middle later status ends none tells is =
    by_status _ (Stopped (halt.Raised at k)) status (ap (λ (s : Seen). s.machine.status) ends.0 ∙ ends.1) (is ∙ ap status_of tells.2)
status_is RoomUsed v last n steps middle later status ends none tells is =
    by_status _ (Stopped halt.RoomUsed) status (ap (λ (s : Seen). s.machine.status) ends.0 ∙ ends.1) (is ∙ ap status_of tells)
status_is StepsUsed v last n steps middle later status ends none tells is =
    by_status _ Running status (ap (λ (s : Seen). s.machine.status) ends.0 ∙ ends.1) (is ∙ ap status_of tells)
status_is (Trap cause pc) v last n steps middle later status ends none tells is = by_status _ (Trapped cause pc) status ends.0 (is ∙ ap status_of tells)
status_is ReadFault v last n steps middle later status ends none tells is = absurd (none.0 ends.0.rose)
status_is WriteFault v last n steps middle later status ends none tells is = absurd (none.1 ends.0.rose)

-- status 8 comes with used-up steps alone
steps_used : (outcome : Outcome) (v : Verdict) (last : Counted) (status : ℕ) → TellsOf outcome last v → status ≡ status_of v → status ≡ 8 → outcome ≡ StepsUsed
steps_used StepsUsed v last status tells is eight = refl
steps_used Ended v last status tells is eight = absurd (omega (arith, eight, is ∙ ap status_of tells))
steps_used (Raised at n) v last status tells is eight = absurd (omega (arith, eight, is ∙ ap status_of tells.2))
steps_used RoomUsed v last status tells is eight = absurd (omega (arith, eight, is ∙ ap status_of tells))
steps_used (Trap cause pc) v last status tells is eight = absurd (omega (arith, eight, is ∙ ap status_of tells))
steps_used ReadFault v last status tells is eight = absurd (omega (arith, eight, is ∙ ap status_of tells))
steps_used WriteFault v last status tells is eight = absurd (omega (arith, eight, is ∙ ap status_of tells))

unfailed : (before later : Outside) (middle last : Seen) → middle.read_faults ≡ before.read_faults → middle.write_faults ≡ before.write_faults → last.read_faults ≡ later.read_faults → last.write_faults ≡ later.write_faults
    → NoFault before later → Unfailed middle last
unfailed before later middle last er ew lr lw none = (
  λ rose. none.read_faults (subst (λ k. Rose k later.read_faults) er (subst (λ k. Rose middle.read_faults k) lr rose)),
  λ rose. none.write_faults (subst (λ k. Rose k later.write_faults) ew (subst (λ k. Rose middle.write_faults k) lw rose)),
)

-- a file that was run was run as the definition has it
ran_as : (before later : Outside) (bytes input file : List ℕ) (region steps status : ℕ) (v : Verdict) → (r : RunsFile file region steps before later v) → r.bytes ≡ bytes → before.left ≡ Some input → NoFault before later
    → status ≡ status_of v → RanAsDefined before later bytes input region steps status
ran_as before later bytes input file region steps status v r same told none is =
    let log : List Retired = r.ran.log in
    let s0 : State = loaded (segments_of r.bytes) region in
    let last : Seen = seen r.last later.put later.left later.read_faults later.write_faults [] in
    let ok : Unfailed r.ran.middle last = unfailed before later r.ran.middle last r.ran.retiring.read_faults r.ran.retiring.write_faults refl refl none in
    let took : (rest : List ℕ) × (r.ran.middle.left ≡ Some rest) × Takes input log rest = took_told before.left r.ran.middle.left log input r.ran.retiring.left told in
    let there : Reached s0 input steps r.outcome r.ran.middle last log = reached s0 input took.0 steps r.outcome r.ran.middle last log r.ran.retiring.retires took.2 took.1 ok r.ran.ends in
    record {
      taken = there.taken;
      few = there.few;
      all = λ eight. there.all (steps_used r.outcome v r.last status r.tells is eight);
      after = run_of r.last.machine there.rest log;
      is = ap (λ b. run there.taken (start (loaded (segments_of b) region) input)) (sym same) ∙ there.is;
      stands = status_is r.outcome v r.last (length log) steps r.ran.middle last status r.ran.ends ok r.tells is;
      put = there.put ∙ r.ran.retiring.put;
      left = there.left;
    }

-- a run that came to its end has none of a failed stream's statuses
no_stream : (s : Status) (status : ℕ) → IsStatusOf s status → status ≡ 11 → ⊥
no_stream Running status is eleven = omega (arith, is, eleven)
no_stream (Stopped halt.Ended) status is eleven = omega (arith, is, eleven)
no_stream (Stopped (halt.Raised at n)) status is eleven = omega (arith, is, eleven)
no_stream (Stopped halt.RoomUsed) status is eleven = omega (arith, is, eleven)
no_stream (Trapped cause pc) status is eleven = omega (arith, is, eleven)

module _ (words : List (List ℕ)) (before later : Outside) (bytes : List ℕ) (region steps : ℕ) (g : GivenRun words before bytes region steps) (none : NoFault before later) where
  same_bytes : (read : List ℕ) → Holds before.files g.file read → read ≡ bytes
  same_bytes read holds = same_text before.files g.files g.file g.file read bytes holds g.told refl g.there

  unread : Unread file_limit g.file before later → ⊥
  unread (same, inl cannot) = not_both file_limit g.files g.file bytes g.there g.within (subst (λ o. CannotRead file_limit o g.file) g.told cannot.0)
  unread (same, inr rose) = none.file_faults rose

  as_defined : (input : List ℕ) (status : ℕ) (v : Verdict) → before.left ≡ Some input → RunsFile g.file region steps before later v → status ≡ status_of v → RanAsDefined before later bytes input region steps status
  as_defined input status v told r is = ran_as before later bytes input g.file region steps status v r (same_bytes r.bytes r.holds) told none is

  complete_by : (input : List ℕ) (status : ℕ) (v : Verdict) → before.left ≡ Some input → first_failing bytes ≡ None → Runs g.file region steps before later v → status ≡ status_of v
      → (status ≡ 9) ⊎ RanAsDefined before later bytes input region steps status
  complete_by input status Done told loadable does is = inr (as_defined input status Done told does is)
  complete_by input status (RunRaised name) told loadable does is = inr (as_defined input status (RunRaised name) told does is)
  complete_by input status NoRoom told loadable does is = inr (as_defined input status NoRoom told does is)
  complete_by input status NoSteps told loadable does is = inr (as_defined input status NoSteps told does is)
  complete_by input status (answers.Trapped cause pc) told loadable does is = inr (as_defined input status (answers.Trapped cause pc) told does is)
  complete_by input status StreamFailed told loadable does is =
      let r : RanAsDefined before later bytes input region steps status = as_defined input status StreamFailed told does is in
      absurd (no_stream r.after.status status r.stands is)
  complete_by input status NoMemory told loadable does is = inl is
  complete_by input status (BadElf name field) told loadable does is =
      let no : Some field ≡ None = sym does.3.3 ∙ ap first_failing (same_bytes does.3.0 does.3.1) ∙ loadable in
      absurd cc
  complete_by input status (BadFile name) told loadable does is = absurd (unread does.1)
  complete_by input status (NotBuilt name) told loadable does is = absurd does
  complete_by input status (answers.Refused name refusal) told loadable does is = absurd does

  unloadable : (v : Verdict) (field : Field) → first_failing bytes ≡ Some field → RunsFile g.file region steps before later v → ⊥
  unloadable v field failing r = let no : Some field ≡ None = sym failing ∙ ap first_failing (sym (same_bytes r.bytes r.holds)) ∙ r.loadable in cc

  refused_by : (status : ℕ) (v : Verdict) (field : Field) → first_failing bytes ≡ Some field → Runs g.file region steps before later v → status ≡ status_of v → (status ≡ 5) ⊎ (status ≡ 9)
  refused_by status Done field failing does is = absurd (unloadable Done field failing does)
  refused_by status (RunRaised name) field failing does is = absurd (unloadable (RunRaised name) field failing does)
  refused_by status NoRoom field failing does is = absurd (unloadable NoRoom field failing does)
  refused_by status NoSteps field failing does is = absurd (unloadable NoSteps field failing does)
  refused_by status (answers.Trapped cause pc) field failing does is = absurd (unloadable (answers.Trapped cause pc) field failing does)
  refused_by status StreamFailed field failing does is = absurd (unloadable StreamFailed field failing does)
  refused_by status NoMemory field failing does is = inr is
  refused_by status (BadElf name other) field failing does is = inl is
  refused_by status (BadFile name) field failing does is = absurd (unread does.1)
  refused_by status (NotBuilt name) field failing does is = absurd does
  refused_by status (answers.Refused name refusal) field failing does is = absurd does

does_run : (words : List (List ℕ)) (only : IsAtMostOne words) (before later : Outside) (bytes : List ℕ) (region steps : ℕ) (v : Verdict) (command : Command) → (g : GivenRun words before bytes region steps) → IsCommand words command
    → Does command before later v → Runs g.file region steps before later v
does_run words only before later bytes region steps v command g is does =
    subst (λ c. Does c before later v) (only command (Run g.file region steps) is g.is_command) does

-- a loadable file is run as the definition has it, or there was no memory
pub run_complete : (words : List (List ℕ)) (only : IsAtMostOne words) (before later : Outside) (rb rl : Report) (status : ℕ) → Answers words before later rb rl status → RunCompleteFor words before later status
run_complete words only before later rb rl status (inl refused) = λ bytes input region steps g told none loadable. absurd (refused.no_command (Run g.file region steps) g.is_command)
run_complete words only before later rb rl status (inr obeyed) = λ bytes input region steps g told none loadable.
    complete_by words before later bytes region steps g none input status obeyed.verdict told loadable
    (does_run words only before later bytes region steps obeyed.verdict obeyed.command g obeyed.is_command obeyed.does) obeyed.answers

-- a file that isn't loadable gives status 5, or 9 for want of memory
pub run_refused : (words : List (List ℕ)) (only : IsAtMostOne words) (before later : Outside) (rb rl : Report) (status : ℕ) → Answers words before later rb rl status → RunRefusedFor words before later status
run_refused words only before later rb rl status (inl refused) = λ bytes region steps field g none failing. absurd (refused.no_command (Run g.file region steps) g.is_command)
run_refused words only before later rb rl status (inr obeyed) = λ bytes region steps field g none failing.
    refused_by words before later bytes region steps g none status obeyed.verdict field failing
    (does_run words only before later bytes region steps obeyed.verdict obeyed.command g obeyed.is_command obeyed.does) obeyed.answers
