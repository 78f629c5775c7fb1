-- What follows from the answer of a call: when each status comes, completeness, and that the executable does what the source does.
use Rattle.std.proofs.Common.{◌≡◌, ℕ, ◌≤◌, List, [], ◌∷◌, ◌++◌, length, slice_get, take, Option, Some, None, refl, sym, ap, subst, ◌∙◌, ◌⊎◌, inl, inr, arith}
use Rattle.std.specs.Prelude.{option_map, ◌↔◌}
use Rattle.th_world.specs.Event.{puts, takes}
use Rattle.th_world.specs.Outside.{Rose}
use Rattle.th_runs.specs.Stand.{Stand, End}
use Rattle.th_runs.specs.Stand as ends
use Rattle.th_meaning.specs.Program.{Program}
use Rattle.th_meaning.specs.Run.{source_run}
use Rattle.th_puts.specs.Form.{AreBytes}
use Rattle.th_rv.specs.Step as halt
use Rattle.th_elf.specs.declared.image.Image.{Image}
use Rattle.th_elf.specs.Run.{Machine, Stopped, Retired, Retires, Takes, running, stand, end_of, trace, names_of}
use Rattle.th_elf.proofs.Logs.{retires_run}
use Rattle.th_link.specs.Agrees.{Agrees, image_run, loaded_image}
use Rattle.th_mach.specs.declared.answer.Outcome.{Outcome}
use Rattle.th_mach.specs.declared.answer.Outcome.TheVariants.{Ended, Raised, RoomUsed, StepsUsed, Trap, ReadFault, WriteFault}
use Rattle.th_mach.specs.Ran as mach
use Rattle.th_mach.specs.Ran.{Seen, Ran, TakesTold}
use Rattle.th_words.specs.Words.{Command, Go, Run, IsCommand, IsNoCommand, IsAtMostOne}
use Rattle.th_files.specs.Reading.{Told, AreThere, IsUnread}
use Rattle.th_accept.specs.Answers.{Accepted}
use Rattle.th_accept.specs.declared.refusal.Refusal.{Refusal}
use Rattle.th_top.specs.Meant.{AreOfForm}
use Rattle.th_top.specs.Outside.{Outside}
use Rattle.th_top.specs.Report.{Report, Reports}
use Rattle.th_top.specs.Answers as answers
use Rattle.th_top.specs.Answers.{Verdict, Done, BadFile, NotBuilt, BadElf, RunRaised, NoRoom, NoSteps, Trapped, NoMemory, StreamFailed, status_of, report_of, text_limit, step_limit, region_size, OfTexts, UnreadAmong, RefusesTexts, LeavesUnbuilt, IsUnbuilt, Tells, Executed, Went, Goes, Does, Answers}
use Rattle.th_top.specs.Complete.{Given, AreBuilt, NoFault, CompleteFor, RefusedFor, ReportsRefusal, ReportsUnbuilt, JudgedFor, DidAsSource, HeadlineFor}
use Rattle.th_top.proofs.Events.{trace_puts, trace_takes}
use Rattle.th_top.proofs.Expected.{lawful_region}
use Rattle.th_top.proofs.Told.{some_one, same_texts, can_read}

-- a command `go` has one list of files
files_of : Command → List (List ℕ)
files_of (Go out files) = files
files_of (Run file region steps) = []

same_files : (words : List (List ℕ)) (only : IsAtMostOne words) (out : List ℕ) (files : List (List ℕ)) (out1 : List ℕ) (files1 : List (List ℕ)) → IsCommand words (Go out files) → IsCommand words (Go out1 files1) → files ≡ files1
unfolding files_of
same_files words only out files out1 files1 a b = ap files_of (only (Go out files) (Go out1 files1) a b)

-- a stream that failed has a count that rose
fault_by : (outcome : Outcome) (n : ℕ) (middle later : Seen) (before_reads before_writes : ℕ) → middle.read_faults ≡ before_reads → middle.write_faults ≡ before_writes
    → Tells outcome StreamFailed → mach.Ends outcome n step_limit middle later → Rose before_reads later.read_faults ⊎ Rose before_writes later.write_faults
fault_by ReadFault n middle later br bw er ew tells e = inl (subst (λ k. Rose k later.read_faults) er e.0.rose)
fault_by WriteFault n middle later br bw er ew tells e = inr (subst (λ k. Rose k later.write_faults) ew e.0.rose)
fault_by Ended n middle later br bw er ew tells e = cc
fault_by (Raised at k) n middle later br bw er ew tells e = absurd tells
fault_by RoomUsed n middle later br bw er ew tells e = absurd tells
fault_by StepsUsed n middle later br bw er ew tells e = absurd tells
fault_by (Trap cause pc) n middle later br bw er ew tells e = absurd tells

stream_rose : (out : List ℕ) (modules : Program) (before later : Outside) → Executed out modules before later StreamFailed
    → Rose before.read_faults later.read_faults ⊎ Rose before.write_faults later.write_faults
stream_rose out modules before later x =
    fault_by x.outcome (length x.ran.log) x.ran.middle _ before.read_faults before.write_faults x.ran.retiring.read_faults x.ran.retiring.write_faults x.tells x.ran.ends

no_stream_fault : (before later : Outside) → NoFault before later → Rose before.read_faults later.read_faults ⊎ Rose before.write_faults later.write_faults → ⊥
no_stream_fault before later none (inl rose) = none.read_faults rose
no_stream_fault before later none (inr rose) = none.write_faults rose

-- one text has no second file
no_second : (told : Told) (files : List (List ℕ)) (text name : List ℕ) → AreThere text_limit told files (text ∷ []) → slice_get files 1 ≡ Some name → ⊥
no_second told [] text name there at = cc
no_second told (file ∷ []) text name there at = cc
no_second told (file ∷ other ∷ files) text name there at = absurd there.2

-- one text of the form isn't left unbuilt
not_unbuilt : (told : Told) (files texts : List (List ℕ)) (name text : List ℕ) → AreThere text_limit told files texts → texts ≡ text ∷ [] → AreOfForm (text ∷ []) → IsUnbuilt files texts name → ⊥
not_unbuilt told files texts name text there one built (inl first) = first.1 (subst (λ ts. AreOfForm (take 1 ts)) (sym one) built)
not_unbuilt told files texts name text there one built (inr second) = no_second told files text name (subst (AreThere text_limit told files) one there) second.0

-- statuses of verdicts
not_run : (words : List (List ℕ)) (only : IsAtMostOne words) (file out : List ℕ) (files : List (List ℕ)) (region steps : ℕ) → IsCommand words (Run file region steps) → IsCommand words (Go out files) → ⊥
not_run words only file out files region steps a b = let e : Run file region steps ≡ Go out files = only (Run file region steps) (Go out files) a b in cc

no_command_status : (v : Verdict) (status : ℕ) → status ≡ status_of v → status ≡ 1 → ⊥
no_command_status Done status is one = omega (arith, is, one)
no_command_status (BadFile name) status is one = omega (arith, is, one)
no_command_status (answers.Refused name refusal) status is one = omega (arith, is, one)
no_command_status (NotBuilt name) status is one = omega (arith, is, one)
no_command_status NoMemory status is one = omega (arith, is, one)
no_command_status StreamFailed status is one = omega (arith, is, one)
no_command_status (BadElf name field) status is one = omega (arith, is, one)
no_command_status (RunRaised name) status is one = omega (arith, is, one)
no_command_status NoRoom status is one = omega (arith, is, one)
no_command_status NoSteps status is one = omega (arith, is, one)
no_command_status (Trapped cause pc) status is one = omega (arith, is, one)

-- status 1 comes exactly where the words are no command
pub command_exactly : (words : List (List ℕ)) (before later : Outside) (rb rl : Report) (status : ℕ) → Answers words before later rb rl status → (status ≡ 1) ↔ IsNoCommand words
command_exactly words before later rb rl status (inl refused) = (λ one. refused.no_command, λ none. refused.answers)
command_exactly words before later rb rl status (inr obeyed) = (
  λ one. absurd (no_command_status obeyed.verdict status obeyed.answers one),
  λ none. absurd (none obeyed.command obeyed.is_command),
)

-- what follows where the words are `go` of files that are told, and no count of faults rose, by how the command went
module _ (words : List (List ℕ)) (only : IsAtMostOne words) (before later : Outside) (texts : List (List ℕ)) (g : Given words before texts) (out : List ℕ) (files : List (List ℕ)) (go : IsCommand words (Go out files)) where
  files_are : files ≡ g.names
  files_are = same_files words only out files g.out g.names go g.is_command

  -- the texts that were read are those that are given
  texts_are : (read : List (List ℕ)) → AreThere text_limit before.files files read → read ≡ texts
  texts_are read there = same_texts text_limit before.files g.files g.names files read texts g.told files_are there g.there

  no_unread : (name : List ℕ) → NoFault before later → IsUnread text_limit before.files name before.file_faults later.file_faults → (k : ℕ) → slice_get files k ≡ Some name → ⊥
  no_unread name none (inl cannot) k at = can_read text_limit before.files g.files g.names texts k name g.told g.there (subst (λ ns. slice_get ns k ≡ Some name) files_are at) cannot.0
  no_unread name none (inr rose) k at = none.file_faults rose

  no_file_fault : (name : List ℕ) → NoFault before later → UnreadAmong text_limit before.files files name before.file_faults later.file_faults ⊎ ((name ≡ out) × Rose before.file_faults later.file_faults) → ⊥
  no_file_fault name none (inl unread) = no_unread unread.at.name none unread.at.unread unread.place unread.at.at
  no_file_fault name none (inr unwritten) = none.file_faults unwritten.1

  not_refused : (name : List ℕ) (refusal : Refusal) → AreBuilt texts → OfTexts before.files files (RefusesTexts files name refusal) → ⊥
  not_refused name refusal built r = r.2.unaccepted built.modules (subst (λ ts. Accepted ts built.modules) (sym (texts_are r.0 r.1 ∙ built.one)) built.means.accepted)

  not_left : (name : List ℕ) → AreBuilt texts → OfTexts before.files files (LeavesUnbuilt files name) → ⊥
  not_left name built u = not_unbuilt before.files files u.0 name built.text u.1 (texts_are u.0 u.1 ∙ built.one) (built.modules, built.means) u.2.unbuilt

  complete_by : (status : ℕ) → AreBuilt texts → NoFault before later → (v : Verdict) → Goes out files before later v → status ≡ status_of v → (status ≡ 0) ⊎ (status ≡ 9)
  complete_by status built none Done goes is = inl is
  complete_by status built none NoMemory goes is = inr is
  complete_by status built none (BadFile name) goes is = absurd (no_file_fault name none goes.1)
  complete_by status built none (answers.Refused name refusal) goes is = absurd (not_refused name refusal built goes.1)
  complete_by status built none (NotBuilt name) goes is = absurd (not_left name built goes.1)
  complete_by status built none StreamFailed goes is = absurd (no_stream_fault before later none (stream_rose out goes.modules before later goes.executed))
  complete_by status built none (BadElf name field) goes is = absurd goes
  complete_by status built none (RunRaised name) goes is = absurd goes
  complete_by status built none NoRoom goes is = absurd goes
  complete_by status built none NoSteps goes is = absurd goes
  complete_by status built none (Trapped cause pc) goes is = absurd goes

  went_built : (v : Verdict) → Went out files before later v → AreBuilt texts
  went_built v w =
      let is : w.text ∷ [] ≡ texts = texts_are (w.text ∷ []) w.there in
      record { text = w.text; one = sym is; modules = w.modules; means = w.means }

  refused_by : (status : ℕ) → (AreBuilt texts → ⊥) → NoFault before later → (v : Verdict) → Goes out files before later v → status ≡ status_of v → (status ≡ 3) ⊎ (status ≡ 9)
  refused_by status unbuilt none Done goes is = absurd (unbuilt (went_built Done goes))
  refused_by status unbuilt none NoMemory goes is = inr is
  refused_by status unbuilt none (BadFile name) goes is = absurd (no_file_fault name none goes.1)
  refused_by status unbuilt none (answers.Refused name refusal) goes is = inl is
  refused_by status unbuilt none (NotBuilt name) goes is = inl is
  refused_by status unbuilt none StreamFailed goes is = absurd (unbuilt (went_built StreamFailed goes))
  refused_by status unbuilt none (BadElf name field) goes is = absurd goes
  refused_by status unbuilt none (RunRaised name) goes is = absurd goes
  refused_by status unbuilt none NoRoom goes is = absurd goes
  refused_by status unbuilt none NoSteps goes is = absurd goes
  refused_by status unbuilt none (Trapped cause pc) goes is = absurd goes

  judged_by : (rb rl : Report) (status : ℕ) → status ≡ 3 → (v : Verdict) → Goes out files before later v → status ≡ status_of v → Reports (report_of v) rb rl → ReportsRefusal g.names texts rb rl ⊎ ReportsUnbuilt g.names texts rb rl
  judged_by rb rl status three (answers.Refused name refusal) goes is report =
      let r : OfTexts before.files files (RefusesTexts files name refusal) = goes.1 in
      inl (record {
        name = name;
        refusal = refusal;
        refuses = subst (λ ns. RefusesTexts ns name refusal texts) files_are (subst (RefusesTexts files name refusal) (texts_are r.0 r.1) r.2);
        report = report;
      })
  judged_by rb rl status three (NotBuilt name) goes is report =
      let u : OfTexts before.files files (LeavesUnbuilt files name) = goes.1 in
      inr (record {
        name = name;
        leaves = subst (λ ns. LeavesUnbuilt ns name texts) files_are (subst (LeavesUnbuilt files name) (texts_are u.0 u.1) u.2);
        report = report;
      })
  judged_by rb rl status three Done goes is report = absurd (omega (arith, three, is))
  judged_by rb rl status three NoMemory goes is report = absurd (omega (arith, three, is))
  judged_by rb rl status three (BadFile name) goes is report = absurd (omega (arith, three, is))
  judged_by rb rl status three StreamFailed goes is report = absurd (omega (arith, three, is))
  judged_by rb rl status three (BadElf name field) goes is report = absurd goes
  judged_by rb rl status three (RunRaised name) goes is report = absurd goes
  judged_by rb rl status three NoRoom goes is report = absurd goes
  judged_by rb rl status three NoSteps goes is report = absurd goes
  judged_by rb rl status three (Trapped cause pc) goes is report = absurd goes

module _ (words : List (List ℕ)) (only : IsAtMostOne words) (before later : Outside) (texts : List (List ℕ)) (g : Given words before texts) where
  complete_of : (status : ℕ) → AreBuilt texts → NoFault before later → (command : Command) → IsCommand words command → (v : Verdict) → Does command before later v → status ≡ status_of v → (status ≡ 0) ⊎ (status ≡ 9)
  complete_of status built none (Go out files) is v does said = complete_by words only before later texts g out files is status built none v does said
  complete_of status built none (Run file region steps) is v does said = absurd (not_run words only file g.out g.names region steps is g.is_command)

  refused_of : (status : ℕ) → (AreBuilt texts → ⊥) → NoFault before later → (command : Command) → IsCommand words command → (v : Verdict) → Does command before later v → status ≡ status_of v → (status ≡ 3) ⊎ (status ≡ 9)
  refused_of status unbuilt none (Go out files) is v does said = refused_by words only before later texts g out files is status unbuilt none v does said
  refused_of status unbuilt none (Run file region steps) is v does said = absurd (not_run words only file g.out g.names region steps is g.is_command)

  judged_of : (rb rl : Report) (status : ℕ) → status ≡ 3 → (command : Command) → IsCommand words command → (v : Verdict) → Does command before later v → status ≡ status_of v → Reports (report_of v) rb rl
      → ReportsRefusal g.names texts rb rl ⊎ ReportsUnbuilt g.names texts rb rl
  judged_of rb rl status three (Go out files) is v does said report = judged_by words only before later texts g out files is rb rl status three v does said report
  judged_of rb rl status three (Run file region steps) is v does said report = absurd (not_run words only file g.out g.names region steps is g.is_command)

-- texts that are accepted and built give status 0, or 9 for want of memory
pub complete : (words : List (List ℕ)) (only : IsAtMostOne words) (before later : Outside) (rb rl : Report) (status : ℕ) → Answers words before later rb rl status → CompleteFor words before later status
complete words only before later rb rl status (inl refused) = λ texts g built none. absurd (refused.no_command (Go g.out g.names) g.is_command)
complete words only before later rb rl status (inr obeyed) =
    λ texts g built none. complete_of words only before later texts g status built none obeyed.command obeyed.is_command obeyed.verdict obeyed.does obeyed.answers

-- texts that aren't accepted or aren't built give status 3, or 9 for want of memory
pub refused : (words : List (List ℕ)) (only : IsAtMostOne words) (before later : Outside) (rb rl : Report) (status : ℕ) → Answers words before later rb rl status → RefusedFor words before later status
refused words only before later rb rl status (inl unheard) = λ texts g unbuilt none. absurd (unheard.no_command (Go g.out g.names) g.is_command)
refused words only before later rb rl status (inr obeyed) =
    λ texts g unbuilt none. refused_of words only before later texts g status unbuilt none obeyed.command obeyed.is_command obeyed.verdict obeyed.does obeyed.answers

-- status 3 tells that texts are refused, or that they are accepted and not built
pub judged : (words : List (List ℕ)) (only : IsAtMostOne words) (before later : Outside) (rb rl : Report) (status : ℕ) → Answers words before later rb rl status → JudgedFor words before rb rl status
judged words only before later rb rl status (inl unheard) = λ texts g three. absurd (unheard.no_command (Go g.out g.names) g.is_command)
judged words only before later rb rl status (inr obeyed) =
    λ texts g three. judged_of words only before later texts g rb rl status three obeyed.command obeyed.is_command obeyed.verdict obeyed.does obeyed.answers obeyed.report

-- an input that is told, after a log took of it
pub took_told : (o l : Option (List ℕ)) (log : List Retired) (input : List ℕ) → TakesTold o log l → o ≡ Some input → (rest : List ℕ) × (l ≡ Some rest) × Takes input log rest
took_told None l log input takes is = cc
took_told (Some left) None log input takes is = absurd takes
took_told (Some left) (Some rest) log input takes is =
    let P : List ℕ → Type 0 = λ x. Takes x log rest in
    (rest, refl, subst P (some_one left input is) takes)

ended_by : (outcome : Outcome) (n : ℕ) (middle later : Seen) → Tells outcome Done → mach.Ends outcome n step_limit middle later → (later ≡ middle) × (middle.machine.status ≡ Stopped halt.Ended) × (n ≤ step_limit)
ended_by Ended n middle later tells e = e
ended_by ReadFault n middle later tells e = cc
ended_by WriteFault n middle later tells e = cc
ended_by (Raised at k) n middle later tells e = absurd tells
ended_by RoomUsed n middle later tells e = absurd tells
ended_by StepsUsed n middle later tells e = absurd tells
ended_by (Trap cause pc) n middle later tells e = absurd tells

-- the run of the image that ended, as the definition has it
run_ended : (image : Image) (input rest : List ℕ) (log : List Retired) (m : Machine) → Retires (running (loaded_image image region_size)) log m → m.status ≡ Stopped halt.Ended → Takes input log rest
    → ◌≡◌ {A = Stand} (image_run image region_size input (length log)) (record { end = ends.Ended; trace = trace (names_of image.map) log })
unfolding image_run stand
run_ended image input rest log m retires stops takes =
    ap (stand (names_of image.map)) (retires_run (running (loaded_image image region_size)) log m input rest retires takes)
    ∙ ap (λ st. record { end = end_of m.state st; trace = trace (names_of image.map) log }) stops

same_stand : (a b : Stand) → a.end ≡ b.end → a.trace ≡ b.trace → a ≡ b
same_stand a b e t = ap (λ x. record { end = x; trace = a.trace }) e ∙ ap (λ x. record { end = b.end; trace = x }) t

-- the image's run that ended is the source's
source_ended : (image : Image) (modules : Program) (input : List ℕ) (steps : ℕ) (t : Stand) → Agrees image modules → AreBytes input → image_run image region_size input steps ≡ t → t.end ≡ ends.Ended
    → (source_run modules input None steps ≡ t)
source_ended image modules input steps t agrees bytes is ended =
    let over : (image_run image region_size input steps).end ≡ ends.Ended = ap (λ (x : Stand). x.end) is ∙ ended in
    let both : ((source_run modules input None steps).end ≡ ends.Ended) × ((source_run modules input None steps).trace ≡ (image_run image region_size input steps).trace) =
    (agrees.runs input region_size bytes lawful_region).ends_alike steps over in
    same_stand (source_run modules input None steps) t (both.0 ∙ sym ended) (both.1 ∙ ap (λ (x : Stand). x.trace) is)

-- a command that ended did what the source does
module _ (words : List (List ℕ)) (only : IsAtMostOne words) (before later : Outside) (texts : List (List ℕ)) (g : Given words before texts) (input : List ℕ) (told : before.left ≡ Some input) (bytes : AreBytes input) where
  did : (out : List ℕ) (files : List (List ℕ)) → IsCommand words (Go out files) → (w : Went out files before later Done) → DidAsSource words before later texts input
  did out files go w =
      let e : Executed out w.modules before later Done = w.executed in
      let log : List Retired = e.ran.log in
      let ended : (_ ≡ e.ran.middle) × (e.ran.middle.machine.status ≡ Stopped halt.Ended) × (length log ≤ step_limit) = ended_by e.outcome (length log) e.ran.middle _ e.tells e.ran.ends in
      let taken : (rest : List ℕ) × (e.ran.middle.left ≡ Some rest) × Takes input log rest = took_told before.left e.ran.middle.left log input e.ran.retiring.left told in
      let t : Stand = record { end = ends.Ended; trace = trace (names_of e.image.map) log } in
      let is : image_run e.image region_size input (length log) ≡ t = run_ended e.image input taken.0 log e.ran.middle.machine e.ran.retiring.retires ended.1 taken.2 in
      let source : source_run w.modules input None (length log) ≡ t = source_ended e.image w.modules input (length log) t e.agrees bytes is refl in
      let alone : w.text ∷ [] ≡ texts = texts_are words only before later texts g out files go (w.text ∷ []) w.there in
      record {
        text = w.text;
        one = sym alone;
        modules = w.modules;
        accepted = subst (λ ts. Accepted ts w.modules) alone w.means.accepted;
        puts_bytes = w.means.puts;
        image = e.image;
        agrees = e.agrees;
        out = out;
        names = files;
        is_command = go;
        files = e.files;
        steps = length log;
        few = ended.2;
        ended = ap (λ (x : Stand). x.end) source;
        same = is ∙ sym source;
        put = ap (λ (x : Seen). x.put) ended.0 ∙ e.ran.retiring.put
            ∙ ap (λ x. option_map (λ bs. bs ++ x) before.put) (sym (trace_puts (names_of e.image.map) log) ∙ ap (λ (x : Stand). puts x.trace) (sym source));
        left = taken.0;
        left_told = ap (λ (x : Seen). x.left) ended.0 ∙ taken.1;
        taken = trace_takes (names_of e.image.map) log input taken.0 taken.2 ∙ ap (λ (x : Stand). takes x.trace ++ taken.0) (sym source);
      }

  headline_by : (status : ℕ) → status ≡ 0 → (out : List ℕ) (files : List (List ℕ)) → IsCommand words (Go out files) → (v : Verdict) → Goes out files before later v → status ≡ status_of v → DidAsSource words before later texts input
  headline_by status nil out files go Done goes is = did out files go goes
  headline_by status nil out files go NoMemory goes is = absurd (omega (arith, nil, is))
  headline_by status nil out files go (BadFile name) goes is = absurd (omega (arith, nil, is))
  headline_by status nil out files go (answers.Refused name refusal) goes is = absurd (omega (arith, nil, is))
  headline_by status nil out files go (NotBuilt name) goes is = absurd (omega (arith, nil, is))
  headline_by status nil out files go StreamFailed goes is = absurd (omega (arith, nil, is))
  headline_by status nil out files go (BadElf name field) goes is = absurd goes
  headline_by status nil out files go (RunRaised name) goes is = absurd goes
  headline_by status nil out files go NoRoom goes is = absurd goes
  headline_by status nil out files go NoSteps goes is = absurd goes
  headline_by status nil out files go (Trapped cause pc) goes is = absurd goes

  headline_of : (status : ℕ) → status ≡ 0 → (command : Command) → IsCommand words command → (v : Verdict) → Does command before later v → status ≡ status_of v → DidAsSource words before later texts input
  headline_of status nil (Go out files) is v does said = headline_by status nil out files is v does said
  headline_of status nil (Run file region steps) is v does said = absurd (not_run words only file g.out g.names region steps is g.is_command)

-- status 0 says that the executable did what the source does
pub headline : (words : List (List ℕ)) (only : IsAtMostOne words) (before later : Outside) (rb rl : Report) (status : ℕ) → Answers words before later rb rl status → HeadlineFor words before later status
headline words only before later rb rl status (inl refused) = λ texts input g told bytes nil. absurd (omega (arith, nil, refused.answers))
headline words only before later rb rl status (inr obeyed) =
    λ texts input g told bytes nil. headline_of words only before later texts g input told bytes status nil obeyed.command obeyed.is_command obeyed.verdict obeyed.does obeyed.answers
