-- What a call of the program can be relied on for, where the files and the streams tell their content.
use Rattle.std.specs.Prelude.{◌≡◌, ℕ, ◌≤◌, List, [], ◌∷◌, ◌++◌, length, Option, Some, None, option_map, ◌⊎◌}
use Rattle.th_world.specs.Event.{puts, takes}
use Rattle.th_world.specs.Outside.{Rose, with_file}
use Rattle.th_runs.specs.Stand.{Ended}
use Rattle.th_meaning.specs.Program.{Program}
use Rattle.th_meaning.specs.Run.{source_run}
use Rattle.th_puts.specs.Form.{AreBytes, IsPuts}
use Rattle.th_elf.specs.declared.image.Image.{Image}
use Rattle.th_elf.specs.Written.{written}
use Rattle.th_elf.specs.declared.error.Field.{Field}
use Rattle.th_elf.specs.Loadable.{first_failing, segments_of}
use Rattle.th_elf.specs.Run.{Status, Running, Stopped, Trapped, loaded, start, run, trace, no_names}
use Rattle.th_elf.specs.Run.{Run as MachineRun}
use Rattle.th_rv.specs.Step as halt
use Rattle.th_link.specs.Agrees.{Agrees, image_run}
use Rattle.th_words.specs.Words.{Go, Run, IsCommand}
use Rattle.th_files.specs.Reading.{AreThere}
use Rattle.th_accept.specs.Answers.{Accepted}
use Rattle.th_accept.specs.declared.refusal.Refusal.{Refusal}
use Rattle.th_top.specs.Meant.{Means}
use Rattle.th_top.specs.Outside.{Outside}
use Rattle.th_top.specs.Report.{Report, Reports}
use Rattle.th_top.specs.Answers.{Refused, NotBuilt, report_of, RefusesTexts, LeavesUnbuilt, text_limit, file_limit, region_size, step_limit}

-- the words are `go OUT FILES`, the files are told, and each is there with its text, within the limit
pub record Given (words : List (List ℕ)) (before : Outside) (texts : List (List ℕ)) : Type 0 where
  pub out : List ℕ
  pub names : List (List ℕ)
  pub is_command : IsCommand words (Go out names)
  pub files : List ℕ → Option (List ℕ)
  pub told : before.files ≡ Some files
  pub there : AreThere text_limit before.files names texts

-- texts are one text, which is accepted and of the form that is built
pub record AreBuilt (texts : List (List ℕ)) : Type 0 where
  pub text : List ℕ
  pub one : texts ≡ text ∷ []
  pub modules : Program
  pub means : Means (text ∷ []) modules

-- no count of faults of the files, the input and the output rose
pub record NoFault (before later : Outside) : Type 0 where
  pub file_faults : Rose before.file_faults later.file_faults → ⊥
  pub read_faults : Rose before.read_faults later.read_faults → ⊥
  pub write_faults : Rose before.write_faults later.write_faults → ⊥

-- texts that are built give status 0, or 9 for want of memory
abbrev pub CompleteFor : (words : List (List ℕ)) (before later : Outside) (status : ℕ) → Type 0
CompleteFor words before later status =
    (texts : List (List ℕ)) → Given words before texts → AreBuilt texts → NoFault before later → (status ≡ 0) ⊎ (status ≡ 9)

-- texts that aren't accepted or aren't built give status 3, or 9 for want of memory
abbrev pub RefusedFor : (words : List (List ℕ)) (before later : Outside) (status : ℕ) → Type 0
RefusedFor words before later status =
    (texts : List (List ℕ)) → Given words before texts → (AreBuilt texts → ⊥) → NoFault before later → (status ≡ 3) ⊎ (status ≡ 9)

-- what is reported of texts of files: they are refused and not accepted, by the line of the refusal
pub record ReportsRefusal (files texts : List (List ℕ)) (report_before report_later : Report) : Type 0 where
  pub name : List ℕ
  pub refusal : Refusal
  pub refuses : RefusesTexts files name refusal texts
  pub report : Reports (report_of (Refused name refusal)) report_before report_later

-- or they are accepted and not built, by the line that says so
pub record ReportsUnbuilt (files texts : List (List ℕ)) (report_before report_later : Report) : Type 0 where
  pub name : List ℕ
  pub leaves : LeavesUnbuilt files name texts
  pub report : Reports (report_of (NotBuilt name)) report_before report_later

-- status 3 tells which of both holds of the texts
abbrev pub JudgedFor : (words : List (List ℕ)) (before : Outside) (report_before report_later : Report) (status : ℕ) → Type 0
JudgedFor words before report_before report_later status =
    (texts : List (List ℕ)) → (g : Given words before texts) → status ≡ 3
    → ReportsRefusal g.names texts report_before report_later ⊎ ReportsUnbuilt g.names texts report_before report_later

-- the executable of these texts stands at OUT and did what the source of their checked modules does on this input
pub record DidAsSource (words : List (List ℕ)) (before later : Outside) (texts : List (List ℕ)) (input : List ℕ) : Type 0 where
  -- the text, which is the only one
  pub text : List ℕ
  pub one : texts ≡ text ∷ []
  -- the checked modules with which the texts are accepted, which are of the form that is built
  pub modules : Program
  pub accepted : Accepted texts modules
  pub puts_bytes : IsPuts modules
  -- the image that agrees with the program, written at OUT
  pub image : Image
  pub agrees : Agrees image modules
  pub out : List ℕ
  pub names : List (List ℕ)
  pub is_command : IsCommand words (Go out names)
  pub files : later.files ≡ option_map (with_file out (written image)) before.files
  -- after so many instructions the machine with that image ended, and the source with as many turns did too, with an
  -- equal trace
  pub steps : ℕ
  pub few : steps ≤ step_limit
  pub ended : (source_run modules input None steps).end ≡ Ended
  pub same : image_run image region_size input steps ≡ source_run modules input None steps
  -- the bytes put at the output and taken from the input are those of the trace
  pub put : later.put ≡ option_map (λ bytes. bytes ++ puts (source_run modules input None steps).trace) before.put
  pub left : List ℕ
  pub left_told : later.left ≡ Some left
  pub taken : input ≡ takes (source_run modules input None steps).trace ++ left

-- status 0 says that the executable did what the source does
abbrev pub HeadlineFor : (words : List (List ℕ)) (before later : Outside) (status : ℕ) → Type 0
HeadlineFor words before later status =
    (texts : List (List ℕ)) (input : List ℕ) → Given words before texts → before.left ≡ Some input → AreBytes input → status ≡ 0
    → DidAsSource words before later texts input

-- the words are `run` of a file, the files are told, and the file is there with these bytes, within the limit
pub record GivenRun (words : List (List ℕ)) (before : Outside) (bytes : List ℕ) (region steps : ℕ) : Type 0 where
  pub file : List ℕ
  pub is_command : IsCommand words (Run file region steps)
  pub files : List ℕ → Option (List ℕ)
  pub told : before.files ≡ Some files
  pub there : files file ≡ Some bytes
  pub within : length bytes ≤ file_limit

-- the status of a run by how the machine stands after it
abbrev pub IsStatusOf : Status → ℕ → Type 0
IsStatusOf Running status = status ≡ 8
IsStatusOf (Stopped halt.Ended) status = status ≡ 0
IsStatusOf (Stopped (halt.Raised at length)) status = status ≡ 6
IsStatusOf (Stopped halt.RoomUsed) status = status ≡ 7
IsStatusOf (Trapped cause pc) status = status ≡ 10

-- the file was run on this input as the definition of the machine has it
pub record RanAsDefined (before later : Outside) (bytes input : List ℕ) (region steps status : ℕ) : Type 0 where
  -- so many steps were done, all of them where the machine still runs
  pub taken : ℕ
  pub few : taken ≤ steps
  pub all : status ≡ 8 → taken ≡ steps
  -- the run of the loaded machine after them
  pub after : MachineRun
  pub is : run taken (start (loaded (segments_of bytes) region) input) ≡ after
  pub stands : IsStatusOf after.status status
  -- what it put was put, and what it left is left
  pub put : later.put ≡ option_map (λ bs. bs ++ puts (trace no_names after.log)) before.put
  pub left : later.left ≡ Some after.input

-- a file that is loadable is run as the definition has it, or there was no memory
abbrev pub RunCompleteFor : (words : List (List ℕ)) (before later : Outside) (status : ℕ) → Type 0
RunCompleteFor words before later status =
    (bytes input : List ℕ) (region steps : ℕ) → GivenRun words before bytes region steps → before.left ≡ Some input → NoFault before later
    → first_failing bytes ≡ None → (status ≡ 9) ⊎ RanAsDefined before later bytes input region steps status

-- a file that isn't loadable gives status 5, or 9 for want of memory
abbrev pub RunRefusedFor : (words : List (List ℕ)) (before later : Outside) (status : ℕ) → Type 0
RunRefusedFor words before later status =
    (bytes : List ℕ) (region steps : ℕ) (field : Field) → GivenRun words before bytes region steps → NoFault before later
    → first_failing bytes ≡ Some field → (status ≡ 5) ⊎ (status ≡ 9)
