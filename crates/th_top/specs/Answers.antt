-- What a call of the program does: its status, its report, and what it does to files and streams.
use Rattle.std.specs.Prelude.{◌≡◌, ℕ, ◌≤◌, List, [], ◌∷◌, ◌++◌, length, slice_get, take, Option, Some, None, option_map, codes, ◌⊎◌}
use Rattle.th_world.specs.Outside.{Rose, with_file}
use Rattle.th_elf.specs.declared.image.Image.{Image}
use Rattle.th_elf.specs.Written.{written}
use Rattle.th_elf.specs.declared.error.Field.{Field}
use Rattle.th_elf.specs.Named.{name_of}
use Rattle.th_elf.specs.Loadable.{first_failing, segments_of}
use Rattle.th_elf.specs.Run.{loaded}
use Rattle.th_rv.specs.declared.instr.Cause.{Cause}
use Rattle.th_rv.specs.Memory.{bytes_at}
use Rattle.th_link.specs.Agrees.{Agrees, loaded_image}
use Rattle.th_mach.specs.declared.answer.Outcome.{Outcome}
use Rattle.th_mach.specs.declared.answer.Outcome.TheVariants.{Ended, Raised, RoomUsed, StepsUsed, Trap, ReadFault, WriteFault}
use Rattle.th_mach.specs.Counted.{Counted, fresh}
use Rattle.th_mach.specs.Ran.{seen, Ran}
use Rattle.th_words.specs.Words.{Command, Go, Run, IsCommand, IsNoCommand}
use Rattle.th_files.specs.Reading.{Told, Holds, AreThere, IsUnread, IsUnreadAt}
use Rattle.th_meaning.specs.Program.{Program}
use Rattle.th_accept.specs.Answers.{Accepted, Refused as RefusedFor}
use Rattle.th_accept.specs.declared.refusal.Refusal.{Refusal}
use Rattle.th_accept.specs.declared.refusal.Refusal.TheVariants as refusals
use Rattle.th_top.specs.Lines.{line, cause_word, hexadecimal, refusal_text}
use Rattle.th_top.specs.Report.{Report, Reports}
use Rattle.th_top.specs.Meant.{AreOfForm, Means}
use Rattle.th_top.specs.Outside.{Outside, Untouched}

-- the most bytes of a text and of an executable, and for `go` the bytes of the region and the most instructions of a run
abbrev pub text_limit : ℕ
text_limit = 2097152

abbrev pub file_limit : ℕ
file_limit = 1073741824

abbrev pub region_size : ℕ
region_size = 1048576

abbrev pub step_limit : ℕ
step_limit = 50000000

-- how a command ends: all was done, a file couldn't be read or written, a text is refused, a text isn't built, a file isn't loadable by
-- the condition on a field, the run raised the exception of a name, it stopped for room, it used up its steps, it
-- trapped, there was no memory, a stream failed
pub data Verdict : Type 0 where
  Done : Verdict
  BadFile : (name : List ℕ) → Verdict
  Refused : (name : List ℕ) → Refusal → Verdict
  NotBuilt : (name : List ℕ) → Verdict
  BadElf : (name : List ℕ) → Field → Verdict
  RunRaised : (name : List ℕ) → Verdict
  NoRoom : Verdict
  NoSteps : Verdict
  Trapped : Cause → (pc : ℕ) → Verdict
  NoMemory : Verdict
  StreamFailed : Verdict

-- the status of a verdict
abbrev pub status_of : Verdict → ℕ
status_of Done = 0
status_of (BadFile name) = 2
status_of (Refused name refusal) = 3
status_of (NotBuilt name) = 3
status_of (BadElf name field) = 5
status_of (RunRaised name) = 6
status_of NoRoom = 7
status_of NoSteps = 8
status_of (Trapped cause pc) = 10
status_of NoMemory = 9
status_of StreamFailed = 11

-- what is reported of a verdict
abbrev pub report_of : Verdict → List ℕ
report_of Done = []
report_of (BadFile name) = line (codes "file " ++ name)
report_of (Refused name refusal) = name ++ codes ": " ++ line (refusal_text refusal)
report_of (NotBuilt name) = name ++ line (codes ": not built")
report_of (BadElf name field) = name ++ codes ": bad elf " ++ name_of field ++ 10 ∷ []
report_of (RunRaised name) = line (codes "exception " ++ name)
report_of NoRoom = line (codes "room")
report_of NoSteps = line (codes "steps")
report_of (Trapped cause pc) = codes "trap " ++ cause_word cause ++ codes " at " ++ line (hexadecimal 8 pc)
report_of NoMemory = line (codes "memory")
report_of StreamFailed = line (codes "stream")

-- a file wasn't read, and nothing was done: it can't be read, or the files failed
abbrev pub Unread : (limit : ℕ) (file : List ℕ) (before later : Outside) → Type 0
Unread limit file before later = Untouched before later × IsUnread limit before.files file before.file_faults later.file_faults

-- the file of this name wasn't read and all before it were, where the files tell so much and their count of faults was the first and is the second
pub record UnreadAmong (limit : ℕ) (told : Told) (files : List (List ℕ)) (name : List ℕ) (before later : ℕ) : Type 0 where
  pub place : ℕ
  pub at : IsUnreadAt limit told files place before later
  pub named : name ≡ at.name

-- what the outcome of a run tells: it ended, or a stream failed
abbrev pub Tells : Outcome → Verdict → Type 0
Tells Ended v = v ≡ Done
Tells ReadFault v = v ≡ StreamFailed
Tells WriteFault v = v ≡ StreamFailed
Tells (Raised at length) v = ⊥
Tells RoomUsed v = ⊥
Tells StepsUsed v = ⊥
Tells (Trap cause pc) v = ⊥

-- the program of these modules was written at `out` and run
pub record Executed (out : List ℕ) (modules : Program) (before later : Outside) (verdict : Verdict) : Type 0 where
  -- the image whose written form stands at `out` agrees with the program
  pub image : Image
  pub agrees : Agrees image modules
  pub files : later.files ≡ option_map (with_file out (written image)) before.files
  pub written_names : later.written ≡ option_map (λ names. names ++ out ∷ []) before.written
  pub file_faults : later.file_faults ≡ before.file_faults
  -- the machine that was loaded from those very bytes ran on the input and the output
  pub last : Counted
  pub outcome : Outcome
  pub ran : Ran step_limit
      (seen (fresh (loaded_image image region_size)) before.put before.left before.read_faults before.write_faults [])
      outcome
      (seen last later.put later.left later.read_faults later.write_faults [])
  pub tells : Tells outcome verdict

-- the program was executed, or its file couldn't be written
abbrev pub Wrote : (out : List ℕ) (modules : Program) (before later : Outside) → Verdict → Type 0
Wrote out modules before later Done = Executed out modules before later Done
Wrote out modules before later StreamFailed = Executed out modules before later StreamFailed
Wrote out modules before later (BadFile name) = Untouched before later × (name ≡ out) × Rose before.file_faults later.file_faults
Wrote out modules before later (Refused name refusal) = ⊥
Wrote out modules before later (NotBuilt name) = ⊥
Wrote out modules before later (BadElf name field) = ⊥
Wrote out modules before later (RunRaised name) = ⊥
Wrote out modules before later NoRoom = ⊥
Wrote out modules before later NoSteps = ⊥
Wrote out modules before later (Trapped cause pc) = ⊥
Wrote out modules before later NoMemory = ⊥

-- the program in the one file was accepted, is of the form that is built, and was executed
pub record Went (out : List ℕ) (files : List (List ℕ)) (before later : Outside) (verdict : Verdict) : Type 0 where
  -- the file's bytes, and the checked modules that they mean
  pub text : List ℕ
  pub there : AreThere text_limit before.files files (text ∷ [])
  pub modules : Program
  pub means : Means (text ∷ []) modules
  pub executed : Executed out modules before later verdict

-- the number of the text that is refused
abbrev pub text_of : Refusal → Option ℕ
text_of (refusals.BadByte at) = Some at.text
text_of (refusals.WideNumber at) = Some at.text
text_of (refusals.Syntax at) = Some at.text
text_of (refusals.MissingInterface at name) = Some at.text
text_of (refusals.Rule number at) = Some at.text
text_of (refusals.TooLarge what count at) = Some at.text
text_of refusals.Memory = None

-- the text that is refused is that of the file of this name
pub record IsTextOf (files : List (List ℕ)) (name : List ℕ) (refusal : Refusal) : Type 0 where
  pub text : ℕ
  pub at : text_of refusal ≡ Some text
  pub named : slice_get files text ≡ Some name

-- texts of files are refused, and not accepted
pub record RefusesTexts (files : List (List ℕ)) (name : List ℕ) (refusal : Refusal) (texts : List (List ℕ)) : Type 0 where
  pub refused : RefusedFor texts refusal
  pub unaccepted : (modules : Program) → Accepted texts modules → ⊥
  pub names : IsTextOf files name refusal

-- the first file that isn't built: the first one, where its text is not by itself of the form, and else the second one
abbrev pub IsUnbuilt : (files texts : List (List ℕ)) (name : List ℕ) → Type 0
IsUnbuilt files texts name = ((slice_get files 0 ≡ Some name) × (AreOfForm (take 1 texts) → ⊥)) ⊎ ((slice_get files 1 ≡ Some name) × AreOfForm (take 1 texts))

-- texts of files are accepted, and not built yet
pub record LeavesUnbuilt (files : List (List ℕ)) (name : List ℕ) (texts : List (List ℕ)) : Type 0 where
  pub modules : Program
  pub accepted : Accepted texts modules
  pub unbuilt : IsUnbuilt files texts name

-- the files have their texts, of which this is said
abbrev pub OfTexts : (told : Told) (files : List (List ℕ)) → (List (List ℕ) → Type 0) → Type 0
OfTexts told files P = (texts : List (List ℕ)) × AreThere text_limit told files texts × P texts

-- nothing was done, and no file failed
abbrev pub NothingDone : (before later : Outside) → Type 0
NothingDone before later = Untouched before later × (later.file_faults ≡ before.file_faults)

-- how the command `go` goes, by its verdict
abbrev pub Goes : (out : List ℕ) (files : List (List ℕ)) (before later : Outside) → Verdict → Type 0
Goes out files before later Done = Went out files before later Done
Goes out files before later StreamFailed = Went out files before later StreamFailed
Goes out files before later NoMemory = NothingDone before later
Goes out files before later (Refused name refusal) = NothingDone before later × OfTexts before.files files (RefusesTexts files name refusal)
Goes out files before later (NotBuilt name) = NothingDone before later × OfTexts before.files files (LeavesUnbuilt files name)
Goes out files before later (BadFile name) =
    Untouched before later × (UnreadAmong text_limit before.files files name before.file_faults later.file_faults ⊎ ((name ≡ out) × Rose before.file_faults later.file_faults))
Goes out files before later (BadElf name field) = ⊥
Goes out files before later (RunRaised name) = ⊥
Goes out files before later NoRoom = ⊥
Goes out files before later NoSteps = ⊥
Goes out files before later (Trapped cause pc) = ⊥

-- what a run's outcome tells, with the machine after it
abbrev pub TellsOf : Outcome → Counted → Verdict → Type 0
TellsOf Ended last v = v ≡ Done
TellsOf (Raised at length) last v = (name : List ℕ) × (bytes_at length last.machine.state.areas at ≡ Some name) × (v ≡ RunRaised name)
TellsOf RoomUsed last v = v ≡ NoRoom
TellsOf StepsUsed last v = v ≡ NoSteps
TellsOf (Trap cause pc) last v = v ≡ Trapped cause pc
TellsOf ReadFault last v = v ≡ StreamFailed
TellsOf WriteFault last v = v ≡ StreamFailed

-- the executable in the file was run, with a region of so many bytes and at most so many instructions
pub record RunsFile (file : List ℕ) (region steps : ℕ) (before later : Outside) (verdict : Verdict) : Type 0 where
  -- the file's bytes, which are loadable
  pub bytes : List ℕ
  pub holds : Holds before.files file bytes
  pub within : length bytes ≤ file_limit
  pub loadable : first_failing bytes ≡ None
  -- no file was touched
  pub files : later.files ≡ before.files
  pub written_names : later.written ≡ before.written
  pub file_faults : later.file_faults ≡ before.file_faults
  -- the machine that was loaded from these bytes ran on the input and the output
  pub last : Counted
  pub outcome : Outcome
  pub ran : Ran steps
      (seen (fresh (loaded (segments_of bytes) region)) before.put before.left before.read_faults before.write_faults [])
      outcome
      (seen last later.put later.left later.read_faults later.write_faults [])
  pub tells : TellsOf outcome last verdict

-- how the command `run` goes, by its verdict
abbrev pub Runs : (file : List ℕ) (region steps : ℕ) (before later : Outside) → Verdict → Type 0
Runs file region steps before later Done = RunsFile file region steps before later Done
Runs file region steps before later (RunRaised name) = RunsFile file region steps before later (RunRaised name)
Runs file region steps before later NoRoom = RunsFile file region steps before later NoRoom
Runs file region steps before later NoSteps = RunsFile file region steps before later NoSteps
Runs file region steps before later (Trapped cause pc) = RunsFile file region steps before later (Trapped cause pc)
Runs file region steps before later StreamFailed = RunsFile file region steps before later StreamFailed
Runs file region steps before later NoMemory = Untouched before later × (later.file_faults ≡ before.file_faults)
Runs file region steps before later (BadElf name field) =
    Untouched before later × (later.file_faults ≡ before.file_faults) × (name ≡ file)
    × ((bytes : List ℕ) × Holds before.files file bytes × (length bytes ≤ file_limit) × (first_failing bytes ≡ Some field))
Runs file region steps before later (BadFile name) = (name ≡ file) × Unread file_limit file before later
Runs file region steps before later (Refused name refusal) = ⊥
Runs file region steps before later (NotBuilt name) = ⊥

-- how a command goes, by its verdict
abbrev pub Does : Command → (before later : Outside) → Verdict → Type 0
Does (Go out files) before later v = Goes out files before later v
Does (Run file region steps) before later v = Runs file region steps before later v

-- the words are no command, and the report says so
pub record Refuses (words : List (List ℕ)) (before later : Outside) (report_before report_later : Report) (status : ℕ) : Type 0 where
  pub no_command : IsNoCommand words
  pub answers : status ≡ 1
  pub untouched : Untouched before later
  pub file_faults : later.file_faults ≡ before.file_faults
  pub report : Reports (line (codes "words")) report_before report_later

-- the words are a command, which went in one way
pub record Obeys (words : List (List ℕ)) (before later : Outside) (report_before report_later : Report) (status : ℕ) : Type 0 where
  pub command : Command
  pub is_command : IsCommand words command
  pub verdict : Verdict
  pub does : Does command before later verdict
  pub answers : status ≡ status_of verdict
  pub report : Reports (report_of verdict) report_before report_later

-- what a call with these words does and answers
abbrev pub Answers : (words : List (List ℕ)) (before later : Outside) (report_before report_later : Report) (status : ℕ) → Type 0
Answers words before later report_before report_later status =
    Refuses words before later report_before report_later status ⊎ Obeys words before later report_before report_later status
