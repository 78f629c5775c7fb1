-- What becomes of the files of a command: why it stops before anything is written.
use Rattle.std.specs.Prelude.{◌≡◌, ℕ, List}
use Rattle.th_files.specs.Reading.{Told}
use Rattle.th_meaning.specs.Program.{Program}
use Rattle.th_puts.specs.Form.{IsPuts}
use Rattle.th_top.specs.Answers as answers
use Rattle.th_top.specs.Answers.{Verdict, Done, BadFile, NotBuilt, BadElf, RunRaised, NoRoom, NoSteps, Trapped, NoMemory, StreamFailed, text_limit, OfTexts, UnreadAmong, RefusesTexts, LeavesUnbuilt, IsUnbuilt}

-- why files give no executable, where they tell so much and their count of faults was the first and is the second
abbrev pub Stops : (told : Told) (files : List (List ℕ)) (before later : ℕ) → Verdict → Type 0
Stops told files before later NoMemory = later ≡ before
Stops told files before later (BadFile name) = UnreadAmong text_limit told files name before later
Stops told files before later (answers.Refused name refusal) = (later ≡ before) × OfTexts told files (RefusesTexts files name refusal)
Stops told files before later (NotBuilt name) = (later ≡ before) × OfTexts told files (LeavesUnbuilt files name)
Stops told files before later Done = ⊥
Stops told files before later (BadElf name field) = ⊥
Stops told files before later (RunRaised name) = ⊥
Stops told files before later NoRoom = ⊥
Stops told files before later NoSteps = ⊥
Stops told files before later (Trapped cause pc) = ⊥
Stops told files before later StreamFailed = ⊥

-- why texts of files, which are accepted, aren't built; want of memory says nothing
abbrev pub StopsUnbuilt : (files texts : List (List ℕ)) → Verdict → Type 0
StopsUnbuilt files texts NoMemory = Unit {0}
StopsUnbuilt files texts (NotBuilt name) = IsUnbuilt files texts name
StopsUnbuilt files texts (BadFile name) = ⊥
StopsUnbuilt files texts (answers.Refused name refusal) = ⊥
StopsUnbuilt files texts Done = ⊥
StopsUnbuilt files texts (BadElf name field) = ⊥
StopsUnbuilt files texts (RunRaised name) = ⊥
StopsUnbuilt files texts NoRoom = ⊥
StopsUnbuilt files texts NoSteps = ⊥
StopsUnbuilt files texts (Trapped cause pc) = ⊥
StopsUnbuilt files texts StreamFailed = ⊥

-- why the program of one file, which is accepted with these checked modules, isn't built; want of memory says nothing
abbrev pub StopsAlone : (file : List ℕ) (modules : Program) → Verdict → Type 0
StopsAlone file modules NoMemory = Unit {0}
StopsAlone file modules (NotBuilt name) = (name ≡ file) × (IsPuts modules → ⊥)
StopsAlone file modules (BadFile name) = ⊥
StopsAlone file modules (answers.Refused name refusal) = ⊥
StopsAlone file modules Done = ⊥
StopsAlone file modules (BadElf name field) = ⊥
StopsAlone file modules (RunRaised name) = ⊥
StopsAlone file modules NoRoom = ⊥
StopsAlone file modules NoSteps = ⊥
StopsAlone file modules (Trapped cause pc) = ⊥
StopsAlone file modules StreamFailed = ⊥
