-- What is built of a text.
use Rattle.std.specs.Prelude.{◌≡◌, ℕ, ◌≤◌, List, [], ◌∷◌, Option, Some}
use Rattle.th_elf.specs.declared.image.Image.{Image}
use Rattle.th_elf.specs.Written.{written}
use Rattle.th_link.specs.Agrees.{Agrees, loaded_image}
use Rattle.th_link.specs.Ends.{EndsInTime}
use Rattle.th_link.specs.Puts.{IsLawful}
use Rattle.th_mach.specs.Counted.{Counted, fresh}
use Rattle.th_mach.specs.declared.answer.Outcome.{Outcome}
use Rattle.th_mach.specs.declared.answer.Outcome.TheVariants.{Ended, Raised, RoomUsed, StepsUsed, Trap, ReadFault, WriteFault}
use Rattle.th_top.specs.declared.build.Product.{Product}
use Rattle.th_mach.specs.Ran.{seen, Ran}
use Rattle.th_elf.specs.Lawful.{IsRegion}
use Rattle.th_words.specs.Words.{Command, Go, Run, AreFiles}
use Rattle.th_rv.specs.Memory.{Area, bytes_at}
use Rattle.th_files.specs.Reading.{Told, AreThere}
use Rattle.th_meaning.specs.Program.{Program}
use Rattle.th_top.specs.Meant.{Means}
use Rattle.th_top.specs.Answers.{text_limit, region_size, Verdict, TellsOf}

-- the machine was loaded from the image's written form and retired nothing yet
abbrev pub IsLoaded : Image → Counted → Type 0
IsLoaded image c = c ≡ fresh (loaded_image image region_size)

-- the file is the written form of an image that agrees with a program and ends in time, and the machine was loaded from it
pub record IsProductOf (modules : Program) (p : Product) : Type 0 where
  pub image : Image
  pub agrees : Agrees image modules
  pub ends : EndsInTime image
  pub lawful : IsLawful image
  pub bytes : p.bytes.items ≡ written image
  pub loaded : IsLoaded image p.machine

-- the texts are one text, which means these checked modules
pub record MeansAlone (texts : List (List ℕ)) (modules : Program) : Type 0 where
  pub text : List ℕ
  pub one : texts ≡ text ∷ []
  pub means : Means (text ∷ []) modules

-- the texts of files are one text of the form, and the product is that of its checked modules
pub record IsProduct (told : Told) (files : List (List ℕ)) (p : Product) : Type 0 where
  pub texts : List (List ℕ)
  pub there : AreThere text_limit told files texts
  pub modules : Program
  pub alone : MeansAlone texts modules
  pub product : IsProductOf modules p

-- a machine that was loaded from an image whose run ends in time
pub record Ends (c : Counted) : Type 0 where
  pub image : Image
  pub in_time : EndsInTime image
  pub lawful : IsLawful image
  pub loaded : IsLoaded image c

-- the outcomes of a run that ends by itself
abbrev pub IsExpected : Outcome → Type 0
IsExpected Ended = Unit {0}
IsExpected ReadFault = Unit {0}
IsExpected WriteFault = Unit {0}
IsExpected (Raised at length) = ⊥
IsExpected RoomUsed = ⊥
IsExpected StepsUsed = ⊥
IsExpected (Trap cause pc) = ⊥

-- the name of an exception is in memory: at most 129 bytes, all loadable
pub record HasName (areas : List Area) (at n : ℕ) : Type 0 where
  pub short : n ≤ 129
  pub name : List ℕ
  pub there : bytes_at n areas at ≡ Some name

-- where the outcome is that an exception was raised, the machine has its name
abbrev pub IsNamed : Counted → Outcome → Type 0
IsNamed c (Raised at n) = HasName c.machine.state.areas at n
IsNamed c Ended = Unit {0}
IsNamed c RoomUsed = Unit {0}
IsNamed c StepsUsed = Unit {0}
IsNamed c (Trap cause pc) = Unit {0}
IsNamed c ReadFault = Unit {0}
IsNamed c WriteFault = Unit {0}

-- a machine without watchers ran from `first`, with at most so many instructions, and its outcome tells the verdict;
-- before and after it the streams told this: the bytes put, the bytes left, and the counts of faults
pub record Executes (first : Counted) (steps : ℕ) (put left : Option (List ℕ)) (read_faults write_faults : ℕ)
    (put_later left_later : Option (List ℕ)) (read_faults_later write_faults_later : ℕ) (verdict : Verdict) : Type 0 where
  pub last : Counted
  pub outcome : Outcome
  pub ran : Ran steps (seen first put left read_faults write_faults []) outcome (seen last put_later left_later read_faults_later write_faults_later [])
  pub tells : TellsOf outcome last verdict

-- what a command that was read off words has: few files, or a lawful region
abbrev pub IsKept : Command → Type 0
IsKept (Go out files) = AreFiles files
IsKept (Run file region steps) = IsRegion region
