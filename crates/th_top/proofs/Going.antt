-- From the parts of the command `go` to the whole.
use Rattle.std.proofs.Common.{◌≡◌, ℕ, List, [], ◌∷◌, Option, Some, None, refl, subst, inl, inr}
use Rattle.std.specs.Prelude.{IfSome}
use Rattle.th_top.specs.declared.build.Product.{Product}
use Rattle.th_files.specs.Reading.{Holds, AreThere}
use Rattle.th_meaning.specs.Program.{Program}
use Rattle.th_top.specs.Meant.{Means}
use Rattle.th_top.specs.Outside.{Outside, Untouched}
use Rattle.th_top.specs.Answers as answers
use Rattle.th_top.specs.Answers.{Verdict, Done, BadFile, NotBuilt, BadElf, RunRaised, NoRoom, NoSteps, Trapped, NoMemory, StreamFailed, text_limit, Executed, Wrote, Went, Goes}
use Rattle.th_top.specs.Built.{IsProductOf, IsProduct}
use Rattle.th_top.specs.Texts.{Stops}

-- the bytes that a read gives are those of the file
pub holds_of : (told : Option (List ℕ → Option (List ℕ))) (name text : List ℕ) → IfSome told (λ files. files name ≡ Some text) → Holds told name text
holds_of None name text h = tt
holds_of (Some files) name text h = h

-- the same outside
pub same_outside : (o : Outside) (files : Option (List ℕ → Option (List ℕ))) (written : Option (List (List ℕ))) (faults : ℕ) → files ≡ o.files → written ≡ o.written → faults ≡ o.file_faults
    → ◌≡◌ {A = Outside} (record { files = files; written = written; file_faults = faults; left = o.left; read_faults = o.read_faults; put = o.put; write_faults = o.write_faults }) o
same_outside o files written faults ef ew en = rw (ef, ew, en) refl

-- files that give no executable
pub stopped : (out : List ℕ) (files : List (List ℕ)) (before later : Outside) (v : Verdict) → Untouched before later → Stops before.files files before.file_faults later.file_faults v → Goes out files before later v
stopped out files before later NoMemory same stops = (same, stops)
stopped out files before later (BadFile name) same stops = (same, inl stops)
stopped out files before later (answers.Refused name refusal) same stops = ((same, stops.0), stops.1)
stopped out files before later (NotBuilt name) same stops = ((same, stops.0), stops.1)
stopped out files before later Done same stops = absurd stops
stopped out files before later StreamFailed same stops = absurd stops
stopped out files before later (BadElf name field) same stops = absurd stops
stopped out files before later (RunRaised name) same stops = absurd stops
stopped out files before later NoRoom same stops = absurd stops
stopped out files before later NoSteps same stops = absurd stops
stopped out files before later (Trapped cause pc) same stops = absurd stops

-- a program that was written and run, or whose file couldn't be written, after its text was read and accepted
module _ (out : List ℕ) (files : List (List ℕ)) (before later : Outside) (text : List ℕ) (modules : Program)
    (there : AreThere text_limit before.files files (text ∷ [])) (means : Means (text ∷ []) modules) where
  went : (v : Verdict) → Executed out modules before later v → Went out files before later v
  went v done = record { text = text; there = there; modules = modules; means = means; executed = done }

  goes_by : (v : Verdict) → Wrote out modules before later v → Goes out files before later v
  goes_by Done w = went Done w
  goes_by StreamFailed w = went StreamFailed w
  goes_by (BadFile name) w = (w.0, inr (w.1, w.2))
  goes_by (answers.Refused name refusal) w = absurd w
  goes_by (NotBuilt name) w = absurd w
  goes_by NoMemory w = absurd w
  goes_by (BadElf name field) w = absurd w
  goes_by (RunRaised name) w = absurd w
  goes_by NoRoom w = absurd w
  goes_by NoSteps w = absurd w
  goes_by (Trapped cause pc) w = absurd w

pub goes : (out : List ℕ) (files : List (List ℕ)) (before middle later : Outside) (v : Verdict) (p : Product) → IsProduct before.files files p → middle ≡ before
    → ((modules : Program) → IsProductOf modules p → Wrote out modules middle later v) → Goes out files before later v
goes out files before middle later v p is unchanged wrote =
    let there : AreThere text_limit before.files files (is.alone.text ∷ []) = subst (AreThere text_limit before.files files) is.alone.one is.there in
    goes_by out files before later is.alone.text is.modules there is.alone.means v (subst (λ o. Wrote out is.modules o later v) unchanged (wrote is.modules is.product))
