-- The words are the command that is read, and no other.
use Rattle.std.proofs.Common.{◌≡◌, ℕ, ◌<◌, ◌≤◌, List, [], ◌∷◌, length, arith, refl, sym, ◌∙◌, ap, subst}
use Rattle.std.specs.Prelude.{Bool, true, false, ◌&&◌, nat_lt, nat_le, Option, Some, None, IfSome, IfNone, codes, unwrap_or, if◌then◌else◌}
use Rattle.std.specs.Option.{option_map, option_to_list}
use Rattle.std.specs.Str.{bytes_eq}
use Rattle.std.specs.List.{slice_get}
use Rattle.std.proofs.lemmas.Slice.Eq.{bytes_eq-Decides}
use Rattle.std.proofs.lemmas.Option.{option_and_then_some}
use Rattle.std.proofs.lemmas.Bool.Decides.{nat_tests}
use Rattle.std.proofs.lemmas.Bool.{leb-true, ltb-true}
use Rattle.th_words.specs.Words.{is_dashed, IsRegion, IsSteps, values, AreFiles, Command, Go, Run, IsRun, IsCommand, IsNoCommand, IsAtMostOne}
use Rattle.th_words.specs.Reading.{region_of, steps_of, nothing_read, read, run_of, run_words, are_plain, are_files, go_words, command_words}
use Rattle.th_words.specs.declared.options.OptionName.TheVariants.{Region, Steps}
use Rattle.th_words.specs.declared.options.Place.{Place}
use Rattle.th_words.specs.declared.options.Place.TheVariants as places
use Rattle.th_words.specs.declared.options.Reading.{Reading}
use Rattle.th_words.proofs.Digits.{region_means, region_read, steps_means, steps_read}
use Rattle.th_words.proofs.Values.{says, said}
use Rattle.th_words.proofs.Plain.{both_true, plain_all, all_plain}
use Rattle.th_words.proofs.Made.{made, held}
use Rattle.th_words.proofs.Sound.{IsDone, words_read}
use Rattle.th_words.proofs.Complete.{run_with, items_said}

-- how a reading that gives a command ends
record Ends (all : List (List ℕ)) (p : Place) (g s f : Option ℕ) (c : Command) : Type 0 where
  done : IsDone p
  file : List ℕ
  one : held all f ≡ file ∷ []
  is : run_with file g s ≡ c

run_ends : (all : List (List ℕ)) (p : Place) (g s : Option ℕ) (at : ℕ) (found : Option (List ℕ)) (c : Command) → IsDone p → slice_get all at ≡ found → option_map (λ name. run_with name g s) found ≡ Some c → Ends all p g s (Some at) c
run_ends all p g s at None c done found_is is = cc
run_ends all p g s at (Some file) c done found_is is = record { done = done; file = file; one = ap option_to_list found_is; is = cc }

ends : (all : List (List ℕ)) (p : Place) (g s f : Option ℕ) (c : Command) → run_of p all (made p g s f) ≡ Some c → Ends all p g s f c
ends all (places.Value name) g s f c is = cc
ends all places.Free g s None c is = cc
ends all places.Free g s (Some at) c is = run_ends all places.Free g s at (slice_get all at) c tt refl is
ends all places.Plain g s None c is = cc
ends all places.Plain g s (Some at) c is = run_ends all places.Plain g s at (slice_get all at) c tt refl is

run_sound : (words : List (List ℕ)) (c : Command) → run_words words ≡ Some c → IsCommand (codes "run" ∷ words) c
run_sound words c is =
    option_and_then_some (λ (end : Reading). run_of end.place words end) (read words 0 nothing_read) c is (λ end reads runs.
    let at_end = ends words end.place end.region end.steps end.file c runs in
    let found = words_read words words 0 places.Free None None None end refl at_end.done reads in
    subst (λ (d : Command). IsCommand (codes "run" ∷ words) d) at_end.is (record {
      items = found.0;
      behind = found.1;
      are = ap (λ (ws : List (List ℕ)). codes "run" ∷ ws) found.2;
      lawful = found.3.lawful;
      one_plain = sym found.3.plain ∙ at_end.one;
      region_said = says region_of IsRegion 1048576 region_means (values Region found.0) end.region found.3.regions;
      steps_said = says steps_of IsSteps 50000000 steps_means (values Steps found.0) end.steps found.3.counts;
    }))

files_by : (files : List (List ℕ)) (long : Bool) → nat_lt 0 (length files) && nat_le (length files) 64 ≡ long → (if long then are_plain files else false) ≡ true → AreFiles files
files_by files false long_is is = cc
files_by files true long_is is =
    let both = both_true (nat_lt 0 (length files)) (nat_le (length files) 64) long_is in
    record { some = ltb-true 0 (length files) both.0; few = leb-true (length files) 64 both.1; plain = plain_all files is }

files_are : (files : List (List ℕ)) → are_files files ≡ true → AreFiles files
files_are files is = files_by files (nat_lt 0 (length files) && nat_le (length files) 64) refl is

are_read : (files : List (List ℕ)) → AreFiles files → are_files files ≡ true
are_read files h = let p = all_plain files h.plain in let s = h.some in let f = h.few in grind (arith, nat_tests)

go_by : (out : List ℕ) (files : List (List ℕ)) (c : Command) (first second : Bool) → is_dashed out ≡ first → are_files files ≡ second → (if first then None else (if second then Some (Go out files) else None)) ≡ Some c → IsCommand (codes "go" ∷ out ∷ files) c
go_by out files c true second first_is second_is is = cc
go_by out files c false false first_is second_is is = cc
go_by out files c false true first_is second_is is =
    let same : Go out files ≡ c = cc in
    subst (λ (d : Command). IsCommand (codes "go" ∷ out ∷ files) d) same (record { is = refl; out_plain = first_is; names = files_are files second_is })

go_sound : (words : List (List ℕ)) (c : Command) → go_words words ≡ Some c → IsCommand (codes "go" ∷ words) c
go_sound [] c is = cc
go_sound (out ∷ files) c is = go_by out files c (is_dashed out) (are_files files) refl refl is

sound_by : (name : List ℕ) (words : List (List ℕ)) (c : Command) (first second : Bool) → bytes_eq name (codes "go") ≡ first → bytes_eq name (codes "run") ≡ second
    → (if first then go_words words else (if second then run_words words else None)) ≡ Some c → IsCommand (name ∷ words) c
sound_by name words c true second first_is second_is is =
    subst (λ (n : List ℕ). IsCommand (n ∷ words) c) (sym ((bytes_eq-Decides name (codes "go")).0 first_is)) (go_sound words c is)
sound_by name words c false true first_is second_is is =
    subst (λ (n : List ℕ). IsCommand (n ∷ words) c) (sym ((bytes_eq-Decides name (codes "run")).0 second_is)) (run_sound words c is)
sound_by name words c false false first_is second_is is = cc

-- what is read is what the words are
sound : (words : List (List ℕ)) (c : Command) → command_words words ≡ Some c → IsCommand words c
sound [] c is = cc
sound (name ∷ words) c is = sound_by name words c (bytes_eq name (codes "go")) (bytes_eq name (codes "run")) refl refl is

run_complete : (words : List (List ℕ)) (file : List ℕ) (region steps : ℕ) → IsRun words file region steps → command_words words ≡ Some (Run file region steps)
run_complete words file region steps is =
    let regions = said region_of IsRegion 1048576 region_read (values Region is.items) region is.region_said in
    let counts = said steps_of IsSteps 50000000 steps_read (values Steps is.items) steps is.steps_said in
    ap command_words is.are ∙ items_said _ is.items is.behind 0 None None None regions.0 counts.0 file refl is.lawful tt is.one_plain regions.1 counts.1 ∙ ap (λ (n : ℕ). Some (Run file n (unwrap_or counts.0 50000000))) regions.2 ∙ ap (λ (n : ℕ). Some (Run file region n)) counts.2

-- what the words are is read
complete : (words : List (List ℕ)) (c : Command) → IsCommand words c → command_words words ≡ Some c
complete words (Go out files) is = ap command_words is.is ∙ rw (is.out_plain, are_read files is.names) refl
complete words (Run file region steps) is = run_complete words file region steps is

-- an answer that agrees with the reading is the command, none where there is none, and the only one
pub some_said : {A : Type 0} (f : A → Command) (answer : Option A) (words : List (List ℕ)) → option_map f answer ≡ command_words words → IfSome answer (λ c. IsCommand words (f c))
some_said f None words is = tt
some_said f (Some c) words is = sound words (f c) (sym is)

pub none_said : {A : Type 0} (f : A → Command) (answer : Option A) (words : List (List ℕ)) → option_map f answer ≡ command_words words → IfNone answer (IsNoCommand words)
none_said f None words is = λ c has. let got = complete words c has in cc
none_said f (Some c) words is = tt

pub only_said : (words : List (List ℕ)) → IsAtMostOne words
only_said words = λ c d first second. let one = complete words c first in let other = complete words d second in cc
