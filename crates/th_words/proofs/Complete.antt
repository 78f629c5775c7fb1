-- Items and plain words behind them are read as what they say.
use Rattle.std.proofs.Common.{◌≡◌, ℕ, ◌+◌, List, [], ◌∷◌, ◌++◌, drop, refl, sym, ◌∙◌, ap}
use Rattle.std.specs.Prelude.{false, Option, Some, None, codes, unwrap_or, option_and_then}
use Rattle.std.specs.Option.{option_map, option_to_list}
use Rattle.std.specs.List.{slice_get, AllByRecursion}
use Rattle.th_words.specs.Words.{begins_with_dash, is_dashed, name_word, Item, IsLawful, Plain, Spaced, Joined, all_words, ending, plain_words, given, values, Command, Run}
use Rattle.th_words.specs.Reading.{region_of, steps_of, with_value, with_free, with_word, read, run_of, run_at}
use Rattle.th_words.specs.declared.options.OptionName.{OptionName}
use Rattle.th_words.specs.declared.options.OptionName.TheVariants.{Region, Steps}
use Rattle.th_words.specs.declared.options.Place.{Place}
use Rattle.th_words.specs.declared.options.Place.TheVariants as places
use Rattle.th_words.specs.declared.options.Reading.{Reading}
use Rattle.th_words.proofs.Front.{front_word}
use Rattle.th_words.proofs.Values.{set_all, is_set}
use Rattle.th_words.proofs.Made.{made, held, outcome}

-- an index that is held is that of a word
abbrev pub IsWithin : List (List ℕ) → Option ℕ → Type 0
IsWithin all None = Unit {0}
IsWithin all (Some at) = (w : List ℕ) × (slice_get all at ≡ Some w)

-- the command that options say with a file
abbrev pub run_with : List ℕ → Option ℕ → Option ℕ → Command
run_with file g s = Run file (unwrap_or g 1048576) (unwrap_or s 50000000)

-- where a word is held, it is the only one
only_held : (all : List (List ℕ)) (i : ℕ) (file : List ℕ) (xs : List (List ℕ)) → IsWithin all (Some i) → held all (Some i) ++ xs ≡ file ∷ [] → (slice_get all i ≡ Some file) × (xs ≡ [])
only_held all i file xs within one =
    let here : within.0 ∷ xs ≡ file ∷ [] = sym (ap (λ (o : Option (List ℕ)). option_to_list o ++ xs) within.1) ∙ one in
    let same : within.0 ≡ file = cc in
    (within.1 ∙ ap Some same, cc)

run_end : (all : List (List ℕ)) (g s f : Option ℕ) (file : List ℕ) → IsWithin all f → held all f ++ [] ≡ file ∷ [] → run_at all g s f ≡ Some (run_with file g s)
run_end all g s None file within one = cc
run_end all g s (Some i) file within one = let only = only_held all i file [] within one in ap (option_map (λ name. run_with name g s)) only.0

-- one word is read
read_word : (all : List (List ℕ)) (w : List ℕ) (ws : List (List ℕ)) (at : ℕ) (reading next : Reading) → with_word reading.place reading at w ≡ Some next → outcome all (w ∷ ws) at reading ≡ outcome all ws (at + 1) next
read_word all w ws at reading next step = ap (λ (o : Option Reading). option_and_then (λ end. run_of end.place all end) (option_and_then (read ws (at + 1)) o)) step

plain_read : (w : List ℕ) (at : ℕ) (g s : Option ℕ) → is_dashed w ≡ false → with_free (made places.Free g s None) at w ≡ Some (made places.Free g s (Some at))
plain_read w at g s plain = rw plain refl

name_read : (name : OptionName) (at : ℕ) (g s f : Option ℕ) → with_free (made places.Free g s f) at (name_word name) ≡ Some (made (places.Value name) g s f)
name_read Region at g s f = refl
name_read Steps at g s f = refl

spaced_read : (name : OptionName) (at : ℕ) (g s f : Option ℕ) (value : List ℕ) (next : Reading) → begins_with_dash value ≡ false → with_value name (made (places.Value name) g s f) value ≡ Some next → with_word (places.Value name) (made (places.Value name) g s f) at value ≡ Some next
spaced_read name at g s f value next begins step = rw begins step

joined_read : (name : OptionName) (at : ℕ) (g s f : Option ℕ) (value : List ℕ) → with_free (made places.Free g s f) at (name_word name ++ codes "=" ++ value) ≡ with_value name (made places.Free g s f) value
joined_read Region at g s f value = refl
joined_read Steps at g s f value = refl

-- a value is read, and leaves those behind it
record IsTaken (name : OptionName) (p : Place) (g s f : Option ℕ) (value : List ℕ) (items : List Item) (h t : Option ℕ) : Type 0 where
  region : Option ℕ
  steps : Option ℕ
  is : with_value name (made p g s f) value ≡ Some (made places.Free region steps f)
  regions : set_all region_of region (values Region items) ≡ Some h
  counts : set_all steps_of steps (values Steps items) ≡ Some t

is_taken : (name : OptionName) (p : Place) (g s f : Option ℕ) (value : List ℕ) (items : List Item) (h t : Option ℕ) → set_all region_of g (given Region name value (values Region items)) ≡ Some h → set_all steps_of s (given Steps name value (values Steps items)) ≡ Some t → IsTaken name p g s f value items h t
is_taken Region p None s f value items h t regions counts =
    let set = is_set region_of None value (values Region items) h regions in
    record { region = Some set.number; steps = s; is = ap (option_map (λ n. made places.Free (Some n) s f)) set.is; regions = set.rest; counts = counts }
is_taken Region p (Some m) s f value items h t regions counts = cc
is_taken Steps p g None f value items h t regions counts =
    let set = is_set steps_of None value (values Steps items) t counts in
    record { region = g; steps = Some set.number; is = ap (option_map (λ n. made places.Free g (Some n) f)) set.is; regions = regions; counts = set.rest }
is_taken Steps p g (Some m) f value items h t regions counts = cc

-- plain words behind a `--`
behind_said : (all ps : List (List ℕ)) (at : ℕ) (g s f : Option ℕ) (file : List ℕ) → drop at all ≡ ps → IsWithin all f → held all f ++ ps ≡ file ∷ [] → outcome all ps at (made places.Plain g s f) ≡ Some (run_with file g s)
behind_said all [] at g s f file left within one = run_end all g s f file within one
behind_said all (w ∷ []) at g s None file left within one =
    let front = front_word all at w [] left in
    run_end all g s (Some at) file (w, front.0) (ap (λ (o : Option (List ℕ)). option_to_list o ++ []) front.0 ∙ one)
behind_said all (w ∷ v ∷ ps) at g s None file left within one = cc
behind_said all (w ∷ ps) at g s (Some i) file left within one =
    let only = only_held all i file (w ∷ ps) within one in
    let none = only.1 in cc

-- items and plain words behind them
pub items_said : (all : List (List ℕ)) (items : List Item) (behind : Option (List (List ℕ))) (at : ℕ) (g s f h t : Option ℕ) (file : List ℕ) → drop at all ≡ all_words items (ending behind) → AllByRecursion IsLawful items → IsWithin all f → held all f ++ (plain_words items ++ unwrap_or behind []) ≡ file ∷ []
    → set_all region_of g (values Region items) ≡ Some h → set_all steps_of s (values Steps items) ≡ Some t → outcome all (all_words items (ending behind)) at (made places.Free g s f) ≡ Some (run_with file h t)
items_said all [] None at g s f h t file left lawful within one regions counts =
    let g_same : g ≡ h = cc in
    let s_same : s ≡ t = cc in
    run_end all g s f file within one ∙ ap (λ (r : Option ℕ). Some (run_with file r s)) g_same ∙ ap (λ (r : Option ℕ). Some (run_with file h r)) s_same
items_said all [] (Some ps) at g s f h t file left lawful within one regions counts =
    let g_same : g ≡ h = cc in
    let s_same : s ≡ t = cc in
    let front = front_word all at (codes "--") ps left in
    behind_said all ps (at + 1) g s f file front.1 within one ∙ ap (λ (r : Option ℕ). Some (run_with file r s)) g_same ∙ ap (λ (r : Option ℕ). Some (run_with file h r)) s_same
items_said all (Plain w ∷ items) behind at g s None h t file left lawful within one regions counts =
    let front = front_word all at w (all_words items (ending behind)) left in
    read_word all w (all_words items (ending behind)) at (made places.Free g s None) (made places.Free g s (Some at)) (plain_read w at g s lawful.0)
    ∙ items_said all items behind (at + 1) g s (Some at) h t file front.1 lawful.1 (w, front.0) (ap (λ (o : Option (List ℕ)). option_to_list o ++ (plain_words items ++ unwrap_or behind [])) front.0 ∙ one) regions counts
items_said all (Plain w ∷ items) behind at g s (Some i) h t file left lawful within one regions counts =
    let only = only_held all i file (w ∷ (plain_words items ++ unwrap_or behind [])) within one in
    let none = only.1 in cc
items_said all (Spaced name value ∷ items) behind at g s f h t file left lawful within one regions counts =
    let front = front_word all at (name_word name) (value ∷ all_words items (ending behind)) left in
    let second = front_word all (at + 1) value (all_words items (ending behind)) front.1 in
    let taken = is_taken name (places.Value name) g s f value items h t regions counts in
    read_word all (name_word name) (value ∷ all_words items (ending behind)) at (made places.Free g s f) (made (places.Value name) g s f) (name_read name at g s f)
    ∙ read_word all value (all_words items (ending behind)) (at + 1) (made (places.Value name) g s f) (made places.Free taken.region taken.steps f) (spaced_read name (at + 1) g s f value (made places.Free taken.region taken.steps f) lawful.0 taken.is)
    ∙ items_said all items behind (at + 1 + 1) taken.region taken.steps f h t file second.1 lawful.1 within one taken.regions taken.counts
items_said all (Joined name value ∷ items) behind at g s f h t file left lawful within one regions counts =
    let front = front_word all at (name_word name ++ codes "=" ++ value) (all_words items (ending behind)) left in
    let taken = is_taken name places.Free g s f value items h t regions counts in
    read_word all (name_word name ++ codes "=" ++ value) (all_words items (ending behind)) at (made places.Free g s f) (made places.Free taken.region taken.steps f) (joined_read name at g s f value ∙ taken.is)
    ∙ items_said all items behind (at + 1) taken.region taken.steps f h t file front.1 lawful.1 within one taken.regions taken.counts
