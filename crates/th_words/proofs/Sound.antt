-- Words that are read are items and plain words behind them.
use Rattle.std.proofs.Common.{◌≡◌, ℕ, ◌+◌, List, [], ◌∷◌, ◌++◌, drop, refl, sym, ◌∙◌, ap, subst, append-nil, append_assoc}
use Rattle.std.specs.Prelude.{Bool, true, false, Option, Some, None, codes, unwrap_or, if◌then◌else◌, option_and_then}
use Rattle.std.specs.Option.{option_to_list}
use Rattle.std.specs.Str.{bytes_eq}
use Rattle.std.specs.List.{slice_get}
use Rattle.std.proofs.lemmas.Slice.Eq.{bytes_eq-Decides}
use Rattle.std.proofs.lemmas.Option.{option_and_then_some}
use Rattle.th_words.specs.Words.{begins_with_dash, is_dashed, name_word, Item, Plain, Spaced, Joined, all_words, ending, plain_words, values}
use Rattle.th_words.specs.Reading.{option_of, before_sign, behind_sign, with_plain, with_value, with_option, with_word, read}
use Rattle.th_words.specs.declared.options.OptionName.{OptionName}
use Rattle.th_words.specs.declared.options.OptionName.TheVariants.{Region, Steps}
use Rattle.th_words.specs.declared.options.Place.{Place}
use Rattle.th_words.specs.declared.options.Place.TheVariants as places
use Rattle.th_words.specs.declared.options.Reading.{Reading}
use Rattle.th_words.proofs.Front.{front_word}
use Rattle.th_words.proofs.Names.{sign_parts, whole_name, named_word}
use Rattle.th_words.proofs.Made.{made, held, Makes, is_given}

-- no value is missing
abbrev pub IsDone : Place → Type 0
IsDone places.Free = Unit {0}
IsDone places.Plain = Unit {0}
IsDone (places.Value name) = ⊥

-- words at a place are items and plain words behind them, which lead from a reading to its end
abbrev pub Reads : List (List ℕ) → Place → List (List ℕ) → Option ℕ → Option ℕ → Option ℕ → Reading → Type 0
Reads all places.Free words g s f end = (items : List Item) × (behind : Option (List (List ℕ))) × (words ≡ all_words items (ending behind)) × Makes all g s f items (unwrap_or behind []) end
Reads all (places.Value name) words g s f end = (value : List ℕ) × (items : List Item) × (behind : Option (List (List ℕ))) × (words ≡ value ∷ all_words items (ending behind)) × Makes all g s f (Spaced name value ∷ items) (unwrap_or behind []) end
Reads all places.Plain words g s f end = Makes all g s f [] words end

-- a plain word is held, and then the others
plain_held : (all : List (List ℕ)) (at : ℕ) (w : List ℕ) (xs rest : List (List ℕ)) → slice_get all at ≡ Some w → xs ≡ held all (Some at) ++ rest → xs ≡ w ∷ rest
plain_held all at w xs rest found is = is ∙ ap (λ (o : Option (List ℕ)). option_to_list o ++ rest) found

no_words : (all : List (List ℕ)) (p : Place) (g s f : Option ℕ) → IsDone p → Reads all p [] g s f (made p g s f)
no_words all places.Free g s f done = ([], None, refl, record { lawful = tt; plain = sym (append-nil (held all f)); regions = refl; counts = refl })
no_words all places.Plain g s f done = record { lawful = tt; plain = sym (append-nil (held all f)); regions = refl; counts = refl }
no_words all (places.Value name) g s f done = absurd done

-- what the words behind the first are, from any reading
abbrev pub Others : List (List ℕ) → List (List ℕ) → ℕ → Reading → Type 0
Others all ws at end = (p : Place) (g s f : Option ℕ) → read ws at (made p g s f) ≡ Some end → Reads all p ws g s f end

plain_first : (all : List (List ℕ)) (w : List ℕ) (ws : List (List ℕ)) (at : ℕ) (g s f : Option ℕ) (end : Reading) → slice_get all at ≡ Some w → Others all ws (at + 1) end → option_and_then (read ws (at + 1)) (with_plain (made places.Plain g s f) at) ≡ Some end → Makes all g s f [] (w ∷ ws) end
plain_first all w ws at g s (Some i) end found others is = cc
plain_first all w ws at g s None end found others is =
    let rest = others places.Plain g s (Some at) is in
    record { lawful = tt; plain = plain_held all at w (held all end.file) ws found rest.plain; regions = rest.regions; counts = rest.counts }

-- a value, and the items behind it
value_first : (all : List (List ℕ)) (ws : List (List ℕ)) (at : ℕ) (name : OptionName) (p : Place) (g s f : Option ℕ) (value : List ℕ) (end : Reading) → Others all ws (at + 1) end → option_and_then (read ws (at + 1)) (with_value name (made p g s f) value) ≡ Some end
    → (items : List Item) × (behind : Option (List (List ℕ))) × (ws ≡ all_words items (ending behind)) × Makes all g s f (Joined name value ∷ items) (unwrap_or behind []) end
value_first all ws at name p g s f value end others is =
    option_and_then_some (read ws (at + 1)) (with_value name (made p g s f) value) end is (λ next step rest.
    let set = is_given name p g s f value next step in
    let more = others places.Free set.region set.steps f (subst (λ (r : Reading). read ws (at + 1) r ≡ Some end) (sym set.is) rest) in
    (more.0, more.1, more.2, record { lawful = (tt, more.3.lawful); plain = more.3.plain; regions = set.regions (values Region more.0) ∙ more.3.regions; counts = set.counts (values Steps more.0) ∙ more.3.counts }))

spaced_value : (all : List (List ℕ)) (w : List ℕ) (ws : List (List ℕ)) (at : ℕ) (name : OptionName) (g s f : Option ℕ) (end : Reading) (dash : Bool) → begins_with_dash w ≡ dash → Others all ws (at + 1) end → option_and_then (read ws (at + 1)) (if dash then None else with_value name (made (places.Value name) g s f) w) ≡ Some end → Reads all (places.Value name) (w ∷ ws) g s f end
spaced_value all w ws at name g s f end true begins others is = cc
spaced_value all w ws at name g s f end false begins others is =
    let more = value_first all ws at name (places.Value name) g s f w end others is in
    (w, more.0, more.1, ap (λ (rest : List (List ℕ)). w ∷ rest) more.2, record { lawful = (begins, more.3.lawful.1); plain = more.3.plain; regions = more.3.regions; counts = more.3.counts })

-- a word that joins an option and its value
joined_word : (w value : List ℕ) (name : OptionName) → option_of (before_sign w) ≡ Some name → behind_sign w ≡ Some value → w ≡ name_word name ++ codes "=" ++ value
joined_word w value name named split = sign_parts w value split ∙ (ap (λ (front : List ℕ). front ++ 61 ∷ value) (named_word (before_sign w) name named) ∙ sym (append_assoc (name_word name) (codes "=") value))

free_first : (all : List (List ℕ)) (w : List ℕ) (ws : List (List ℕ)) (at : ℕ) (g s f : Option ℕ) (end : Reading) (dashed dashes : Bool) (name : Option OptionName) (value : Option (List ℕ)) → is_dashed w ≡ dashed → bytes_eq w (codes "--") ≡ dashes → option_of (before_sign w) ≡ name → behind_sign w ≡ value → slice_get all at ≡ Some w → Others all ws (at + 1) end
    → option_and_then (read ws (at + 1)) (if dashed then (if dashes then Some (made places.Plain g s f) else with_option name value (made places.Free g s f)) else with_plain (made places.Free g s f) at) ≡ Some end → Reads all places.Free (w ∷ ws) g s f end
free_first all w ws at g s (Some i) end false dashes name value plain ends named split found others is = cc
free_first all w ws at g s None end false dashes name value plain ends named split found others is =
    let more = others places.Free g s (Some at) is in
    (Plain w ∷ more.0, more.1, ap (λ (rest : List (List ℕ)). w ∷ rest) more.2, record { lawful = (plain, more.3.lawful); plain = plain_held all at w (held all end.file) (plain_words more.0 ++ unwrap_or more.1 []) found more.3.plain; regions = more.3.regions; counts = more.3.counts })
free_first all w ws at g s f end true true name value dashed ends named split found others is =
    let behind = others places.Plain g s f is in
    ([], Some ws, ap (λ (front : List ℕ). front ∷ ws) ((bytes_eq-Decides w (codes "--")).0 ends), behind)
free_first all w ws at g s f end true false None value dashed ends named split found others is = cc
free_first all w ws at g s f end true false (Some name) None dashed ends named split found others is =
    let more = others (places.Value name) g s f is in
    let word : w ≡ name_word name = sym (whole_name w split) ∙ named_word (before_sign w) name named in
    (Spaced name more.0 ∷ more.1, more.2, ap (λ (front : List ℕ). front ∷ ws) word ∙ ap (λ (rest : List (List ℕ)). name_word name ∷ rest) more.3, more.4)
free_first all w ws at g s f end true false (Some name) (Some value) dashed ends named split found others is =
    let more = value_first all ws at name places.Free g s f value end others is in
    (Joined name value ∷ more.0, more.1, ap (λ (front : List ℕ). front ∷ ws) (joined_word w value name named split) ∙ ap (λ (rest : List (List ℕ)). (name_word name ++ codes "=" ++ value) ∷ rest) more.2, more.3)

first_word : (all : List (List ℕ)) (w : List ℕ) (ws : List (List ℕ)) (at : ℕ) (p : Place) (g s f : Option ℕ) (end : Reading) → slice_get all at ≡ Some w → Others all ws (at + 1) end → option_and_then (read ws (at + 1)) (with_word p (made p g s f) at w) ≡ Some end → Reads all p (w ∷ ws) g s f end
first_word all w ws at places.Free g s f end found others is = free_first all w ws at g s f end (is_dashed w) (bytes_eq w (codes "--")) (option_of (before_sign w)) (behind_sign w) refl refl refl refl found others is
first_word all w ws at (places.Value name) g s f end found others is = spaced_value all w ws at name g s f end (begins_with_dash w) refl others is
first_word all w ws at places.Plain g s f end found others is = plain_first all w ws at g s f end found others is

-- words that are read
pub words_read : (all words : List (List ℕ)) (at : ℕ) (p : Place) (g s f : Option ℕ) (end : Reading) → drop at all ≡ words → IsDone end.place → read words at (made p g s f) ≡ Some end → Reads all p words g s f end
words_read all [] at p g s f end left done is =
    let same : made p g s f ≡ end = cc in
    subst (λ (r : Reading). Reads all p [] g s f r) same (no_words all p g s f (subst (λ (r : Reading). IsDone r.place) (sym same) done))
words_read all (w ∷ ws) at p g s f end left done is =
    let front = front_word all at w ws left in
    first_word all w ws at p g s f end front.0 (λ q h t i. words_read all ws (at + 1) q h t i end front.1 done) is
