-- How words are read one after another; only private contracts cite these.
use Rattle.std.specs.Prelude.{ℕ, ◌+◌, ◌%◌, nat_eq, nat_lt, nat_le, Bool, true, false, ◌&&◌, List, [], ◌∷◌, length, codes, Option, Some, None, is_some, unwrap_or, if◌then◌else◌, option_and_then}
use Rattle.std.specs.Option.{option_map}
use Rattle.std.specs.List.{list_all, slice_get}
use Rattle.std.specs.Char.{is_ascii_digit}
use Rattle.std.specs.Str.{bytes_eq}
use Rattle.th_words.specs.Words.{begins_with_dash, is_dashed, decimal_value, Command, Go, Run}
use Rattle.th_words.specs.declared.options.OptionName.{OptionName}
use Rattle.th_words.specs.declared.options.OptionName.TheVariants.{Region, Steps}
use Rattle.th_words.specs.declared.options.Place.{Place}
use Rattle.th_words.specs.declared.options.Place.TheVariants as places
use Rattle.th_words.specs.declared.options.Reading.{Reading}

-- the number that a word is
abbrev pub number_of : List ℕ → Option ℕ
number_of word = if nat_lt 0 (length word) && nat_le (length word) 13 && list_all is_ascii_digit word then Some (decimal_value word) else None

-- a number that is a size of the region
abbrev pub lawful_region : ℕ → Option ℕ
lawful_region n = if nat_le 4096 n && nat_le n 67108864 && nat_eq (n % 16) 0 then Some n else None

-- a number that is a number of steps
abbrev pub lawful_steps : ℕ → Option ℕ
lawful_steps n = if nat_le n 1099511627776 then Some n else None

-- the size of the region that a word is
abbrev pub region_of : List ℕ → Option ℕ
region_of word = option_and_then lawful_region (number_of word)

-- the number of steps that a word is
abbrev pub steps_of : List ℕ → Option ℕ
steps_of word = option_and_then lawful_steps (number_of word)

-- what stands before the first `=`
abbrev pub before_sign : List ℕ → List ℕ
before_sign [] = []
before_sign (b ∷ bs) = if nat_eq b 61 then [] else b ∷ before_sign bs

-- what stands behind the first `=`, where there is one
abbrev pub behind_sign : List ℕ → Option (List ℕ)
behind_sign [] = None
behind_sign (b ∷ bs) = if nat_eq b 61 then Some bs else behind_sign bs

-- the option that a word names
abbrev pub option_of : List ℕ → Option OptionName
option_of word = if bytes_eq word (codes "--region") then Some Region else (if bytes_eq word (codes "--steps") then Some Steps else None)

-- before the first word
abbrev pub nothing_read : Reading
nothing_read = record { place = places.Free; region = None; steps = None; file = None }

-- a further plain word, at an index: there is one at most
abbrev pub with_plain : Reading → ℕ → Option Reading
with_plain reading at = if is_some reading.file then None else Some (record reading { file = Some at })

-- a value for an option, which has none yet
abbrev pub with_value : OptionName → Reading → List ℕ → Option Reading
with_value Region reading value = if is_some reading.region then None else option_map (λ n. record reading { place = places.Free; region = Some n }) (region_of value)
with_value Steps reading value = if is_some reading.steps then None else option_map (λ n. record reading { place = places.Free; steps = Some n }) (steps_of value)

-- a word that names an option, maybe with a value behind a `=`
abbrev pub with_option : Option OptionName → Option (List ℕ) → Reading → Option Reading
with_option None value reading = None
with_option (Some name) None reading = Some (record reading { place = places.Value name })
with_option (Some name) (Some value) reading = with_value name reading value

-- a word, at an index, that isn't a value and has no `--` before it
abbrev pub with_free : Reading → ℕ → List ℕ → Option Reading
with_free reading at word =
    if is_dashed word
    then (if bytes_eq word (codes "--") then Some (record reading { place = places.Plain }) else with_option (option_of (before_sign word)) (behind_sign word) reading)
    else with_plain reading at

-- a word, at an index, by its place
abbrev pub with_word : Place → Reading → ℕ → List ℕ → Option Reading
with_word places.Free reading at word = with_free reading at word
with_word (places.Value name) reading at word = if begins_with_dash word then None else with_value name reading word
with_word places.Plain reading at word = with_plain reading at

-- words, in order; the first is at an index
abbrev pub read : List (List ℕ) → ℕ → Reading → Option Reading
read [] at reading = Some reading
read (word ∷ words) at reading = option_and_then (read words (at + 1)) (with_word reading.place reading at word)

-- the command that the index of its file and the options say
abbrev pub run_at : List (List ℕ) → Option ℕ → Option ℕ → Option ℕ → Option Command
run_at words region steps file = option_and_then (λ at. option_map (λ name. Run name (unwrap_or region 1048576) (unwrap_or steps 50000000)) (slice_get words at)) file

-- the command that was read in words, where no value is missing
abbrev pub run_of : Place → List (List ℕ) → Reading → Option Command
run_of (places.Value name) words reading = None
run_of places.Free words reading = run_at words reading.region reading.steps reading.file
run_of places.Plain words reading = run_at words reading.region reading.steps reading.file

-- the command that words behind `run` are
abbrev pub run_words : List (List ℕ) → Option Command
run_words words = option_and_then (λ reading. run_of reading.place words reading) (read words 0 nothing_read)

-- whether no word begins with `-`, but for `-` alone
abbrev pub are_plain : List (List ℕ) → Bool
are_plain [] = true
are_plain (word ∷ words) = if is_dashed word then false else are_plain words

-- whether words name files
abbrev pub are_files : List (List ℕ) → Bool
are_files words = if nat_lt 0 (length words) && nat_le (length words) 64 then are_plain words else false

-- the command that words behind `go` are
abbrev pub go_words : List (List ℕ) → Option Command
go_words [] = None
go_words (out ∷ files) = if is_dashed out then None else (if are_files files then Some (Go out files) else None)

-- the command that words are
abbrev pub command_words : List (List ℕ) → Option Command
command_words [] = None
command_words (name ∷ words) = if bytes_eq name (codes "go") then go_words words else (if bytes_eq name (codes "run") then run_words words else None)
