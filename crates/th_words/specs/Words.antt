-- The words of the command line: which lists of them are which command. A word is the list of its bytes.
use Rattle.std.specs.Prelude.{◌≡◌, ℕ, ◌+◌, ◌-◌, ◌*◌, ◌^◌, ◌%◌, ◌<◌, ◌≤◌, Bool, true, false, nat_eq, List, [], ◌∷◌, ◌++◌, length, codes, Option, Some, None, unwrap_or, if◌then◌else◌}
use Rattle.std.specs.List.{list_all, AllByRecursion}
use Rattle.std.specs.Str.{bytes_eq}
use Rattle.std.specs.Char.{is_ascii_digit}
use Rattle.th_words.specs.declared.options.OptionName.{OptionName}
use Rattle.th_words.specs.declared.options.OptionName.TheVariants.{Region, Steps}

-- whether a word begins with `-`
abbrev pub begins_with_dash : List ℕ → Bool
begins_with_dash [] = false
begins_with_dash (b ∷ rest) = nat_eq b 45

-- whether a word begins with `-` and isn't `-` alone
abbrev pub is_dashed : List ℕ → Bool
is_dashed [] = false
is_dashed (b ∷ []) = false
is_dashed (b ∷ c ∷ rest) = nat_eq b 45

-- an option's name as a word
abbrev pub name_word : OptionName → List ℕ
name_word Region = codes "--region"
name_word Steps = codes "--steps"

-- what stands before a `--`: a plain word, an option with its value as the next word, or an option with its value behind a `=`
pub data Item : Type 0 where
  Plain : List ℕ → Item
  Spaced : OptionName → List ℕ → Item
  Joined : OptionName → List ℕ → Item

-- the words of an item
abbrev pub item_words : Item → List (List ℕ)
item_words (Plain word) = word ∷ []
item_words (Spaced name value) = name_word name ∷ value ∷ []
item_words (Joined name value) = (name_word name ++ codes "=" ++ value) ∷ []

-- a plain word doesn't begin with `-`, but for `-` alone; a value that is a word of its own doesn't begin with `-`
abbrev pub IsLawful : Item → Type 0
IsLawful (Plain word) = is_dashed word ≡ false
IsLawful (Spaced name value) = begins_with_dash value ≡ false
IsLawful (Joined name value) = Unit {0}

-- the words of items, and others behind them
abbrev pub all_words : List Item → List (List ℕ) → List (List ℕ)
all_words [] end = end
all_words (item ∷ items) end = item_words item ++ all_words items end

-- how words end: with no `--`, or with one and plain words behind it
abbrev pub ending : Option (List (List ℕ)) → List (List ℕ)
ending None = []
ending (Some plain) = codes "--" ∷ plain

-- the plain words among items
abbrev pub plain_words : List Item → List (List ℕ)
plain_words [] = []
plain_words (Plain word ∷ items) = word ∷ plain_words items
plain_words (Spaced name value ∷ items) = plain_words items
plain_words (Joined name value ∷ items) = plain_words items

-- a value in front of others, where the option that it is given to is the one that is asked for
abbrev pub given : OptionName → OptionName → List ℕ → List (List ℕ) → List (List ℕ)
given asked name value values = if bytes_eq (name_word asked) (name_word name) then value ∷ values else values

-- the values that items give to an option
abbrev pub values : OptionName → List Item → List (List ℕ)
values asked [] = []
values asked (Plain word ∷ items) = values asked items
values asked (Spaced name value ∷ items) = given asked name value (values asked items)
values asked (Joined name value ∷ items) = given asked name value (values asked items)

-- the number that decimal digits write: each digit times the power of ten of its place
abbrev pub decimal_value : List ℕ → ℕ
decimal_value [] = 0
decimal_value (digit ∷ digits) = (digit - 48) * 10 ^ length digits + decimal_value digits

-- the word is 1 to 13 decimal digits that write n
pub record IsNumber (word : List ℕ) (n : ℕ) : Type 0 where
  pub some : 0 < length word
  pub few : length word ≤ 13
  pub digits : list_all is_ascii_digit word ≡ true
  pub value : n ≡ decimal_value word

-- the word is a size of the region: a number of bytes from 4 KiB to 64 MiB, a multiple of 16
pub record IsRegion (word : List ℕ) (n : ℕ) : Type 0 where
  pub number : IsNumber word n
  pub least : 4096 ≤ n
  pub most : n ≤ 67108864
  pub aligned : n % 16 ≡ 0

-- the word is a number of steps, at most 2^40
pub record IsSteps (word : List ℕ) (n : ℕ) : Type 0 where
  pub number : IsNumber word n
  pub most : n ≤ 1099511627776

-- the values given to an option say n: one value does by the option's rule, and no value says the default
abbrev pub Says : (List ℕ → ℕ → Type 0) → ℕ → List (List ℕ) → ℕ → Type 0
Says Rule default [] n = n ≡ default
Says Rule default (value ∷ []) n = Rule value n
Says Rule default (value ∷ again ∷ more) n = ⊥

-- names of files: 1 to 64 words, none of which begins with `-`, but for `-` alone
pub record AreFiles (files : List (List ℕ)) : Type 0 where
  pub some : 0 < length files
  pub few : length files ≤ 64
  pub plain : AllByRecursion (λ word. is_dashed word ≡ false) files

-- the words are `go OUT FILES`, where OUT doesn't begin with `-` either, but for `-` alone
pub record IsGo (words : List (List ℕ)) (out : List ℕ) (files : List (List ℕ)) : Type 0 where
  pub is : words ≡ codes "go" ∷ out ∷ files
  pub out_plain : is_dashed out ≡ false
  pub names : AreFiles files

-- the words are `run`, and then one plain word FILE and the options, in any order, each at most once
pub record IsRun (words : List (List ℕ)) (file : List ℕ) (region steps : ℕ) : Type 0 where
  pub items : List Item
  pub behind : Option (List (List ℕ))
  pub are : words ≡ codes "run" ∷ all_words items (ending behind)
  pub lawful : AllByRecursion IsLawful items
  pub one_plain : plain_words items ++ unwrap_or behind [] ≡ file ∷ []
  pub region_said : Says IsRegion 1048576 (values Region items) region
  pub steps_said : Says IsSteps 50000000 (values Steps items) steps

-- the commands
pub data Command : Type 0 where
  Go : (out : List ℕ) (files : List (List ℕ)) → Command
  Run : (file : List ℕ) (region steps : ℕ) → Command

-- the words are the command
abbrev pub IsCommand : List (List ℕ) → Command → Type 0
IsCommand words (Go out files) = IsGo words out files
IsCommand words (Run file region steps) = IsRun words file region steps

-- the words are no command
abbrev pub IsNoCommand : List (List ℕ) → Type 0
IsNoCommand words = (c : Command) → IsCommand words c → ⊥

-- the words are at most one command
abbrev pub IsAtMostOne : List (List ℕ) → Type 0
IsAtMostOne words = (c d : Command) → IsCommand words c → IsCommand words d → c ≡ d
