-- What items make of a reading.
use Rattle.std.proofs.Common.{◌≡◌, ℕ, List, [], ◌++◌, refl, ap}
use Rattle.std.specs.Prelude.{Option, Some, None, option_and_then}
use Rattle.std.specs.Option.{option_map, option_to_list}
use Rattle.std.specs.List.{slice_get, AllByRecursion}
use Rattle.th_words.specs.Words.{Item, IsLawful, plain_words, values, given, Command}
use Rattle.th_words.specs.Reading.{region_of, steps_of, with_value, read, run_of}
use Rattle.th_words.specs.declared.options.OptionName.{OptionName}
use Rattle.th_words.specs.declared.options.OptionName.TheVariants.{Region, Steps}
use Rattle.th_words.specs.declared.options.Place.{Place}
use Rattle.th_words.specs.declared.options.Place.TheVariants as places
use Rattle.th_words.specs.declared.options.Reading.{Reading}
use Rattle.th_words.proofs.Values.{set_all}

-- a reading, from its fields
abbrev pub made : Place → Option ℕ → Option ℕ → Option ℕ → Reading
made p g s f = record { place = p; region = g; steps = s; file = f }

-- the plain word that a reading holds, if there is one
abbrev pub held : List (List ℕ) → Option ℕ → List (List ℕ)
held all None = []
held all (Some at) = option_to_list (slice_get all at)

-- items and plain words behind them lead from a reading to another
pub record Makes (all : List (List ℕ)) (g s f : Option ℕ) (items : List Item) (behind : List (List ℕ)) (end : Reading) : Type 0 where
  pub lawful : AllByRecursion IsLawful items
  pub plain : held all end.file ≡ held all f ++ (plain_words items ++ behind)
  pub regions : set_all region_of g (values Region items) ≡ Some end.region
  pub counts : set_all steps_of s (values Steps items) ≡ Some end.steps

-- a value that is read leads from what was set to what is set then
pub record IsGiven (name : OptionName) (p : Place) (g s f : Option ℕ) (value : List ℕ) (next : Reading) : Type 0 where
  pub region : Option ℕ
  pub steps : Option ℕ
  pub is : made places.Free region steps f ≡ next
  pub regions : (more : List (List ℕ)) → set_all region_of g (given Region name value more) ≡ set_all region_of region more
  pub counts : (more : List (List ℕ)) → set_all steps_of s (given Steps name value more) ≡ set_all steps_of steps more

region_given : (p : Place) (s f : Option ℕ) (value : List ℕ) (next : Reading) (got : Option ℕ) → region_of value ≡ got → option_map (λ n. made places.Free (Some n) s f) got ≡ Some next → IsGiven Region p None s f value next
region_given p s f value next None is done = cc
region_given p s f value next (Some n) is done = record { region = Some n; steps = s; is = cc; regions = λ more. ap (option_and_then (λ m. set_all region_of (Some m) more)) is; counts = λ more. refl }

steps_given : (p : Place) (g f : Option ℕ) (value : List ℕ) (next : Reading) (got : Option ℕ) → steps_of value ≡ got → option_map (λ n. made places.Free g (Some n) f) got ≡ Some next → IsGiven Steps p g None f value next
steps_given p g f value next None is done = cc
steps_given p g f value next (Some n) is done = record { region = g; steps = Some n; is = cc; regions = λ more. refl; counts = λ more. ap (option_and_then (λ m. set_all steps_of (Some m) more)) is }

pub is_given : (name : OptionName) (p : Place) (g s f : Option ℕ) (value : List ℕ) (next : Reading) → with_value name (made p g s f) value ≡ Some next → IsGiven name p g s f value next
is_given Region p None s f value next done = region_given p s f value next (region_of value) refl done
is_given Region p (Some m) s f value next done = cc
is_given Steps p g None f value next done = steps_given p g f value next (steps_of value) refl done
is_given Steps p g (Some m) f value next done = cc

-- the command that words are, read on from a reading
abbrev pub outcome : List (List ℕ) → List (List ℕ) → ℕ → Reading → Option Command
outcome all words at reading = option_and_then (λ end. run_of end.place all end) (read words at reading)
