-- What an object of a class takes beside what one of the inherited class takes.
use Rattle.std.specs.Prelude.{◌≡◌, ℕ, suc, ◌+◌, ◌-◌, ◌*◌, List, [], ◌∷◌, length, sum_by, Option, Some, None, slice_get, if◌then◌else◌}
use denote.Ref.{Bor}
use Rattle.th_meaning.specs.declared.types.CoreTypeList.{CoreTypeList}
use Rattle.th_meaning.specs.View.{types_of}
use Rattle.th_meaning.specs.Program.{ProgramClass, Program, classes_of, inherited_name}
use Rattle.th_meaning.specs.Weights.{substituted, type_list, arguments, first_reaches, steps_up, type_words, chain_words, own_words}
use Rattle.th_classes.specs.Numbers.{above_number, chain_from}
use Rattle.th_weights.specs.declared.size.Size.{Size}

-- the class of a number that there may be
abbrev pub class_at : Program → Option ℕ → Option ProgramClass
class_at p None = None
class_at p (Some k) = slice_get (classes_of p) k

-- the header words of an inherited class that the class's own take the place of
abbrev pub less_under : Program → ProgramClass → Option ProgramClass → ℕ
less_under p c None = 0
less_under p c (Some above) = if first_reaches (steps_up p) p (substituted (arguments c.head.inherits) above.head.of) c.head.of then type_words p above.head.of else 0

-- the same of the class that it inherits
abbrev pub less_of : Program → ProgramClass → ℕ
less_of p c = less_under p c (class_at p (above_number p c))

-- the size is that of the class
pub record IsSize (p : Program) (size : Size) (c : ProgramClass) : Type 0 where
  pub words : size.words ≡ type_words p c.head.of
  pub less : size.less ≡ less_of p c
  pub own : size.own ≡ own_words c

-- the sizes are those of the classes
abbrev pub SizesAre : Program → List Size → List ProgramClass → Type 0
SizesAre p [] [] = Unit {0}
SizesAre p [] (c ∷ cs) = ⊥
SizesAre p (s ∷ ss) [] = ⊥
SizesAre p (s ∷ ss) (c ∷ cs) = IsSize p s c × SizesAre p ss cs

-- the size of the class of a number, with the number of the class that it inherits
pub record IsAt (p : Program) (number : ℕ) (size : Size) (up : Option ℕ) : Type 0 where
  pub class : ProgramClass
  pub there : slice_get (classes_of p) number ≡ Some class
  pub is : IsSize p size class
  pub above : up ≡ above_number p class

-- the same where the class is there
abbrev pub SizeAt : Program → ℕ → Option (Size × Option ℕ) → Type 0
SizeAt p number None = slice_get (classes_of p) number ≡ None
SizeAt p number (Some found) = IsAt p number found.0 found.1

-- the header words over these sizes, from the last one on, which stands on so many
abbrev pub words_on : ℕ → List Size → ℕ
words_on words [] = words
words_on words (s ∷ ss) = words_on words ss - s.less + s.words

-- the weight of an object of the class of a number
abbrev pub weight_from : Program → ℕ → ℕ
weight_from p k = 4 * (chain_words p (chain_from (length (classes_of p)) p (Some k)) + sum_by own_words (chain_from (length (classes_of p)) p (Some k)))

-- the weights are those of the classes from this number on
abbrev pub WeightsFrom : Program → ℕ → List ℕ → Type 0
WeightsFrom p k [] = Unit {0}
WeightsFrom p k (w ∷ ws) = (w ≡ weight_from p k) × WeightsFrom p (suc k) ws

-- the weights of all classes
pub record AreWeights (p : Program) (weights : List ℕ) : Type 0 where
  pub all : length weights ≡ length (classes_of p)
  pub each : WeightsFrom p 0 weights

-- the arguments of the inherited class; None where no class is named
abbrev pub ArgumentsAre : Option (Bor CoreTypeList) → ProgramClass → Type 0
ArgumentsAre None c = inherited_name c.head.inherits ≡ None
ArgumentsAre (Some args) c = arguments c.head.inherits ≡ type_list (types_of args.now)
