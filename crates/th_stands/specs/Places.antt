-- Where the words of a program stand: rows of patterns with what was open in them.
use Rattle.std.specs.Prelude.{◌≡◌, ℕ, ◌+◌, ◌*◌, ◌%◌, ◌^◌, ◌<◌, ◌≤◌, List, [], ◌∷◌, Option, Some, None}
use Rattle.th_rv.specs.Memory.{number_at}
use Rattle.th_abi.specs.declared.word.RelocKind.{RelocKind}
use Rattle.th_abi.specs.declared.word.RelocKind.TheVariants as reloc
use Rattle.th_abi.specs.declared.word.Failure.{Failure}
use Rattle.th_abi.specs.declared.word.PatternWord.{PatternWord}
use Rattle.th_abi.specs.Labels.{with_label}
use Rattle.th_stands.specs.Seen.{Loaded}

-- a word with the number of its relocation: in place of the word, or in the immediate of an instruction of format I
abbrev pub with_number : RelocKind → (number word : ℕ) → ℕ
with_number reloc.Slot number word = word + 1048576 * number
with_number reloc.Cast number word = word + 1048576 * number
with_number reloc.Field number word = word + 1048576 * number
with_number reloc.Size number word = word + 1048576 * number
with_number reloc.Table number word = number
with_number reloc.Unit number word = number
with_number reloc.Word number word = number

-- the image has this word at an address, where no unit begins
pub record HasWord (g : Loaded) (at word : ℕ) : Type 0 where
  pub fetched : number_at 4 1 g.areas at ≡ Some word
  pub loaded : number_at 4 4 g.areas at ≡ Some word
  pub aligned : at % 4 ≡ 0
  pub below : at + 4 ≤ 268435456
  pub unnamed : g.names at ≡ None
  pub small : word < 2 ^ 32

-- a word of a row with the number of its relocation
abbrev pub relocated : (number : RelocKind → Option Failure → ℕ) → Option RelocKind → Option Failure → (word : ℕ) → ℕ
relocated number None failure word = word
relocated number (Some kind) failure word = with_number kind (number kind failure) word

-- the words of a row stand from an address on. Their label is at another address; `number` gives the numbers of relocations
abbrev pub HasRow : Loaded → (at to : ℕ) → (number : RelocKind → Option Failure → ℕ) → List PatternWord → Type 0
HasRow g at to number [] = Unit {0}
HasRow g at to number (w ∷ row) = HasWord g at (with_label w.label at to (relocated number w.reloc w.failure w.word)) × HasRow g (at + 4) to number row

-- the image has this word at an address, where a unit of this name begins
pub record HasFirst (g : Loaded) (at word : ℕ) (name : List ℕ) : Type 0 where
  pub fetched : number_at 4 1 g.areas at ≡ Some word
  pub aligned : at % 4 ≡ 0
  pub below : at + 4 ≤ 268435456
  pub named : g.names at ≡ Some name

-- the words of a row stand from an address on, where a unit of this name begins
abbrev pub HasEntry : Loaded → (at : ℕ) → (name : List ℕ) → List PatternWord → Type 0
HasEntry g at name [] = ⊥
HasEntry g at name (w ∷ row) = HasFirst g at w.word name × HasRow g (at + 4) at (λ kind failure. 0) row
