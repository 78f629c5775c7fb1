-- The words of a jump with the distance to its label.
use Rattle.std.specs.Prelude.{ℕ, ◌+◌, ◌-◌, ◌*◌, ◌/◌, ◌%◌, ◌^◌, Option, Some, None}
use Rattle.th_abi.specs.declared.word.Part.{Part}
use Rattle.th_abi.specs.declared.word.Part.TheVariants.{High, Low}

-- the distance from one address to another, modulo 2 ^ 32, and its two parts
abbrev pub distance : (from to : ℕ) → ℕ
distance from to = (to + (2 ^ 32 - from)) % 2 ^ 32

abbrev pub high_part : ℕ → ℕ
high_part d = (d + 2048) % 2 ^ 32 / 4096

abbrev pub low_part : ℕ → ℕ
low_part d = d % 4096

-- a word at an address with a part of the distance to a label; the second word of a jump counts from the first
abbrev pub with_label : Option Part → (at to word : ℕ) → ℕ
with_label None at to word = word
with_label (Some High) at to word = word + 4096 * high_part (distance at to)
with_label (Some Low) at to word = word + 1048576 * low_part (distance (at - 4) to)
