-- What an area of memory keeps of the instructions that its words spell.
use Rattle.std.specs.Prelude.{◌≡◌, ℕ, ◌+◌, ◌*◌, List, [], ◌∷◌, Option, Some, None, slice_get}
use Rattle.th_rv.specs.declared.instr.Instr.{Instr}
use Rattle.th_rv.specs.declared.instr.Instr.TheVariants.{Ebreak}
use Rattle.th_rv.specs.Memory.{Area, number_at}
use Rattle.th_rv.specs.Table.{Valid, decode}
use Rattle.th_mach.specs.Apart.{Spans}

-- the instruction that a word spells, where there is a word
abbrev pub spelled : Option ℕ → Option Instr
spelled None = None
spelled (Some word) = decode word

-- an area has this instruction at an address, to be fetched
pub record IsFetched (m : Area) (a : ℕ) (instr : Instr) : Type 0 where
  pub spans : Spans m a 4
  pub spells : spelled (number_at 4 1 (m ∷ []) a) ≡ Some instr
  pub valid : Valid instr

-- the k-th of these instructions, unless it is EBREAK, is the one at the area's k-th word
abbrev pub Spells : Area → List Instr → Type 0
Spells m code = (k : ℕ) (instr : Instr) → slice_get code k ≡ Some instr → (instr ≡ Ebreak → ⊥) → IsFetched m (m.at + 4 * k) instr
