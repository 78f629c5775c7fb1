-- Segments and regions that a machine's memory can be made of.
use Rattle.std.specs.Prelude.{◌≡◌, ℕ, ◌+◌, ◌%◌, ◌<◌, ◌≤◌, List, length, All, AllPairs}
use Rattle.th_elf.specs.declared.segments.Segment.{Segment}

-- an address is one of a segment's
abbrev pub HasAddress : Segment → ℕ → Type 0
HasAddress s a = (s.at ≤ a) × (a < s.at + s.size)

-- two segments have no address in common
abbrev pub NoneInCommon : Segment → Segment → Type 0
NoneInCommon s t = (a : ℕ) → HasAddress s a → HasAddress t a → ⊥

-- segments with at most as many bytes as their sizes, with addresses below 0x08000000, and none of another
pub record AreLawful (segments : List Segment) : Type 0 where
  pub filled : All (λ s. length s.bytes ≤ s.size) segments
  pub low : All (λ s. (a : ℕ) → HasAddress s a → a < 0x08000000) segments
  pub apart : AllPairs NoneInCommon segments

-- a size of the region in bytes: from 4,096 to 67,108,864, a multiple of 16
pub record IsRegion (size : ℕ) : Type 0 where
  pub least : 4096 ≤ size
  pub greatest : size ≤ 67108864
  pub whole : size % 16 ≡ 0
