-- What stands at the front of a text.
use Rattle.std.specs.Prelude.{ℕ, ◌+◌, ◌≤◌, nat_eq, nat_le, List, [], ◌∷◌, length, take, drop, Option, Some, None, if◌then◌else◌}
use Rattle.th_tree.specs.Tokens.{value, is_printed, is_escape}
use Rattle.th_tree.specs.Cut.{Gap, Longest, BadByte, WideNumber}
use Rattle.th_lex.specs.declared.front.Item.{Item}
use Rattle.th_lex.specs.declared.front.Item.TheVariants as items

-- the front of the text, which is not empty, is what the answer says
abbrev pub Stands : List ℕ → Item → Type 0
Stands text (items.Gap n) = Gap (drop n text) text n
Stands text (items.Token k n) = (n ≤ length text) × Longest text (take n text) (drop n text) k
Stands text items.BadByte = BadByte text
Stands text items.WideNumber = WideNumber text

-- the value of the digits, where it is at most 2147483647
abbrev pub decimal_of : List ℕ → Option ℕ
decimal_of bs = if nat_le (value 0 bs) 2147483647 then Some (value 0 bs) else None

-- one number more, where there is one
abbrev pub further : ℕ → Option ℕ → Option ℕ
further n (Some k) = Some (n + k)
further n None = None

abbrev mutual
  -- how many bytes a string literal has after its opening quote, where it has an end
  pub quoted : List ℕ → Option ℕ
  quoted [] = None
  quoted (b ∷ bs) = if nat_eq b 34 then Some 1 else (if nat_eq b 92 then further 1 (escaped bs) else (if is_printed b then further 1 (quoted bs) else None))

  -- the same after a backslash
  pub escaped : List ℕ → Option ℕ
  escaped [] = None
  escaped (c ∷ bs) = if is_escape c then further 1 (quoted bs) else None
