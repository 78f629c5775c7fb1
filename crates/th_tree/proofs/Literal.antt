-- The bytes of a literal, read from the left.
use Rattle.std.proofs.Common.{Bool, true, false, ℕ, List}
use Rattle.th_tree.specs.Literal.{unescaped, after_backslash}

-- what the bytes that are left mean, after a backslash or not
abbrev pub goes_on : Bool → List ℕ → List ℕ
goes_on true bs = after_backslash bs
goes_on false bs = unescaped bs
