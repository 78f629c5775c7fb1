-- The lines of the report.
use Rattle.std.specs.Prelude.{ℕ, zero, suc, ◌/◌, ◌%◌, ◌+◌, cond, nat_lt, List, [], ◌∷◌, ◌++◌, codes}
use Rattle.std.specs.Fmt.{decimal}
use Rattle.th_rv.specs.declared.instr.Cause.{Cause}
use Rattle.th_rv.specs.declared.instr.Cause.TheVariants as cause
use Rattle.th_type.specs.declared.place.What.{What}
use Rattle.th_type.specs.declared.place.What.TheVariants as whats
use Rattle.th_accept.specs.declared.refusal.Refusal.{Refusal}
use Rattle.th_accept.specs.declared.refusal.Refusal.TheVariants as refusals

-- a line: a text and a line feed
abbrev pub line : List ℕ → List ℕ
line text = text ++ 10 ∷ []

-- the word for the cause of a trap
abbrev pub cause_word : Cause → List ℕ
cause_word cause.Fetch = codes "fetch"
cause_word cause.Illegal = codes "illegal"
cause_word cause.Jump = codes "jump"
cause_word cause.Misaligned = codes "misaligned"
cause_word cause.Load = codes "load"
cause_word cause.Store = codes "store"
cause_word cause.Ecall = codes "ecall"
cause_word cause.Ebreak = codes "ebreak"

-- the digit of a number below 16, in small letters
abbrev pub hex_digit : ℕ → ℕ
hex_digit d = cond (nat_lt d 10) (48 + d) (87 + d)

-- the last k hexadecimal digits of a number
abbrev pub hexadecimal : (k : ℕ) → ℕ → List ℕ
hexadecimal zero n = []
hexadecimal (suc k) n = hexadecimal k (n / 16) ++ hex_digit (n % 16) ∷ []

-- the word for what is limited
abbrev pub what_word : What → List ℕ
what_word whats.Name = codes "name"
what_word whats.Params = codes "params"
what_word whats.Formals = codes "formals"
what_word whats.Where = codes "where"
what_word whats.Nodes = codes "nodes"
what_word whats.Locals = codes "locals"
what_word whats.Module = codes "module"
what_word whats.Literal = codes "literal"
what_word whats.ProgramNodes = codes "nodes"
what_word whats.Tables = codes "tables"
what_word whats.Exceptions = codes "exceptions"
what_word whats.Code = codes "code"
what_word whats.Bridges = codes "bridges"
what_word whats.Text = codes "text"

-- why a text is refused, without its file's name
abbrev pub refusal_text : Refusal → List ℕ
refusal_text (refusals.BadByte at) = codes "bad byte at " ++ decimal at.at
refusal_text (refusals.WideNumber at) = codes "wide number at " ++ decimal at.at
refusal_text (refusals.Syntax at) = codes "syntax at " ++ decimal at.at
refusal_text (refusals.MissingInterface at name) = codes "missing interface " ++ name
refusal_text (refusals.Rule number at) = codes "rule " ++ decimal number ++ codes " at " ++ decimal at.at
refusal_text (refusals.TooLarge what count at) = codes "too large " ++ what_word what ++ codes " " ++ decimal count ++ codes " at " ++ decimal at.at
refusal_text refusals.Memory = codes "memory"
