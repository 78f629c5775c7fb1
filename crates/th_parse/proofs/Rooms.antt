-- Statements where there is room.
use Rattle.std.proofs.Common.{◌≡◌, ◌≢◌, ℕ, zero, suc, ◌-◌, List, refl, arith}
use Rattle.th_tree.specs.declared.lexeme.Lexeme.{Lexeme}
use Rattle.th_parse.specs.Parse.{read_body, stmts_of}

pub body_room : (room n : ℕ) (ts : List Lexeme) → room ≢ 0 → read_body room n ts ≡ stmts_of (room - 1) (read_body (room - 1)) n ts
body_room zero n ts h = absurd (h refl)
body_room (suc r) n ts h = let e : suc r - 1 ≡ r = omega arith in rw e refl
