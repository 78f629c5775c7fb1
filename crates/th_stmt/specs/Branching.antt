-- Statements with several bodies.
use Rattle.std.specs.Prelude.{Bool, true, false}
use Rattle.th_tree.specs.Trees.{StmtSyn, if_stmt, begin_stmt}

-- whether the statement is an `if` or a block
abbrev pub is_branching : StmtSyn → Bool
is_branching (if_stmt at e b r) = true
is_branching (begin_stmt at b ws) = true
is_branching _ = false
