-- Lists of trees, the other way round and before others.
use Rattle.th_meaning.specs.Trees.{TypeTrees, no_type, more_types, ExprTrees, no_expr, more_exprs, BodyTree, no_stmt, more_stmts, ElseTree, no_else, else_do, elseif_then, WhenTrees, no_when, more_whens}

-- the first types the other way round, before the second
abbrev pub types_onto : TypeTrees → TypeTrees → TypeTrees
types_onto no_type done = done
types_onto (more_types t ts) done = types_onto ts (more_types t done)

-- the first expressions the other way round, before the second
abbrev pub exprs_onto : ExprTrees → ExprTrees → ExprTrees
exprs_onto no_expr done = done
exprs_onto (more_exprs e es) done = exprs_onto es (more_exprs e done)

-- the first statements the other way round, before the second
abbrev pub stmts_onto : BodyTree → BodyTree → BodyTree
stmts_onto no_stmt done = done
stmts_onto (more_stmts s b) done = stmts_onto b (more_stmts s done)

-- the first `elseif`s the other way round, before the second; an `else` among the first is left out
abbrev pub elses_onto : ElseTree → ElseTree → ElseTree
elses_onto no_else done = done
elses_onto (else_do b) done = done
elses_onto (elseif_then e b r) done = elses_onto r (elseif_then e b done)

-- the first handlers the other way round, before the second
abbrev pub whens_onto : WhenTrees → WhenTrees → WhenTrees
whens_onto no_when done = done
whens_onto (more_whens x v b ws) done = whens_onto ws (more_whens x v b done)
