-- Lists of trees, the other way round and before others.
use Rattle.th_tree.specs.Trees.{TypeSyns, no_type, more_types, ExprSyns, no_expr, more_exprs, BodySyn, no_stmt, more_stmts, ElseSyn, no_else, else_do, elseif_then, WhenSyns, no_when, more_whens}

-- the first types the other way round, before the second
abbrev pub types_onto : TypeSyns → TypeSyns → TypeSyns
types_onto no_type done = done
types_onto (more_types t ts) done = types_onto ts (more_types t done)

-- the first expressions the other way round, before the second
abbrev pub exprs_onto : ExprSyns → ExprSyns → ExprSyns
exprs_onto no_expr done = done
exprs_onto (more_exprs e es) done = exprs_onto es (more_exprs e done)

-- the first statements the other way round, before the second
abbrev pub stmts_onto : BodySyn → BodySyn → BodySyn
stmts_onto no_stmt done = done
stmts_onto (more_stmts s b) done = stmts_onto b (more_stmts s done)

-- the first `elseif`s the other way round, before the second
abbrev pub elses_onto : ElseSyn → ElseSyn → ElseSyn
elses_onto no_else done = done
elses_onto (else_do b) done = done
elses_onto (elseif_then at e b r) done = elses_onto r (elseif_then at e b done)

-- the first handlers the other way round, before the second
abbrev pub whens_onto : WhenSyns → WhenSyns → WhenSyns
whens_onto no_when done = done
whens_onto (more_whens at x v b ws) done = whens_onto ws (more_whens at x v b done)
