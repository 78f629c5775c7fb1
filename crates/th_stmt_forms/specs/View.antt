-- What the code holds, without where it lies in memory.
use Rattle.std.specs.Prelude.{Option, Some, None, option_map}
use Rattle.std.specs.Global.{Box}
use Rattle.th_meaning.specs.Trees.{ExprTree, StmtTree, BodyTree, ElseTree, WhenTrees}
use Rattle.th_meaning.specs.declared.expr.CoreExpr.{CoreExpr}
use Rattle.th_meaning.specs.declared.stmt.CoreStmt.{CoreStmt}
use Rattle.th_meaning.specs.declared.stmt.CoreBody.{CoreBody}
use Rattle.th_meaning.specs.declared.stmt.CoreElse.{CoreElse}
use Rattle.th_meaning.specs.declared.stmt.CoreWhenList.{CoreWhenList}
use Rattle.th_meaning.specs.View.{expr_of, call_of, cast_of, variable_of, stmt_of, body_of, else_of, whens_of}
use Rattle.th_stmt_rules.specs.Bodies.{Heading, LoopHead}
use Rattle.th_stmt_forms.specs.declared.form.LoopHead.{LoopHead as CodeHead}
use Rattle.th_stmt_forms.specs.declared.lists.Heading.{Heading as CodeHeading}

-- an expression that there may be
abbrev pub expr_opt : Option (Box CoreExpr) → Option ExprTree
expr_opt None = None
expr_opt (Some e) = Some (expr_of e.value)

-- what a handler has before its statements, where it is lawful
abbrev pub heading_opt : Option CodeHeading → Option Heading
heading_opt None = None
heading_opt (Some h) = Some (record { name = h.name; variable = option_map variable_of h.variable })

-- a statement that there may be
abbrev pub stmt_opt : Option (Box CoreStmt) → Option StmtTree
stmt_opt None = None
stmt_opt (Some s) = Some (stmt_of s.value)

-- what a `for` has before its statements, where it is lawful
abbrev pub head_opt : Option (Box CodeHead) → Option LoopHead
head_opt None = None
head_opt (Some h) = Some (record { variable = variable_of h.value.variable; cast = option_map cast_of h.value.cast; call = call_of h.value.call })

-- statements that there may be
abbrev pub body_opt : Option CoreBody → Option BodyTree
body_opt None = None
body_opt (Some b) = Some (body_of b)

-- what follows a `then`, where it is lawful
abbrev pub else_opt : Option CoreElse → Option ElseTree
else_opt None = None
else_opt (Some r) = Some (else_of r)

-- handlers that there may be
abbrev pub whens_opt : Option CoreWhenList → Option WhenTrees
whens_opt None = None
whens_opt (Some ws) = Some (whens_of ws)
