-- Super calls, step by step.
use Rattle.std.specs.Prelude.{List, Option, Some, None}
use Rattle.th_tree.specs.Trees.{SuperCallSyn}
use Rattle.th_type.specs.Signatures.{Signature}
use Rattle.th_meaning.specs.Trees as core
use Rattle.th_meaning.specs.Trees.{ExprTrees, StmtTree, BodyTree}
use Rattle.th_rules.specs.Context.{Binding, Context}
use Rattle.th_rules.specs.Supplies.{supplies_of}
use Rattle.th_rules.specs.Callees.{Checked, Given, untyped, given_all}
use Rattle.th_stmt_rules.specs.Bodies.{both_parts}
use Rattle.th_module_rules.specs.Initializers.{Inherited, super_stmt, super_stmt_of}

-- arguments, given to an initializer that there may be
abbrev pub arguments_given : Context → Option Signature → List (Option Checked) → Given ExprTrees
arguments_given C None xs = untyped
arguments_given C (Some s) xs = given_all C s.formals xs

-- the super call of a class that there may be, with given arguments
abbrev pub super_given : Context → Option Inherited → Given ExprTrees → Option StmtTree
super_given C None es = None
super_given C (Some i) es = super_stmt C i (supplies_of C i.args i.class.clauses) es

-- the statements that an initializer begins with
abbrev pub begun : Context → List Binding → Option Inherited → Option SuperCallSyn → Option BodyTree
begun C ls above None = Some core.no_stmt
begun C ls above (Some s) = both_parts core.more_stmts (super_stmt_of C ls above s) (Some core.no_stmt)
