-- Lists that are built and taken apart by loops.
use Rattle.std.proofs.Common.{◌≡◌, ℕ, ◌+◌, List, drop, Option, Some, None, refl, add-one, add-zero}
use Rattle.th_tree.specs.Trees.{FormalSyn, StmtSyn, var_stmt}
use Rattle.th_meaning.specs.Trees as core
use Rattle.th_meaning.specs.Trees.{ExprTree, StmtTree, BodyTree, ElseTree, WhenTrees}
use Rattle.th_meaning.specs.Onto.{stmts_onto, elses_onto, whens_onto}
use Rattle.th_rules.specs.Context.{Binding, Context}
use Rattle.th_stmt_rules.specs.Bodies.{both_parts, three_parts, Heading, handler}
use Rattle.th_stmt_rules.specs.Scopes.{after, declares, in_handler, variable_count}

-- the locals that are left once those are taken away that were let in
pub drop_after : (C : Context) (ls : List Binding) (n k : ℕ) (s : StmtSyn) → drop (k + declares s) (after C ls n s) ≡ drop k ls
drop_after C ls n k (var_stmt at f e) = rw (add-one k) refl
drop_after C ls n k _ = rw (add-zero k) refl

-- the locals that are left once a handler's variable is taken away
pub drop_handler : (C : Context) (ls : List Binding) (n : ℕ) (v : Option FormalSyn) → drop (variable_count v) (in_handler C ls n v) ≡ ls
drop_handler C ls n None = refl
drop_handler C ls n (Some f) = refl

-- a statement that goes to those done is one before the others
pub stmts_step : (d : Option BodyTree) (s : Option StmtTree) (r : Option BodyTree) → both_parts stmts_onto (both_parts core.more_stmts s d) r ≡ both_parts stmts_onto d (both_parts core.more_stmts s r)
stmts_step None None r = refl
stmts_step (Some d) None r = refl
stmts_step None (Some s) r = refl
stmts_step (Some d) (Some s) None = refl
stmts_step (Some d) (Some s) (Some r) = refl

-- nothing done before the others
pub stmts_start : (r : Option BodyTree) → both_parts stmts_onto (Some core.no_stmt) r ≡ r
stmts_start None = refl
stmts_start (Some r) = refl

-- the same of `elseif`s
pub elses_step : (d : Option ElseTree) (t : Option ExprTree) (b : Option BodyTree) (r : Option ElseTree) → both_parts elses_onto (three_parts core.elseif_then t b d) r ≡ both_parts elses_onto d (three_parts core.elseif_then t b r)
elses_step None None b r = refl
elses_step (Some d) None b r = refl
elses_step None (Some t) None r = refl
elses_step None (Some t) (Some b) r = refl
elses_step (Some d) (Some t) None r = refl
elses_step (Some d) (Some t) (Some b) None = refl
elses_step (Some d) (Some t) (Some b) (Some r) = refl

pub elses_start : (r : Option ElseTree) → both_parts elses_onto (Some core.no_else) r ≡ r
elses_start None = refl
elses_start (Some r) = refl

-- the same of handlers
pub whens_step : (d : Option WhenTrees) (h : Option Heading) (b : Option BodyTree) (r : Option WhenTrees) → both_parts whens_onto (three_parts handler h b d) r ≡ both_parts whens_onto d (three_parts handler h b r)
whens_step None None b r = refl
whens_step (Some d) None b r = refl
whens_step None (Some h) None r = refl
whens_step None (Some h) (Some b) r = refl
whens_step (Some d) (Some h) None r = refl
whens_step (Some d) (Some h) (Some b) None = refl
whens_step (Some d) (Some h) (Some b) (Some r) = refl

pub whens_start : (r : Option WhenTrees) → both_parts whens_onto (Some core.no_when) r ≡ r
whens_start None = refl
whens_start (Some r) = refl
