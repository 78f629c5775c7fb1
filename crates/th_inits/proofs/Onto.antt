-- Statements that are put together one after another.
use Rattle.std.proofs.Common.{◌≡◌, ℕ, ◌+◌, ◌<◌, List, ◌∷◌, length, get_or, drop, Option, Some, None, refl, sym, ap, ◌∙◌}
use Rattle.th_hier.proofs.Failing.{next_item}
use Rattle.th_tree.specs.Trees.{SuperCallSyn, FieldAssignSyn}
use Rattle.th_meaning.specs.Trees as core
use Rattle.th_meaning.specs.Trees.{StmtTree, BodyTree}
use Rattle.th_meaning.specs.Onto.{stmts_onto}
use Rattle.th_rules.specs.Context.{Binding, ClassInfo, Context}
use Rattle.th_stmt_rules.specs.Bodies.{both_parts}
use Rattle.th_module_rules.specs.Initializers.{Inherited, super_stmt_of, assigns_core, init_core_with}
use Rattle.th_inits.specs.Supers.{begun}

-- a statement that goes to those done is one before the others
pub stmts_step : (d : Option BodyTree) (s : Option StmtTree) (r : Option BodyTree) → both_parts stmts_onto (both_parts core.more_stmts s d) r ≡ both_parts stmts_onto d (both_parts core.more_stmts s r)
stmts_step None None r = refl
stmts_step (Some d) None r = refl
stmts_step None (Some s) r = refl
stmts_step (Some d) (Some s) None = refl
stmts_step (Some d) (Some s) (Some r) = refl

-- nothing done before the others
stmts_start : (r : Option BodyTree) → both_parts stmts_onto (Some core.no_stmt) r ≡ r
stmts_start None = refl
stmts_start (Some r) = refl

-- one statement before the others
stmts_one : (s : Option StmtTree) (r : Option BodyTree) → both_parts stmts_onto (both_parts core.more_stmts s (Some core.no_stmt)) r ≡ both_parts core.more_stmts s r
stmts_one None r = refl
stmts_one (Some s) None = refl
stmts_one (Some s) (Some r) = refl

-- the statements that are done with the next of those that are left
pub next_core : {A : Type 0} (g : A → Option StmtTree) (F : List A → Option BodyTree) (xs : List A) (i : ℕ) (x : A) (done new whole : Option BodyTree)
    → ((y : A) (ys : List A) → F (y ∷ ys) ≡ both_parts core.more_stmts (g y) (F ys)) → i < length xs → x ≡ get_or xs i x
    → new ≡ both_parts core.more_stmts (g x) done → both_parts stmts_onto done (F (drop i xs)) ≡ whole → both_parts stmts_onto new (F (drop (i + 1) xs)) ≡ whole
next_core {A} g F xs i x done new whole goes below is here left =
    ap (λ (o : Option BodyTree). both_parts stmts_onto o (F (drop (i + 1) xs))) here ∙ stmts_step done (g x) (F (drop (i + 1) xs))
    ∙ ap (both_parts stmts_onto done) (sym (goes x (drop (i + 1) xs))) ∙ ap (λ (ys : List A). both_parts stmts_onto done (F ys)) (sym (next_item xs i x below is)) ∙ left

-- the checked tree of an initializer begins with its super call
pub begun_is : (C : Context) (ls : List Binding) (n : List ℕ) (c : ClassInfo) (above : Option Inherited) (s : Option SuperCallSyn) (rest : List FieldAssignSyn)
    → both_parts stmts_onto (begun C ls above s) (assigns_core C ls n c.fields rest) ≡ init_core_with C ls n c above s rest
begun_is C ls n c above None rest = stmts_start (assigns_core C ls n c.fields rest)
begun_is C ls n c above (Some s) rest = stmts_one (super_stmt_of C ls above s) (assigns_core C ls n c.fields rest)
