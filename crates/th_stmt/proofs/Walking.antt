-- The walks over statements, over what follows a `then` and over handlers, from the first to the last.
use Rattle.std.proofs.Common.{◌≡◌, ℕ, ◌+◌, Bool, List, ◌++◌, Option, Some, option_map, refl, sym, ap, ◌∙◌}
use Rattle.th_tree.specs.Trees.{BodySyn, no_stmt, more_stmts, ElseSyn, no_else, else_do, elseif_then, WhenSyns, no_when, more_whens}
use Rattle.th_type.specs.declared.place.Failure.{Failure}
use Rattle.th_type.specs.Failures.{lowest}
use Rattle.th_type.proofs.Least.{lowest_append}
use Rattle.th_meaning.specs.Trees as core
use Rattle.th_meaning.specs.Trees.{BodyTree, ElseTree, WhenTrees}
use Rattle.th_meaning.specs.Onto.{stmts_onto, elses_onto, whens_onto}
use Rattle.th_rules.specs.Context.{Binding, Context}
use Rattle.th_rules.specs.Raising.{raises}
use Rattle.th_rules.specs.Typing.{is_bool, typed}
use Rattle.th_stmt_rules.specs.declared.key.Key.{Key}
use Rattle.th_stmt_rules.specs.Bodies.{both_parts, three_parts, tested, heading, handler, stmt_core, body_core, else_core, whens_core}
use Rattle.th_stmt_rules.specs.Exceptions.{exception_of, seen_with}
use Rattle.th_stmt_rules.specs.Failing.{tested_fails, handler_fails, stmt_fails, body_fails, else_fails, whens_fail}
use Rattle.th_stmt_rules.specs.Raising.{stmt_raises, body_raises, else_raises, whens_raise}
use Rattle.th_stmt_rules.specs.Scopes.{after, in_handler, variable_count, body_locals, stmt_locals}
use Rattle.th_stmt.proofs.Onto.{stmts_step, stmts_start, elses_step, elses_start, whens_step, whens_start}

-- the least of three lists, one after another
three_lowest : (o : Option Failure) (xs ys zs : List Failure) → lowest o (xs ++ ys ++ zs) ≡ lowest (lowest (lowest o xs) ys) zs
three_lowest o xs ys zs = lowest_append o (xs ++ ys) zs ∙ ap (λ (p : Option Failure). lowest p zs) (lowest_append o xs ys)

-- the checked trees of statements after others, which are the other way round
abbrev pub body_along : Context → List Binding → Bool → ℕ → BodySyn → Option BodyTree → Option BodyTree
body_along C ls looping n no_stmt back = both_parts stmts_onto back (Some core.no_stmt)
body_along C ls looping n (more_stmts s b) back =
    body_along C (after C ls n s) looping (n + stmt_locals s) b (both_parts core.more_stmts (stmt_core C ls looping n s) back)

body_after : (C : Context) (ls : List Binding) (looping : Bool) (n : ℕ) (b : BodySyn) (back : Option BodyTree) → body_along C ls looping n b back ≡ both_parts stmts_onto back (body_core C ls looping n b)
body_after C ls looping n no_stmt back = refl
body_after C ls looping n (more_stmts s b) back =
    body_after C (after C ls n s) looping (n + stmt_locals s) b (both_parts core.more_stmts (stmt_core C ls looping n s) back)
    ∙ stmts_step back (stmt_core C ls looping n s) (body_core C (after C ls n s) looping (n + stmt_locals s) b)

pub body_is : (C : Context) (ls : List Binding) (looping : Bool) (n : ℕ) (b : BodySyn) → body_along C ls looping n b (Some core.no_stmt) ≡ body_core C ls looping n b
body_is C ls looping n b = body_after C ls looping n b (Some core.no_stmt) ∙ stmts_start (body_core C ls looping n b)

-- the least of a failure and of those of statements
abbrev pub fails_along : Context → List Binding → Bool → ℕ → BodySyn → Option Failure → Option Failure
fails_along C ls looping n no_stmt o = o
fails_along C ls looping n (more_stmts s b) o = fails_along C (after C ls n s) looping (n + stmt_locals s) b (lowest o (stmt_fails C ls looping n s))

pub fails_are : (C : Context) (ls : List Binding) (looping : Bool) (n : ℕ) (b : BodySyn) (o : Option Failure) → fails_along C ls looping n b o ≡ lowest o (body_fails C ls looping n b)
fails_are C ls looping n no_stmt o = refl
fails_are C ls looping n (more_stmts s b) o =
    fails_are C (after C ls n s) looping (n + stmt_locals s) b (lowest o (stmt_fails C ls looping n s))
    ∙ sym (lowest_append o (stmt_fails C ls looping n s) (body_fails C (after C ls n s) looping (n + stmt_locals s) b))

-- the same of the rule on exceptions
abbrev pub raises_along : Context → List Binding → List ℕ → ℕ → BodySyn → Option Failure → Option Failure
raises_along C ls h n no_stmt o = o
raises_along C ls h n (more_stmts s b) o = raises_along C (after C ls n s) h (n + stmt_locals s) b (lowest o (stmt_raises C ls h n s))

pub raises_are : (C : Context) (ls : List Binding) (h : List ℕ) (n : ℕ) (b : BodySyn) (o : Option Failure) → raises_along C ls h n b o ≡ lowest o (body_raises C ls h n b)
raises_are C ls h n no_stmt o = refl
raises_are C ls h n (more_stmts s b) o =
    raises_are C (after C ls n s) h (n + stmt_locals s) b (lowest o (stmt_raises C ls h n s))
    ∙ sym (lowest_append o (stmt_raises C ls h n s) (body_raises C (after C ls n s) h (n + stmt_locals s) b))

-- the checked tree of what follows a `then`, after `elseif`s that are the other way round
abbrev pub else_along : Context → List Binding → Bool → ℕ → ElseSyn → Option ElseTree → Option ElseTree
else_along C ls looping n no_else back = both_parts elses_onto back (Some core.no_else)
else_along C ls looping n (else_do b) back = both_parts elses_onto back (option_map core.else_do (body_core C ls looping n b))
else_along C ls looping n (elseif_then at e b r) back =
    else_along C ls looping (n + body_locals b) r (three_parts core.elseif_then (tested is_bool (typed C ls e)) (body_core C ls looping n b) back)

else_after : (C : Context) (ls : List Binding) (looping : Bool) (n : ℕ) (r : ElseSyn) (back : Option ElseTree) → else_along C ls looping n r back ≡ both_parts elses_onto back (else_core C ls looping n r)
else_after C ls looping n no_else back = refl
else_after C ls looping n (else_do b) back = refl
else_after C ls looping n (elseif_then at e b r) back =
    else_after C ls looping (n + body_locals b) r (three_parts core.elseif_then (tested is_bool (typed C ls e)) (body_core C ls looping n b) back)
    ∙ elses_step back (tested is_bool (typed C ls e)) (body_core C ls looping n b) (else_core C ls looping (n + body_locals b) r)

pub else_is : (C : Context) (ls : List Binding) (looping : Bool) (n : ℕ) (r : ElseSyn) → else_along C ls looping n r (Some core.no_else) ≡ else_core C ls looping n r
else_is C ls looping n r = else_after C ls looping n r (Some core.no_else) ∙ elses_start (else_core C ls looping n r)

-- the least of a failure and of those of what follows a `then`
abbrev pub else_fails_along : Context → List Binding → Bool → ℕ → ElseSyn → Option Failure → Option Failure
else_fails_along C ls looping n no_else o = o
else_fails_along C ls looping n (else_do b) o = lowest o (body_fails C ls looping n b)
else_fails_along C ls looping n (elseif_then at e b r) o =
    else_fails_along C ls looping (n + body_locals b) r (lowest (lowest o (tested_fails C ls is_bool e)) (body_fails C ls looping n b))

pub else_fails_are : (C : Context) (ls : List Binding) (looping : Bool) (n : ℕ) (r : ElseSyn) (o : Option Failure) → else_fails_along C ls looping n r o ≡ lowest o (else_fails C ls looping n r)
else_fails_are C ls looping n no_else o = refl
else_fails_are C ls looping n (else_do b) o = refl
else_fails_are C ls looping n (elseif_then at e b r) o =
    else_fails_are C ls looping (n + body_locals b) r (lowest (lowest o (tested_fails C ls is_bool e)) (body_fails C ls looping n b))
    ∙ sym (three_lowest o (tested_fails C ls is_bool e) (body_fails C ls looping n b) (else_fails C ls looping (n + body_locals b) r))

-- the same of the rule on exceptions
abbrev pub else_raises_along : Context → List Binding → List ℕ → ℕ → ElseSyn → Option Failure → Option Failure
else_raises_along C ls h n no_else o = o
else_raises_along C ls h n (else_do b) o = lowest o (body_raises C ls h n b)
else_raises_along C ls h n (elseif_then at e b r) o =
    else_raises_along C ls h (n + body_locals b) r (lowest (lowest o (raises C ls h e)) (body_raises C ls h n b))

pub else_raises_are : (C : Context) (ls : List Binding) (h : List ℕ) (n : ℕ) (r : ElseSyn) (o : Option Failure) → else_raises_along C ls h n r o ≡ lowest o (else_raises C ls h n r)
else_raises_are C ls h n no_else o = refl
else_raises_are C ls h n (else_do b) o = refl
else_raises_are C ls h n (elseif_then at e b r) o =
    else_raises_are C ls h (n + body_locals b) r (lowest (lowest o (raises C ls h e)) (body_raises C ls h n b))
    ∙ sym (three_lowest o (raises C ls h e) (body_raises C ls h n b) (else_raises C ls h (n + body_locals b) r))

-- the checked trees of handlers after others, which are the other way round
abbrev pub whens_along : Context → List Binding → Bool → List Key → ℕ → WhenSyns → Option WhenTrees → Option WhenTrees
whens_along C ls looping seen n no_when back = both_parts whens_onto back (Some core.no_when)
whens_along C ls looping seen n (more_whens at x v b ws) back =
    whens_along C ls looping (seen_with (exception_of C ls x) seen) (n + variable_count v + body_locals b) ws
    (three_parts handler (heading C ls n seen (exception_of C ls x) v) (body_core C (in_handler C ls n v) looping (n + variable_count v) b) back)

whens_after : (C : Context) (ls : List Binding) (looping : Bool) (seen : List Key) (n : ℕ) (ws : WhenSyns) (back : Option WhenTrees) → whens_along C ls looping seen n ws back ≡ both_parts whens_onto back (whens_core C ls looping seen n ws)
whens_after C ls looping seen n no_when back = refl
whens_after C ls looping seen n (more_whens at x v b ws) back =
    whens_after C ls looping (seen_with (exception_of C ls x) seen) (n + variable_count v + body_locals b) ws
    (three_parts handler (heading C ls n seen (exception_of C ls x) v) (body_core C (in_handler C ls n v) looping (n + variable_count v) b) back)
    ∙ whens_step back (heading C ls n seen (exception_of C ls x) v) (body_core C (in_handler C ls n v) looping (n + variable_count v) b)
    (whens_core C ls looping (seen_with (exception_of C ls x) seen) (n + variable_count v + body_locals b) ws)

pub whens_are : (C : Context) (ls : List Binding) (looping : Bool) (seen : List Key) (n : ℕ) (ws : WhenSyns) → whens_along C ls looping seen n ws (Some core.no_when) ≡ whens_core C ls looping seen n ws
whens_are C ls looping seen n ws = whens_after C ls looping seen n ws (Some core.no_when) ∙ whens_start (whens_core C ls looping seen n ws)

-- the least of a failure and of those of handlers
abbrev pub whens_fail_along : Context → List Binding → Bool → List Key → ℕ → WhenSyns → Option Failure → Option Failure
whens_fail_along C ls looping seen n no_when o = o
whens_fail_along C ls looping seen n (more_whens at x v b ws) o =
    whens_fail_along C ls looping (seen_with (exception_of C ls x) seen) (n + variable_count v + body_locals b) ws
    (lowest (lowest o (handler_fails C ls seen at x v)) (body_fails C (in_handler C ls n v) looping (n + variable_count v) b))

pub whens_fails_are : (C : Context) (ls : List Binding) (looping : Bool) (seen : List Key) (n : ℕ) (ws : WhenSyns) (o : Option Failure) → whens_fail_along C ls looping seen n ws o ≡ lowest o (whens_fail C ls looping seen n ws)
whens_fails_are C ls looping seen n no_when o = refl
whens_fails_are C ls looping seen n (more_whens at x v b ws) o =
    whens_fails_are C ls looping (seen_with (exception_of C ls x) seen) (n + variable_count v + body_locals b) ws
    (lowest (lowest o (handler_fails C ls seen at x v)) (body_fails C (in_handler C ls n v) looping (n + variable_count v) b))
    ∙ sym (three_lowest o (handler_fails C ls seen at x v) (body_fails C (in_handler C ls n v) looping (n + variable_count v) b)
    (whens_fail C ls looping (seen_with (exception_of C ls x) seen) (n + variable_count v + body_locals b) ws))

-- the same of the rule on exceptions
abbrev pub whens_raise_along : Context → List Binding → List ℕ → ℕ → WhenSyns → Option Failure → Option Failure
whens_raise_along C ls h n no_when o = o
whens_raise_along C ls h n (more_whens at x v b ws) o =
    whens_raise_along C ls h (n + variable_count v + body_locals b) ws (lowest o (body_raises C (in_handler C ls n v) h (n + variable_count v) b))

pub whens_raises_are : (C : Context) (ls : List Binding) (h : List ℕ) (n : ℕ) (ws : WhenSyns) (o : Option Failure) → whens_raise_along C ls h n ws o ≡ lowest o (whens_raise C ls h n ws)
whens_raises_are C ls h n no_when o = refl
whens_raises_are C ls h n (more_whens at x v b ws) o =
    whens_raises_are C ls h (n + variable_count v + body_locals b) ws (lowest o (body_raises C (in_handler C ls n v) h (n + variable_count v) b))
    ∙ sym (lowest_append o (body_raises C (in_handler C ls n v) h (n + variable_count v) b) (whens_raise C ls h (n + variable_count v + body_locals b) ws))
