use Rattle.std.proofs.Common.{◌≡◌, ◌≤◌, ◌+◌, ◌-◌, ◌*◌, suc, [], ◌∷◌}
use Rattle.th_tree.specs.declared.tokens.Reserved.TheVariants.{KeyElseif, KeyWhen}
use Rattle.th_tree.specs.declared.lexeme.Mark.TheVariants.{Word}
use Rattle.th_tree.specs.Trees.{no_stmt, more_stmts}
use Rattle.th_tree.specs.View.{body_of, else_of as else_tree_of, whens_of as handlers_of}
use Rattle.th_tree.specs.Onto.{stmts_onto, elses_onto, whens_onto}
use Rattle.th_tree.specs.Grammar.{more_elses, more_handlers}
use Rattle.th_syntax.specs.Read.{code, in_set, many, ret}
use Rattle.th_parse.specs.Parse.{read_body, stmt_first, stmt_of, stmts_of, elseif_of, else_of, elses_of, when_of, whens_of, whens_end}
use Rattle.th_syntax.specs.Lists.{with_back}
use Rattle.th_parse.proofs.stmts.+stmts.Given as goal

abbrev pub decreases-body_tree : goal.decreases-body_tree
decreases-body_tree l = l.room * 100 + 99

abbrev pub decreases-stmts : goal.decreases-stmts
decreases-stmts l = (l.r + 1) * 100 + 70

abbrev pub decreases-stmt : goal.decreases-stmt
decreases-stmt l = (l.r + 1) * 100 + 60

abbrev pub decreases-if_stmt : goal.decreases-if_stmt
decreases-if_stmt l = (l.r + 1) * 100 + 50

abbrev pub decreases-elses : goal.decreases-elses
decreases-elses l = (l.r + 1) * 100 + 40

abbrev pub decreases-else_end : goal.decreases-else_end
decreases-else_end l = (l.r + 1) * 100 + 30

abbrev pub decreases-elseif : goal.decreases-elseif
decreases-elseif l = (l.r + 1) * 100 + 30

abbrev pub decreases-while_stmt : goal.decreases-while_stmt
decreases-while_stmt l = (l.r + 1) * 100 + 50

abbrev pub decreases-for_stmt : goal.decreases-for_stmt
decreases-for_stmt l = (l.r + 1) * 100 + 50

abbrev pub decreases-begin_stmt : goal.decreases-begin_stmt
decreases-begin_stmt l = (l.r + 1) * 100 + 50

abbrev pub decreases-whens : goal.decreases-whens
decreases-whens l = (l.r + 1) * 100 + 40

abbrev pub decreases-when : goal.decreases-when
decreases-when l = (l.r + 1) * 100 + 30

abbrev pub invariant-stmts-loop : goal.invariant-stmts-loop
invariant-stmts-loop l =
    stmts_of l.r (read_body l.r) l.reader.most l.fn.tokens ≡ with_back stmts_onto (body_of l.back) (many (in_set stmt_first) (stmt_of l.r (read_body l.r)) more_stmts (ret no_stmt) (l.reader.most - l.counter) l.reader.most l.rest)

abbrev pub invariant-elses-loop : goal.invariant-elses-loop
invariant-elses-loop l =
    elses_of l.r (read_body l.r) l.reader.most l.fn.tokens
    ≡ with_back elses_onto (else_tree_of l.back) (many (in_set (code (Word KeyElseif) ∷ [])) (elseif_of l.r (read_body l.r)) more_elses (else_of l.r (read_body l.r)) (l.reader.most - l.counter) l.reader.most l.rest)

abbrev pub invariant-whens-loop : goal.invariant-whens-loop
invariant-whens-loop l =
    whens_of l.r (read_body l.r) l.reader.most l.fn.tokens
    ≡ with_back whens_onto (handlers_of l.back) (many (in_set (code (Word KeyWhen) ∷ [])) (when_of l.r (read_body l.r)) more_handlers whens_end (l.reader.most - l.counter) l.reader.most l.rest)
