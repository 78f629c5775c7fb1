use Rattle.std.proofs.Common.{◌≡◌, ◌≤◌, ◌+◌, ◌-◌, ◌*◌, suc}
use Rattle.th_tree.specs.declared.tokens.Sym.TheVariants.{Comma}
use Rattle.th_tree.specs.declared.lexeme.Mark.TheVariants.{Symbol}
use Rattle.th_tree.specs.Grammar.{Expr, operator_of, no_founds, more_founds}
use Rattle.th_syntax.specs.Read.{in_set, has, lookup, steps, listed}
use Rattle.th_syntax.specs.Parse.{read_form, suffix_first, suffix_of, goes_on, post_of, operand_of, chain}
use Rattle.th_syntax.specs.Founds.{read_of, list_of, form_named, expr_list, founds_onto}
use Rattle.th_syntax.specs.Lists.{with_back}
use Rattle.th_syntax.proofs.step.Reader.+exprs.Given as goal

abbrev pub decreases-expr : goal.decreases-expr
decreases-expr l = l.room * 100 + 99

abbrev pub decreases-args : goal.decreases-args
decreases-args l = (l.r + 1) * 100 + 20

abbrev pub decreases-atom : goal.decreases-atom
decreases-atom l = (l.r + 1) * 100 + 40

abbrev pub decreases-chained : goal.decreases-chained
decreases-chained l = (l.r + 1) * 100 + 10

abbrev pub decreases-comparison : goal.decreases-comparison
decreases-comparison l = (l.r + 1) * 100 + 10

abbrev pub decreases-exprs : goal.decreases-exprs
decreases-exprs l = (l.r + 1) * 100 + 10

abbrev pub decreases-form_within : goal.decreases-form_within
decreases-form_within l = (l.r + 1) * 100 + 90

abbrev pub decreases-item : goal.decreases-item
decreases-item l = (l.r + 1) * 100 + 30

abbrev pub decreases-member : goal.decreases-member
decreases-member l = (l.r + 1) * 100 + 30

abbrev pub decreases-negation : goal.decreases-negation
decreases-negation l = (l.r + 1) * 100 + 80

abbrev pub decreases-new_array : goal.decreases-new_array
decreases-new_array l = (l.r + 1) * 100 + 28

abbrev pub decreases-new_value : goal.decreases-new_value
decreases-new_value l = (l.r + 1) * 100 + 30

abbrev pub decreases-operand : goal.decreases-operand
decreases-operand l = (l.r + 1) * 100 + 5

abbrev pub decreases-parens : goal.decreases-parens
decreases-parens l = (l.r + 1) * 100 + 30

abbrev pub decreases-postfix : goal.decreases-postfix
decreases-postfix l = (l.r + 1) * 100 + 50

abbrev pub decreases-suffix : goal.decreases-suffix
decreases-suffix l = (l.r + 1) * 100 + 40

abbrev pub decreases-sum : goal.decreases-sum
decreases-sum l = (l.r + 1) * 100 + 70

abbrev pub decreases-super_call : goal.decreases-super_call
decreases-super_call l = (l.r + 1) * 100 + 30

abbrev pub decreases-unary : goal.decreases-unary
decreases-unary l = (l.r + 1) * 100 + 60

abbrev pub invariant-chained-loop : goal.invariant-chained-loop
invariant-chained-loop l =
    (chain l.r (read_form l.r) (form_named l.level) (form_named l.next) (read_of l.fn.left) l.self.most l.fn.tokens
    ≡ steps (λ o. has (lookup (operator_of (form_named l.level)) o)) (goes_on l.r) (operand_of l.r (read_form l.r) (form_named l.level) (form_named l.next)) (suc l.r - l.counter) (read_of l.left) l.self.most l.rest)
    × (l.left.height ≤ l.r + 1)

abbrev pub invariant-postfix-loop : goal.invariant-postfix-loop
invariant-postfix-loop l =
    (post_of l.r (read_form l.r) l.self.most l.fn.tokens ≡ steps (in_set suffix_first) (goes_on l.r) (suffix_of l.r (read_form l.r)) (suc l.r - l.counter) (read_of l.left) l.self.most l.rest)
    × (l.left.height ≤ l.r + 1)

abbrev pub invariant-exprs-loop : goal.invariant-exprs-loop
invariant-exprs-loop l =
    (expr_list l.r l.self.most l.fn.tokens ≡ with_back founds_onto (list_of l.back) (listed (Symbol Comma) (read_form l.r Expr) more_founds no_founds (l.self.most - l.counter) l.self.most l.rest))
    × (l.back.height ≤ l.r)
