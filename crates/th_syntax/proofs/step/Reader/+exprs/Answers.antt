use Rattle.std.proofs.Common.{◌+◌, ◌-◌, sym, ◌∙◌, ap, arith}
use Rattle.std.proofs.lemmas.Result.{err_from_is_err_and}
use Rattle.std.proofs.lemmas.Bool.{le-leb, lt-leb}
use Rattle.th_tree.specs.declared.tokens.Sym.TheVariants.{Comma}
use Rattle.th_tree.specs.declared.lexeme.Mark.TheVariants.{Symbol}
use Rattle.th_tree.specs.View.{type_of}
use Rattle.th_tree.specs.Grammar.{Expr, operator_of, no_founds, more_founds}
use Rattle.th_syntax.specs.Read.{Got, in_set, has, lookup, bind, listed}
use Rattle.th_syntax.specs.Parse.{read_form, suffix_first, suffix_of, suffixes, goes_on, post_of, operand_of, chain}
use Rattle.th_syntax.specs.Founds.{read_of, list_of, form_named, expr_list, founds_onto}
use Rattle.th_syntax.specs.Lists.{with_back}
use Rattle.th_syntax.proofs.Loops.{one_item, last_item, first_step, one_step, shut_step, bad_step}
use Rattle.th_syntax.proofs.Rooms.{form_room, founds_law}
use Rattle.th_syntax.proofs.Heads.{array_goes}
use Rattle.th_syntax.proofs.step.Reader.+exprs.Goals as goal

pub expr-returns-clause-gives : goal.expr-returns-clause-gives
expr-returns-clause-gives t c = rw (form_room c.args.room (form_named c.args.level) c.args.self.most c.args.tokens.now c.if-room-eq0.false) c.form_within.ensures.gives

pub chained-loop-init : goal.chained-loop-init
chained-loop-init t c = (
  first_step (λ o. has (lookup (operator_of (form_named c.args.level)) o)) (goes_on c.args.r) (operand_of c.args.r (read_form c.args.r) (form_named c.args.level) (form_named c.args.next)) c.args.r c.args.self.most (read_of c.args.left) c.args.tokens.now,
  c.requires.low,
)

pub chained-returns-then-r-left-clause-gives : goal.chained-returns-then-r-left-clause-gives
chained-returns-then-r-left-clause-gives t c =
    shut_step (λ o. has (lookup (operator_of (form_named c.args.level)) o)) (goes_on c.args.r) (operand_of c.args.r (read_form c.args.r) (form_named c.args.level) (form_named c.args.next)) c.args.r c.loop.counter c.args.self.most (read_of c.loop.left) c.loop.rest.now
    (chain c.args.r (read_form c.args.r) (form_named c.args.level) (form_named c.args.next) (read_of c.args.left) c.args.self.most c.args.tokens.now)
    c.loop-test.true c.if-not-at_operator.ensures (lt-leb c.loop.left.height c.args.r c.if-r-left.true) c.loop.invariant.0

pub chained-returns-in_err-longer-clause-gives : goal.chained-returns-in_err-longer-clause-gives
chained-returns-in_err-longer-clause-gives t c =
    let p = err_from_is_err_and c.from_residual.result c.from_residual.ensures.1 in
    rw (p.1, p.2) (bad_step (λ o. has (lookup (operator_of (form_named c.args.level)) o)) (goes_on c.args.r) (operand_of c.args.r (read_form c.args.r) (form_named c.args.level) (form_named c.args.next)) c.args.r c.loop.counter c.args.self.most (read_of c.loop.left) c.loop.rest.now
    (chain c.args.r (read_form c.args.r) (form_named c.args.level) (form_named c.args.next) (read_of c.args.left) c.args.self.most c.args.tokens.now) c.in_err-longer.field-0.0
    c.loop-test.true c.if-not-at_operator.ensures (le-leb c.loop.left.height c.args.r c.if-r-left.false) c.in_err-longer.ensures.gives c.loop.invariant.0)

pub chained-loop-preserved : goal.chained-loop-preserved
chained-loop-preserved t c = (
  one_step (λ o. has (lookup (operator_of (form_named c.args.level)) o)) (goes_on c.args.r) (operand_of c.args.r (read_form c.args.r) (form_named c.args.level) (form_named c.args.next)) c.args.r c.loop.counter c.args.self.most (read_of c.loop.left) (read_of c.in_ok-longer.longer) c.loop.rest.now c.in_ok-longer.after.now
      (chain c.args.r (read_form c.args.r) (form_named c.args.level) (form_named c.args.next) (read_of c.args.left) c.args.self.most c.args.tokens.now)
      c.loop-test.true c.if-not-at_operator.ensures (le-leb c.loop.left.height c.args.r c.if-r-left.false) c.in_ok-longer.ensures.gives c.loop.invariant.0,
  c.in_ok-longer.ensures.low,
)

pub postfix-loop-init : goal.postfix-loop-init
postfix-loop-init t c = (
  ap (λ x. bind x (λ a ts. suffixes c.args.r (read_form c.args.r) a c.args.self.most ts)) c.in_ok-left.ensures.gives
      ∙ first_step (in_set suffix_first) (goes_on c.args.r) (suffix_of c.args.r (read_form c.args.r)) c.args.r c.args.self.most (read_of c.in_ok-left.left) c.in_ok-left.rest.now,
  c.in_ok-left.ensures.low,
)

pub postfix-returns-in_err-longer-clause-gives : goal.postfix-returns-in_err-longer-clause-gives
postfix-returns-in_err-longer-clause-gives t c =
    let p = err_from_is_err_and c.from_residual-in_err-longer.result c.from_residual-in_err-longer.ensures.1 in
    rw (p.1, p.2) (bad_step (in_set suffix_first) (goes_on c.args.r) (suffix_of c.args.r (read_form c.args.r)) c.args.r c.loop.counter c.args.self.most (read_of c.loop.left) c.loop.rest.now
    (post_of c.args.r (read_form c.args.r) c.args.self.most c.args.tokens.now) c.in_err-longer.field-0.0
    c.loop-test.true c.if-not-at_suffix.ensures (le-leb c.loop.left.height c.args.r c.if-r-left.false) c.in_err-longer.ensures.gives c.loop.invariant.0)

pub postfix-loop-preserved : goal.postfix-loop-preserved
postfix-loop-preserved t c = (
  one_step (in_set suffix_first) (goes_on c.args.r) (suffix_of c.args.r (read_form c.args.r)) c.args.r c.loop.counter c.args.self.most (read_of c.loop.left) (read_of c.in_ok-longer.longer) c.loop.rest.now c.in_ok-longer.after.now
      (post_of c.args.r (read_form c.args.r) c.args.self.most c.args.tokens.now)
      c.loop-test.true c.if-not-at_suffix.ensures (le-leb c.loop.left.height c.args.r c.if-r-left.false) c.in_ok-longer.ensures.gives c.loop.invariant.0,
  c.in_ok-longer.ensures.low,
)

pub exprs-returns-then-not-at_symbol-clause-gives : goal.exprs-returns-then-not-at_symbol-clause-gives
exprs-returns-then-not-at_symbol-clause-gives t c =
    let all = last_item (Symbol Comma) (read_form c.args.r Expr) more_founds no_founds founds_onto (λ b a. more_founds a b) founds_law c.args.self.most c.loop.counter c.args.self.most (list_of c.loop.back) (read_of c.in_ok-one.one) c.loop.rest.now c.in_ok-one.after.now
    (expr_list c.args.r c.args.self.most c.args.tokens.now) c.loop-test.true c.in_ok-one.ensures.gives c.if-not-at_symbol.ensures c.loop.invariant.0 in
    all ∙ ap (λ b. Got b c.in_ok-one.after.now) (ap (λ b. founds_onto b no_founds) (sym c.in_ok-back.ensures.list) ∙ sym c.turned.ensures.list)

pub exprs-loop-preserved : goal.exprs-loop-preserved
exprs-loop-preserved t c =
    let turn = one_item (Symbol Comma) (read_form c.args.r Expr) more_founds no_founds founds_onto (λ b a. more_founds a b) founds_law c.args.self.most c.loop.counter c.args.self.most c.in_ok-next.field-0-0 (list_of c.loop.back) (read_of c.in_ok-one.one) c.loop.rest.now
    c.in_ok-one.after.now c.in_ok-next.next.now (expr_list c.args.r c.args.self.most c.args.tokens.now) c.loop-test.true c.in_ok-one.ensures.gives c.if-not-at_symbol.ensures c.in_ok-next.ensures c.loop.invariant.0 in (
      turn ∙ ap (λ b. with_back founds_onto b (listed (Symbol Comma) (read_form c.args.r Expr) more_founds no_founds (c.args.self.most - (c.loop.counter + 1)) c.args.self.most c.in_ok-next.next.now)) (sym c.in_ok-back.ensures.list),
      omega (arith, c.in_ok-back.ensures.height, c.in_ok-one.ensures.low, c.loop.invariant.1),
    )

pub new_value-returns-then-at_word-clause-gives : goal.new_value-returns-then-at_word-clause-gives
new_value-returns-then-at_word-clause-gives t c =
    rw (array_goes c.args.r (read_form c.args.r) c.in_ok-at.at c.args.self.most (type_of c.in_ok-of.of.tree) c.args.tokens.now c.in_ok-at.rest.now c.in_ok-of.rest.now c.if-r-eq0.false c.in_ok-at.ensures c.if-at_word.ensures c.in_ok-of.ensures.gives) c.new_array.ensures.gives
