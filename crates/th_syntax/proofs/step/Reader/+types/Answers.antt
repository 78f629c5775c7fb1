use Rattle.std.proofs.Common.{◌-◌, refl, arith}
use Rattle.std.proofs.lemmas.Result.{err_from_is_err_and}
use Rattle.th_tree.specs.declared.tokens.Sym.TheVariants.{Comma}
use Rattle.th_tree.specs.declared.lexeme.Mark.TheVariants.{Symbol}
use Rattle.th_tree.specs.Trees.{no_type, more_types}
use Rattle.th_tree.specs.View.{type_of, types_of}
use Rattle.th_tree.specs.Onto.{types_onto}
use Rattle.th_syntax.specs.Parse.{read_type}
use Rattle.th_syntax.specs.Lists.{type_list}
use Rattle.th_syntax.proofs.Loops.{one_item, last_item, bad_item}
use Rattle.th_syntax.proofs.Rooms.{type_room, turned_height, grown_height}
use Rattle.th_syntax.proofs.step.Reader.+types.Goals as goal

pub type_tree-returns-clause-gives : goal.type_tree-returns-clause-gives
type_tree-returns-clause-gives t c = rw (type_room c.args.room c.args.self.most c.args.tokens.now c.if-room-eq0.false) c.type_within.ensures.gives

pub types-returns-in_err-one-clause-gives : goal.types-returns-in_err-one-clause-gives
types-returns-in_err-one-clause-gives t c =
    let p = err_from_is_err_and c.from_residual.result c.from_residual.ensures.1 in
    rw (p.1, p.2) (bad_item (Symbol Comma) (read_type c.args.r) more_types no_type types_onto (λ b a. more_types a b) (λ a b done. refl) (c.args.self.most - c.loop.counter) c.args.self.most (types_of c.loop.back) c.loop.rest.now
    (type_list c.args.r c.args.self.most c.args.tokens.now) c.in_err-one.field-0.0 c.in_err-one.ensures.gives c.loop.invariant.0)

pub types-returns-then-not-at_symbol-clause-gives : goal.types-returns-then-not-at_symbol-clause-gives
types-returns-then-not-at_symbol-clause-gives t c =
    let all = last_item (Symbol Comma) (read_type c.args.r) more_types no_type types_onto (λ b a. more_types a b) (λ a b done. refl) c.args.self.most c.loop.counter c.args.self.most (types_of c.loop.back) (type_of c.in_ok-one.one.tree) c.loop.rest.now c.in_ok-one.after.now
    (type_list c.args.r c.args.self.most c.args.tokens.now) c.loop-test.true c.in_ok-one.ensures.gives c.if-not-at_symbol.ensures c.loop.invariant.0 in
    rw (c.turned.ensures, c.in_ok-back.ensures) all

pub types-returns-then-not-at_symbol-clause-height : goal.types-returns-then-not-at_symbol-clause-height
types-returns-then-not-at_symbol-clause-height t c =
    turned_height (types_of c.in_ok-back.back) (types_of c.turned.result) c.larger-height.result c.turned.ensures
    (grown_height c.loop.height c.in_ok-one.one.height c.larger-height.result (type_of c.in_ok-one.one.tree) (types_of c.loop.back) (types_of c.in_ok-back.back) c.larger-height.ensures c.loop.invariant.1 c.in_ok-one.ensures.height c.in_ok-back.ensures)

pub types-loop-preserved : goal.types-loop-preserved
types-loop-preserved t c =
    let turn = one_item (Symbol Comma) (read_type c.args.r) more_types no_type types_onto (λ b a. more_types a b) (λ a b done. refl) c.args.self.most c.loop.counter c.args.self.most c.in_ok-next.field-0-0 (types_of c.loop.back) (type_of c.in_ok-one.one.tree) c.loop.rest.now
    c.in_ok-one.after.now c.in_ok-next.next.now (type_list c.args.r c.args.self.most c.args.tokens.now) c.loop-test.true c.in_ok-one.ensures.gives c.if-not-at_symbol.ensures c.in_ok-next.ensures c.loop.invariant.0 in (
      rw c.in_ok-back.ensures turn,
      grown_height c.loop.height c.in_ok-one.one.height c.larger-height.result (type_of c.in_ok-one.one.tree) (types_of c.loop.back) (types_of c.in_ok-back.back) c.larger-height.ensures c.loop.invariant.1 c.in_ok-one.ensures.height c.in_ok-back.ensures,
      omega (arith, c.larger-height.ensures, c.in_ok-one.ensures.low, c.loop.invariant.2),
    )

pub types-returns-clause-height : goal.types-returns-clause-height
types-returns-clause-height t c =
    turned_height (types_of c.in_ok-back-2.back) (types_of c.turned-2.result) c.larger-height-2.result c.turned-2.ensures
    (grown_height c.loop.height c.in_ok-one-2.one.height c.larger-height-2.result (type_of c.in_ok-one-2.one.tree) (types_of c.loop.back) (types_of c.in_ok-back-2.back) c.larger-height-2.ensures c.loop.invariant.1 c.in_ok-one-2.ensures.height c.in_ok-back-2.ensures)
