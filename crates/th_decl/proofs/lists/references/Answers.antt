use Rattle.std.proofs.Common.{◌-◌}
use Rattle.std.proofs.lemmas.Result.{err_from_is_err_and}
use Rattle.th_tree.specs.declared.tokens.Sym.TheVariants.{Comma}
use Rattle.th_tree.specs.declared.lexeme.Mark.TheVariants.{Symbol}
use Rattle.th_syntax.specs.Parse.{read_ref}
use Rattle.th_decl.specs.Parse.{listed}
use Rattle.th_decl.proofs.VecLoops.{vec_item, vec_last, vec_bad}
use Rattle.th_decl.proofs.lists.references.Goals as goal

pub returns-in_err-one : goal.returns-in_err-one
returns-in_err-one c =
    let p = err_from_is_err_and c.from_residual.result c.from_residual.ensures.1 in
    rw (p.1, p.2) (vec_bad (read_ref) (c.args.reader.most - c.loop.counter) c.args.reader.most (c.loop.found.items) c.loop.rest.now (listed (Symbol Comma) (read_ref) c.args.reader.most c.args.tokens.now) c.in_err-one.field-0.0 c.in_err-one.ensures c.loop.invariant)

pub returns-then-not-at_symbol : goal.returns-then-not-at_symbol
returns-then-not-at_symbol c =
    vec_last (read_ref) c.args.reader.most c.loop.counter c.args.reader.most (c.loop.found.items) (c.pushed.new.list.items) c.in_ok-one.one c.loop.rest.now c.in_ok-one.after.now (listed (Symbol Comma) (read_ref) c.args.reader.most c.args.tokens.now)
    c.in_ok-pushed.ensures c.loop-test.true c.in_ok-one.ensures c.if-not-at_symbol.ensures c.loop.invariant

pub loop-preserved : goal.loop-preserved
loop-preserved c =
    vec_item (read_ref) c.args.reader.most c.loop.counter c.args.reader.most c.in_ok-next.field-0-0 (c.loop.found.items) (c.pushed.new.list.items) c.in_ok-one.one c.loop.rest.now c.in_ok-one.after.now c.in_ok-next.next.now (listed (Symbol Comma) (read_ref) c.args.reader.most c.args.tokens.now)
    c.in_ok-pushed.ensures c.loop-test.true c.in_ok-one.ensures c.if-not-at_symbol.ensures c.in_ok-next.ensures c.loop.invariant
