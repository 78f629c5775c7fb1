use Rattle.std.proofs.Common.{◌-◌, map}
use Rattle.std.proofs.lemmas.Result.{err_from_is_err_and}
use Rattle.th_tree.specs.declared.tokens.Sym.TheVariants.{Comma}
use Rattle.th_tree.specs.declared.lexeme.Mark.TheVariants.{Symbol}
use Rattle.th_tree.specs.View.{named_of}
use Rattle.th_syntax.specs.Parse.{read_named}
use Rattle.th_decl.specs.Parse.{listed}
use Rattle.th_decl.proofs.VecLoops.{map_push, vec_item, vec_last, vec_bad}
use Rattle.th_decl.proofs.lists.named_list.Goals as goal

pub returns-in_err-one : goal.returns-in_err-one
returns-in_err-one c =
    let p = err_from_is_err_and c.from_residual.result c.from_residual.ensures.1 in
    rw (p.1, p.2) (vec_bad (read_named c.args.room) (c.args.reader.most - c.loop.counter) c.args.reader.most (map named_of c.loop.found.items) c.loop.rest.now (listed (Symbol Comma) (read_named c.args.room) c.args.reader.most c.args.tokens.now) c.in_err-one.field-0.0 c.in_err-one.ensures.gives c.loop.invariant)

pub returns-then-not-at_symbol : goal.returns-then-not-at_symbol
returns-then-not-at_symbol c =
    vec_last (read_named c.args.room) c.args.reader.most c.loop.counter c.args.reader.most (map named_of c.loop.found.items) (map named_of c.pushed.new.list.items) (named_of c.in_ok-one.one.tree) c.loop.rest.now c.in_ok-one.after.now (listed (Symbol Comma) (read_named c.args.room) c.args.reader.most c.args.tokens.now)
    (map_push named_of c.loop.found.items c.pushed.new.list.items c.in_ok-one.one.tree c.in_ok-pushed.ensures) c.loop-test.true c.in_ok-one.ensures.gives c.if-not-at_symbol.ensures c.loop.invariant

pub loop-preserved : goal.loop-preserved
loop-preserved c =
    vec_item (read_named c.args.room) c.args.reader.most c.loop.counter c.args.reader.most c.in_ok-next.field-0-0 (map named_of c.loop.found.items) (map named_of c.pushed.new.list.items) (named_of c.in_ok-one.one.tree) c.loop.rest.now c.in_ok-one.after.now c.in_ok-next.next.now (listed (Symbol Comma) (read_named c.args.room) c.args.reader.most c.args.tokens.now)
    (map_push named_of c.loop.found.items c.pushed.new.list.items c.in_ok-one.one.tree c.in_ok-pushed.ensures) c.loop-test.true c.in_ok-one.ensures.gives c.if-not-at_symbol.ensures c.in_ok-next.ensures c.loop.invariant
