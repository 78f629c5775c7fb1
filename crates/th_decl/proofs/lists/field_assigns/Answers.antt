use Rattle.std.proofs.Common.{◌-◌, [], ◌∷◌, map}
use Rattle.std.proofs.lemmas.Result.{err_from_is_err_and}
use Rattle.th_tree.specs.DeclView.{field_assign_of}
use Rattle.th_syntax.specs.Read.{in_set}
use Rattle.th_decl.specs.Parse.{field_assign, field_assigns}
use Rattle.th_decl.proofs.VecLoops.{map_push, vec_more, vec_stop, vec_wrong}
use Rattle.th_decl.proofs.lists.field_assigns.Goals as goal

pub returns-in_err-one : goal.returns-in_err-one
returns-in_err-one c =
    let p = err_from_is_err_and c.from_residual.result c.from_residual.ensures.1 in
    rw (p.1, p.2) (vec_wrong (in_set (0 ∷ [])) (field_assign c.args.room) c.args.reader.most c.loop.counter c.args.reader.most (map field_assign_of c.loop.found.items) c.loop.rest.now (field_assigns c.args.room c.args.reader.most c.args.tokens.now) c.in_err-one.field-0.0 c.loop-test.true c.if-not-at_name.ensures c.in_err-one.ensures c.loop.invariant)

pub returns-then-not-at_name : goal.returns-then-not-at_name
returns-then-not-at_name c =
    vec_stop (in_set (0 ∷ [])) (field_assign c.args.room) (c.args.reader.most - c.loop.counter) c.args.reader.most (map field_assign_of c.loop.found.items) c.loop.rest.now (field_assigns c.args.room c.args.reader.most c.args.tokens.now) c.if-not-at_name.ensures c.loop.invariant

pub loop-preserved : goal.loop-preserved
loop-preserved c =
    vec_more (in_set (0 ∷ [])) (field_assign c.args.room) c.args.reader.most c.loop.counter c.args.reader.most (map field_assign_of c.loop.found.items) (map field_assign_of c.pushed.new.list.items) (field_assign_of c.in_ok-one.one) c.loop.rest.now c.in_ok-one.after.now (field_assigns c.args.room c.args.reader.most c.args.tokens.now)
    (map_push field_assign_of c.loop.found.items c.pushed.new.list.items c.in_ok-one.one c.in_ok-pushed.ensures) c.loop-test.true c.if-not-at_name.ensures c.in_ok-one.ensures c.loop.invariant
