use Rattle.std.proofs.Common.{◌-◌, [], ◌∷◌, map}
use Rattle.std.proofs.lemmas.Result.{err_from_is_err_and}
use Rattle.th_tree.specs.declared.tokens.Reserved.TheVariants.{KeyField}
use Rattle.th_tree.specs.declared.lexeme.Mark.TheVariants.{Word}
use Rattle.th_tree.specs.View.{formal_of}
use Rattle.th_syntax.specs.Read.{code, in_set}
use Rattle.th_decl.specs.Parse.{field, fields}
use Rattle.th_decl.proofs.VecLoops.{map_push, vec_more, vec_stop, vec_wrong}
use Rattle.th_decl.proofs.lists.fields.Goals as goal

pub returns-in_err-one : goal.returns-in_err-one
returns-in_err-one c =
    let p = err_from_is_err_and c.from_residual.result c.from_residual.ensures.1 in
    rw (p.1, p.2) (vec_wrong (in_set (code (Word KeyField) ∷ [])) (field c.args.room) c.args.reader.most c.loop.counter c.args.reader.most (map formal_of c.loop.found.items) c.loop.rest.now (fields c.args.room c.args.reader.most c.args.tokens.now) c.in_err-one.field-0.0 c.loop-test.true c.if-not-at_word.ensures c.in_err-one.ensures c.loop.invariant)

pub returns-then-not-at_word : goal.returns-then-not-at_word
returns-then-not-at_word c =
    vec_stop (in_set (code (Word KeyField) ∷ [])) (field c.args.room) (c.args.reader.most - c.loop.counter) c.args.reader.most (map formal_of c.loop.found.items) c.loop.rest.now (fields c.args.room c.args.reader.most c.args.tokens.now) c.if-not-at_word.ensures c.loop.invariant

pub loop-preserved : goal.loop-preserved
loop-preserved c =
    vec_more (in_set (code (Word KeyField) ∷ [])) (field c.args.room) c.args.reader.most c.loop.counter c.args.reader.most (map formal_of c.loop.found.items) (map formal_of c.pushed.new.list.items) (formal_of c.in_ok-one.one) c.loop.rest.now c.in_ok-one.after.now (fields c.args.room c.args.reader.most c.args.tokens.now)
    (map_push formal_of c.loop.found.items c.pushed.new.list.items c.in_ok-one.one c.in_ok-pushed.ensures) c.loop-test.true c.if-not-at_word.ensures c.in_ok-one.ensures c.loop.invariant
