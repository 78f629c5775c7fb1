use Rattle.std.proofs.Common.{refl}
use Rattle.std.proofs.lemmas.Result.{IfOk-weaker}
use Rattle.th_type.specs.Types.{tys_of, list_of, subst_tys}
use Rattle.th_type.specs.Pool.{shapes_tys}
use Rattle.th_type.specs.Tables.{above_of}
use Rattle.th_type.proofs.Taken.{taken_whole, high_case}
use Rattle.th_type.proofs.Held.{held_grown, take_put}
use Rattle.th_type.proofs.climb.take.Goals as goal

pub put-requires-clause-held : goal.put-requires-clause-held
put-requires-clause-held c = held_grown c.args.pool.now c.list_with.new.self c.args.above.now c.in_ok-list.ensures.grown c.requires.held

pub put-requires-clause-list : goal.put-requires-clause-list
put-requires-clause-list c = (subst_tys (list_of (shapes_tys c.args.pool.now c.args.args.now)) (tys_of c.in-Whole.list), rw c.in-Some.is at c.in_ok-list.ensures.made)

pub returns-in-Some-clause-took : goal.returns-in-Some-clause-took
returns-in-Some-clause-took c =
    let ts = subst_tys (list_of (shapes_tys c.args.pool.now c.args.args.now)) (tys_of c.in-Whole.list) in
    let e = taken_whole (shapes_tys c.args.pool.now c.args.args.now) c.args.meaning.now c.in-Whole.name c.in-Whole.list ts c.in-Whole.is refl in
    IfOk-weaker c.put.result _ _ (λ fits h. take_put c.args.pool.now c.list_with.new.self c.args.above.now c.put.new.above _ c.in-Whole.name c.in-Some.list ts fits c.in_ok-list.ensures.grown c.requires.held e (rw c.in-Some.is at c.in_ok-list.ensures.made) h) c.put.ensures

pub returns-in-None-clause-took : goal.returns-in-None-clause-took
returns-in-None-clause-took c =
    let ts = subst_tys (list_of (shapes_tys c.args.pool.now c.args.args.now)) (tys_of c.in-Whole.list) in
    let e = taken_whole (shapes_tys c.args.pool.now c.args.args.now) c.args.meaning.now c.in-Whole.name c.in-Whole.list ts c.in-Whole.is refl in
    high_case (above_of c.args.pool.now c.args.above.now) _ c.in-Whole.name ts e (rw c.in-None.is at c.in_ok-list.ensures.made)
