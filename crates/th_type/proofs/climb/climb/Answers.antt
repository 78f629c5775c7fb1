use Rattle.std.proofs.Common.{◌∙◌, map, ap, arith}
use Rattle.std.proofs.lemmas.List.{length-map}
use Rattle.th_type.specs.Declarations.{declared_types, super_of}
use Rattle.th_type.specs.Pool.{shapes_tys}
use Rattle.th_type.specs.Tables.{defs_of, entry_ty, above_of}
use Rattle.th_type.proofs.Pooled.{grows_on}
use Rattle.th_type.proofs.Held.{entry_is}
use Rattle.th_type.proofs.Closure.{climbing_done}
use Rattle.th_type.proofs.Climbing.{took_if, clash_if, start_clash, start_took, step_clash, step_took, step_smaller}
use Rattle.th_type.proofs.climb.climb.Goals as goal

pub returns-then-not-branch-clause-climbed : goal.returns-then-not-branch-clause-climbed
returns-then-not-branch-clause-climbed c =
    start_clash (defs_of c.args.defs.now) c.args.name (map super_of c.members.result.now) (above_of c.args.pool.now c.new-above.result) (ap (map (entry_ty c.args.pool.now)) c.new-above.ensures) c.members.ensures
    (clash_if _ _ _ c.in_ok-take_all.ensures.took c.if-not-branch.true)

pub loop-done-init : goal.loop-done-init
loop-done-init c =
    let t = took_if _ _ _ c.in_ok-take_all.ensures.took c.if-not-branch.false in
    record {
      grows = c.in_ok-take_all.ensures.grown;
      held = t.held;
      climbing =
          start_took (defs_of c.args.defs.now) c.requires c.args.name (map super_of c.members.result.now) (above_of c.args.pool.now c.new-above.result) (above_of c.take_all.new.pool c.take_all.new.above) (ap (map (entry_ty c.args.pool.now)) c.new-above.ensures) c.members.ensures t.took;
    }

pub returns-then-not-branch-2-clause-climbed : goal.returns-then-not-branch-2-clause-climbed
returns-then-not-branch-2-clause-climbed c =
    step_clash (defs_of c.args.defs.now) c.args.name (above_of c.loop-done.pool c.loop-done.above) c.loop-done.done c.entry_at-next.result.0 (shapes_tys c.loop-done.pool c.deref.result.now) (map super_of c.members-in-loop-done.result.now) c.loop-done.invariant.climbing
    (entry_is c.loop-done.pool c.loop-done.above c.loop-done.done c.entry_at-next.result.0 c.entry_at-next.result.1 c.deref.result.now c.entry_at-next.ensures (ap (shapes_tys c.loop-done.pool) c.deref.ensures.value ∙ c.in_ok-args.ensures.are)) c.members-in-loop-done.ensures
    (clash_if _ _ _ c.in_ok-take_all-2.ensures.took c.if-not-branch-2.true)

pub loop-done-smaller : goal.loop-done-smaller
loop-done-smaller c =
    step_smaller (defs_of c.args.defs.now) c.requires c.args.name (above_of c.loop-done.pool c.loop-done.above) (above_of c.take_all-in-loop-done.new.pool c.take_all-in-loop-done.new.above) c.loop-done.done c.entry_at-next.result.0 (shapes_tys c.loop-done.pool c.deref.result.now) (map super_of c.members-in-loop-done.result.now)
    (entry_is c.loop-done.pool c.loop-done.above c.loop-done.done c.entry_at-next.result.0 c.entry_at-next.result.1 c.deref.result.now c.entry_at-next.ensures (ap (shapes_tys c.loop-done.pool) c.deref.ensures.value ∙ c.in_ok-args.ensures.are)) c.members-in-loop-done.ensures
    (took_if _ _ _ c.in_ok-take_all-2.ensures.took c.if-not-branch-2.false).took

pub loop-done-preserved : goal.loop-done-preserved
loop-done-preserved c =
    let t = took_if _ _ _ c.in_ok-take_all-2.ensures.took c.if-not-branch-2.false in
    record {
      grows = grows_on c.args.pool.now c.loop-done.pool c.take_all-in-loop-done.new.pool c.loop-done.invariant.grows c.in_ok-take_all-2.ensures.grown;
      held = t.held;
      climbing =
          step_took (defs_of c.args.defs.now) c.requires c.args.name (above_of c.loop-done.pool c.loop-done.above) (above_of c.take_all-in-loop-done.new.pool c.take_all-in-loop-done.new.above) c.loop-done.done c.entry_at-next.result.0 (shapes_tys c.loop-done.pool c.deref.result.now) (map super_of c.members-in-loop-done.result.now) c.loop-done.invariant.climbing
          (entry_is c.loop-done.pool c.loop-done.above c.loop-done.done c.entry_at-next.result.0 c.entry_at-next.result.1 c.deref.result.now c.entry_at-next.ensures (ap (shapes_tys c.loop-done.pool) c.deref.ensures.value ∙ c.in_ok-args.ensures.are)) c.members-in-loop-done.ensures
          t.took;
    }

pub returns-clause-climbed : goal.returns-clause-climbed
returns-clause-climbed c =
    climbing_done (declared_types (defs_of c.args.defs.now)) c.args.name (above_of c.loop-done.pool c.loop-done.above) c.loop-done.done c.loop-done.invariant.climbing
    (let a = c.len.ensures.count in let b = c.loop-done-test.false in let l = length-map c.loop-done.above.map.entries (entry_ty c.loop-done.pool) in omega (arith, a, b, l))
