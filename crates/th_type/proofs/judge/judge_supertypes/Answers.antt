use Rattle.std.proofs.Common.{sym, subst, take}
use Rattle.th_type.specs.Declarations.{named_decl}
use Rattle.th_type.specs.Pool.{Grows}
use Rattle.th_type.specs.Tables.{defs_of, above_of, Held}
use Rattle.th_type.specs.Judged.{Judged, Judging}
use Rattle.th_type.proofs.Judging.{next_absent, judging_none, judging_more, take_next}
use Rattle.th_type.proofs.judge.judge_supertypes.Goals as goal

pub put-requires : goal.put-requires
put-requires c = next_absent (defs_of c.args.defs.now) c.loop-k.k (named_decl c.at-name.result.0 c.at-name.result.1.now) c.loop-k.table.map.entries c.requires.differ c.at-name.ensures c.loop-k.invariant.names

pub loop-k-init : goal.loop-k-init
loop-k-init c = judging_none (defs_of c.args.defs.now) c.args.found.now c.new-table.result c.new-table.ensures

pub loop-k-preserved : goal.loop-k-preserved
loop-k-preserved c =
    let ds = defs_of c.args.defs.now in
    let d = named_decl c.at-name.result.0 c.at-name.result.1.now in
    let p = sym c.in_ok-put.ensures.pool in
    subst (λ ps. Judging ds ps c.args.found.now c.judge_type.new.found c.put.new.self)
    (sym (take_next ds c.loop-k.k d c.at-name.ensures))
    (judging_more ds (take c.loop-k.k ds) d c.args.found.now c.loop-k.found c.judge_type.new.found c.loop-k.table c.put.new.self c.in_ok-above.above c.loop-k.invariant
    (subst (λ ts. Grows c.loop-k.table.pool ts) p c.in_ok-above.ensures.grown)
    (subst (λ ts. Judged ds d c.loop-k.found c.judge_type.new.found (above_of ts c.in_ok-above.above)) p c.in_ok-above.ensures.judged)
    (subst (λ ts. Held ts c.in_ok-above.above) p c.in_ok-above.ensures.held)
    c.in_ok-put.ensures.entries)
