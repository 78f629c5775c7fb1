use Rattle.std.proofs.Common.{arith}
use Rattle.th_type.specs.Tables.{defs_of, up_of}
use Rattle.th_type.proofs.Filling.{filling_next, filling_done}
use Rattle.th_type.proofs.methods.tabulate.Goals as goal

pub loop-rank-preserved : goal.loop-rank-preserved
loop-rank-preserved c = filling_next (defs_of c.args.defs.now) c.requires.formed (up_of c.args.ancestors.now) c.requires.ascended c.fill.new.table.map.entries c.loop-rank.rank c.in_ok-fill.ensures

pub returns : goal.returns
returns c =
    filling_done (defs_of c.args.defs.now) c.requires.formed (up_of c.args.ancestors.now) c.requires.ascended c.loop-rank.table.map.entries c.loop-rank.rank
    (λ n. let b = c.highest-ranks.ensures.bound n in let l = c.loop-rank-test.false in omega (arith, b, l)) c.loop-rank.invariant
