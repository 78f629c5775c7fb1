use Rattle.std.proofs.Common.{subst, sym}
use Rattle.th_mach.specs.Apart.{Apart}
use Rattle.th_mach.proofs.Apart.{apart_loaded}
use Rattle.th_mach.proofs.memory.Memory.of.Goals as goal

pub invariant_of-result : goal.invariant_of-result
invariant_of-result c = subst Apart (sym c.in_ok-areas.ensures) (apart_loaded c.args.segments.now c.args.room c.requires)
