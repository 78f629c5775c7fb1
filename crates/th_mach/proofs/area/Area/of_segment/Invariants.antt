use Rattle.std.proofs.Common.{◌≡◌}
use Rattle.th_elf.specs.Run.{area_of}
use Rattle.th_mach.proofs.area.Area.of_segment.Given as goal

abbrev pub invariant-loop-k : goal.invariant-loop-k
invariant-loop-k l = l.area ≡ area_of l.segment
