use Rattle.std.proofs.Common.{◌≡◌, map, take}
use Rattle.th_elf.specs.Run.{area_of}
use Rattle.th_mach.proofs.memory.areas_of.Given as goal

abbrev pub invariant-loop-segment : goal.invariant-loop-segment
invariant-loop-segment l = l.areas.items ≡ map area_of (take l.segment-index l.segments)
