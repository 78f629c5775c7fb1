use Rattle.std.proofs.Common.{◌≡◌, map, take}
use Rattle.th_elf.specs.Loadable.{segment_of}
use Rattle.th_elf.proofs.read.segments_of.Given as goal

abbrev pub invariant-loop-header : goal.invariant-loop-header
invariant-loop-header l = l.segments.items ≡ map (segment_of l.file) (take l.header-index l.headers)
