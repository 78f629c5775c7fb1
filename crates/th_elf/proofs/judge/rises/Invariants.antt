use Rattle.std.proofs.Common.{◌≡◌, drop}
use Rattle.th_elf.specs.Rising.{rises_from}
use Rattle.th_elf.proofs.judge.rises.Given as goal

abbrev pub invariant-loop-header : goal.invariant-loop-header
invariant-loop-header l = rises_from l.end (drop l.header-index l.headers) ≡ rises_from 0 l.headers
