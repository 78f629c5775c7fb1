use Rattle.std.proofs.Common.{map, take}
use Rattle.th_type.specs.Declarations.{super_of}
use Rattle.th_type.specs.Rules.{named}
use Rattle.th_type.specs.Cycles.{Noted}
use Rattle.th_type.proofs.cycles.note_all.Given as goal

abbrev pub invariant-loop-member : goal.invariant-loop-member
invariant-loop-member l = Noted l.fn.seen.keys (named (map super_of (take l.member-index l.members))) l.seen.keys
