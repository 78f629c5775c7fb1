use Rattle.std.proofs.Common.{◌≡◌, map, take}
use Rattle.th_type.specs.Types.{ty_of}
use Rattle.th_type.specs.Declarations.{super_of, resolved}
use Rattle.th_type.proofs.rows.types.Given as goal

abbrev pub invariant-loop-member : goal.invariant-loop-member
invariant-loop-member l = map ty_of l.types.items ≡ resolved (map super_of (take l.member-index l.members))
