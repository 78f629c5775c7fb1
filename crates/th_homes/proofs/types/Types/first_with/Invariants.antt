use Rattle.std.proofs.Common.{◌≡◌, drop, map}
use Rattle.th_meaning.specs.View.{type_of}
use Rattle.th_lowering.specs.Homes.{first_with}
use Rattle.th_homes.specs.View.{known_of}
use Rattle.th_homes.proofs.types.Types.first_with.Given as goal

abbrev pub invariant-loop-of : goal.invariant-loop-of
invariant-loop-of l = first_with (known_of l.fn.self) l.fn.method (map type_of (drop l.of-index l.fn.types)) ≡ first_with (known_of l.fn.self) l.fn.method (map type_of l.fn.types)
