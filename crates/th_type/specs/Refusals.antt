-- Why declared types make no lattice.
use Rattle.th_type.specs.declared.lattice.LatticeError.{LatticeError}
use Rattle.th_type.specs.declared.lattice.LatticeError.TheVariants.{Rule, Memory}
use Rattle.th_type.specs.declared.place.Failure.{Failure}
use Rattle.std.specs.Prelude.{List, Option}
use Rattle.th_type.specs.Declarations.{Declaration}
use Rattle.th_type.specs.Rules.{IsNamed}

-- the named rule fails; want of memory says nothing
abbrev pub RefusedBy : List Declaration → Option Failure → LatticeError → Type 0
RefusedBy ds found (Rule f) = IsNamed ds found f
RefusedBy ds found Memory = Unit {0}
