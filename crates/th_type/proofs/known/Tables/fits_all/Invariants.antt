use Rattle.std.proofs.Common.{◌≡◌, true, map, take}
use Rattle.th_type.specs.Signatures.{sig_of}
use Rattle.th_type.specs.Declarations.{super_of, resolved}
use Rattle.th_type.specs.MethodTables.{method_in}
use Rattle.th_type.specs.Tests.{fits_all}
use Rattle.th_type.specs.Tables.{tables_up, tables_methods}
use Rattle.th_type.proofs.known.Tables.fits_all.Given as goal

abbrev pub invariant-loop-member : goal.invariant-loop-member
invariant-loop-member l = fits_all (tables_up l.self) (method_in (tables_methods l.self)) (sig_of l.sig) (resolved (map super_of (take l.member-index l.members))) ≡ true
