use Rattle.std.proofs.Common.{◌≡◌, true, map, take}
use Rattle.th_type.specs.Declarations.{super_of, resolved}
use Rattle.th_type.specs.MethodTables.{method_in}
use Rattle.th_type.specs.Tests.{agrees_all}
use Rattle.th_type.specs.Tables.{tables_methods}
use Rattle.th_type.proofs.known.Tables.agrees_all.Given as goal

abbrev pub invariant-loop-member : goal.invariant-loop-member
invariant-loop-member l = agrees_all (tables_methods l.self) l.written.keys (method_in (tables_methods l.self) l.name) (resolved (map super_of (take l.member-index l.members))) ≡ true
