use Rattle.std.proofs.Common.{sym, ap, map, ◌∙◌}
use Rattle.th_type.specs.Types.{ty_of}
use Rattle.th_type.specs.Declarations.{supertypes_in}
use Rattle.th_type.proofs.RowLists.{row_some, row_none}
use Rattle.th_type.proofs.lattice.Lattice.supertypes_of.Goals as goal

pub returns-in-Some : goal.returns-in-Some
returns-in-Some c = ap (map ty_of) c.deref.ensures.value ∙ sym (ap supertypes_in (row_some c.args.head c.self.inside.rows.entries c.args.self.now c.in-Some.row.now c.self.view_is c.in-Some.ensures.value))

pub returns-in-None : goal.returns-in-None
returns-in-None c = sym (ap supertypes_in (row_none c.args.head c.self.inside.rows.entries c.args.self.now c.self.view_is c.in-None.ensures.value))
