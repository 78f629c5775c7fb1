use Rattle.std.proofs.Common.{subst, IsTrue, ◌↔◌}
use Rattle.th_type.specs.Types.{ty_of}
use Rattle.th_type.specs.Subtypes.{Subtype}
use Rattle.th_type.specs.Rows.{rows_of}
use Rattle.th_type.specs.Tables.{tables_up}
use Rattle.th_type.proofs.Ascent.{table_decides}
use Rattle.th_type.proofs.lattice.Lattice.is_subtype.Goals as goal

pub returns : goal.returns
returns c =
    subst (λ D. IsTrue c.is_subtype.result ↔ Subtype D (ty_of c.args.a.now) (ty_of c.args.b.now)) c.self.view_is
    (table_decides (rows_of c.self.inside.rows.entries) c.self.invariant.fits (tables_up c.self.inside.tables) c.self.invariant.climbed (ty_of c.args.a.now) (ty_of c.args.b.now) c.is_subtype.result c.is_subtype.ensures)
