use Rattle.std.proofs.Common.{refl}
use Rattle.th_views.specs.Lookups.{class_place}
use Rattle.th_table.proofs.Made.{class_made}
use Rattle.th_table.proofs.making.class_tables.Goals as goal

pub returns-clause-tables : goal.returns-clause-tables
returns-clause-tables c = class_made c.args.layout.now (class_place c.args.layout.now c.args.class) c.in-Some.held c.args.class _ c.in_ok-tables-in-Some.tables c.in-Some.ensures refl c.in_ok-tables-in-Some.ensures.0 c.in_ok-tables-in-Some.ensures.1
