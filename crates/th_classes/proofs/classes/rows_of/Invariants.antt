use Rattle.std.proofs.Common.{◌≡◌, ℕ, List, map, take, bytes_eq}
use Rattle.std.specs.HashMap.{get_by}
use Rattle.th_meaning.specs.View.{class_of}
use Rattle.th_meaning.specs.Program.{Program}
use Rattle.th_units.specs.Units.{IsTable}
use Rattle.th_classes.specs.Numbers.{class_number}
use Rattle.th_classes.specs.Rows.{RowsAre}
use Rattle.th_classes.proofs.classes.rows_of.Given as goal

abbrev pub invariant-loop-class : goal.invariant-loop-class
invariant-loop-class l = (p : Program) → IsTable l.units p → ((name : List ℕ) → get_by (λ k. bytes_eq name k.now) l.numbers ≡ class_number p name)
    → RowsAre p l.rows.items (map (λ c. class_of c.now) (take l.class-index l.classes))
