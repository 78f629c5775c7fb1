use Rattle.std.proofs.Common.{take}
use Rattle.th_inherits.specs.Rows.{rows_of}
use Rattle.th_inherits.specs.Tables.{ArePlaces}
use Rattle.th_inherits.proofs.places.places_of.Given as goal

abbrev pub invariant-loop-k : goal.invariant-loop-k
invariant-loop-k l = ArePlaces (take l.k (rows_of l.rows)) l.places.entries
