use Rattle.std.proofs.Common.{◌≡◌, false, take}
use Rattle.std.specs.List.{list_any}
use Rattle.th_type.specs.MethodTables.{method_in}
use Rattle.th_type.specs.Tests.{param_at}
use Rattle.th_type.specs.Tables.{above_of, tables_methods}
use Rattle.th_type.proofs.known.Tables.is_param_above.Given as goal

abbrev pub invariant-loop-k : goal.invariant-loop-k
invariant-loop-k l = list_any (param_at (method_in (tables_methods l.self)) l.method) (take l.k (above_of l.self.ancestors.pool l.above)) ≡ false
