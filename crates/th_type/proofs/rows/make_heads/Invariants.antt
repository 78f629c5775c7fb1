use Rattle.std.proofs.Common.{◌≡◌, map, take}
use Rattle.th_type.specs.Declarations.{declared_types}
use Rattle.th_type.specs.Tables.{defs_of}
use Rattle.th_type.proofs.rows.make_heads.Given as goal

abbrev pub invariant-loop-k : goal.invariant-loop-k
invariant-loop-k l = l.heads.items ≡ map (λ d. d.name) (declared_types (take l.k (defs_of l.defs)))
