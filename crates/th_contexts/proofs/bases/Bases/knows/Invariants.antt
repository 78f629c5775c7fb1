use Rattle.std.proofs.Common.{◌≡◌, length}
use Rattle.th_module_rules.specs.Contexts.{knows}
use Rattle.th_contexts.specs.Bases.{bases_of}
use Rattle.th_contexts.proofs.bases.Bases.knows.Given as goal

abbrev pub invariant-loop-left : goal.invariant-loop-left
invariant-loop-left l = knows l.left l.hierarchy.types (bases_of l.self) l.at l.method ≡ knows (length (bases_of l.self)) l.hierarchy.types (bases_of l.self) l.fn.class l.method

abbrev pub decreases-loop-left : goal.decreases-loop-left
decreases-loop-left l = l.left
