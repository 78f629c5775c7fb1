use Rattle.std.proofs.Common.{◌≡◌, length}
use Rattle.th_module_rules.specs.Modules.{body_up}
use Rattle.th_contexts.specs.Bases.{bases_of}
use Rattle.th_overrides.proofs.bodies.has_body.Given as goal

abbrev pub invariant-loop-left : goal.invariant-loop-left
invariant-loop-left l =
    body_up l.left l.hierarchy.types (bases_of l.bases) l.own l.at l.method ≡ body_up (length (bases_of l.bases)) l.hierarchy.types (bases_of l.bases) l.own l.fn.class l.method

abbrev pub decreases-loop-left : goal.decreases-loop-left
decreases-loop-left l = l.left
