use Rattle.std.proofs.Common.{map, drop}
use Rattle.th_type.specs.Types.{list_of, tys_of}
use Rattle.th_type.specs.Signatures.{sig_of}
use Rattle.th_scope.specs.View.{class_of, context_of}
use Rattle.th_contexts.specs.Bases.{bases_of}
use Rattle.th_overrides.specs.Bodies.{body_above}
use Rattle.th_overrides.specs.Lacking.{LacksAmong}
use Rattle.th_overrides.proofs.lacking.lacks_among.Given as goal

abbrev pub invariant-loop-sig : goal.invariant-loop-sig
invariant-loop-sig l =
    LacksAmong (context_of l.env) (body_above l.env.hierarchy.now.types (bases_of l.bodies.bases.now) l.bodies.own.now (class_of l.class).inherits) (class_of l.class) l.bodies.methods.now l.name (list_of (tys_of l.args)) (map sig_of l.sigs)
    → LacksAmong (context_of l.env) (body_above l.env.hierarchy.now.types (bases_of l.bodies.bases.now) l.bodies.own.now (class_of l.class).inherits) (class_of l.class) l.bodies.methods.now l.name (list_of (tys_of l.args)) (map sig_of (drop l.sig-index l.sigs))
