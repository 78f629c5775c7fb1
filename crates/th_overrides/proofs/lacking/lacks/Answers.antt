use Rattle.std.proofs.Common.{map, ap}
use Rattle.std.proofs.lemmas.Result.{IfOk-weaker}
use Rattle.th_type.specs.Types.{tys_of, ty_of}
use Rattle.th_type.specs.Signatures.{sig_of}
use Rattle.th_scope.specs.View.{class_of, context_of}
use Rattle.th_contexts.specs.Bases.{bases_of}
use Rattle.th_overrides.specs.Bodies.{body_above}
use Rattle.th_overrides.proofs.Lackings.{lacks_among}
use Rattle.th_overrides.proofs.lacking.lacks.Goals as goal

pub returns : goal.returns
returns c =
    IfOk-weaker c.lacks_among.result _ _
    (λ r d. lacks_among (context_of c.args.env.now) (body_above c.args.env.now.hierarchy.now.types (bases_of c.args.bodies.now.bases.now) c.args.bodies.now.own.now (class_of c.args.class.now).inherits) (class_of c.args.class.now)
    c.args.bodies.now.methods.now c.in-Named.name (tys_of c.in-Named.args) (map sig_of c.methods_of-sigs.result.now) r (ap ty_of c.in-Named.is) c.methods_of-sigs.ensures.ascending c.methods_of-sigs.ensures.finds d)
    c.lacks_among.ensures
