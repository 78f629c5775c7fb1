use Rattle.std.proofs.Common.{map}
use Rattle.th_type.specs.Types.{list_of, tys_of}
use Rattle.th_type.specs.Signatures.{sig_of}
use Rattle.th_scope.specs.View.{class_of, context_of}
use Rattle.th_contexts.specs.Bases.{bases_of}
use Rattle.th_overrides.specs.Bodies.{body_above}
use Rattle.th_overrides.proofs.Deciding.{member_at}
use Rattle.th_overrides.proofs.Lackings.{among_found}
use Rattle.th_overrides.proofs.lacking.lacks_among.Goals as goal

pub returns-then-branch : goal.returns-then-branch
returns-then-branch c =
    among_found (context_of c.args.env.now) (body_above c.args.env.now.hierarchy.now.types (bases_of c.args.bodies.now.bases.now) c.args.bodies.now.own.now (class_of c.args.class.now).inherits) (class_of c.args.class.now) c.args.bodies.now.methods.now
    c.args.name (list_of (tys_of c.args.args.now)) (sig_of c.sig-item.result) (map sig_of c.args.sigs.now) (sig_of c.in_ok-sig.sig) c.in_ok-lacks_one.field-0
    (member_at sig_of c.args.sigs.now c.loop-sig.sig-index c.sig-item.result c.loop-sig-test.true c.sig-item.is) c.in_ok-sig.ensures c.in_ok-lacks_one.ensures c.if-branch.true
