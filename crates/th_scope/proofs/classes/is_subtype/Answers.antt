use Rattle.th_type.specs.Types.{ty_of}
use Rattle.th_rules.specs.Classes.{is_subtype}
use Rattle.th_rules.proofs.Subtyping.{test_decides}
use Rattle.th_scope.proofs.Deciding.{same_by}
use Rattle.th_scope.proofs.classes.is_subtype.Goals as goal

pub returns : goal.returns
returns c =
    let d = test_decides c.args.env.now.hierarchy.now.types (ty_of c.args.ty.now) (ty_of c.args.of.now) c.args.env.now.ways_end in
    same_by c.is_subtype.result (is_subtype c.args.env.now.hierarchy.now.types (ty_of c.args.ty.now) (ty_of c.args.of.now))
    (λ t. d.1 (c.is_subtype.ensures.0 t)) (λ t. c.is_subtype.ensures.1 (d.0 t))
