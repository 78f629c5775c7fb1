use Rattle.std.proofs.Common.{◌∙◌, ap, sym}
use Rattle.th_type.specs.Types.{ty_of, tys_of, list_of}
use Rattle.th_shape.specs.Heads.{apply_kind}
use Rattle.th_shape.proofs.Headed.{kind_found, kind_missing}
use Rattle.th_shape.proofs.results.Head.apply.Goals as goal

pub returns-in-Some : goal.returns-in-Some
returns-in-Some c = c.of.ensures ∙ sym (ap (apply_kind (list_of (tys_of c.args.args.now))) c.in-Param.is ∙ kind_found (list_of (tys_of c.args.args.now)) c.in-Param.place c.in-Param.place (ty_of c.in-Some.arg.now) (sym c.in-Some.ensures))

pub returns-in-None : goal.returns-in-None
returns-in-None c = sym (ap (apply_kind (list_of (tys_of c.args.args.now))) c.in-Param.is ∙ kind_missing (list_of (tys_of c.args.args.now)) c.in-Param.place c.in-Param.place (sym c.in-None.ensures))
