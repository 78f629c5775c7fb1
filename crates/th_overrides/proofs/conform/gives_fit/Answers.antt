use Rattle.std.proofs.Common.{◌↔◌, Bool, IsTrue, option_map, subst, sym}
use Rattle.th_type.specs.Types.{ty_of}
use Rattle.th_type.specs.Methods.{GivesFits}
use Rattle.th_overrides.proofs.Conforms.{gives_decide}
use Rattle.th_overrides.proofs.conform.gives_fit.Goals as goal

pub returns-then-a : goal.returns-then-a
returns-then-a c =
    subst (λ (b : Bool). IsTrue c.same_gives.result ↔ GivesFits c.args.hierarchy.now.types b (option_map ty_of c.args.a.now.gives) (option_map ty_of c.args.b.now.gives)) (sym c.if-a.true)
    (gives_decide (option_map ty_of c.args.a.now.gives) (option_map ty_of c.args.b.now.gives) c.same_gives.result c.same_gives.ensures)
