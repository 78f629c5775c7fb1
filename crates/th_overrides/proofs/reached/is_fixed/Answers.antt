use Rattle.std.proofs.Common.{◌∙◌, ap}
use Rattle.std.specs.List.{list_any}
use Rattle.th_type.specs.Methods.{method_of}
use Rattle.th_type.specs.Tests.{gives_param}
use Rattle.th_overrides.proofs.Reaching.{fixed_decides}
use Rattle.th_overrides.proofs.reached.is_fixed.Goals as goal

pub returns : goal.returns
returns c =
    fixed_decides c.args.hierarchy.now.types c.args.name c.args.method c.in_ok-names.names.items c.any_gives_param.result c.in_ok-names.ensures
    (c.any_gives_param.ensures ∙ ap (list_any (λ n. gives_param (method_of c.args.hierarchy.now.types n c.args.method))) c.deref.ensures.value)
