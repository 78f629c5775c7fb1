use Rattle.std.proofs.Common.{◌≡◌, drop}
use Rattle.std.specs.List.{list_any}
use Rattle.th_type.specs.Methods.{method_of}
use Rattle.th_type.specs.Tests.{gives_param}
use Rattle.th_overrides.proofs.reached.any_gives_param.Given as goal

abbrev pub invariant-loop-name : goal.invariant-loop-name
invariant-loop-name l =
    list_any (λ n. gives_param (method_of l.hierarchy.types n l.method)) (drop l.name-index l.names) ≡ list_any (λ n. gives_param (method_of l.hierarchy.types n l.method)) l.names
