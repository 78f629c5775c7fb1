use Rattle.std.proofs.Common.{◌∙◌, ap, sym, None}
use Rattle.std.specs.Prelude.{nat_eq, cond}
use Rattle.std.specs.Map.{lookup}
use Rattle.th_type.specs.Lists.{or_else}
use Rattle.th_shape.proofs.Adding.{found_absent}
use Rattle.th_shape.proofs.results.Results.add_found.Goals as goal

pub returns-in_ok-add-in-Some : goal.returns-in_ok-add-in-Some
returns-in_ok-add-in-Some c = λ q. c.in_ok-add-in-Some.ensures q ∙ ap (λ o. or_else (lookup (nat_eq q) c.args.self.now.of.entries) (cond (nat_eq q c.args.method) o None)) (sym c.in-Some.is)

pub returns-in-None : goal.returns-in-None
returns-in-None c = λ q. found_absent _ _ c.args.found c.in-None.is
