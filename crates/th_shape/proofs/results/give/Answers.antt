use Rattle.std.proofs.Common.{◌∙◌, ap, sym, None}
use Rattle.std.specs.Prelude.{nat_eq, cond}
use Rattle.th_type.specs.Lists.{or_else}
use Rattle.th_views.specs.Lookups.{given_in}
use Rattle.th_shape.proofs.Adding.{given_put, found_absent}
use Rattle.th_shape.proofs.results.give.Goals as goal

pub returns-in_ok-push-in-Some : goal.returns-in_ok-push-in-Some
returns-in_ok-push-in-Some c = λ q. ap (λ l. given_in l q) c.in_ok-push-in-Some.ensures.items ∙ given_put c.args.given.now.items c.args.method _ q ∙ ap (λ o. or_else (given_in c.args.given.now.items q) (cond (nat_eq q c.args.method) o None)) (sym c.in-Some.is)

pub returns-in-None : goal.returns-in-None
returns-in-None c = λ q. found_absent _ _ c.args.of c.in-None.is
