use Rattle.std.proofs.Common.{◌∙◌, ap, sym}
use Rattle.std.specs.Prelude.{nat_eq, is_some}
use Rattle.std.specs.Map.{lookup}
use Rattle.th_shape.proofs.Adding.{lookup_put, lookup_kept}
use Rattle.th_shape.proofs.results.Results.add.Goals as goal

pub returns-in-Some : goal.returns-in-Some
returns-in-Some c = λ q. lookup_kept c.args.self.now.of.entries c.args.method q c.args.head (ap is_some (sym c.in-Some.ensures))

pub returns-in_ok-put-in-None : goal.returns-in_ok-put-in-None
returns-in_ok-put-in-None c = λ q. ap (lookup (nat_eq q)) c.in_ok-put-in-None.ensures ∙ lookup_put c.args.self.now.of.entries c.args.method q c.args.head
