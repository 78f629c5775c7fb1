use Rattle.std.proofs.Common.{◌∙◌, ap, sym}
use Rattle.th_tree.specs.declared.tree.TypeList.{TypeList}
use Rattle.th_tree.specs.View.{types_of}
use Rattle.th_hier.specs.Views.{tys_opt}
use Rattle.th_hier.proofs.Walking.{means_along, means_is, least_along, least_is}
use Rattle.th_heads.proofs.walk.+walks.Goals as goal

pub walk_types-returns-in-NoType-clause-means : goal.walk_types-returns-in-NoType-clause-means
walk_types-returns-in-NoType-clause-means t c =
    c.turned.ensures ∙ ap (λ (x : TypeList). means_along c.args.found.now c.args.sight.now (types_of x) (tys_opt c.loop-rest.done)) (sym c.in-NoType.is)
    ∙ c.loop-rest.invariant.0 ∙ means_is c.args.found.now c.args.sight.now (types_of c.args.types.now)

pub walk_types-returns-in-NoType-clause-least : goal.walk_types-returns-in-NoType-clause-least
walk_types-returns-in-NoType-clause-least t c =
    ap (λ (x : TypeList). least_along c.args.found.now c.args.sight.now c.args.text (types_of x) c.loop-rest.least) (sym c.in-NoType.is)
    ∙ c.loop-rest.invariant.1 ∙ least_is c.args.found.now c.args.sight.now c.args.text (types_of c.args.types.now) c.args.least.now
