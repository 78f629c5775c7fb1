use Rattle.std.proofs.Common.{◌≡◌, ◌∙◌, ap, sym, List, [], map, drop}
use Rattle.std.proofs.Math.ListN.{drop_of_length-le}
use Rattle.th_tree.specs.declared.tree.Formal.{Formal}
use Rattle.th_tree.specs.View.{formal_of}
use Rattle.th_hier.specs.Heads.{formal_types}
use Rattle.th_hier.specs.Views.{tys_opt}
use Rattle.th_hier.proofs.Walking.{means_along, means_is, least_along, least_is}
use Rattle.th_heads.proofs.parts.walk_formals.Goals as goal

pub returns-clause-means : goal.returns-clause-means
returns-clause-means c =
    let done : drop c.loop-formal.formal-index c.args.formals.now ≡ [] = drop_of_length-le c.args.formals.now c.loop-formal-test.false in
    c.turned.ensures ∙ ap (λ (fs : List Formal). means_along c.args.found.now c.args.sight.now (formal_types (map formal_of fs)) (tys_opt c.loop-formal.done)) (sym done)
    ∙ c.loop-formal.invariant.0 ∙ means_is c.args.found.now c.args.sight.now (formal_types (map formal_of c.args.formals.now))

pub returns-clause-least : goal.returns-clause-least
returns-clause-least c =
    let done : drop c.loop-formal.formal-index c.args.formals.now ≡ [] = drop_of_length-le c.args.formals.now c.loop-formal-test.false in
    ap (λ (fs : List Formal). least_along c.args.found.now c.args.sight.now c.args.text (formal_types (map formal_of fs)) c.loop-formal.least) (sym done)
    ∙ c.loop-formal.invariant.1 ∙ least_is c.args.found.now c.args.sight.now c.args.text (formal_types (map formal_of c.args.formals.now)) c.args.least.now
