use Rattle.std.proofs.Common.{◌∙◌, ap}
use Rattle.th_hier.specs.Naming.{Items, item_at}
use Rattle.th_hier.proofs.Finding.{item_looked_up}
use Rattle.th_heads.proofs.found.OwnItems.get.Goals as goal

pub returns : goal.returns
returns c = c.copied.ensures ∙ c.get.ensures.value ∙ item_looked_up c.args.name c.self.inside.items.entries ∙ ap (λ (es : Items). item_at es c.args.name) c.self.view_is
