use Rattle.th_texts.proofs.OneLaws.{module_added}
use Rattle.th_texts.proofs.one_text.add_module.Goals as goal

pub returns-in-Ok-clause-added : goal.returns-in-Ok-clause-added
returns-in-Ok-clause-added c =
    module_added c.keep_module.result c.args.trees.now c.parse_module.new.names c.keep_module.new.trees c.args.text c.args.tokens.now c.in-Ok.tree c.in-Ok.ensures.table c.in-Ok.ensures.answer c.keep_module.ensures.kept
