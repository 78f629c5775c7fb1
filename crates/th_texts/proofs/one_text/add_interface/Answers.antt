use Rattle.th_texts.proofs.OneLaws.{interface_added}
use Rattle.th_texts.proofs.one_text.add_interface.Goals as goal

pub returns-in-Ok-clause-added : goal.returns-in-Ok-clause-added
returns-in-Ok-clause-added c =
    interface_added c.keep_interface.result c.args.trees.now c.parse_interface.new.names c.keep_interface.new.trees c.args.text c.args.tokens.now c.in-Ok.tree c.in-Ok.ensures.table c.in-Ok.ensures.answer c.keep_interface.ensures.kept
