use Rattle.th_texts.proofs.OneLaws.{adds_interface, adds_module}
use Rattle.th_texts.proofs.trees.add_text.Goals as goal

pub returns-then-is_interface-clause-added : goal.returns-then-is_interface-clause-added
returns-then-is_interface-clause-added c =
    adds_interface c.add_interface.result c.args.told c.args.trees.now c.add_interface.new.trees c.args.number c.in_ok-text.text c.args.tokens.now c.in_ok-text.ensures.number (c.is_interface.ensures.0 c.if-is_interface.true) c.add_interface.ensures.added

pub returns-else-is_interface-clause-added : goal.returns-else-is_interface-clause-added
returns-else-is_interface-clause-added c =
    adds_module c.add_module.result c.args.told c.args.trees.now c.add_module.new.trees c.args.number c.in_ok-text.text c.args.tokens.now c.is_interface.result c.in_ok-text.ensures.number c.is_interface.ensures c.if-is_interface.false c.add_module.ensures.added
