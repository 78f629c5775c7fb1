use Rattle.th_puts.specs.Form.{puts_program}
use Rattle.th_top.proofs.build.build_texts.Goals as goal

pub returns-in-Ok-produce-clause-built : goal.returns-in-Ok-produce-clause-built
returns-in-Ok-produce-clause-built c = (puts_program c.in-Ok.program.name c.in-Ok.program.bytes.items, c.in-Ok.ensures.means, c.in-Ok-produce.ensures)
