use Rattle.th_puts.specs.Form.{main_unit}
use Rattle.th_puts.proofs.form.only_main.Goals as goal

pub returns-in-None-clause-none : goal.returns-in-None-clause-none
returns-in-None-clause-none c = λ body is. c.in-None.ensures.none (main_unit c.args.program.now.name body) is
