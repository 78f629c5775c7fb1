use Rattle.std.proofs.Common.{◌∙◌}
use Rattle.th_meaning.specs.Program.{classes_of}
use Rattle.th_classes.proofs.Rowing.{rows_length}
use Rattle.th_classes.proofs.classes.ClassTable.count.Goals as goal

pub returns : goal.returns
returns c = λ p h. c.len.ensures ∙ c.args.self.now.rows.ok.0 ∙ rows_length p c.args.self.now.rows.items (classes_of p) h.rows
