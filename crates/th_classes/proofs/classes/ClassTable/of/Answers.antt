use Rattle.std.proofs.Common.{map, subst, ap, ◌∙◌}
use Rattle.th_meaning.specs.View.{class_of, program_of}
use Rattle.th_classes.specs.Rows.{RowsAre}
use Rattle.th_classes.proofs.classes.ClassTable.of.Goals as goal

pub returns : goal.returns
returns c = λ t. record {
  rows = subst (RowsAre (program_of c.args.modules.now) c.in_ok-rows.rows.items) (ap (map (λ x. class_of x.now)) c.deref.ensures.value ∙ c.in_ok-list.ensures.classes)
      (c.in_ok-rows.ensures (program_of c.args.modules.now) t c.in_ok-list.ensures.numbers);
  numbers = c.in_ok-list.ensures.numbers;
}
