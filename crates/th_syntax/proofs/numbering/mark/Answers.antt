use Rattle.std.proofs.Common.{◌≡◌, ◌∙◌, ap, subst, true}
use Rattle.th_tree.specs.declared.lexeme.Mark.TheVariants as marks
use Rattle.th_tree.specs.Names.{is_there}
use Rattle.th_syntax.proofs.Tables.{number_is, number_there}
use Rattle.th_syntax.proofs.numbering.mark.Goals as goal

pub returns-in_ok-number-in-Name-clause-mark : goal.returns-in_ok-number-in-Name-clause-mark
returns-in_ok-number-in-Name-clause-mark c =
    rw c.in-Name.is (ap marks.Name (number_is c.args.names.now c.number.new.self c.args.bytes.now c.in_ok-number-in-Name.field-0 c.in_ok-number-in-Name.ensures.number c.in_ok-number-in-Name.ensures.names))

pub returns-in_ok-number-in-Name-clause-there : goal.returns-in_ok-number-in-Name-clause-there
returns-in_ok-number-in-Name-clause-there c = rw c.in-Name.is (number_there c.args.names.now c.number.new.self c.args.bytes.now c.in_ok-number-in-Name.ensures.names)

pub returns-in_ok-number-in-Text-clause-mark : goal.returns-in_ok-number-in-Text-clause-mark
returns-in_ok-number-in-Text-clause-mark c =
    rw (c.in-Text.is, ← c.in_ok-value-in-Text.ensures, ← c.deref.ensures.value) (ap marks.Text (number_is c.args.names.now c.number-in-Text.new.self c.deref.result.now c.in_ok-number-in-Text.field-0 c.in_ok-number-in-Text.ensures.number c.in_ok-number-in-Text.ensures.names))

pub returns-in_ok-number-in-Text-clause-there : goal.returns-in_ok-number-in-Text-clause-there
returns-in_ok-number-in-Text-clause-there c =
    rw c.in-Text.is (subst (λ n. is_there c.number-in-Text.new.self n ≡ true) (c.deref.ensures.value ∙ c.in_ok-value-in-Text.ensures) (number_there c.args.names.now c.number-in-Text.new.self c.deref.result.now c.in_ok-number-in-Text.ensures.names))
