use Rattle.std.proofs.Common.{◌∙◌}
use Rattle.th_meaning.specs.View.{unit_of}
use Rattle.th_units.proofs.Adding.{adds_unit_so}
use Rattle.th_units.proofs.units.add_unit.Goals as goal

pub returns : goal.returns
returns c = λ done h.
    adds_unit_so c.args.rows.now.items c.push.new.self.items c.args.numbers.now c.name_unit.new.numbers c.in_ok-row.row (unit_of c.args.unit.now) done c.len.result c.as_bytes.result.now
    (c.len.ensures ∙ c.args.rows.now.ok.0) c.in_ok-push.ensures.items c.as_bytes.ensures c.in_ok-row.ensures c.in_ok-name_unit.ensures h
