use Rattle.std.proofs.Common.{◌≡◌, ◌∙◌, ap, sym, false}
use Rattle.std.specs.Prelude.{is_some}
use Rattle.th_hier.specs.Naming.{item_at}
use Rattle.th_hier.proofs.Failing.{on_ok}
use Rattle.th_heads.proofs.Finding.{new_own}
use Rattle.th_heads.proofs.found.OwnItems.add.Goals as goal

pub returns : goal.returns
returns c =
    let absent : is_some (item_at c.args.self.now c.args.name) ≡ false = sym (ap is_some c.get.ensures) ∙ sym c.is_some.ensures ∙ c.if-is_some.false in
    on_ok c.insert.result (new_own c.args.name c.args.entry c.args.self.now c.insert.new.self absent) c.insert.ensures
