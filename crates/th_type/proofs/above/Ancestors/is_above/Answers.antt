use Rattle.std.proofs.Common.{sym}
use Rattle.th_type.specs.Types.{tys_of}
use Rattle.th_type.proofs.Held.{reached_some, reached_none}
use Rattle.th_type.proofs.above.Ancestors.is_above.Goals as goal

pub returns-in-Some-find : goal.returns-in-Some-find
returns-in-Some-find c =
    rw (c.in-Named-Named.is-0, c.in-Named-Named.is-1)
    (reached_some c.args.self.now c.in-Named-Named.name c.in-Named-Named.other (tys_of c.in-Named-Named.args) (tys_of c.in-Named-Named.others) c.in-Some.above.now c.in-Some-find.list c.list_is.result (sym c.in-Some.ensures) (sym c.in-Some-find.ensures) c.list_is.ensures)

pub returns-in-None-find : goal.returns-in-None-find
returns-in-None-find c =
    rw (c.in-Named-Named.is-0, c.in-Named-Named.is-1)
    (reached_none c.args.self.now c.in-Named-Named.name c.in-Named-Named.other (tys_of c.in-Named-Named.args) (tys_of c.in-Named-Named.others) c.in-Some.above.now (sym c.in-Some.ensures) (sym c.in-None-find.ensures))
