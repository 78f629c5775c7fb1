use Rattle.std.proofs.Common.{◌≤◌}
use Rattle.th_meaning.specs.declared.stmt.CoreBody.{size-CoreBody}
use Rattle.th_meaning.specs.declared.stmt.CoreElse.{size-CoreElse}
use Rattle.th_meaning.specs.declared.stmt.CoreWhenList.{size-CoreWhenList}
use Rattle.th_meaning.proofs.+stmts.Given as goal

abbrev pub invariant-stmt::CoreBody::drop-loop-self : goal.invariant-stmt::CoreBody::drop-loop-self
invariant-stmt::CoreBody::drop-loop-self l = size-CoreBody l.self ≤ size-CoreBody l.fn.self

abbrev pub invariant-stmt::CoreElse::drop-loop-self : goal.invariant-stmt::CoreElse::drop-loop-self
invariant-stmt::CoreElse::drop-loop-self l = size-CoreElse l.self ≤ size-CoreElse l.fn.self

abbrev pub invariant-stmt::CoreWhenList::drop-loop-self : goal.invariant-stmt::CoreWhenList::drop-loop-self
invariant-stmt::CoreWhenList::drop-loop-self l = size-CoreWhenList l.self ≤ size-CoreWhenList l.fn.self
