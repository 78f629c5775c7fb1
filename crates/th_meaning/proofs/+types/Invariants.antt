use Rattle.std.proofs.Common.{◌≤◌}
use Rattle.th_meaning.specs.declared.types.CoreTypeList.{size-CoreTypeList}
use Rattle.th_meaning.proofs.+types.Given as goal

abbrev pub invariant-types::CoreTypeList::drop-loop-self : goal.invariant-types::CoreTypeList::drop-loop-self
invariant-types::CoreTypeList::drop-loop-self l = size-CoreTypeList l.self ≤ size-CoreTypeList l.fn.self
