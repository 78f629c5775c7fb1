use Rattle.std.proofs.Common.{◌≡◌, ◌≤◌}
use Rattle.th_meaning.specs.View.{types_of}
use Rattle.th_meaning.specs.Onto.{types_onto}
use Rattle.th_meaning.specs.declared.types.CoreTypeList.{size-CoreTypeList}
use Rattle.th_subst.proofs.copies.+copies.Given as goal

abbrev pub invariant-copy_of_list-loop-rest : goal.invariant-copy_of_list-loop-rest
invariant-copy_of_list-loop-rest l =
    (types_onto (types_of l.done) (types_of l.rest) ≡ types_of l.fn.list)
    × (size-CoreTypeList l.rest ≤ size-CoreTypeList l.fn.list)
