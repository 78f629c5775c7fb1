use Rattle.std.proofs.Common.{◌≡◌, ◌≤◌}
use Rattle.th_meaning.specs.View.{types_of}
use Rattle.th_meaning.specs.Onto.{types_onto}
use Rattle.th_meaning.specs.Weights.{all_substituted, type_list}
use Rattle.th_meaning.specs.declared.types.CoreTypeList.{size-CoreTypeList}
use Rattle.th_subst.proofs.arguments.+substitution.Given as goal

abbrev pub invariant-list_with_args-loop-rest : goal.invariant-list_with_args-loop-rest
invariant-list_with_args-loop-rest l =
    (types_onto (types_of l.done) (all_substituted (type_list (types_of l.args)) (types_of l.rest)) ≡ all_substituted (type_list (types_of l.args)) (types_of l.fn.list))
    × (size-CoreTypeList l.rest ≤ size-CoreTypeList l.fn.list)
