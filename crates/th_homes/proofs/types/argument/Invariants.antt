use Rattle.std.proofs.Common.{◌≡◌}
use Rattle.th_meaning.specs.View.{types_of}
use Rattle.th_meaning.specs.Weights.{type_list, argument_at}
use Rattle.th_homes.proofs.types.argument.Given as goal

abbrev pub invariant-loop-rest : goal.invariant-loop-rest
invariant-loop-rest l = argument_at (type_list (types_of l.rest)) l.left l.fn.place ≡ argument_at (type_list (types_of l.fn.args)) l.fn.place l.fn.place
