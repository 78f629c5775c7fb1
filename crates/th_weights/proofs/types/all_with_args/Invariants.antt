use Rattle.std.proofs.Common.{◌≡◌, map, take}
use Rattle.th_meaning.specs.View.{type_of, types_of}
use Rattle.th_meaning.specs.Weights.{substituted, type_list}
use Rattle.th_weights.proofs.types.all_with_args.Given as goal

abbrev pub invariant-loop-one : goal.invariant-loop-one
invariant-loop-one l = map type_of l.done.items ≡ map (substituted (type_list (types_of l.args))) (map type_of (take l.one-index l.types))
