use Rattle.std.proofs.Common.{◌≡◌, nat_eq}
use Rattle.th_tree.specs.View.{types_of}
use Rattle.th_hier.specs.Resolve.{count}
use Rattle.th_scope.proofs.resolve.has_count.Given as goal

abbrev pub invariant-loop-rest : goal.invariant-loop-rest
invariant-loop-rest l = nat_eq (count (types_of l.rest)) l.left ≡ nat_eq (count (types_of l.types)) l.many
