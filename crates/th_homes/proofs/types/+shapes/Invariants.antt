use Rattle.std.proofs.Common.{◌≡◌, ◌+◌, ◌*◌, drop, map}
use Rattle.th_meaning.specs.View.{type_of}
use Rattle.th_meaning.specs.Typing.{first_of}
use Rattle.th_lowering.specs.Homes.{shape_within}
use Rattle.th_homes.specs.View.{known_of}
use Rattle.th_homes.proofs.types.+shapes.Given as goal

abbrev pub invariant-first-loop-of : goal.invariant-first-loop-of
invariant-first-loop-of l = first_of (map (λ t. shape_within l.fn.steps (known_of l.fn.known) t l.fn.method) (map type_of (drop l.of-index l.fn.types)))
    ≡ first_of (map (λ t. shape_within l.fn.steps (known_of l.fn.known) t l.fn.method) (map type_of l.fn.types))

abbrev pub decreases-declared : goal.decreases-declared
decreases-declared l = 3 * l.steps + 2

abbrev pub decreases-first : goal.decreases-first
decreases-first l = 3 * l.steps + 1

abbrev pub decreases-within : goal.decreases-within
decreases-within l = 3 * l.steps
