use Rattle.std.proofs.Common.{◌≡◌, length}
use Rattle.th_lowering.specs.Homes.{home_within}
use Rattle.th_homes.specs.View.{known_of}
use Rattle.th_homes.proofs.types.Types.home.Given as goal

abbrev pub invariant-loop-steps : goal.invariant-loop-steps
invariant-loop-steps l = home_within l.steps (known_of l.fn.self) l.home l.fn.method ≡ home_within (length l.fn.self.decls.items) (known_of l.fn.self) l.fn.of l.fn.method

abbrev pub decreases-loop-steps : goal.decreases-loop-steps
decreases-loop-steps l = l.steps
