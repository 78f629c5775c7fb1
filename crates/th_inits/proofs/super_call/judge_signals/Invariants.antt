use Rattle.std.proofs.Common.{◌≡◌, drop}
use Rattle.th_type.specs.Failures.{lowest}
use Rattle.th_rules.specs.Raising.{unhandled}
use Rattle.th_scope.specs.View.{handled_of}
use Rattle.th_inits.proofs.super_call.judge_signals.Given as goal

abbrev pub invariant-loop-number : goal.invariant-loop-number
invariant-loop-number l = lowest l.raised (unhandled (handled_of l.handled) l.at (drop l.number-index l.signals)) ≡ lowest l.fn.raised (unhandled (handled_of l.handled) l.at l.signals)
