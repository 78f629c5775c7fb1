use Rattle.std.proofs.Common.{◌≡◌, map, drop, []}
use Rattle.th_type.specs.Declarations.{super_of}
use Rattle.th_type.specs.Failures.{lowest}
use Rattle.th_type.specs.Rules.{list_failures}
use Rattle.th_type.proofs.judge.judge_list.Given as goal

abbrev pub invariant-loop-member : goal.invariant-loop-member
invariant-loop-member l = lowest l.found (list_failures l.text l.seen.keys (map super_of (drop l.member-index l.members))) ≡ lowest l.fn.found (list_failures l.text [] (map super_of l.members))
