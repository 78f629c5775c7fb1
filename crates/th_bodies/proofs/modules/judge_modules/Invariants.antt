use Rattle.std.proofs.Common.{◌≡◌, ◌-◌, length, map, drop}
use Rattle.th_tree.specs.DeclView.{interface_of, module_of}
use Rattle.th_program.specs.Programs.{with_texts}
use Rattle.th_bodies.specs.Judging.{judged_at}
use Rattle.th_bodies.proofs.Along.{Along}
use Rattle.th_bodies.proofs.modules.judge_modules.Given as goal

abbrev pub decreases-loop-k : goal.decreases-loop-k
decreases-loop-k l = length l.modules - l.k

-- what was judged of the modules so far, and what is left of them
abbrev pub invariant-loop-k : goal.invariant-loop-k
invariant-loop-k l = record {
  along : Along (judged_at l.fn.names l.hierarchy (map interface_of l.interfaces)) l.fn.names l.fn.least (with_texts l.texts (map module_of l.modules)) (with_texts (drop l.k l.texts) (map module_of (drop l.k l.modules))) l.least l.done.units.items l.done.known.items;
  names : l.names ≡ l.fn.names;
}
