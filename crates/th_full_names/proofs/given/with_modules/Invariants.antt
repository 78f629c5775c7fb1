use Rattle.std.proofs.Common.{◌≡◌, ◌-◌, length, map, drop}
use Rattle.std.specs.Prelude.{option_map}
use Rattle.th_tree.specs.DeclView.{module_of}
use Rattle.th_module_rules.specs.Texts.{used_by_modules}
use Rattle.th_program.specs.Programs.{with_texts}
use Rattle.th_full_names.specs.Earliest.{earliest, used_of}
use Rattle.th_full_names.proofs.given.with_modules.Given as goal

abbrev pub invariant-loop-k : goal.invariant-loop-k
invariant-loop-k l = earliest l.given (option_map used_of l.kept) (used_by_modules (with_texts (drop l.k l.texts) (map module_of (drop l.k l.modules)))) ≡ earliest l.given (option_map used_of l.fn.first) (used_by_modules (with_texts l.texts (map module_of l.modules)))

abbrev pub decreases-loop-k : goal.decreases-loop-k
decreases-loop-k l = length l.modules - l.k
