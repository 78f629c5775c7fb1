use Rattle.std.proofs.Common.{◌≡◌, drop}
use Rattle.std.specs.Prelude.{option_map}
use Rattle.th_module_rules.specs.Texts.{used_names}
use Rattle.th_full_names.specs.Earliest.{earliest, used_of}
use Rattle.th_full_names.proofs.given.with_names.Given as goal

abbrev pub invariant-loop-name : goal.invariant-loop-name
invariant-loop-name l = earliest l.given (option_map used_of l.kept) (used_names l.text (drop l.name-index l.names)) ≡ earliest l.given (option_map used_of l.fn.first) (used_names l.text l.names)
