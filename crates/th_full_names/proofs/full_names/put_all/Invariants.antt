use Rattle.std.proofs.Common.{◌≡◌, drop}
use Rattle.th_hier.specs.Numbering.{Grown}
use Rattle.th_full_names.specs.Numbering.{with_names}
use Rattle.th_full_names.proofs.full_names.put_all.Given as goal

abbrev pub invariant-loop-name : goal.invariant-loop-name
invariant-loop-name l = record {
  grown : Grown l.fn.names l.names;
  table : with_names l.names (drop l.name-index l.further) ≡ with_names l.fn.names l.further;
}
