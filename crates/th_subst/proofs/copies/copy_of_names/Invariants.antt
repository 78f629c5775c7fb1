use Rattle.std.proofs.Common.{◌≡◌, ◌++◌, drop}
use Rattle.th_subst.proofs.copies.copy_of_names.Given as goal

abbrev pub invariant-loop-name : goal.invariant-loop-name
invariant-loop-name l = l.done.items ++ drop l.name-index l.names ≡ l.names
