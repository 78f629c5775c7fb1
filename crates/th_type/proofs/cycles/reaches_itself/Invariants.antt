use Rattle.std.proofs.Common.{◌+◌, ◌-◌, length, map}
use Rattle.th_type.specs.Cycles.{Naming, unnoted}
use Rattle.th_type.specs.Tables.{defs_of}
use Rattle.th_type.proofs.cycles.reaches_itself.Given as goal

abbrev pub invariant-loop-done : goal.invariant-loop-done
invariant-loop-done l = Naming (defs_of l.defs) l.name l.seen.keys l.done

abbrev pub decreases-loop-done : goal.decreases-loop-done
decreases-loop-done l = unnoted (map (λ d. d.name) (defs_of l.defs)) l.seen.keys + length l.seen.keys - l.done
