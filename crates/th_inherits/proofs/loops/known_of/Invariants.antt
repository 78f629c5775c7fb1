use Rattle.th_inherits.specs.Rows.{rows_of}
use Rattle.th_inherits.specs.Loops.{AreFree, AreLooped}
use Rattle.th_inherits.proofs.loops.known_of.Given as goal

abbrev pub invariant-loop-full : goal.invariant-loop-full
invariant-loop-full l = record {
  free : AreFree (rows_of l.rows) l.free;
  looped : AreLooped (rows_of l.rows) l.looped;
}
