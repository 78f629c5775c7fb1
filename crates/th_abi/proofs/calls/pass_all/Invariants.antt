use Rattle.th_abi.proofs.calls.pass_all.Given as goal
use Rattle.std.proofs.Common.{◌≡◌, ◌+◌, ◌*◌, ◌≤◌, ◌++◌, length}
use Rattle.th_abi.specs.Control.{pass_first}

-- the words of the operands so far were appended
abbrev pub invariant-loop-i : goal.invariant-loop-i
invariant-loop-i l = record {
  words : l.words.items ≡ l.fn.words.items ++ pass_first l.place l.i;
  count : length l.words.items ≤ length l.fn.words.items + 2 * l.i;
}
