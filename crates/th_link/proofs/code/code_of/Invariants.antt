-- The words so far and those of the bytes to come are the words of the whole.
use Rattle.std.proofs.Common.{◌≡◌, ◌++◌, drop}
use Rattle.th_link.specs.Puts.{puts_code, code_words}
use Rattle.th_link.proofs.code.code_of.Given as goal

abbrev pub invariant-loop-byte : goal.invariant-loop-byte
invariant-loop-byte l = l.words.items ++ code_words (puts_code (drop l.byte-index l.bytes)) ≡ code_words (puts_code l.bytes)
