-- The bytes so far stand before the statements to come.
use Rattle.std.proofs.Common.{◌≡◌}
use Rattle.th_meaning.specs.View.{body_of}
use Rattle.th_puts.specs.Form.{AreBytes}
use Rattle.th_puts.proofs.Forms.{puts_then}
use Rattle.th_puts.proofs.form.bytes_of.Given as goal

abbrev pub invariant-loop-rest : goal.invariant-loop-rest
invariant-loop-rest l = record {
  before : body_of l.body ≡ puts_then l.bytes.items (body_of l.rest);
  are_bytes : AreBytes l.bytes.items;
}
