use Rattle.std.proofs.Common.{map}
use Rattle.th_type.specs.Signatures.{sig_of}
use Rattle.th_type.proofs.MethodLists.{written_more}
use Rattle.th_type.proofs.methods.add_written.Goals as goal

pub loop-method-preserved : goal.loop-method-preserved
loop-method-preserved c =
    written_more c.args.written.now c.loop-method.method-index c.method-item.result (sig_of c.in_ok-try_clone.field-0) (map sig_of c.args.sigs.now.items) (map sig_of c.loop-method.sigs.items) (map sig_of c.add.new.sigs.items)
    c.loop-method-test.true c.method-item.is c.in_ok-try_clone.ensures c.loop-method.invariant c.in_ok-add.ensures
