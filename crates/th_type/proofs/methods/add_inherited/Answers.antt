use Rattle.std.proofs.Common.{map}
use Rattle.th_type.specs.Types.{list_of, tys_of}
use Rattle.th_type.specs.Signatures.{sig_of}
use Rattle.th_type.proofs.MethodLists.{inherited_more}
use Rattle.th_type.proofs.methods.add_inherited.Goals as goal

pub loop-sig-preserved : goal.loop-sig-preserved
loop-sig-preserved c =
    inherited_more (list_of (tys_of c.args.args.now)) c.args.inherited.now c.loop-sig.sig-index c.sig-item.result (sig_of c.in_ok-with_args.field-0) (map sig_of c.args.sigs.now.items) (map sig_of c.loop-sig.sigs.items) (map sig_of c.add.new.sigs.items)
    c.loop-sig-test.true c.sig-item.is c.in_ok-with_args.ensures c.loop-sig.invariant c.in_ok-add.ensures
