use Rattle.th_type.specs.declared.typedef.Written.{Written}
use Rattle.th_type.proofs.Testing.{numbers_more}
use Rattle.th_type.proofs.known.written_methods.Goals as goal

pub loop-method-preserved : goal.loop-method-preserved
loop-method-preserved c = numbers_more (λ (w : Written). w.sig.method) c.args.written.now c.loop-method.method-index c.method-item.result c.loop-method.set.keys c.put.new.set.keys c.loop-method-test.true c.method-item.is c.loop-method.invariant c.in_ok-put.ensures
