use Rattle.std.proofs.Common.{refl, arith}
use Rattle.std.proofs.lemmas.List.{length-map}
use Rattle.th_type.specs.MethodTables.{method_in}
use Rattle.th_type.specs.Tables.{entry_ty, above_of, tables_methods}
use Rattle.th_type.proofs.Testing.{param_there, param_more, param_none}
use Rattle.th_type.proofs.known.Tables.is_param_above.Goals as goal

pub loop-k-init : goal.loop-k-init
loop-k-init c = refl

pub returns-then-gives_param : goal.returns-then-gives_param
returns-then-gives_param c =
    let p = c.name_at.ensures c.args.self.now.ancestors.pool in
    param_there (method_in (tables_methods c.args.self.now)) c.args.method (above_of c.args.self.now.ancestors.pool c.args.above.now) c.loop-k.k c.name_at.result p.0 c.gives_param.result p.1 c.gives_param.ensures c.if-gives_param.true

pub loop-k-preserved : goal.loop-k-preserved
loop-k-preserved c =
    let p = c.name_at.ensures c.args.self.now.ancestors.pool in
    param_more (method_in (tables_methods c.args.self.now)) c.args.method (above_of c.args.self.now.ancestors.pool c.args.above.now) c.loop-k.k c.name_at.result p.0 c.gives_param.result p.1 c.gives_param.ensures c.if-gives_param.false c.loop-k.invariant

pub returns : goal.returns
returns c =
    param_none (method_in (tables_methods c.args.self.now)) c.args.method (above_of c.args.self.now.ancestors.pool c.args.above.now) c.loop-k.k
    (let a = c.len-k-end.ensures.count in let b = c.loop-k-test.false in let l = length-map c.args.above.now.map.entries (entry_ty c.args.self.now.ancestors.pool) in omega (arith, a, b, l))
    c.loop-k.invariant
