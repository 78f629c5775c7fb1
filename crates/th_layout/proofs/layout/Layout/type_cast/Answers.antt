use Rattle.std.proofs.Common.{◌<◌, arith, sym}
use Rattle.th_layout.proofs.Found.{cast_small, cast_found}
use Rattle.th_layout.proofs.layout.Layout.type_cast.Goals as goal

pub overflow_mul-result : goal.overflow_mul-result
overflow_mul-result c = let k : c.in_ok-word.word.now < 64 = cast_small c.self.inside c.args.self.now c.args.place c.args.target c.in_ok-word.word.now c.index.result.now c.index.result.now c.self.view_is c.self.invariant
    c.requires c.index.ensures (sym c.in_ok-word.ensures.value) in omega arith

pub returns : goal.returns
returns c = cast_found c.self.inside c.args.self.now c.args.place c.args.target c.in_ok-word.word.now c.index.result.now c.index.result.now c.self.view_is c.self.invariant
    c.requires c.index.ensures (sym c.in_ok-word.ensures.value)
