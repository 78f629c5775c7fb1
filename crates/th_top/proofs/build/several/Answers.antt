use Rattle.std.proofs.Common.{◌<◌, length, take, string_bytes, refl, arith}
use Rattle.th_top.proofs.Stopped.{one_short, first_unbuilt, second_unbuilt}
use Rattle.th_top.proofs.build.several.Goals as goal

pub are_of_form-requires-clause-short : goal.are_of_form-requires-clause-short
are_of_form-requires-clause-short c = one_short (λ x. x.items) c.args.texts.now (take 1 c.args.texts.now) refl c.requires.short

pub returns-then-first : goal.returns-then-first
returns-then-first c =
    second_unbuilt string_bytes (λ x. x.items) c.args.names.now c.args.texts.now (take 1 c.args.texts.now) c.in-Ok.first c.index-names-1.result c.as_str.result.now refl c.in-Ok.ensures c.as_str.ensures.value
    c.if-first.true c.requires.two c.index-names-1.is

pub returns-else-first : goal.returns-else-first
returns-else-first c =
    let some : 0 < length c.args.names.now = omega (arith, c.requires.two) in
    first_unbuilt string_bytes (λ x. x.items) c.args.names.now c.args.texts.now (take 1 c.args.texts.now) c.in-Ok.first c.index-names-0.result c.as_str-else-first.result.now refl c.in-Ok.ensures c.as_str-else-first.ensures.value
    c.if-first.false some c.index-names-0.is
