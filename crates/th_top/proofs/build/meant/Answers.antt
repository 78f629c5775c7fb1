use Rattle.std.proofs.Common.{◌≡◌, length, map, string_bytes, arith}
use Rattle.th_meaning.specs.View.{module_of}
use Rattle.th_top.specs.Verdict.{verdict_of}
use Rattle.th_top.proofs.Stopped.{alone_means, alone_stops}
use Rattle.th_top.proofs.build.meant.Goals as goal

pub returns-then-names-eq1-clause-means : goal.returns-then-names-eq1-clause-means
returns-then-names-eq1-clause-means c =
    let one : length c.args.judged.now.texts.items ≡ 1 = omega (arith, c.requires.many, c.if-names-eq1.true) in
    alone_means (λ x. x.items) c.args.judged.now.texts.items c.deref.result.now c.args.judged.now.modules.items c.deref.ensures.value c.requires.accepted c.alone.result one c.alone.ensures.puts

pub returns-then-names-eq1-clause-stops : goal.returns-then-names-eq1-clause-stops
returns-then-names-eq1-clause-stops c =
    let one : length c.args.names.now ≡ 1 = omega (arith, c.if-names-eq1.true) in
    alone_stops (λ x. x.items) c.args.judged.now.texts.items c.deref.result.now c.args.judged.now.modules.items c.deref.ensures.value c.requires.accepted
    string_bytes c.args.names.now c.index-names-0.result one c.requires.many c.index-names-0.is verdict_of c.as_str.result.now c.alone.result c.as_str.ensures.value c.alone.ensures.stops
