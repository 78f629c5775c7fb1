use Rattle.std.proofs.Common.{◌<◌, ◌≤◌, length, arith, sym, ap, ◌∙◌}
use Rattle.std.specs.Prelude.{nat_eq}
use Rattle.std.specs.HashMap.{get}
use Rattle.std.proofs.lemmas.Bool.{ltb-true, ltb-false}
use Rattle.th_layout.proofs.Running.{lowering_small, lowering_is, lowering_past}
use Rattle.th_layout.proofs.tables.lowering_of.Goals as goal

pub bytes_to-requires : goal.bytes_to-requires
bytes_to-requires c = λ w e. lowering_small (record { types = c.args.types.now; classes = c.args.classes.now }) c.args.casts.now c.args.from c.args.to w c.in-Some.from.now c.requires.casts.1
    (ltb-true c.args.from (length c.args.casts.now) (sym c.in-Some.ensures.lookup.0)) c.requires.few (ap (λ z. get nat_eq z.words c.args.to) (sym c.in-Some.ensures.lookup.1) ∙ e)

pub returns-in-Some : goal.returns-in-Some
returns-in-Some c = lowering_is (record { types = c.args.types.now; classes = c.args.classes.now }) c.args.casts.now c.args.from c.args.to c.bytes_to.result c.in-Some.from.now c.in-Some.from.now c.requires.casts.0 c.requires.casts.1
    (ltb-true c.args.from (length c.args.casts.now) (sym c.in-Some.ensures.lookup.0)) c.in-Some.ensures.lookup.1 c.bytes_to.ensures

pub returns-in-None : goal.returns-in-None
returns-in-None c = let k : length c.args.casts.now ≤ c.args.from = ltb-false c.args.from (length c.args.casts.now) (sym c.in-None.ensures.lookup.0) in
    let m : length c.args.types.now ≤ c.args.from = omega arith in lowering_past (record { types = c.args.types.now; classes = c.args.classes.now }) c.args.from c.args.to m
