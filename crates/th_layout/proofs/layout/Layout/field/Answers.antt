use Rattle.std.proofs.Common.{◌≤◌, ◌+◌, ◌<◌, refl, arith, sym, ◌∙◌}
use Rattle.std.proofs.lemmas.Bool.{lt-ltb, le-ltb}
use Rattle.th_layout.proofs.Found.{row_small, field_found, no_field}
use Rattle.th_layout.proofs.layout.Layout.field.Goals as goal

pub overflow_add-row : goal.overflow_add-row
overflow_add-row c =
    let k : c.index-object.result.now.below + (c.index-row.result.now.wheres + c.index-row.result.now.fields) ≤ 400 =
    row_small c.self.inside c.args.self.now c.in_ok-place.place c.index-object.result.now c.index-object.result.now c.index-row.result.now c.index-row.result.now c.self.view_is c.self.invariant
    (c.in_ok-place.ensures.within c.in_ok-place.place refl) c.index-object.ensures c.index-row.ensures in omega arith

pub overflow_add-result : goal.overflow_add-result
overflow_add-result c =
    let k : c.index-object.result.now.below + (c.index-row.result.now.wheres + c.index-row.result.now.fields) ≤ 400 =
    row_small c.self.inside c.args.self.now c.in_ok-place.place c.index-object.result.now c.index-object.result.now c.index-row.result.now c.index-row.result.now c.self.view_is c.self.invariant
    (c.in_ok-place.ensures.within c.in_ok-place.place refl) c.index-object.ensures c.index-row.ensures in omega arith

pub overflow_add-result-then-index-row : goal.overflow_add-result-then-index-row
overflow_add-result-then-index-row c =
    let k : c.index-object.result.now.below + (c.index-row.result.now.wheres + c.index-row.result.now.fields) ≤ 400 =
    row_small c.self.inside c.args.self.now c.in_ok-place.place c.index-object.result.now c.index-object.result.now c.index-row.result.now c.index-row.result.now c.self.view_is c.self.invariant
    (c.in_ok-place.ensures.within c.in_ok-place.place refl) c.index-object.ensures c.index-row.ensures in omega arith

pub overflow_mul-result : goal.overflow_mul-result
overflow_mul-result c =
    let k : c.index-object.result.now.below + (c.index-row.result.now.wheres + c.index-row.result.now.fields) ≤ 400 =
    row_small c.self.inside c.args.self.now c.in_ok-place.place c.index-object.result.now c.index-object.result.now c.index-row.result.now c.index-row.result.now c.self.view_is c.self.invariant
    (c.in_ok-place.ensures.within c.in_ok-place.place refl) c.index-object.ensures c.index-row.ensures in omega arith

pub returns-then-index-row : goal.returns-then-index-row
returns-then-index-row c = field_found c.self.inside c.args.self.now c.args.class c.in_ok-place.place c.args.index c.index-object.result.now c.index-object.result.now c.index-row.result.now c.index-row.result.now
    c.self.view_is c.self.invariant (c.in_ok-place.ensures.within c.in_ok-place.place refl) c.in_ok-place.ensures.is c.index-object.ensures c.index-row.ensures (lt-ltb c.args.index (c.index-row.result.now.wheres + c.index-row.result.now.fields) c.if-index-row.true)

pub returns-else-index-row : goal.returns-else-index-row
returns-else-index-row c = no_field c.self.inside c.args.self.now c.args.class c.in_ok-place.place c.args.index c.index-row.result.now c.index-row.result.now
    c.self.view_is c.self.invariant (c.in_ok-place.ensures.within c.in_ok-place.place refl) c.in_ok-place.ensures.is c.index-row.ensures (le-ltb c.args.index (c.index-row.result.now.wheres + c.index-row.result.now.fields) c.if-index-row.false)
