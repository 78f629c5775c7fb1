use Rattle.std.proofs.Common.{◌≤◌, ◌+◌, refl, arith}
use Rattle.th_layout.proofs.Found.{object_small, size_found}
use Rattle.th_layout.proofs.layout.Layout.size.Goals as goal

pub overflow_add-result : goal.overflow_add-result
overflow_add-result c =
    let k : (c.index-object.result.now.words ≤ 64) × (c.index-object.result.now.wheres + c.index-object.result.now.fields ≤ 400) =
    object_small c.self.inside c.args.self.now c.in_ok-place.place c.index-object.result.now c.index-object.result.now c.self.view_is c.self.invariant
    (c.in_ok-place.ensures.within c.in_ok-place.place refl) c.index-object.ensures in omega arith

pub overflow_add-result-2 : goal.overflow_add-result-2
overflow_add-result-2 c =
    let k : (c.index-object.result.now.words ≤ 64) × (c.index-object.result.now.wheres + c.index-object.result.now.fields ≤ 400) =
    object_small c.self.inside c.args.self.now c.in_ok-place.place c.index-object.result.now c.index-object.result.now c.self.view_is c.self.invariant
    (c.in_ok-place.ensures.within c.in_ok-place.place refl) c.index-object.ensures in omega arith

pub overflow_mul-result : goal.overflow_mul-result
overflow_mul-result c =
    let k : (c.index-object.result.now.words ≤ 64) × (c.index-object.result.now.wheres + c.index-object.result.now.fields ≤ 400) =
    object_small c.self.inside c.args.self.now c.in_ok-place.place c.index-object.result.now c.index-object.result.now c.self.view_is c.self.invariant
    (c.in_ok-place.ensures.within c.in_ok-place.place refl) c.index-object.ensures in omega arith

pub returns : goal.returns
returns c = size_found c.self.inside c.args.self.now c.args.class c.in_ok-place.place c.index-object.result.now c.index-object.result.now c.self.view_is c.self.invariant
    (c.in_ok-place.ensures.within c.in_ok-place.place refl) c.in_ok-place.ensures.is c.index-object.ensures
