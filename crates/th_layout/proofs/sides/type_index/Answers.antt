use Rattle.std.proofs.Common.{◌≡◌, length, arith, ap, ◌∙◌}
use Rattle.th_views.specs.Lookups.{type_numbers}
use Rattle.th_layout.proofs.Judged.{type_many}
use Rattle.th_layout.proofs.sides.type_index.Goals as goal

pub places-requires : goal.places-requires
places-requires c =
    let k : length c.deref.result.now ≡ length (type_numbers c.args.types.now) = ap length (c.deref.ensures.value ∙ c.in_ok-names.ensures) in
    let m : length (type_numbers c.args.types.now) ≡ length c.args.types.now = type_many c.args.types.now in omega arith
