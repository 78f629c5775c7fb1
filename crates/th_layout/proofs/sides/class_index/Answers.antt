use Rattle.std.proofs.Common.{◌≡◌, length, arith, ap, ◌∙◌}
use Rattle.th_views.specs.Lookups.{class_numbers}
use Rattle.th_layout.proofs.Judged.{class_many}
use Rattle.th_layout.proofs.sides.class_index.Goals as goal

pub places-requires : goal.places-requires
places-requires c =
    let k : length c.deref.result.now ≡ length (class_numbers c.args.classes.now) = ap length (c.deref.ensures.value ∙ c.in_ok-names.ensures) in
    let m : length (class_numbers c.args.classes.now) ≡ length c.args.classes.now = class_many c.args.classes.now in omega arith
