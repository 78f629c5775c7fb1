use Rattle.std.proofs.Common.{◌≡◌, ◌≤◌, ◌+◌, length, arith, sym, ap, ◌∙◌, le_refl}
use Rattle.th_views.specs.Tree.{base}
use Rattle.th_views.specs.Rows.{tree_of}
use Rattle.th_offsets.proofs.Sited.{first_ok, first_base, own_is, room_at, depth_made, upward_at}
use Rattle.th_offsets.proofs.slots.depth_of.Goals as goal

pub first_known-requires : goal.first_known-requires
first_known-requires c = first_ok c.args.rows.now c.requires.ordered c.args.done.now c.as_slice.result.now c.args.number c.index-rows-number.result _ c.requires.within (omega arith)
    c.index-rows-number.is c.as_slice.ensures

pub overflow_cast-result : goal.overflow_cast-result
overflow_cast-result c = let k : base (tree_of c.args.rows.now c.args.number) + length c.index-rows-number.result.own ≤ 250 =
    room_at c.args.rows.now c.requires.ordered c.args.number c.requires.shallow c.requires.within c.index-rows-number.result _ c.index-rows-number.is in omega arith

pub overflow_add-result : goal.overflow_add-result
overflow_add-result c =
    let k : base (tree_of c.args.rows.now c.args.number) + length c.index-rows-number.result.own ≤ 250 =
    room_at c.args.rows.now c.requires.ordered c.args.number c.requires.shallow c.requires.within c.index-rows-number.result _ c.index-rows-number.is in
    let b : c.first_known.result ≡ base (tree_of c.args.rows.now c.args.number) = first_base c.args.rows.now c.requires.ordered c.args.done.now c.as_slice.result.now c.args.number c.first_known.result
    c.index-rows-number.result _ c.requires.within (omega arith) c.requires.done c.index-rows-number.is c.as_slice.ensures c.first_known.ensures in omega arith

pub returns : goal.returns
returns c =
    depth_made (tree_of c.args.rows.now c.args.number) c.first_known.result c.len.result _
    (sym (upward_at c.args.rows.now c.args.facts.now c.args.number _ c.requires.known.0 c.requires.within c.requires.known.1) ∙ c.if-facts-number.false)
    (first_base c.args.rows.now c.requires.ordered c.args.done.now c.as_slice.result.now c.args.number c.first_known.result
    c.index-rows-number.result _ c.requires.within (omega arith) c.requires.done c.index-rows-number.is c.as_slice.ensures c.first_known.ensures)
    (c.len.ensures ∙ ap length (own_is c.args.rows.now c.requires.ordered c.args.number c.index-rows-number.result _ c.requires.within c.index-rows-number.is))
    (omega arith)
