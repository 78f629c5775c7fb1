use Rattle.std.proofs.Common.{◌≡◌, ◌≤◌, ◌+◌, length, arith, sym, ap, ◌∙◌}
use Rattle.std.specs.Prelude.{nat_eq}
use Rattle.std.specs.HashMap.{get}
use Rattle.th_offsets.specs.Maps.{or_else}
use Rattle.th_views.specs.Tree.{base}
use Rattle.th_views.specs.Rows.{tree_of}
use Rattle.th_offsets.proofs.Sited.{first_ok, first_base, own_is, room_at, own_offset, upward_at}
use Rattle.th_offsets.proofs.slots.add_own.Goals as goal

pub first_known-base-requires : goal.first_known-base-requires
first_known-base-requires c = first_ok c.args.rows.now c.requires.ordered c.args.depths.now c.as_slice.result.now c.args.number c.index-rows-number.result _ c.requires.within (omega arith)
    c.index-rows-number.is c.as_slice.ensures

pub add_run-requires : goal.add_run-requires
add_run-requires c =
    let k : base (tree_of c.args.rows.now c.args.number) + length c.index-rows-number.result.own ≤ 250 =
    room_at c.args.rows.now c.requires.ordered c.args.number c.requires.shallow c.requires.within c.index-rows-number.result _ c.index-rows-number.is in
    let b : c.first_known-base.result ≡ base (tree_of c.args.rows.now c.args.number) = first_base c.args.rows.now c.requires.ordered c.args.depths.now c.as_slice.result.now c.args.number c.first_known-base.result
    c.index-rows-number.result _ c.requires.within (omega arith) c.requires.depths.1 c.index-rows-number.is c.as_slice.ensures c.first_known-base.ensures in
    let e : length c.as_slice-2.result.now ≡ length c.index-rows-number.result.own = ap length c.as_slice-2.ensures in omega arith

pub returns : goal.returns
returns c = λ q. c.in_ok-add_run.ensures q ∙ ap (or_else (get nat_eq c.args.map.now q))
    (own_offset (tree_of c.args.rows.now c.args.number) _ c.first_known-base.result q c.as_slice-2.result.now
    (upward_at c.args.rows.now c.args.facts.now c.args.number _ c.requires.known.0 c.requires.within c.requires.known.1)
    (first_base c.args.rows.now c.requires.ordered c.args.depths.now c.as_slice.result.now c.args.number c.first_known-base.result
    c.index-rows-number.result _ c.requires.within (omega arith) c.requires.depths.1 c.index-rows-number.is c.as_slice.ensures c.first_known-base.ensures)
    (c.as_slice-2.ensures ∙ own_is c.args.rows.now c.requires.ordered c.args.number c.index-rows-number.result _ c.requires.within c.index-rows-number.is))
