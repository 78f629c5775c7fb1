use Rattle.std.proofs.Common.{◌≡◌, ◌≤◌, ◌+◌, length, arith, sym, ap, ◌∙◌, subst}
use Rattle.th_views.specs.Tree.{base}
use Rattle.th_views.specs.Rows.{tree_of}
use Rattle.th_offsets.specs.Known.{Placed}
use Rattle.th_layout.proofs.Running.{own_made}
use Rattle.th_offsets.proofs.Sited.{first_ok, first_base, own_is, room_at, upward_at}
use Rattle.th_layout.proofs.tables.add_type_slots.Goals as goal

pub first_known-base-requires : goal.first_known-base-requires
first_known-base-requires c = first_ok c.args.types.now c.requires.ordered c.deref.result.now c.as_slice.result.now c.args.place c.index-types-place.result _ c.requires.place (omega arith)
    c.index-types-place.is c.as_slice.ensures

pub add_run_slots-requires-clause-few : goal.add_run_slots-requires-clause-few
add_run_slots-requires-clause-few c =
    let k : base (tree_of c.args.types.now c.args.place) + length c.index-types-place.result.own ≤ 250 =
    room_at c.args.types.now c.requires.ordered c.args.place c.requires.types.shallow c.requires.place c.index-types-place.result _ c.index-types-place.is in
    let b : c.first_known-base.result ≡ base (tree_of c.args.types.now c.args.place) = first_base c.args.types.now c.requires.ordered c.deref.result.now c.as_slice.result.now c.args.place c.first_known-base.result
    c.index-types-place.result _ c.requires.place (omega arith) (subst (Placed c.args.types.now) (sym c.deref.ensures.value) c.requires.types.depths.1) c.index-types-place.is c.as_slice.ensures c.first_known-base.ensures in
    let e : length c.as_slice-2.result.now ≡ length c.index-types-place.result.own = ap length c.as_slice-2.ensures in omega arith

pub returns : goal.returns
returns c = λ o. own_made (record { types = c.args.types.now; classes = c.args.classes.now }) c.args.class c.args.place c.first_known-base.result _ c.as_slice-2.result.now o _ _
    (ap (λ f. f.upward) c.index.ensures ∙ upward_at c.args.types.now c.args.type_side.now.facts.items c.args.place _ c.requires.types.facts.0 c.requires.place c.requires.types.facts.1)
    (first_base c.args.types.now c.requires.ordered c.deref.result.now c.as_slice.result.now c.args.place c.first_known-base.result
    c.index-types-place.result _ c.requires.place (omega arith) (subst (Placed c.args.types.now) (sym c.deref.ensures.value) c.requires.types.depths.1) c.index-types-place.is c.as_slice.ensures c.first_known-base.ensures)
    (c.as_slice-2.ensures ∙ own_is c.args.types.now c.requires.ordered c.args.place c.index-types-place.result _ c.requires.place c.index-types-place.is)
    (c.in_ok-add_run_slots.ensures o)
