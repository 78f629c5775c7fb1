use Rattle.std.proofs.Common.{◌≡◌, ◌∙◌, rules, None}
use Rattle.std.specs.BTreeMap.{get}
use Rattle.std.specs.Ordering.{int_cmp}
use Rattle.th_layout.proofs.Running.{contents_made}
use Rattle.th_offsets.proofs.Seeing.{hidden_names, hidden_fits}
use Rattle.th_layout.proofs.tables.contents.Goals as goal

pub add_anchor_slots-requires-clause-few : goal.add_anchor_slots-requires-clause-few
add_anchor_slots-requires-clause-few c = hidden_fits (record { types = c.args.types.now; classes = c.args.classes.now }) c.args.class_side.now.raised c.args.class c.as_slice-methods.result.now c.requires.classes.raised c.requires.types.shallow c.requires.classes.few_slots
    (hidden_names (record { types = c.args.types.now; classes = c.args.classes.now }) c.args.class_side.now.names.items c.args.class c.index.result.now c.as_slice-methods.result.now
    c.requires.classes.names.0 c.requires.within c.requires.classes.names.1 (c.as_slice-methods.ensures ∙ c.index.ensures))

pub returns : goal.returns
returns c = λ o. let n : get int_cmp c.new-map.result o ≡ None = search rules in
    contents_made (record { types = c.args.types.now; classes = c.args.classes.now }) c.args.class c.args.word c.args.class_side.now.raised c.as_slice-methods.result.now o (get int_cmp c.new-map.result o) _ _ n (c.in_ok-add_seen_slots.ensures o) c.requires.classes.raised
    (hidden_names (record { types = c.args.types.now; classes = c.args.classes.now }) c.args.class_side.now.names.items c.args.class c.index.result.now c.as_slice-methods.result.now
    c.requires.classes.names.0 c.requires.within c.requires.classes.names.1 (c.as_slice-methods.ensures ∙ c.index.ensures))
    (c.in_ok-add_anchor_slots.ensures o)
