use Rattle.std.proofs.Common.{◌∙◌, ◌+◌, map, drop, ap, sym}
use Rattle.th_tree.specs.DeclView.{interface_of}
use Rattle.th_program.specs.Programs.{with_texts}
use Rattle.th_checked.specs.Noting.{Places, with_all}
use Rattle.th_checked.proofs.Pairing.{end_at, next_at}
use Rattle.th_checked.proofs.places.Places.of.Goals as goal

pub loop-k-preserved : goal.loop-k-preserved
loop-k-preserved c =
    let k = c.loop-k.k in
    let fs = c.args.interfaces.now in
    let rest = with_texts (drop (k + 1) c.args.texts.now) (map interface_of (drop (k + 1) fs)) in
    ap (λ (es : Places). with_all es rest) c.in_ok-add_interface.ensures
    ∙ sym (ap (with_all c.loop-k.found) (next_at interface_of c.args.texts.now fs k c.index-interfaces-k.result c.requires c.loop-k-test.true c.index-interfaces-k.is))
    ∙ c.loop-k.invariant

pub returns : goal.returns
returns c = sym (ap (with_all c.loop-k.found) (end_at interface_of c.args.texts.now c.args.interfaces.now c.loop-k.k c.loop-k-test.false)) ∙ c.loop-k.invariant
