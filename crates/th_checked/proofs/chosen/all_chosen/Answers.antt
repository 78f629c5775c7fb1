use Rattle.std.proofs.Common.{map, refl}
use Rattle.th_tree.specs.DeclView.{interface_of}
use Rattle.th_meaning.specs.View.{interface_of as core_interface_of}
use Rattle.th_checked.specs.Made.{all_chosen, chosen}
use Rattle.th_checked.proofs.Pairing.{end_made, next_made}
use Rattle.th_checked.proofs.chosen.all_chosen.Goals as goal

pub loop-k-preserved : goal.loop-k-preserved
loop-k-preserved c =
    next_made interface_of (chosen c.args.names.now c.args.hierarchy.now c.args.tokens.now c.args.named.now) (all_chosen c.args.names.now c.args.hierarchy.now c.args.tokens.now c.args.named.now) (λ n f fs. refl)
    c.args.texts.now c.args.interfaces.now c.loop-k.k c.index-interfaces-k.result (map core_interface_of c.loop-k.done.items) _ _
    c.requires c.loop-k-test.true c.index-interfaces-k.is c.in_ok-push_chosen.ensures c.loop-k.invariant

pub returns : goal.returns
returns c =
    end_made interface_of (all_chosen c.args.names.now c.args.hierarchy.now c.args.tokens.now c.args.named.now) refl
    c.args.texts.now c.args.interfaces.now c.loop-k.k (map core_interface_of c.loop-k.done.items) _ c.loop-k-test.false c.loop-k.invariant
