use Rattle.std.proofs.Common.{◌∙◌, List, ap, get_or, refl, sym}
use Rattle.std.specs.Prelude.{option_map}
use Rattle.th_tree.specs.declared.decl.Interface.{Interface}
use Rattle.th_tree.specs.declared.tree.Ident.{Ident}
use Rattle.th_tree.specs.DeclView.{interface_of}
use Rattle.th_module_rules.specs.Texts.{used_by_interfaces, used_names}
use Rattle.th_full_names.specs.Earliest.{earliest, used_of}
use Rattle.th_full_names.proofs.GivenLaws.{last_tree, next_tree}
use Rattle.th_full_names.proofs.given.with_interfaces.Goals as goal

pub loop-k-preserved : goal.loop-k-preserved
loop-k-preserved c =
    next_tree interface_of (λ i. used_names i.text i.tree.uses) used_by_interfaces c.args.texts.now c.args.interfaces.now c.loop-k.k c.index-interfaces-k.result c.args.given.now (option_map used_of c.loop-k.kept) (option_map used_of c.with_names-kept.result) _
    (λ y ys. refl) c.if-k-texts.true c.loop-k-test.true c.index-interfaces-k.is
    (c.with_names-kept.ensures
    ∙ ap (λ (us : List Ident). earliest c.args.given.now (option_map used_of c.loop-k.kept) (used_names (get_or c.args.texts.now c.loop-k.k 0) us)) c.deref.ensures.value
    ∙ ap (λ (x : Interface). earliest c.args.given.now (option_map used_of c.loop-k.kept) (used_names (get_or c.args.texts.now c.loop-k.k 0) x.uses.items)) (sym c.index-interfaces-k.is)) c.loop-k.invariant

pub returns-after-loop-k : goal.returns-after-loop-k
returns-after-loop-k c =
    last_tree interface_of used_by_interfaces c.args.texts.now c.args.interfaces.now c.loop-k.k c.args.given.now (option_map used_of c.loop-k.kept) _ refl c.loop-k-test.false c.loop-k.invariant
