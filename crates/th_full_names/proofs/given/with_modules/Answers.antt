use Rattle.std.proofs.Common.{◌++◌, refl}
use Rattle.std.specs.Prelude.{option_map}
use Rattle.th_tree.specs.DeclView.{module_of}
use Rattle.th_module_rules.specs.Texts.{used_by_modules, used_names, used_of_option}
use Rattle.th_full_names.specs.Earliest.{used_of}
use Rattle.th_full_names.proofs.GivenLaws.{last_tree, next_tree}
use Rattle.th_full_names.proofs.given.with_modules.Goals as goal

pub loop-k-preserved : goal.loop-k-preserved
loop-k-preserved c =
    next_tree module_of (λ m. used_of_option m.text m.tree.implements ++ used_names m.text m.tree.uses) used_by_modules c.args.texts.now c.args.modules.now c.loop-k.k c.index-modules-k.result c.args.given.now (option_map used_of c.loop-k.kept) (option_map used_of c.with_module-kept.result) _
    (λ y ys. refl) c.if-k-texts.true c.loop-k-test.true c.index-modules-k.is c.with_module-kept.ensures c.loop-k.invariant

pub returns-after-loop-k : goal.returns-after-loop-k
returns-after-loop-k c =
    last_tree module_of used_by_modules c.args.texts.now c.args.modules.now c.loop-k.k c.args.given.now (option_map used_of c.loop-k.kept) _ refl c.loop-k-test.false c.loop-k.invariant
