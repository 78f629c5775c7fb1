use Rattle.std.proofs.Common.{◌↔◌, IsTrue, refl, sym, subst}
use Rattle.th_tree.specs.declared.tree.Ident.{Ident}
use Rattle.th_scope.specs.View.{item_head_of}
use Rattle.th_module_rules.specs.Modules.{Redefined}
use Rattle.th_modules.specs.View.{judged_of}
use Rattle.th_modules.proofs.module.is_changed.Goals as goal

pub returns : goal.returns
returns c =
    subst (λ (n : Ident). IsTrue c.is_redefined.result ↔ Redefined (judged_of c.args.judging.now) n.name (item_head_of c.args.item.now.head)) c.name_of-name.ensures
    (c.is_redefined.ensures (judged_of c.args.judging.now) refl (sym c.implements_of-implements.ensures))
