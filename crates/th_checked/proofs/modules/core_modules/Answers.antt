use Rattle.std.proofs.Common.{ℕ, List, None, map, subst, sym}
use Rattle.th_tree.specs.declared.decl.Interface.{Interface}
use Rattle.th_tree.specs.declared.decl.Module.{Module}
use Rattle.th_tree.specs.DeclView.{interface_of, module_of as tree_of}
use Rattle.th_type.specs.Failures.{IsLeastOf}
use Rattle.th_module_rules.specs.Stages.{FailsFirst}
use Rattle.th_program.specs.Programs.{program}
use Rattle.th_checked.proofs.modules.core_modules.Goals as goal

pub checked_modules-requires-clause-first : goal.checked_modules-requires-clause-first
checked_modules-requires-clause-first c =
    let t = c.args.trees.now in
    let fs = c.deref-2.result.now in
    let ns = c.deref-3.result.now in
    let ms = c.deref-4.result.now in
    subst (λ (a : List ℕ). IsLeastOf (FailsFirst (program t.names a (map interface_of fs) ns (map tree_of ms))) None) (sym c.deref.ensures.value)
    (subst (λ (a : List Interface). IsLeastOf (FailsFirst (program t.names t.interface_texts.items (map interface_of a) ns (map tree_of ms))) None) (sym c.deref-2.ensures.value)
    (subst (λ (a : List ℕ). IsLeastOf (FailsFirst (program t.names t.interface_texts.items (map interface_of t.interfaces.items) a (map tree_of ms))) None) (sym c.deref-3.ensures.value)
    (subst (λ (a : List Module). IsLeastOf (FailsFirst (program t.names t.interface_texts.items (map interface_of t.interfaces.items) t.module_texts.items (map tree_of a))) None) (sym c.deref-4.ensures.value)
    c.requires.first)))
