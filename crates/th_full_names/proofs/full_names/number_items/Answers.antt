use Rattle.std.proofs.Common.{◌∙◌, ap}
use Rattle.th_hier.proofs.Failing.{on_ok}
use Rattle.th_program.specs.declared.trees.Trees.{Trees}
use Rattle.th_full_names.specs.Numbering.{with_names}
use Rattle.th_full_names.proofs.NameLaws.{named, tabled}
use Rattle.th_full_names.proofs.full_names.number_items.Goals as goal

pub returns-clause-table : goal.returns-clause-table
returns-clause-table c =
    let t = c.args.trees.now in
    on_ok c.put_all.result
    (λ put. tabled t.names c.put_all.new.names c.in_ok-further.further.items c.deref.result.now t.interfaces.items c.deref-2.result.now t.modules.items c.deref.ensures.value c.deref-2.ensures.value
    c.in_ok-further.ensures (put ∙ ap (with_names t.names) c.deref-3.ensures.value)) c.put_all.ensures.table

pub returns-clause-named : goal.returns-clause-named
returns-clause-named c =
    let t = c.args.trees.now in
    let new : Trees = record {
      names = c.put_all.new.names;
      interfaces = t.interfaces;
      interface_texts = t.interface_texts;
      modules = t.modules;
      module_texts = t.module_texts;
    } in
    on_ok c.put_all.result
    (λ put. named new t.names c.in_ok-further.further.items c.deref.result.now c.deref-2.result.now c.deref.ensures.value c.deref-2.ensures.value c.in_ok-further.ensures
    (put ∙ ap (with_names t.names) c.deref-3.ensures.value)) c.put_all.ensures.table
