use Rattle.std.proofs.Common.{map, refl}
use Rattle.th_tree.specs.DeclView.{module_of}
use Rattle.th_full_names.specs.Numbering.{names_in_module, names_in_modules}
use Rattle.th_full_names.proofs.NameLaws.{adds_last, adds_next}
use Rattle.th_full_names.proofs.full_names.add_modules.Goals as goal

pub loop-program-preserved : goal.loop-program-preserved
loop-program-preserved c =
    adds_next c.args.names.now (λ t m. names_in_module t (module_of m)) (λ t xs. names_in_modules t (map module_of xs)) c.args.modules.now c.loop-program.program-index
    c.program-item.result _ c.loop-program.further.items c.add_module.new.further.items (λ t y ys. refl) c.loop-program-test.true c.program-item.is c.in_ok-add_module.ensures c.loop-program.invariant

pub returns : goal.returns
returns c =
    adds_last c.args.names.now (λ t xs. names_in_modules t (map module_of xs)) c.args.modules.now c.loop-program.program-index _ _ (λ t. refl) c.loop-program-test.false c.loop-program.invariant
