use Rattle.std.proofs.Common.{get_or, map, refl, ◌∙◌}
use Rattle.th_tree.specs.DeclView.{interface_of, module_of}
use Rattle.th_program.specs.Programs.{with_texts}
use Rattle.th_bodies.specs.Judging.{judged_at}
use Rattle.th_bodies.proofs.Along.{along_start}
use Rattle.th_bodies.proofs.Paired.{got_or}
use Rattle.th_bodies.proofs.Stepping.{modules_end, next_along, next_named, texts_end}
use Rattle.th_bodies.proofs.modules.judge_modules.Goals as goal
use Rattle.th_bodies.proofs.modules.judge_modules.Goals.{then-loop-k-test+else-k-texts, else-loop-k-test}

pub push_module-requires-clause-named : goal.push_module-requires-clause-named
push_module-requires-clause-named c =
    next_named c.args.names.now c.args.hierarchy.now (map interface_of c.args.interfaces.now) c.args.least.now c.args.texts.now c.args.modules.now c.loop-k.k (get_or c.args.texts.now c.loop-k.k 0) c.index-modules-k.result
    c.loop-k.least c.loop-k.done.units.items c.loop-k.done.known.items c.loop-k.names c.loop-k.invariant.names c.if-k-texts.true c.loop-k-test.true (got_or c.args.texts.now c.loop-k.k 0 (get_or c.args.texts.now c.loop-k.k 0) c.if-k-texts.true) c.index-modules-k.is c.loop-k.invariant.along

pub loop-k-init : goal.loop-k-init
loop-k-init c = record {
  along = along_start (judged_at c.args.names.now c.args.hierarchy.now (map interface_of c.args.interfaces.now)) c.args.names.now c.args.least.now (with_texts c.args.texts.now (map module_of c.args.modules.now)) _ _ c.new.ensures.items c.new-2.ensures.items c.requires.named;
  names = refl;
}

pub loop-k-preserved : goal.loop-k-preserved
loop-k-preserved c = record {
  along = next_along c.args.names.now c.args.hierarchy.now (map interface_of c.args.interfaces.now) c.args.least.now c.args.texts.now c.args.modules.now c.loop-k.k (get_or c.args.texts.now c.loop-k.k 0) c.index-modules-k.result
      c.loop-k.least c.push_module.new.least c.loop-k.done c.push_module.new.done c.loop-k.names c.loop-k.invariant.names c.if-k-texts.true c.loop-k-test.true (got_or c.args.texts.now c.loop-k.k 0 (get_or c.args.texts.now c.loop-k.k 0) c.if-k-texts.true) c.index-modules-k.is c.loop-k.invariant.along
      c.in_ok-push_module.ensures.least c.in_ok-push_module.ensures.pushed;
  names = c.in_ok-push_module.ensures.names ∙ c.loop-k.invariant.names;
}

pub returns-clause-bodies : goal.returns-clause-bodies
returns-clause-bodies c = elim c.loop-k-test.branch [
  | then-loop-k-test+else-k-texts w ↦ (texts_end c.args.names.now c.args.hierarchy.now (map interface_of c.args.interfaces.now) c.args.least.now c.args.texts.now c.args.modules.now c.loop-k.k c.loop-k.least c.loop-k.done.units.items c.loop-k.done.known.items w.if-k-texts.false c.loop-k.invariant.along).1
  | else-loop-k-test w ↦ (modules_end c.args.names.now c.args.hierarchy.now (map interface_of c.args.interfaces.now) c.args.least.now c.args.texts.now c.args.modules.now c.loop-k.k c.loop-k.least c.loop-k.done.units.items c.loop-k.done.known.items w.loop-k-test.false c.loop-k.invariant.along).1
]

pub returns-clause-least : goal.returns-clause-least
returns-clause-least c = elim c.loop-k-test.branch [
  | then-loop-k-test+else-k-texts w ↦ (texts_end c.args.names.now c.args.hierarchy.now (map interface_of c.args.interfaces.now) c.args.least.now c.args.texts.now c.args.modules.now c.loop-k.k c.loop-k.least c.loop-k.done.units.items c.loop-k.done.known.items w.if-k-texts.false c.loop-k.invariant.along).0
  | else-loop-k-test w ↦ (modules_end c.args.names.now c.args.hierarchy.now (map interface_of c.args.interfaces.now) c.args.least.now c.args.texts.now c.args.modules.now c.loop-k.k c.loop-k.least c.loop-k.done.units.items c.loop-k.done.known.items w.loop-k-test.false c.loop-k.invariant.along).0
]
