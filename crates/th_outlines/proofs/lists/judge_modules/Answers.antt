use Rattle.std.proofs.Common.{◌∙◌, ◌++◌, ◌-◌, ◌^◌, ◌<◌, ℕ, List, get_or, drop, map, length, ap, refl, sym, subst}
use Rattle.th_tree.specs.DeclView.{module_of}
use Rattle.th_type.specs.Failures.{lowest}
use Rattle.th_module_rules.specs.Clauses.{main_number, module_items_fail}
use Rattle.th_module_rules.specs.Own.{head_items, module_names_fail}
use Rattle.th_module_rules.specs.Stages.{modules_fail}
use Rattle.th_module_rules.specs.Texts.{HasOwnNames}
use Rattle.th_program.specs.Programs.{with_texts}
use Rattle.th_outlines.proofs.Pairing.{last_lowest, next_lowest, next_named, past_texts, past_trees}
use Rattle.th_outlines.proofs.lists.judge_modules.Goals as goal

pub judge_module-requires-clause-room : goal.judge_module-requires-clause-room
judge_module-requires-clause-room c = subst (λ (t : List (List ℕ)). length t < 2 ^ 32 - 1) (sym c.loop-k.invariant.2) c.requires.room

pub judge_module-requires-clause-named : goal.judge_module-requires-clause-named
judge_module-requires-clause-named c =
    let T = c.args.names.now in
    let k = c.loop-k.k in
    let x = c.index-modules-k.result in
    subst (λ (t : List (List ℕ)). HasOwnNames t (module_of x)) (sym c.loop-k.invariant.2)
    (next_named module_of T c.args.texts.now c.args.modules.now k x c.if-k-texts.true c.loop-k-test.true c.index-modules-k.is c.loop-k.invariant.1).0

pub judge_module-requires-clause-main : goal.judge_module-requires-clause-main
judge_module-requires-clause-main c = c.requires.main ∙ ap main_number (sym c.loop-k.invariant.2)

pub loop-k-preserved : goal.loop-k-preserved
loop-k-preserved c =
    let T = c.args.names.now in
    let index = c.args.index.now in
    let k = c.loop-k.k in
    let x = c.index-modules-k.result in
    let m = module_of x in
    let n = get_or c.args.texts.now k 0 in (
      next_lowest module_of (λ m. module_names_fail T index m.text m.tree ++ module_items_fail T m.text (head_items m.tree)) (modules_fail T index) c.args.texts.now c.args.modules.now k x c.loop-k.least c.judge_module.new.least _
          (λ y ys. refl) c.if-k-texts.true c.loop-k-test.true c.index-modules-k.is
          (c.in_ok-judge_module.ensures.least ∙ ap (λ (t : List (List ℕ)). lowest c.loop-k.least (module_names_fail t index n m ++ module_items_fail t n (head_items m))) c.loop-k.invariant.2)
          c.loop-k.invariant.0,
      (next_named module_of T c.args.texts.now c.args.modules.now k x c.if-k-texts.true c.loop-k-test.true c.index-modules-k.is c.loop-k.invariant.1).1,
      c.in_ok-judge_module.ensures.names ∙ c.loop-k.invariant.2,
    )

pub returns-else-k-texts-clause-least : goal.returns-else-k-texts-clause-least
returns-else-k-texts-clause-least c =
    last_lowest (modules_fail c.args.names.now c.args.index.now) (with_texts (drop c.loop-k.k c.args.texts.now) (map module_of (drop c.loop-k.k c.args.modules.now))) c.loop-k.least _ refl
    (past_texts c.args.texts.now (map module_of (drop c.loop-k.k c.args.modules.now)) c.loop-k.k c.if-k-texts.false) c.loop-k.invariant.0

pub returns-after-loop-k-clause-least : goal.returns-after-loop-k-clause-least
returns-after-loop-k-clause-least c =
    last_lowest (modules_fail c.args.names.now c.args.index.now) (with_texts (drop c.loop-k.k c.args.texts.now) (map module_of (drop c.loop-k.k c.args.modules.now))) c.loop-k.least _ refl
    (past_trees module_of (drop c.loop-k.k c.args.texts.now) c.args.modules.now c.loop-k.k c.loop-k-test.false) c.loop-k.invariant.0
