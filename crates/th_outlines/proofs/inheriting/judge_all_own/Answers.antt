use Rattle.std.proofs.Common.{◌∙◌, ◌++◌, ◌-◌, ◌^◌, ◌<◌, ℕ, List, get_or, drop, map, length, sym, subst}
use Rattle.th_tree.specs.DeclView.{interface_of, module_of}
use Rattle.th_type.specs.Failures.{IsLeastOf}
use Rattle.th_module_rules.specs.Inheriting.{interfaces_rows, module_rows, InheritingFails}
use Rattle.th_module_rules.specs.Texts.{HasOwnNames}
use Rattle.th_program.specs.Programs.{with_texts}
use Rattle.th_outlines.specs.Stages.{KeepsLeast, OwnFails}
use Rattle.th_outlines.proofs.Pairing.{next_named, past_texts, past_trees}
use Rattle.th_outlines.proofs.Keeping.{last_own, next_own}
use Rattle.th_outlines.proofs.inheriting.judge_all_own.Goals as goal

pub judge_own-requires-clause-room : goal.judge_own-requires-clause-room
judge_own-requires-clause-room c = subst (λ (t : List (List ℕ)). length t < 2 ^ 32 - 1) (sym c.loop-k.invariant.2) c.requires.room

pub judge_own-requires-clause-named : goal.judge_own-requires-clause-named
judge_own-requires-clause-named c =
    let x = c.index-modules-k.result in
    subst (λ (t : List (List ℕ)). HasOwnNames t (module_of x)) (sym c.loop-k.invariant.2)
    (next_named module_of c.args.names.now c.args.texts.now c.args.modules.now c.loop-k.k x c.if-k-texts.true c.loop-k-test.true c.index-modules-k.is c.loop-k.invariant.1).0

pub loop-k-preserved : goal.loop-k-preserved
loop-k-preserved c =
    let T = c.args.names.now in
    let fulls = c.args.fulls.now in
    let index = c.args.index.now in
    let rows = interfaces_rows index 0 (map interface_of c.args.interfaces.now) in
    let k = c.loop-k.k in
    let x = c.index-modules-k.result in
    let m = module_of x in
    let n = get_or c.args.texts.now k 0 in (
      next_own module_of T fulls index rows c.args.texts.now c.args.modules.now k x c.loop-k.least c.in_ok-found.found c.keep.new.least
          (KeepsLeast c.args.least.now (OwnFails T fulls index rows (with_texts c.args.texts.now (map module_of c.args.modules.now))))
          c.if-k-texts.true c.loop-k-test.true c.index-modules-k.is
          (subst (λ (t : List (List ℕ)). IsLeastOf (InheritingFails fulls (module_rows t index n m ++ rows) (module_rows t index n m)) c.in_ok-found.found) c.loop-k.invariant.2 c.in_ok-found.ensures.least)
          c.keep.ensures c.loop-k.invariant.0,
      (next_named module_of T c.args.texts.now c.args.modules.now k x c.if-k-texts.true c.loop-k-test.true c.index-modules-k.is c.loop-k.invariant.1).1,
      c.in_ok-found.ensures.names ∙ c.loop-k.invariant.2,
    )

pub returns-else-k-texts-clause-least : goal.returns-else-k-texts-clause-least
returns-else-k-texts-clause-least c =
    let T = c.args.names.now in
    let fulls = c.args.fulls.now in
    let index = c.args.index.now in
    let rows = interfaces_rows index 0 (map interface_of c.args.interfaces.now) in
    last_own T fulls index rows (with_texts (drop c.loop-k.k c.args.texts.now) (map module_of (drop c.loop-k.k c.args.modules.now))) c.loop-k.least
    (KeepsLeast c.args.least.now (OwnFails T fulls index rows (with_texts c.args.texts.now (map module_of c.args.modules.now))))
    (past_texts c.args.texts.now (map module_of (drop c.loop-k.k c.args.modules.now)) c.loop-k.k c.if-k-texts.false) c.loop-k.invariant.0

pub returns-after-loop-k-clause-least : goal.returns-after-loop-k-clause-least
returns-after-loop-k-clause-least c =
    let T = c.args.names.now in
    let fulls = c.args.fulls.now in
    let index = c.args.index.now in
    let rows = interfaces_rows index 0 (map interface_of c.args.interfaces.now) in
    last_own T fulls index rows (with_texts (drop c.loop-k.k c.args.texts.now) (map module_of (drop c.loop-k.k c.args.modules.now))) c.loop-k.least
    (KeepsLeast c.args.least.now (OwnFails T fulls index rows (with_texts c.args.texts.now (map module_of c.args.modules.now))))
    (past_trees module_of (drop c.loop-k.k c.args.texts.now) c.args.modules.now c.loop-k.k c.loop-k-test.false) c.loop-k.invariant.0
