use Rattle.std.proofs.Common.{ap, ◌∙◌, map, [], subst, ℕ, List}
use Rattle.th_type.specs.Lists.{IsIn}
use Rattle.th_type.specs.Declarations.{named_decl, super_of}
use Rattle.th_type.specs.Failures.{lowest}
use Rattle.th_type.specs.Rules.{list_failures}
use Rattle.th_type.specs.Tables.{defs_of, above_of}
use Rattle.th_type.proofs.Judging.{judged_some, judged_none}
use Rattle.th_type.proofs.judge.judge_type.Goals as goal

pub returns-in-Some-clause-judged : goal.returns-in-Some-clause-judged
returns-in-Some-clause-judged c =
    judged_some (defs_of c.args.defs.now) (named_decl c.args.name c.args.def.now) c.args.found.now c.judge_list.new.found c.demand.new.found (above_of c.climb.new.pool c.in-Some.above) c.in_ok-is_cyclic.is_cyclic
    (c.in_ok-judge_list.ensures ∙ ap (λ ms. lowest c.args.found.now (list_failures c.args.def.now.place.text [] (map super_of ms))) c.deref.ensures.value)
    c.demand.ensures c.in_ok-is_cyclic.ensures (rw c.in-Some.is at c.in_ok-above.ensures.climbed)

pub returns-in-None-clause-judged : goal.returns-in-None-clause-judged
returns-in-None-clause-judged c =
    judged_none (defs_of c.args.defs.now) (named_decl c.args.name c.args.def.now) c.args.found.now c.judge_list.new.found c.demand-in-None.new.found (above_of c.climb.new.pool c.new.result)
    (c.in_ok-judge_list.ensures ∙ ap (λ ms. lowest c.args.found.now (list_failures c.args.def.now.place.text [] (map super_of ms))) c.deref.ensures.value)
    c.demand-in-None.ensures (rw c.in-None.is at c.in_ok-above.ensures.climbed)

pub returns-in-None-clause-held : goal.returns-in-None-clause-held
returns-in-None-clause-held c e i = absurd (subst (λ (es : List (ℕ × ℕ)). IsIn e es) c.new.ensures i)
