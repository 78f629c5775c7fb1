use Rattle.std.proofs.Common.{sym, subst, ap, ◌∙◌}
use Rattle.th_type.specs.Declarations.{declared_types}
use Rattle.th_type.specs.Rules.{WellFormed, IsNamed, NoneFails}
use Rattle.th_type.specs.Rows.{rows_of}
use Rattle.th_type.specs.Tables.{defs_of, up_of}
use Rattle.th_type.specs.Ways.{WaysEnd}
use Rattle.th_type.proofs.Ending.{ways_end}
use Rattle.th_type.proofs.Judgement.{named_first, ascended_of, named_second, none_fails, lattice_right}
use Rattle.th_type.proofs.lattice.judged.Goals as goal

pub returns-in-Some-clause-answer : goal.returns-in-Some-clause-answer
returns-in-Some-clause-answer c =
    subst (λ ds. IsNamed ds c.args.found c.in-Some.failure) c.in_ok-defs.ensures
    (named_first (defs_of c.in_ok-defs.defs) c.args.found c.judge_supertypes.new.found c.in_ok-ancestors.ancestors c.in-Some.failure c.in_ok-ancestors.ensures c.in-Some.is)

pub tabulate-requires-clause-ascended : goal.tabulate-requires-clause-ascended
tabulate-requires-clause-ascended c =
    ascended_of (defs_of c.in_ok-defs.defs) c.args.found c.judge_supertypes.new.found c.in_ok-ancestors.ancestors c.in_ok-ancestors.ensures c.in-None.is

pub returns-in-Some-least-clause-answer : goal.returns-in-Some-least-clause-answer
returns-in-Some-least-clause-answer c =
    subst (λ ds. IsNamed ds c.args.found c.in-Some-least.failure) c.in_ok-defs.ensures
    (named_second (defs_of c.in_ok-defs.defs) (subst (λ ds. WellFormed ds) (sym c.in_ok-defs.ensures) c.requires) c.args.found c.judge_supertypes.new.found c.judge_methods.new.found c.in_ok-ancestors.ancestors c.in_ok-methods.methods.map.entries c.in-Some-least.failure
    c.in_ok-ancestors.ensures c.in-None.is c.in_ok-methods.ensures c.in_ok-judge_methods.ensures c.in-Some-least.is)

pub invariant_of-result : goal.invariant_of-result
invariant_of-result c =
    lattice_right (defs_of c.in_ok-defs.defs) (subst (λ ds. WellFormed ds) (sym c.in_ok-defs.ensures) c.requires) c.args.found c.judge_supertypes.new.found c.in_ok-ancestors.ancestors c.in_ok-methods.methods.map.entries (rows_of c.in_ok-rows-in-None-least.rows.entries) c.in_ok-heads-in-None-least.heads.items
    c.in_ok-ancestors.ensures c.in-None.is c.in_ok-methods.ensures c.in_ok-rows-in-None-least.ensures c.in_ok-heads-in-None-least.ensures.sorted c.in_ok-heads-in-None-least.ensures.permutation

pub returns-clause-answer : goal.returns-clause-answer
returns-clause-answer c = (
  c.in_ok-rows-in-None-least.ensures ∙ ap declared_types c.in_ok-defs.ensures,
  subst (λ ds. NoneFails ds c.args.found) c.in_ok-defs.ensures
      (none_fails (defs_of c.in_ok-defs.defs) (subst (λ ds. WellFormed ds) (sym c.in_ok-defs.ensures) c.requires) c.args.found c.judge_supertypes.new.found c.judge_methods.new.found c.in_ok-ancestors.ancestors c.in_ok-methods.methods.map.entries
      c.in_ok-ancestors.ensures c.in-None.is c.in_ok-methods.ensures c.in_ok-judge_methods.ensures c.in-None-least.is),
)

pub returns-clause-ends : goal.returns-clause-ends
returns-clause-ends c =
    subst WaysEnd (sym c.in_ok-rows-in-None-least.ensures)
    (ways_end (defs_of c.in_ok-defs.defs) (subst (λ ds. WellFormed ds) (sym c.in_ok-defs.ensures) c.requires) (up_of c.in_ok-ancestors.ancestors)
    (ascended_of (defs_of c.in_ok-defs.defs) c.args.found c.judge_supertypes.new.found c.in_ok-ancestors.ancestors c.in_ok-ancestors.ensures c.in-None.is))
