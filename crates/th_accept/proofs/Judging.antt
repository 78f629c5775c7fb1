-- The stages of the rules, and which failure is named.
use Rattle.std.proofs.Common.{inl, inr, Ok, Err, Some, None}
use Rattle.th_type.specs.Failures.{IsLeastOf}
use Rattle.th_type.specs.declared.place.Failure.{Failure}
use Rattle.th_module_rules.specs.Stages.{FailsFirst, FailsFourth, FailsThird, IsNamed, NothingFails, Program, RefusedBy, RulesHold}
use Rattle.th_program.specs.declared.error.RuleError.{RuleError}
use Rattle.th_program.specs.declared.error.RuleError.TheVariants.{Rule, Memory}
use Rattle.th_outlines.specs.Stages.{IsAnswer, outline_stages}
use Rattle.th_bodies.specs.Bodies.{IsBodiesAnswer}
use Rattle.th_accept.specs.Stages.{FailsIn, IsJudged, rule_refusal}
use Rattle.th_accept.specs.declared.rules.Judged.{Judged}

-- a failure that is named among the first three stages is named among all four
pub named_before : (p : Program) (f : Failure) → IsNamed (outline_stages p) f → RefusedBy p f
named_before p f h = elim h [ inl a ↦ inl a | inr b ↦ inr (b.0, elim b.1 [ inl c ↦ inl c | inr d ↦ inr (d.0, elim d.1 [ inl e ↦ inl e | inr g ↦ absurd g.1 ]) ]) ]

-- the least failure of the fourth stage is named where nothing fails before
pub named_last : (p : Program) (f : Failure) → NothingFails (outline_stages p) → IsLeastOf (FailsFourth p) (Some f) → RefusedBy p f
named_last p f h k = inr (h.0, inr (h.1.0, inr (h.1.1.0, inl k)))

-- every rule holds where nothing fails in the first three stages nor in the fourth
pub rules_hold : (p : Program) → NothingFails (outline_stages p) → IsLeastOf (FailsFourth p) None → RulesHold p
rules_hold p h k = (h.0, (h.1.0, (h.1.1.0, (k, tt))))

pub third_holds : (p : Program) → NothingFails (outline_stages p) → IsLeastOf (FailsThird p) None
third_holds p h = h.1.1.0

pub outlines_fail : (p : Program) (e : RuleError) → IsAnswer p (outline_stages p) (Err e) → IsJudged p (Err e)
outlines_fail p (Rule f) h = named_before p f h
outlines_fail p Memory h = tt

pub bodies_fail : (p : Program) (e : RuleError) → NothingFails (outline_stages p) → IsBodiesAnswer p (Err e) → IsJudged p (Err e)
bodies_fail p (Rule f) h k = named_last p f h k
bodies_fail p Memory h k = tt

-- why texts are refused in which a rule fails
pub judged_fails : (p : Program) (e : RuleError) → IsJudged p (Err e) → FailsIn p (rule_refusal e)
judged_fails p (Rule f) h = h
judged_fails p Memory h = tt

-- where every rule holds, nothing fails in the first stage
pub first_holds : (p : Program) (j : Judged) → IsJudged p (Ok j) → IsLeastOf (FailsFirst p) None
first_holds p j h = h.0.0
