-- The answer of the stages before that of bodies, from those in which the hierarchy is judged and the third.
use Rattle.std.proofs.Common.{Some, None, inl, inr}
use Rattle.std.specs.Prelude.{Ok, Err}
use Rattle.th_type.specs.declared.place.Failure.{Failure}
use Rattle.th_type.specs.Failures.{IsLeastOf}
use Rattle.th_hier.specs.Hierarchies.{TypeHierarchy}
use Rattle.th_module_rules.specs.Stages.{Program, FailsThird, IsNamed}
use Rattle.th_program.specs.declared.error.RuleError.{RuleError}
use Rattle.th_program.specs.declared.error.RuleError.TheVariants.{Rule, Memory}
use Rattle.th_outlines.specs.Stages.{hierarchy_stages, outline_stages, IsAnswer}

-- nothing fails in the third stage either
pub third_none : (p : Program) (h : TypeHierarchy) → IsAnswer p (hierarchy_stages p) (Ok h) → IsLeastOf (FailsThird p) None → IsAnswer p (outline_stages p) (Ok h)
third_none p h a l = (a.0, (a.1.0, (a.1.1.0, (l, tt))))

-- something fails in the third stage first
pub third_named : (p : Program) (h : TypeHierarchy) (f : Failure) → IsAnswer p (hierarchy_stages p) (Ok h) → IsLeastOf (FailsThird p) (Some f) → IsAnswer p (outline_stages p) (Err (Rule f))
third_named p h f a l = inr (a.1.0, inr (a.1.1.0, inl l))

named_before : (p : Program) (f : Failure) → IsNamed (hierarchy_stages p) f → IsNamed (outline_stages p) f
named_before p f (inl l) = inl l
named_before p f (inr (n, inl l)) = inr (n, inl l)
named_before p f (inr (n, inr (m, never))) = absurd never

-- something fails before the third stage
pub before_third : (p : Program) (e : RuleError) → IsAnswer p (hierarchy_stages p) (Err e) → IsAnswer p (outline_stages p) (Err e)
before_third p (Rule f) n = named_before p f n
before_third p Memory n = tt
