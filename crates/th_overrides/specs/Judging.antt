-- The failures that are found one after another.
use Rattle.std.specs.Prelude.{◌≡◌, ◌⊎◌, List, Option, Some}
use Rattle.th_tree.specs.Trees.{SigSyn, MethodSyn}
use Rattle.th_type.specs.declared.place.Failure.{Failure}
use Rattle.th_type.specs.Failures.{place, failure}
use Rattle.th_type.specs.Lists.{IsIn}
use Rattle.th_type.specs.Signatures.{Signature}
use Rattle.th_rules.specs.Context.{ClassInfo, Context}
use Rattle.th_module_rules.specs.ClassRules.{OwnFits}

-- f was found before, or is one of these failures
abbrev pub FailsToo : Option Failure → (Failure → Type 0) → Failure → Type 0
FailsToo found P f = (found ≡ Some f) ⊎ P f

-- f is the failure of one of these methods, which does not fit what it overrides, where the methods' signatures are these
abbrev pub MethodsFail : Context → (SigSyn → Signature) → ClassInfo → List MethodSyn → Failure → Type 0
MethodsFail C sig c ms f = (m : MethodSyn) × IsIn m ms × (¬ OwnFits C c (sig m.sig)) × (f ≡ failure 14 (place C.text m.sig.name.at))
