-- What an own method of a class fits.
use Rattle.std.specs.Prelude.{◌≡◌, ℕ, List, Option, Some}
use Rattle.th_type.specs.Lists.{IsIn}
use Rattle.th_type.specs.Types.{TypeExpr}
use Rattle.th_type.specs.Signatures.{Signature, find_sig, subst_sig}
use Rattle.th_type.specs.Declarations.{DeclaredType}
use Rattle.th_type.specs.Methods.{method_at}
use Rattle.th_module_rules.specs.ClassRules.{IsNamed}
use Rattle.th_overrides.specs.Chain.{AboveClass}
use Rattle.th_overrides.specs.Conforming.{FitsHidden, FitsType}

-- an own method fits that of its name in the type of its class
abbrev pub FitsOwn : List DeclaredType → Option Signature → Signature → TypeExpr → Type 0
FitsOwn D known s of = (n : ℕ) (t : Signature) → IsNamed of n → method_at D of s.method ≡ Some t → FitsType D known s n t

-- it fits that of its name in the type of a class above, inherited with these arguments
abbrev pub FitsOf : List DeclaredType → Option Signature → Signature → TypeExpr → List TypeExpr → Type 0
FitsOf D known s of args = (n : ℕ) (u : Signature) → IsNamed of n → method_at D of s.method ≡ Some u → FitsType D known s n (subst_sig args u)

-- it fits that of its name among the hidden methods of a class above
abbrev pub FitsAmong : List DeclaredType → Option Signature → Signature → List Signature → List TypeExpr → Type 0
FitsAmong D known s hidden args = (u : Signature) → find_sig hidden s.method ≡ Some u → FitsHidden D known s (subst_sig args u)

-- it fits what a class above has of its name
abbrev pub FitsAbove : List DeclaredType → Option Signature → Signature → AboveClass → Type 0
FitsAbove D known s a = FitsOf D known s a.class.of a.args × FitsAmong D known s a.class.hidden a.args

-- it fits what the classes above have of its name
abbrev pub FitsAll : List DeclaredType → Option Signature → Signature → List AboveClass → Type 0
FitsAll D known s hs = (a : AboveClass) → IsIn a hs → FitsAbove D known s a
