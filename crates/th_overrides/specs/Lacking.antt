-- What a class lacks of its type.
use Rattle.std.specs.Prelude.{◌≡◌, ℕ, Bool, false, ◌⊎◌, List, Some}
use Rattle.th_type.specs.Lists.{IsIn, is_in}
use Rattle.th_type.specs.Types.{TypeExpr}
use Rattle.th_type.specs.Signatures.{Signature, subst_sig}
use Rattle.th_rules.specs.Context.{ClassInfo, Context}
use Rattle.th_rules.specs.Classes.{class_sig, super_sig}
use Rattle.th_module_rules.specs.ClassRules.{InheritedFits}
use Rattle.th_overrides.specs.Chain.{AboveClass}

-- each class above that has the method of t gives by it what t gives
abbrev pub GivesSame : Context → Signature → AboveClass → Type 0
GivesSame C t a = (r : Signature) → class_sig C a.class t.method ≡ Some r → (subst_sig a.args r).gives ≡ t.gives

abbrev pub AllGiveSame : Context → Signature → List AboveClass → Type 0
AllGiveSame C t hs = (a : AboveClass) → IsIn a hs → GivesSame C t a

-- the method of t is had by the class above as a body that does not fit t
abbrev pub Unfit : Context → ClassInfo → ℕ → Signature → Type 0
Unfit C c n t = (s : Signature) × (super_sig C c t.method ≡ Some s) × (¬ InheritedFits C c n s t)

-- the method of t is neither defined in a class for the type n, by one of these names, nor had by the class above as a body that fits
abbrev pub LacksOne : Context → (ℕ → Bool) → ClassInfo → List ℕ → ℕ → Signature → Type 0
LacksOne C has_body c own n t = (is_in t.method own ≡ false) × ((has_body t.method ≡ false) ⊎ Unfit C c n t)

-- one of the methods is lacking, with arguments in place of parameters
abbrev pub LacksAmong : Context → (ℕ → Bool) → ClassInfo → List ℕ → ℕ → List TypeExpr → List Signature → Type 0
LacksAmong C has_body c own n args us = (u : Signature) × IsIn u us × LacksOne C has_body c own n (subst_sig args u)
