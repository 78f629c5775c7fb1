-- The rules on the definitions of classes and routines in a module.
use Rattle.std.specs.Prelude.{◌≡◌, ℕ, zero, suc, Bool, true, false, not, ◌&&◌, ◌⊎◌, List, map, length, Option, Some, None, is_some}
use Rattle.th_tree.specs.Trees.{SigSyn, MethodSyn, ClassSyn}
use Rattle.th_type.specs.declared.place.Failure.{Failure}
use Rattle.th_type.specs.Failures.{place, failure}
use Rattle.th_type.specs.Lists.{IsIn, is_in}
use Rattle.th_type.specs.Types.{TypeExpr, subst_ty}
use Rattle.th_type.specs.Signatures.{Signature, subst_sig, find_sig}
use Rattle.th_type.specs.Subtypes.{head_of, args_of}
use Rattle.th_type.specs.Methods.{method_at, Conforms, ExactlyConforms, ResultFits, ResultIsParam}
use Rattle.th_rules.specs.Context.{ClassInfo, Head, class_head, routine_head, Context}
use Rattle.th_rules.specs.Classes.{class_named, class_sig, super_sig}

-- two classes have one head, the same hidden methods in order, and the same initializer
pub record SameClass (c d : ClassInfo) : Type 0 where
  pub params : c.params ≡ d.params
  pub of : c.of ≡ d.of
  pub inherits : c.inherits ≡ d.inherits
  pub clauses : c.clauses ≡ d.clauses
  pub init : c.init ≡ d.init
  pub hidden : c.hidden ≡ d.hidden

-- the definition of an item is what its declaration says
abbrev pub SameHead : Head → Head → Type 0
SameHead (class_head c) (class_head d) = SameClass c d
SameHead (routine_head r) (routine_head s) = r ≡ s
SameHead _ _ = ⊥

-- a class inherits d as this type
abbrev pub InheritsAs : Context → ClassInfo → TypeExpr → ClassInfo → Type 0
InheritsAs C c t d = (c.inherits ≡ Some t) × (class_named C.items (head_of t) ≡ Some d)

-- d is the class that c inherits, or stands k classes above that one; it is inherited with these arguments
abbrev pub AboveIn : ℕ → Context → ClassInfo → List TypeExpr → ClassInfo → Type 0
AboveIn zero C c args d = (t : TypeExpr) × InheritsAs C c t d × (args ≡ args_of t)
AboveIn (suc k) C c args d = (us : List TypeExpr) × (e : ClassInfo) × (t : TypeExpr) × AboveIn k C c us e × InheritsAs C e t d × (args ≡ map (subst_ty us) (args_of t))

-- d is a class above c, inherited with these arguments
abbrev pub Above : Context → ClassInfo → List TypeExpr → ClassInfo → Type 0
Above C c args d = (k : ℕ) × AboveIn k C c args d

abbrev pub above_of : Context → Option TypeExpr → Option ClassInfo
above_of C None = None
above_of C (Some t) = class_named C.items (head_of t)

-- the class that a class inherits, where there is one
abbrev pub class_above : Context → ClassInfo → Option ClassInfo
class_above C c = above_of C c.inherits

-- the signature by which a class knows a method is a hidden method's: neither its type nor one of the classes above it has
-- the method in its type before a class introduces it
abbrev pub hidden_up : ℕ → Context → Option ClassInfo → ℕ → Bool
hidden_up zero C c m = true
hidden_up (suc k) C None m = true
hidden_up (suc k) C (Some c) m = not (is_some (method_at C.types c.of m)) && hidden_up k C (class_above C c) m

-- the same of the class that a class inherits
abbrev pub is_hidden_above : Context → ClassInfo → ℕ → Bool
is_hidden_above C c m = hidden_up (suc (length C.items)) C (class_above C c) m

-- a name of a declared type
abbrev pub IsNamed : TypeExpr → ℕ → Type 0
IsNamed t n = head_of t ≡ Some n

-- the signature s of an inherited method fits that of the type of a class, over the class's parameters
pub record InheritedFits (C : Context) (c : ClassInfo) (n : ℕ) (s t : Signature) : Type 0 where
  pub conforms : Conforms C.types n s t
  pub exactly : is_hidden_above C c t.method ≡ true → ExactlyConforms s t
  pub fixed : ResultIsParam C.types n t.method → (args : List TypeExpr) (d : ClassInfo) (r : Signature) → Above C c args d → class_sig C d t.method ≡ Some r → (subst_sig args r).gives ≡ t.gives

-- a method of the class's type is neither defined in the class, by one of these names, nor had by the class above it as a
-- body that fits
abbrev pub Lacks : Context → (ℕ → Bool) → ClassInfo → List ℕ → Type 0
Lacks C has_body c own = (n : ℕ) × (t : Signature) × IsNamed c.of n × (method_at C.types c.of t.method ≡ Some t) × (is_in t.method own ≡ false)
    × ((has_body t.method ≡ false) ⊎ ((s : Signature) × (super_sig C c t.method ≡ Some s) × (¬ InheritedFits C c n s t)))

-- what an own method must conform to: the signature of its name in the class's type or in the type of a class above it, with
-- the number of that type
abbrev pub Overridden : Context → ClassInfo → ℕ → ℕ → Signature → Type 0
Overridden C c m n t = (IsNamed c.of n × (method_at C.types c.of m ≡ Some t))
    ⊎ ((args : List TypeExpr) × (d : ClassInfo) × (u : Signature) × Above C c args d × IsNamed d.of n × (method_at C.types d.of m ≡ Some u) × (t ≡ subst_sig args u))

-- the signature of its name among the hidden methods of a class above it
abbrev pub OverriddenHidden : Context → ClassInfo → ℕ → Signature → Type 0
OverriddenHidden C c m t = (args : List TypeExpr) × (d : ClassInfo) × (u : Signature) × Above C c args d × (find_sig d.hidden m ≡ Some u) × (t ≡ subst_sig args u)

-- an own method fits what it overrides, and so does the result by which the class knows it
pub record OwnFits (C : Context) (c : ClassInfo) (s : Signature) : Type 0 where
  pub types : (n : ℕ) (t : Signature) → Overridden C c s.method n t → Conforms C.types n s t
  pub hidden : (t : Signature) → OverriddenHidden C c s.method t → ExactlyConforms s t
  pub results : (r : Signature) → class_sig C c s.method ≡ Some r → ((n : ℕ) (t : Signature) → Overridden C c s.method n t → ResultFits C.types r.gives t.gives)
      × ((t : Signature) → OverriddenHidden C c s.method t → ResultFits C.types r.gives t.gives)

-- f is a failure of what a class defines and inherits: a method of its type that is neither defined nor inherited as fits; or
-- an own method that does not fit what it overrides, where the methods' signatures are these
abbrev pub OverridesFail : Context → (ℕ → Bool) → (SigSyn → Signature) → ClassInfo → ClassSyn → Failure → Type 0
OverridesFail C has_body sig c s f =
    (Lacks C has_body c (map (λ m. m.sig.name.name) s.methods) × (f ≡ failure 13 (place C.text s.head.name.at)))
    ⊎ ((m : MethodSyn) × IsIn m s.methods × (¬ OwnFits C c (sig m.sig)) × (f ≡ failure 14 (place C.text m.sig.name.at)))
