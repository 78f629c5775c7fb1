-- What an own method fits, put together.
use Rattle.std.proofs.Common.{◌≡◌, ◌↔◌, ◌∙◌, ℕ, Bool, true, false, List, Option, Some, None, refl, sym, subst, inl, inr, IsTrue}
use Rattle.th_type.specs.declared.ty.Ty.{Ty}
use Rattle.th_type.specs.declared.ty.Ty.TheVariants as types
use Rattle.th_type.specs.declared.ty.TyList.{TyList}
use Rattle.th_type.specs.Types.{TypeExpr, ty_of}
use Rattle.th_type.specs.Signatures.{Signature, find_sig, subst_sig}
use Rattle.th_type.specs.Declarations.{DeclaredType}
use Rattle.th_type.specs.Methods.{method_at}
use Rattle.th_rules.specs.Context.{ClassInfo, Context}
use Rattle.th_rules.specs.Classes.{class_sig}
use Rattle.th_module_rules.specs.ClassRules.{IsNamed, Overridden, OverriddenHidden, OwnFits}
use Rattle.th_overrides.specs.Chain.{AboveClass, IsChain, above_class}
use Rattle.th_overrides.specs.Conforming.{FitsHidden, FitsType}
use Rattle.th_overrides.specs.Overriding.{FitsAll, FitsAmong, FitsOf, FitsOwn}
use Rattle.th_overrides.proofs.Chains.{above_in, in_above}
use Rattle.th_overrides.proofs.Deciding.{alike, holds, left_decides, refutes}

some_is : {A : Type 0} (a b : A) → Some a ≡ Some b → a ≡ b
some_is a b h = cc

none_some : {A : Type 0} (a : A) → None ≡ Some a → ⊥
none_some a h = cc

-- a type that is no declared one has no number
pub no_name : (t : Ty) → ((n : ℕ) (args : TyList) → t ≡ types.Named n args → ⊥) → (n : ℕ) → IsNamed (ty_of t) n → ⊥
no_name types.Int h n e = none_some n e
no_name types.Bool h n e = none_some n e
no_name types.Text h n e = none_some n e
no_name (types.Array' i t) h n e = none_some n e
no_name (types.Named m args) h n e = h m args refl
no_name (types.Param k) h n e = none_some n e

-- what is found of the own type, or not
pub own_unnamed : (D : List DeclaredType) (known : Option Signature) (s : Signature) (t : Ty) → ((n : ℕ) (args : TyList) → t ≡ types.Named n args → ⊥) → IsTrue true ↔ FitsOwn D known s (ty_of t)
own_unnamed D known s t h = holds (λ n u e a. absurd (no_name t h n e))

pub own_none : (D : List DeclaredType) (known : Option Signature) (s : Signature) (of : TypeExpr) → None ≡ method_at D of s.method → IsTrue true ↔ FitsOwn D known s of
own_none D known s of h = holds (λ n t e a. absurd (none_some t (h ∙ a)))

pub own_some : (D : List DeclaredType) (known : Option Signature) (s : Signature) (of : TypeExpr) (n : ℕ) (t : Signature) (r : Bool) → IsNamed of n → Some t ≡ method_at D of s.method → IsTrue r ↔ FitsType D known s n t
    → IsTrue r ↔ FitsOwn D known s of
own_some D known s of n t r e h d =
    alike r d (λ f m u g a. subst (λ (k : ℕ). FitsType D known s k u) (some_is n m (sym e ∙ g)) (subst (FitsType D known s n) (some_is t u (h ∙ a)) f)) (λ f. f n t e (sym h))

-- the same of the type of a class above
pub of_unnamed : (D : List DeclaredType) (known : Option Signature) (s : Signature) (t : Ty) (args : List TypeExpr) → ((n : ℕ) (us : TyList) → t ≡ types.Named n us → ⊥) → IsTrue true ↔ FitsOf D known s (ty_of t) args
of_unnamed D known s t args h = holds (λ n u e a. absurd (no_name t h n e))

pub of_none : (D : List DeclaredType) (known : Option Signature) (s : Signature) (of : TypeExpr) (args : List TypeExpr) → None ≡ method_at D of s.method → IsTrue true ↔ FitsOf D known s of args
of_none D known s of args h = holds (λ n t e a. absurd (none_some t (h ∙ a)))

pub of_some : (D : List DeclaredType) (known : Option Signature) (s : Signature) (of : TypeExpr) (args : List TypeExpr) (n : ℕ) (t u : Signature) (r : Bool) → IsNamed of n → Some t ≡ method_at D of s.method → u ≡ subst_sig args t
    → IsTrue r ↔ FitsType D known s n u → IsTrue r ↔ FitsOf D known s of args
of_some D known s of args n t u r e h i d =
    alike r d
    (λ f m x g a. subst (λ (k : ℕ). FitsType D known s k (subst_sig args x)) (some_is n m (sym e ∙ g)) (subst (λ (y : Signature). FitsType D known s n (subst_sig args y)) (some_is t x (h ∙ a)) (subst (FitsType D known s n) i f)))
    (λ f. subst (FitsType D known s n) (sym i) (f n t e (sym h)))

-- the same of hidden methods
pub among_none : (D : List DeclaredType) (known : Option Signature) (s : Signature) (hidden : List Signature) (args : List TypeExpr) → None ≡ find_sig hidden s.method → IsTrue true ↔ FitsAmong D known s hidden args
among_none D known s hidden args h = holds (λ u a. absurd (none_some u (h ∙ a)))

pub among_some : (D : List DeclaredType) (known : Option Signature) (s : Signature) (hidden : List Signature) (args : List TypeExpr) (t u : Signature) (r : Bool) → Some t ≡ find_sig hidden s.method → u ≡ subst_sig args t
    → IsTrue r ↔ FitsHidden D known s u → IsTrue r ↔ FitsAmong D known s hidden args
among_some D known s hidden args t u r h i d =
    alike r d (λ f x a. subst (λ (y : Signature). FitsHidden D known s (subst_sig args y)) (some_is t x (h ∙ a)) (subst (FitsHidden D known s) i f)) (λ f. subst (FitsHidden D known s) (sym i) (f t (sym h)))

-- an own method fits exactly where it fits all that there is of its name
module _ (C : Context) (c : ClassInfo) (s : Signature) (hs : List AboveClass) (chain : IsChain C.items c hs) where
  abbrev known : Option Signature
  known = class_sig C c s.method

  own_to : FitsOwn C.types known s c.of → FitsAll C.types known s hs → OwnFits C c s
  own_to own all = record {
    types = λ n t o. (overridden n t o).0;
    hidden = λ t o. (overridden_hidden t o).0;
    results = λ r e. (λ n t o. (overridden n t o).1 r e, λ t o. (overridden_hidden t o).1 r e);
  }
    where
      overridden : (n : ℕ) (t : Signature) → Overridden C c s.method n t → FitsType C.types (class_sig C c s.method) s n t
      overridden n t (inl (named, at)) = own n t named at
      overridden n t (inr (args, d, u, up, named, at, e)) =
          subst (FitsType C.types (class_sig C c s.method) s n) (sym e) ((all (above_class d args) (above_in C c hs args d chain up)).0 n u named at)

      overridden_hidden : (t : Signature) → OverriddenHidden C c s.method t → FitsHidden C.types (class_sig C c s.method) s t
      overridden_hidden t (args, d, u, up, at, e) =
          subst (FitsHidden C.types (class_sig C c s.method) s) (sym e) ((all (above_class d args) (above_in C c hs args d chain up)).1 u at)

  own_from : OwnFits C c s → FitsOwn C.types known s c.of
  own_from f n t named at = (f.types n t (inl (named, at)), λ r e. (f.results r e).0 n t (inl (named, at)))

  all_from : OwnFits C c s → FitsAll C.types known s hs
  all_from f a m =
      let up = in_above C c hs a chain m in (
        λ n u named at. (f.types n (subst_sig a.args u) (inr (a.args, a.class, u, up, named, at, refl)), λ r e. (f.results r e).0 n (subst_sig a.args u) (inr (a.args, a.class, u, up, named, at, refl))),
        λ u at. (f.hidden (subst_sig a.args u) (a.args, a.class, u, up, at, refl), λ r e. (f.results r e).1 (subst_sig a.args u) (a.args, a.class, u, up, at, refl)),
      )

  pub own_refuted : (r : Bool) → IsTrue r ↔ FitsOwn C.types known s c.of → r ≡ false → IsTrue false ↔ OwnFits C c s
  own_refuted r d e = refutes r d e own_from

  pub own_left : (r g : Bool) → IsTrue r ↔ FitsOwn C.types known s c.of → r ≡ true → IsTrue g ↔ FitsAll C.types known s hs → IsTrue g ↔ OwnFits C c s
  own_left r g d e f = left_decides r g d e f own_to all_from
