-- Conforming, put together from its tests.
use Rattle.std.proofs.Common.{◌≡◌, ◌↔◌, ◌∙◌, ℕ, Bool, true, false, not, ◌&&◌, List, Option, Some, None, refl, sym, subst, IsTrue, true≢false}
use Rattle.th_type.specs.Types.{TypeExpr, same_tys}
use Rattle.th_type.specs.Signatures.{Signature}
use Rattle.th_type.specs.Declarations.{DeclaredType}
use Rattle.th_type.specs.Lists.{AllIn}
use Rattle.th_type.specs.Methods.{Conforms, GivesFits, ResultFits, ResultIsParam}
use Rattle.th_type.specs.Conforming.{all_in, same_bool, same_gives}
use Rattle.th_type.proofs.Same.{both, sames_equal, sames_self}
use Rattle.th_type.proofs.Exact.{all_in_from, all_in_to, bool_from, bool_to, both_true, gives_from, gives_to}
use Rattle.th_overrides.specs.Conforming.{KnownFits, Loosely, shape_fits}
use Rattle.th_overrides.proofs.Deciding.{holds, left_decides, not_decides, refutes}

-- what all but the results must be
pub record Shape (s t : Signature) : Type 0 where
  pub iterator : s.iterator ≡ t.iterator
  pub formals : s.formals ≡ t.formals
  pub signals : AllIn s.signals t.signals

shape_to : (s t : Signature) → shape_fits s t ≡ true → Shape s t
shape_to s t h =
    let p = both (same_bool s.iterator t.iterator) (same_tys s.formals t.formals && all_in s.signals t.signals) h in
    let q = both (same_tys s.formals t.formals) (all_in s.signals t.signals) p.1 in
    record { iterator = bool_to s.iterator t.iterator p.0; formals = sames_equal s.formals t.formals q.0; signals = all_in_to s.signals t.signals q.1 }

shape_from : (s t : Signature) → Shape s t → shape_fits s t ≡ true
shape_from s t h =
    both_true (same_bool s.iterator t.iterator) (same_tys s.formals t.formals && all_in s.signals t.signals) (bool_from s.iterator t.iterator h.iterator)
    (both_true (same_tys s.formals t.formals) (all_in s.signals t.signals) (subst (λ fs. same_tys s.formals fs ≡ true) h.formals (sames_self s.formals)) (all_in_from s.signals t.signals h.signals))

pub shape_decides : (s t : Signature) (r : Bool) → r ≡ shape_fits s t → IsTrue r ↔ Shape s t
shape_decides s t r e = (λ h. shape_to s t (sym e ∙ h), λ h. e ∙ shape_from s t h)

pub gives_decide : (s t : Option TypeExpr) (r : Bool) → r ≡ same_gives s t → IsTrue r ↔ (s ≡ t)
gives_decide s t r e = (λ h. gives_to s t (sym e ∙ h), λ h. e ∙ gives_from s t h)

-- where the shapes do not fit nothing does, and else what they give decides
pub shape_refutes : (D : List DeclaredType) (s t : Signature) (r : Bool) → r ≡ shape_fits s t → r ≡ false → IsTrue false ↔ Loosely D s t
shape_refutes D s t r e f = refutes r (shape_decides s t r e) f (λ l. record { iterator = l.iterator; formals = l.formals; signals = l.signals })

pub shape_left : (D : List DeclaredType) (s t : Signature) (r g : Bool) → r ≡ shape_fits s t → r ≡ true → IsTrue g ↔ GivesFits D s.iterator s.gives t.gives → IsTrue g ↔ Loosely D s t
shape_left D s t r g e f d =
    left_decides r g (shape_decides s t r e) f d (λ x y. record { iterator = x.iterator; formals = x.formals; gives = y; signals = x.signals }) (λ l. l.gives)

loosely : (D : List DeclaredType) (n : ℕ) (s t : Signature) → Conforms D n s t → Loosely D s t
loosely D n s t c = record { iterator = c.iterator; formals = c.formals; gives = c.gives; signals = c.signals }

conforms_by : (D : List DeclaredType) (n : ℕ) (s t : Signature) → Loosely D s t → (ResultIsParam D n t.method → s.gives ≡ t.gives) → Conforms D n s t
conforms_by D n s t l f = record { iterator = l.iterator; formals = l.formals; gives = l.gives; fixed = f; signals = l.signals }

-- conforming where it fails loosely, where both give the same, and else by whether the result is a type parameter
pub conforms_not : (D : List DeclaredType) (n : ℕ) (s t : Signature) (r : Bool) → IsTrue r ↔ Loosely D s t → r ≡ false → IsTrue false ↔ Conforms D n s t
conforms_not D n s t r d f = refutes r d f (loosely D n s t)

pub conforms_same : (D : List DeclaredType) (n : ℕ) (s t : Signature) (r g : Bool) → IsTrue r ↔ Loosely D s t → r ≡ true → g ≡ same_gives s.gives t.gives → g ≡ true → IsTrue true ↔ Conforms D n s t
conforms_same D n s t r g d e h k = holds (conforms_by D n s t (d.0 e) (λ p. gives_to s.gives t.gives (sym h ∙ k)))

pub conforms_fixed : (D : List DeclaredType) (n : ℕ) (s t : Signature) (r g x : Bool) → IsTrue r ↔ Loosely D s t → r ≡ true → g ≡ same_gives s.gives t.gives → g ≡ false → IsTrue x ↔ ResultIsParam D n t.method
    → IsTrue (not x) ↔ Conforms D n s t
conforms_fixed D n s t r g x d e h k f =
    not_decides x f (λ none. conforms_by D n s t (d.0 e) (λ p. absurd (none p))) (λ c p. true≢false (sym (h ∙ gives_from s.gives t.gives (c.fixed p)) ∙ k))

-- a result that no class knows fits
pub known_none : (D : List DeclaredType) (t : Signature) → IsTrue true ↔ KnownFits D None t
known_none D t = holds (λ r e. absurd (none_some r e))
  where
    none_some : (r : Signature) → None ≡ Some r → ⊥
    none_some r e = cc

some_is : (a b : Signature) → Some a ≡ Some b → a ≡ b
some_is a b h = cc

pub known_some : (D : List DeclaredType) (k t : Signature) (r : Bool) → IsTrue r ↔ ResultFits D k.gives t.gives → IsTrue r ↔ KnownFits D (Some k) t
known_some D k t r d = (λ h x e. subst (λ (y : Signature). ResultFits D y.gives t.gives) (some_is k x e) (d.0 h), λ f. d.1 (f k refl))
