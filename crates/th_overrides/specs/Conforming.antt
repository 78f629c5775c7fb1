-- When signatures conform, in parts.
use Rattle.std.specs.Prelude.{◌≡◌, ℕ, Bool, ◌&&◌, List, Option, Some}
use Rattle.th_type.specs.Lists.{AllIn}
use Rattle.th_type.specs.Types.{same_tys}
use Rattle.th_type.specs.Signatures.{Signature}
use Rattle.th_type.specs.Declarations.{DeclaredType}
use Rattle.th_type.specs.Methods.{Conforms, ExactlyConforms, GivesFits, ResultFits}
use Rattle.th_type.specs.Conforming.{all_in, same_bool}

-- whether all but what they give fits
abbrev pub shape_fits : Signature → Signature → Bool
shape_fits s t = same_bool s.iterator t.iterator && (same_tys s.formals t.formals && all_in s.signals t.signals)

-- s conforms to t where the result of t's method is no type parameter
pub record Loosely (D : List DeclaredType) (s t : Signature) : Type 0 where
  pub iterator : s.iterator ≡ t.iterator
  pub formals : s.formals ≡ t.formals
  pub gives : GivesFits D s.iterator s.gives t.gives
  pub signals : AllIn s.signals t.signals

-- the result by which a class knows a method, where it knows it, fits
abbrev pub KnownFits : List DeclaredType → Option Signature → Signature → Type 0
KnownFits D known t = (r : Signature) → known ≡ Some r → ResultFits D r.gives t.gives

-- an own method, and the result by which its class knows it, fit the signature of a type or that of a hidden method
abbrev pub FitsType : List DeclaredType → Option Signature → Signature → ℕ → Signature → Type 0
FitsType D known s n t = Conforms D n s t × KnownFits D known t

abbrev pub FitsHidden : List DeclaredType → Option Signature → Signature → Signature → Type 0
FitsHidden D known s t = ExactlyConforms s t × KnownFits D known t
