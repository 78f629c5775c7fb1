-- Which of its written methods are a type's own.
use Rattle.std.specs.Prelude.{ℕ, List, map, Bool, false, not, ◌||◌, Option, Some, None, is_some}
use Rattle.std.specs.List.{filter, list_any}
use Rattle.th_type.specs.Types.{TypeExpr}
use Rattle.th_type.specs.Signatures.{Signature}
use Rattle.th_type.specs.Conforming.{same_gives}
use Rattle.th_type.specs.Declarations.{DeclaredType, supers_of, sigs_of}
use Rattle.th_type.specs.Methods.{method_at}
use Rattle.th_shape.specs.Lines.{result_of}

-- whether a supertype's signature has another result
abbrev pub is_other : Signature → Option Signature → Bool
is_other s None = false
is_other s (Some t) = not (same_gives (result_of t) (result_of s))

-- whether a written method is in no supertype, or its result differs from that in some declared supertype
abbrev pub is_own : List DeclaredType → List TypeExpr → Signature → Bool
is_own D supers s = not (list_any (λ t. is_some (method_at D t s.method)) supers) || list_any (λ t. is_other s (method_at D t s.method)) supers

-- the own methods of a type, in the order of the text
abbrev pub own_methods : List DeclaredType → ℕ → List ℕ
own_methods D n = map (λ s. s.method) (filter (is_own D (supers_of D n)) (sigs_of D n))
