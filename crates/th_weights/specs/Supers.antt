-- Declarations of types with arguments.
use Rattle.std.specs.Prelude.{◌≡◌, ℕ, Bool, true, false, List, [], map, Option, Some, None}
use denote.Ref.{Bor}
use Rattle.th_meaning.specs.declared.types.CoreTypeList.{CoreTypeList}
use Rattle.th_meaning.specs.declared.declared.CoreTypeDecl.{CoreTypeDecl}
use Rattle.th_meaning.specs.Trees.{TypeTree}
use Rattle.th_meaning.specs.View.{type_of, types_of}
use Rattle.th_meaning.specs.Program.{Program}
use Rattle.th_meaning.specs.Weights.{substituted, type_list, first_reaches}
use Rattle.th_weights.specs.declared.types.Reach.{Reach}
use Rattle.th_weights.specs.declared.types.Reach.TheVariants.{Here, Above, Nowhere}

-- a declaration with its arguments has these supertypes; where there is none there are none
abbrev pub Declared : Option (Bor CoreTypeDecl × Bor CoreTypeList) → List TypeTree → Type 0
Declared None ts = ts ≡ []
Declared (Some d) ts = ts ≡ map (substituted (type_list (types_of d.1.now))) (map type_of d.0.now.supertypes.items)

-- whether what was found leads to a type, over at most n steps more
abbrev pub reached : Program → TypeTree → ℕ → Reach → Bool
reached p u n Here = true
reached p u n (Above t) = first_reaches n p u (type_of t)
reached p u n Nowhere = false
