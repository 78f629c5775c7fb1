-- What a type's tree means in a scope, and what is answered where it means none.
use Rattle.std.specs.Prelude.{◌≡◌, ℕ, List, [], Some, None, Result, Ok, Err}
use Rattle.th_tree.specs.Trees.{TypeSyn}
use Rattle.th_type.specs.declared.ty.Ty.{Ty}
use Rattle.th_type.specs.declared.place.Failure.{Failure}
use Rattle.th_type.specs.Types.{ty_of}
use Rattle.th_type.specs.Failures.{failure, place, IsLeastOf}
use Rattle.th_type.specs.Lists.{IsIn}
use Rattle.th_hier.specs.declared.scope.Scope.{Scope}
use Rattle.th_hier.specs.declared.scope.ResolveError.{ResolveError}
use Rattle.th_hier.specs.declared.scope.ResolveError.TheVariants.{Unknown, Count, Memory}
use Rattle.th_hier.specs.Naming.{Items, Visible, different}
use Rattle.th_hier.specs.Resolve.{resolved_type, type_fails}

-- what can be seen in a scope: type parameters of one name count as one
abbrev pub seen_in : Scope → Visible
seen_in s = record { text = s.text; implements = s.implements; uses = different s.uses; params = different s.params }

-- the failures of a type in a scope, as in the text of number 0
abbrev pub failures_in : Items → Scope → TypeSyn → List Failure
failures_in items s t = type_fails items (seen_in s) 0 t

-- the type means none, and the first byte at which a name or a number of arguments fails is this one, where this rule does
abbrev pub FailsFirstAt : Items → Scope → TypeSyn → ℕ → ℕ → Type 0
FailsFirstAt items s t rule at = (resolved_type items (seen_in s) t ≡ None) × IsLeastOf (λ f. IsIn f (failures_in items s t)) (Some (failure rule (place 0 at)))

-- the answer: the type, where no failure is; or the first byte at which a name means no type or has another number of arguments
abbrev pub Resolves : Items → Scope → TypeSyn → Result Ty ResolveError → Type 0
Resolves items s t (Ok ty) = (resolved_type items (seen_in s) t ≡ Some (ty_of ty)) × (failures_in items s t ≡ [])
Resolves items s t (Err (Unknown at)) = FailsFirstAt items s t 4 at
Resolves items s t (Err (Count at)) = FailsFirstAt items s t 5 at
Resolves items s t (Err Memory) = Unit {0}
