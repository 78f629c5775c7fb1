-- The walk over types, from the first to the last.
use Rattle.std.proofs.Common.{◌≡◌, ℕ, Option, Some, None, refl, sym, ◌∙◌}
use Rattle.th_type.specs.declared.place.Failure.{Failure}
use Rattle.th_type.specs.Failures.{lowest}
use Rattle.th_type.specs.Types.{TypeExpr, TypeExprs, no_ty}
use Rattle.th_tree.specs.Trees.{TypeSyns, no_type, more_types}
use Rattle.th_hier.specs.Naming.{Items, Visible}
use Rattle.th_hier.specs.Resolve.{before_types, resolved_type, resolved_types, type_fails, types_fails}
use Rattle.th_hier.specs.Views.{onto_opt}
use Rattle.th_hier.proofs.Failing.{lowest_append}

-- the least of a failure and of those of types
abbrev pub least_along : Items → Visible → ℕ → TypeSyns → Option Failure → Option Failure
least_along items v text no_type o = o
least_along items v text (more_types t ts) o = least_along items v text ts (lowest o (type_fails items v text t))

pub least_is : (items : Items) (v : Visible) (text : ℕ) (ts : TypeSyns) (o : Option Failure) → least_along items v text ts o ≡ lowest o (types_fails items v text ts)
least_is items v text no_type o = refl
least_is items v text (more_types t ts) o =
    least_is items v text ts (lowest o (type_fails items v text t)) ∙ sym (lowest_append o (type_fails items v text t) (types_fails items v text ts))

-- what types mean after others, which are the other way round
abbrev pub means_along : Items → Visible → TypeSyns → Option TypeExprs → Option TypeExprs
means_along items v no_type done = onto_opt done (Some no_ty)
means_along items v (more_types t ts) done = means_along items v ts (before_types (resolved_type items v t) done)

-- a further type goes before those so far, which are the other way round
back_put : (t : Option TypeExpr) (done rest : Option TypeExprs) → onto_opt (before_types t done) rest ≡ onto_opt done (before_types t rest)
back_put None None rest = refl
back_put None (Some d) rest = refl
back_put (Some t) None rest = refl
back_put (Some t) (Some d) None = refl
back_put (Some t) (Some d) (Some r) = refl

means_after : (items : Items) (v : Visible) (ts : TypeSyns) (done : Option TypeExprs) → means_along items v ts done ≡ onto_opt done (resolved_types items v ts)
means_after items v no_type back = refl
means_after items v (more_types t ts) back =
    means_after items v ts (before_types (resolved_type items v t) back) ∙ back_put (resolved_type items v t) back (resolved_types items v ts)

from_nothing : (rest : Option TypeExprs) → onto_opt (Some no_ty) rest ≡ rest
from_nothing None = refl
from_nothing (Some r) = refl

pub means_is : (items : Items) (v : Visible) (ts : TypeSyns) → means_along items v ts (Some no_ty) ≡ resolved_types items v ts
means_is items v ts = means_after items v ts (Some no_ty) ∙ from_nothing (resolved_types items v ts)
