-- The walk over types, from the first to the last.
use Rattle.std.proofs.Common.{◌≡◌, List, Option, Some, None, refl, sym, ◌∙◌}
use Rattle.th_type.specs.declared.place.Failure.{Failure}
use Rattle.th_type.specs.Failures.{lowest}
use Rattle.th_type.specs.Types.{TypeExpr, TypeExprs, no_ty}
use Rattle.th_tree.specs.Trees.{TypeSyns, no_type, more_types}
use Rattle.th_rules.specs.Context.{Binding, Context}
use Rattle.th_hier.specs.Resolve.{before_types}
use Rattle.th_rules.specs.Resolving.{resolved_type, resolved_types, type_fails, types_fails}
use Rattle.th_hier.specs.Views.{onto_opt}
use Rattle.th_type.proofs.Least.{lowest_append}

-- the least of a failure and of those of types
abbrev pub least_along : Context → List Binding → TypeSyns → Option Failure → Option Failure
least_along C ls no_type o = o
least_along C ls (more_types t ts) o = least_along C ls ts (lowest o (type_fails C ls t))

pub least_is : (C : Context) (ls : List Binding) (ts : TypeSyns) (o : Option Failure) → least_along C ls ts o ≡ lowest o (types_fails C ls ts)
least_is C ls no_type o = refl
least_is C ls (more_types t ts) o =
    least_is C ls ts (lowest o (type_fails C ls t)) ∙ sym (lowest_append o (type_fails C ls t) (types_fails C ls ts))

-- what types mean after others, which are the other way round
abbrev pub means_along : Context → List Binding → TypeSyns → Option TypeExprs → Option TypeExprs
means_along C ls no_type done = onto_opt done (Some no_ty)
means_along C ls (more_types t ts) done = means_along C ls ts (before_types (resolved_type C ls t) done)

-- a further type goes before those so far, which are the other way round
back_put : (t : Option TypeExpr) (done rest : Option TypeExprs) → onto_opt (before_types t done) rest ≡ onto_opt done (before_types t rest)
back_put None None rest = refl
back_put None (Some d) rest = refl
back_put (Some t) None rest = refl
back_put (Some t) (Some d) None = refl
back_put (Some t) (Some d) (Some r) = refl

means_after : (C : Context) (ls : List Binding) (ts : TypeSyns) (done : Option TypeExprs) → means_along C ls ts done ≡ onto_opt done (resolved_types C ls ts)
means_after C ls no_type back = refl
means_after C ls (more_types t ts) back =
    means_after C ls ts (before_types (resolved_type C ls t) back) ∙ back_put (resolved_type C ls t) back (resolved_types C ls ts)

from_nothing : (rest : Option TypeExprs) → onto_opt (Some no_ty) rest ≡ rest
from_nothing None = refl
from_nothing (Some r) = refl

pub means_is : (C : Context) (ls : List Binding) (ts : TypeSyns) → means_along C ls ts (Some no_ty) ≡ resolved_types C ls ts
means_is C ls ts = means_after C ls ts (Some no_ty) ∙ from_nothing (resolved_types C ls ts)
