-- What clauses are for, as it is seen from the first to the last.
use Rattle.std.specs.Prelude.{ℕ, Bool, nat_eq, not, ◌&&◌, List, [], ◌∷◌, ◌++◌, if◌then◌else◌}
use Rattle.std.specs.List.{list_any}
use Rattle.th_tree.specs.Trees.{ClauseSyn}
use Rattle.th_type.specs.declared.place.Failure.{Failure}
use Rattle.th_type.specs.Failures.{place, unless}
use Rattle.th_hier.specs.Naming.{has}
use Rattle.th_own.specs.declared.clauses.ClauseName.{ClauseName}

-- whether both are one parameter and one method
abbrev pub same_name : ClauseName → ClauseName → Bool
same_name a b = nat_eq a.param b.param && nat_eq a.method b.method

-- what a clause is for
abbrev pub name_of : ClauseSyn → ClauseName
name_of c = record { param = c.param.name; method = c.method.name }

-- the names with this one, which goes last where it is not there
abbrev pub with_clause : List ClauseName → ClauseName → List ClauseName
with_clause ns n = if list_any (same_name n) ns then ns else ns ++ n ∷ []

-- the failures of clauses after those that are for these names
abbrev pub clauses_fail_after : ℕ → List ℕ → List ClauseName → List ClauseSyn → List Failure
clauses_fail_after text params seen [] = []
clauses_fail_after text params seen (c ∷ cs) =
    unless (has params c.param.name && not (list_any (same_name (name_of c)) seen)) 11 (place text c.param.at) ++ clauses_fail_after text params (with_clause seen (name_of c)) cs
