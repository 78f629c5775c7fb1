-- What was judged of declared types.
use Rattle.std.specs.Prelude.{◌≡◌, ℕ, Bool, true, ◌⊎◌, List, [], ◌++◌, map, Option, Some, None, nat_eq}
use Rattle.std.specs.Bool.{MatchBool}
use Rattle.std.specs.Map.{lookup}
use Rattle.th_type.specs.declared.place.Failure.{Failure}
use Rattle.th_type.specs.declared.above.Above.{Above}
use Rattle.th_type.specs.declared.above.Ancestors.{Ancestors}
use Rattle.th_type.specs.Lists.{IsIn, is_in}
use Rattle.th_type.specs.Types.{TypeExpr}
use Rattle.th_type.specs.Failures.{lowest, unless, IsLeastOf}
use Rattle.th_type.specs.Declarations.{SuperRef, Declaration, declared_types}
use Rattle.th_type.specs.Rules.{names_meant, member_failures, list_failures, IsTangled, FailsSupertypes}
use Rattle.th_type.specs.Closure.{Climbed}
use Rattle.th_type.specs.Tables.{above_of, Held}

-- the same numbers are in both lists
abbrev pub SameNumbers : List ℕ → List ℕ → Type 0
SameNumbers xs ys = (n : ℕ) → is_in n xs ≡ is_in n ys

-- a member was judged after others that name the numbers `seen`
pub record Listed (old new : Option Failure) (seen later : List ℕ) (text : ℕ) (s : SuperRef) : Type 0 where
  pub least : new ≡ lowest old (member_failures text seen s.at s.meaning)
  pub names : SameNumbers later (names_meant s.meaning ++ seen)

-- a declared type was judged, which reaches the types xs where it does not fail
pub record Judged (ds : List Declaration) (d : Declaration) (old new : Option Failure) (xs : List TypeExpr) : Type 0 where
  pub holds : Bool
  pub least : new ≡ lowest old (list_failures d.place.text [] d.supertypes ++ unless holds 6 d.place)
  pub decides : MatchBool holds (¬ IsTangled ds d.name) (IsTangled ds d.name)
  pub climbed : holds ≡ true → Climbed (declared_types ds) d.name xs

-- f was found before, or is a failure of one of the declared types ps
abbrev pub FailsAmong : List Declaration → List Declaration → Option Failure → Failure → Type 0
FailsAmong ds ps found f = (found ≡ Some f) ⊎ ((d : Declaration) × IsIn d ps × FailsSupertypes ds d f)

-- the declared types ps were judged; the table has what each reaches
pub record Judging (ds ps : List Declaration) (old new : Option Failure) (table : Ancestors) : Type 0 where
  pub least : IsLeastOf (FailsAmong ds ps old) new
  pub climbed : new ≡ None → (n : ℕ) (a : Above) → lookup (nat_eq n) table.map.entries ≡ Some a → (¬ IsTangled ds n) × Climbed (declared_types ds) n (above_of table.pool a)
  pub held : (n : ℕ) (a : Above) → lookup (nat_eq n) table.map.entries ≡ Some a → Held table.pool a
  pub names : map (λ e. e.0) table.map.entries ≡ map (λ d. d.name) ps

-- the table has for each number just the types that it reaches, and no declared type is tangled
pub record Ascended (ds : List Declaration) (up : ℕ → List TypeExpr) : Type 0 where
  pub climbed : (n : ℕ) → Climbed (declared_types ds) n (up n)
  pub free : (n : ℕ) → IsIn n (map (λ d. d.name) ds) → ¬ IsTangled ds n
