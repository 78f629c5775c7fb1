-- What is called by a name with type arguments.
use Rattle.std.proofs.Common.{◌≡◌, ℕ, List, Option, Some, None, is_some, refl}
use Rattle.th_meaning.specs.Trees.{SupplyTree}
use Rattle.th_tree.specs.Trees.{TypeSyns, no_type, more_types}
use Rattle.th_type.specs.Types.{TypeExprs}
use Rattle.th_rules.specs.Context.{Context}
use Rattle.th_rules.specs.Callees.{Instance, instance_of, local_named, instance_sig, instance_callee, instance_supplies, is_supplied, supplied}
use Rattle.th_calls.specs.View.{is_met}

some_supplied : (i : Instance) (o : Option (List SupplyTree)) → is_some (supplied i o) ≡ is_some o
some_supplied i None = refl
some_supplied i (Some ss) = refl

-- what is called is entered where its where-clauses are satisfied
pub met_is : (C : Context) (i : Option Instance) → is_met (instance_sig i) (instance_callee C i) ≡ is_supplied C i
met_is C None = refl
met_is C (Some i) = some_supplied i (instance_supplies C i)

-- a local is no routine
pub local_instance : (ts : TypeSyns) (n : ℕ) (us : TypeExprs) → instance_of (local_named ts) n (Some us) ≡ None
local_instance no_type n us = refl
local_instance (more_types t ts) n us = refl
