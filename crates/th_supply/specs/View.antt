-- What the code holds of supplies, without where it lies in memory.
use Rattle.std.specs.Prelude.{List, map, Option, Some, None}
use Rattle.std.specs.Global.{Vec}
use Rattle.th_type.specs.Types.{TypeExpr, arg_at}
use Rattle.th_type.specs.Signatures.{Constraint, sig_of, subst_sig}
use Rattle.th_meaning.specs.declared.types.CoreSupply.{CoreSupply}
use Rattle.th_meaning.specs.Trees.{SupplyTree}
use Rattle.th_meaning.specs.View.{supply_of}
use Rattle.th_supply.specs.declared.supply.ClausePart.{ClausePart}
use Rattle.th_rules.specs.Context.{Context}
use Rattle.th_rules.specs.Supplies.{ClauseUse, supply_of as supply_needed}

-- what stands for where-clauses, where it is there
abbrev pub supplies_opt : Option (Vec CoreSupply) → Option (List SupplyTree)
supplies_opt None = None
supplies_opt (Some ss) = Some (map supply_of ss.items)

abbrev pub supply_opt : Option CoreSupply → Option SupplyTree
supply_opt None = None
supply_opt (Some s) = Some (supply_of s)

-- a where-clause of the unit
abbrev pub clause_use_of : ClausePart → ClauseUse
clause_use_of c = record { place = c.place; sig = sig_of c.sig.now }

abbrev pub clause_use_opt : Option ClausePart → Option ClauseUse
clause_use_opt None = None
clause_use_opt (Some c) = Some (clause_use_of c)

-- what stands for a clause of an item that is used with type arguments
abbrev pub clause_met : Context → List TypeExpr → Constraint → Option SupplyTree
clause_met C args c = supply_needed C (subst_sig args c.sig) (arg_at args c.param c.param)
