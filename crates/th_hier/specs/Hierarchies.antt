-- The hierarchy of the types that interfaces declare, and when interfaces have none.
use Rattle.std.specs.Prelude.{ℕ, ◌⊎◌, List, Some, None}
use Rattle.th_tree.specs.Trees.{InterfaceSyn}
use Rattle.th_type.specs.declared.place.Place.{Place}
use Rattle.th_type.specs.declared.place.Failure.{Failure}
use Rattle.th_type.specs.Failures.{failure, IsLeastOf}
use Rattle.th_type.specs.Lists.{IsIn}
use Rattle.th_type.specs.Declarations.{DeclaredType, declared_types}
use Rattle.th_type.specs.Rules.{SupertypesFail, MethodsFail}
use Rattle.th_hier.specs.Naming.{Items}
use Rattle.th_hier.specs.Numbering.{numbered_items}
use Rattle.th_hier.specs.Texts.{names_fail, declarations}

-- the items of interfaces by name, and the types that they declare, with resolved supertypes and signatures
pub record TypeHierarchy : Type 0 where
  pub items : Items
  pub types : List DeclaredType

-- the items that the interfaces have by name
abbrev pub items_of : List (List ℕ) → List InterfaceSyn → Items
items_of table fs = (numbered_items table fs).items

-- the hierarchy of interfaces whose names have numbers in the table
abbrev pub hierarchy_of : List (List ℕ) → List InterfaceSyn → TypeHierarchy
hierarchy_of table fs = record { items = items_of table fs; types = declared_types (declarations (items_of table fs) fs) }

-- f is a failure of the rules on names, arguments and signals, or of the rule on supertypes: these are judged first
abbrev pub FailsEarly : Items → List InterfaceSyn → Failure → Type 0
FailsEarly items fs f = IsIn f (names_fail items fs) ⊎ SupertypesFail (declarations items fs) f

-- f is a failure of the rule on inherited methods: it is judged where no other rule fails
abbrev pub FailsLate : Items → List InterfaceSyn → Failure → Type 0
FailsLate items fs f = MethodsFail (declarations items fs) f

-- no rule fails
abbrev pub NoRuleFails : Items → List InterfaceSyn → Type 0
NoRuleFails items fs = ((f : Failure) → ¬ FailsEarly items fs f) × ((f : Failure) → ¬ FailsLate items fs f)

-- the rule fails at the place, and it is the failure that is named: the least of those judged first, or, where there is none, the least of the others
abbrev pub IsRefusal : Items → List InterfaceSyn → ℕ → Place → Type 0
IsRefusal items fs rule p =
    IsLeastOf (FailsEarly items fs) (Some (failure rule p)) ⊎ (IsLeastOf (FailsEarly items fs) None × IsLeastOf (FailsLate items fs) (Some (failure rule p)))
