-- What stands for where-clauses, one after another.
use Rattle.std.proofs.Common.{◌≡◌, List, [], ◌∷◌, ◌++◌, Option, Some, None, refl, ap, sym, append_assoc}
use Rattle.th_meaning.specs.Trees.{SupplyTree}
use Rattle.th_rules.specs.Supplies.{with_supply}

-- what stands for the first clauses, before what stands for others
abbrev pub supplies_after : List SupplyTree → Option (List SupplyTree) → Option (List SupplyTree)
supplies_after done None = None
supplies_after done (Some ss) = Some (done ++ ss)

pub after_none : (o : Option (List SupplyTree)) → supplies_after [] o ≡ o
after_none None = refl
after_none (Some ss) = refl

-- one more supply is the last of the first ones
pub after_one : (done : List SupplyTree) (s : SupplyTree) (o : Option (List SupplyTree)) → supplies_after done (with_supply (Some s) o) ≡ supplies_after (done ++ s ∷ []) o
after_one done s None = refl
after_one done s (Some ss) = ap Some (sym (append_assoc done (s ∷ []) ss))

pub after_missing : (done : List SupplyTree) (o : Option (List SupplyTree)) → supplies_after done (with_supply None o) ≡ None
after_missing done o = refl
