-- What the walk finds at a class.
use Rattle.std.specs.Prelude.{ℕ, List, Option, Some, None}
use Rattle.th_meaning.specs.Program.{Program}
use Rattle.th_classes.specs.Numbers.{chain_from}
use Rattle.th_classes.specs.Rows.{body_in}
use Rattle.th_classes.specs.declared.classes.Found.{Found}
use Rattle.th_classes.specs.declared.classes.Found.TheVariants.{Body, Above, Nothing}

-- the body that it leads to, over at most n classes more
abbrev pub found_body : Program → (method : List ℕ) → ℕ → Found → Option (Option ℕ)
found_body p m n (Body unit) = Some unit
found_body p m n (Above k) = body_in p m (chain_from n p (Some k))
found_body p m n Nothing = None
