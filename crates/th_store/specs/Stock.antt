-- What a store has: the turns and the room left, and the objects by their numbers.
use Rattle.std.specs.Prelude.{ℕ, List, Option}
use Rattle.th_meaning.specs.World.{Object}
use Rattle.th_meaning.specs.Meaning.{Value}

pub record Stock : Type 0 where
  pub turns : ℕ
  pub room : Option ℕ
  pub objects : List (Object Value)
