-- What the code gathers of results.
use Rattle.std.specs.Prelude.{◌≡◌, ℕ, List, [], ◌∷◌, nat_eq, cond, Option, Some, None}
use Rattle.th_type.specs.Lists.{is_in}
use Rattle.th_shape.specs.declared.results.Head.{Head}

-- the head where the method is asked for
abbrev pub one_entry : ℕ → Head → ℕ → Option Head
one_entry m h q = cond (nat_eq q m) (Some h) None

-- the head where the method is one of the list
abbrev pub picked : List ℕ → Option Head → ℕ → Option Head
picked ms o q = cond (is_in q ms) o None
