-- Charges.
use Rattle.std.specs.Prelude.{Option, Some, None}
use Rattle.th_meaning.specs.World.{World, Effect, Did, Stops, OutOfTurns, OutOfRoom}
use Rattle.th_meaning.specs.Meaning.{Value}
use Rattle.th_store.specs.Stock.{Stock}
use Rattle.th_store.specs.declared.store.Short.{Short}
use Rattle.th_store.specs.declared.store.Short.TheVariants.{Turns, Room}

-- what a charge of turns and of room came to, by what it lacks
abbrev pub charged : Option Short → World Value → Effect Value (Unit {0})
charged None w = Did tt w
charged (Some Turns) w = Stops OutOfTurns w
charged (Some Room) w = Stops OutOfRoom w

-- the world with the turns and the room of a stock
abbrev pub with_left : Stock → World Value → World Value
with_left s w = record w { turns = s.turns; room = s.room }
