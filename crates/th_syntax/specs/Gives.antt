-- What a function of the code owes: what the reading on lists gives.
use Rattle.std.specs.Prelude.{◌≡◌, List, Result, Ok, Err}
use Rattle.th_tree.specs.declared.lexeme.Lexeme.{Lexeme}
use Rattle.th_syntax.specs.declared.step.Stop.{Stop}
use Rattle.th_syntax.specs.declared.step.Stop.TheVariants.{Memory, Wrong}
use Rattle.th_syntax.specs.Read.{Res, Got, Bad}

-- where memory ran out nothing is said; else the wrong lexeme is the one at which the reading stops
abbrev pub Fails : {A : Type 0} → Stop → Res A → Type 0
Fails Memory read = Unit {0}
Fails (Wrong rest) read = read ≡ Bad rest.now

-- the result is what the reading gives, unless memory ran out
abbrev pub Gives : {Y A : Type 0} → (Y → A) → (Y → List Lexeme) → Result Y Stop → Res A → Type 0
Gives f rest (Ok y) read = read ≡ Got (f y) (rest y)
Gives f rest (Err e) read = Fails e read
