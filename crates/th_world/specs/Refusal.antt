-- What is said of one error of a refused read, and nothing of the others.
use Rattle.std.specs.Prelude.{⊤}
use Rattle.th_world.specs.declared.FileError.{FileError}
use Rattle.th_world.specs.declared.FileError.TheVariants.{Absent, TooLarge, Failed, Memory}

-- P holds where the error is `Absent`
abbrev pub OnAbsent : FileError → Type 0 → Type 0
OnAbsent Absent P = P
OnAbsent TooLarge P = ⊤
OnAbsent Failed P = ⊤
OnAbsent Memory P = ⊤

-- P holds where the error is `TooLarge`
abbrev pub OnTooLarge : FileError → Type 0 → Type 0
OnTooLarge Absent P = ⊤
OnTooLarge TooLarge P = P
OnTooLarge Failed P = ⊤
OnTooLarge Memory P = ⊤

-- P holds where the error is `Failed`
abbrev pub OnFailed : FileError → Type 0 → Type 0
OnFailed Absent P = ⊤
OnFailed TooLarge P = ⊤
OnFailed Failed P = P
OnFailed Memory P = ⊤

-- P holds where the error is `Memory`
abbrev pub OnMemory : FileError → Type 0 → Type 0
OnMemory Absent P = ⊤
OnMemory TooLarge P = ⊤
OnMemory Failed P = ⊤
OnMemory Memory P = P
