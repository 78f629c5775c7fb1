-- The machine with the count of the instructions that it retired, and what `step` and `give` do to it.
use Rattle.std.specs.Prelude.{◌≡◌, ℕ, ◌+◌, min, Option, Some, None, Bool, true, false}
use Rattle.th_rv.specs.declared.instr.Cause.{Cause}
use Rattle.th_rv.specs.Step.{State, Halt, Ended, Raised, RoomUsed, Act, Next, Puts, Gets, Halts, Traps, step}
use Rattle.th_elf.specs.Run.{Machine, Status, Running, Stopped, Trapped, running, with_a0, no_byte}
use Rattle.th_mach.specs.declared.answer.Step.{Step}
use Rattle.th_mach.specs.declared.answer.Step.TheVariants as answer

-- a machine and the count of the instructions that it retired since it was loaded
pub record Counted : Type 0 where
  pub machine : Machine
  pub retired : ℕ

-- a machine that runs from a state on, and has retired nothing
abbrev pub fresh : State → Counted
fresh s = record { machine = running s; retired = 0 }

-- the count after one more instruction; it stays at the greatest 64-bit number
abbrev pub next_count : ℕ → ℕ
next_count n = min (n + 1) 18446744073709551615

-- the machine after an instruction is retired, in a state and standing in a way
abbrev pub retire : Counted → State → Status → Counted
retire c s status = record { machine = record { state = s; status = status }; retired = next_count c.retired }

-- the machine after an instruction trapped, which isn't retired and changes the status alone
abbrev pub trap : Counted → Cause → Counted
trap c cause = record { machine = record { state = c.machine.state; status = Trapped cause c.machine.state.pc }; retired = c.retired }

-- what a call of `step` answers, and the machine after it
pub record Stepped : Type 0 where
  pub answer : Step
  pub later : Counted

-- the answer for each way to come to an end
abbrev pub answer_of : Halt → Step
answer_of Ended = answer.Ended
answer_of (Raised at length) = answer.Raised at length
answer_of RoomUsed = answer.RoomUsed

-- `step` by what the instruction does: one that asks for a byte isn't retired yet
abbrev pub stepped : Act → Counted → Stepped
stepped (Next s) c = record { answer = answer.Next; later = retire c s Running }
stepped (Puts byte s) c = record { answer = answer.Put byte; later = retire c s Running }
stepped (Gets s) c = record { answer = answer.Get; later = c }
stepped (Halts end s) c = record { answer = answer_of end; later = retire c s (Stopped end) }
stepped (Traps cause) c = record { answer = answer.Trap cause c.machine.state.pc; later = trap c cause }

-- `step` by how the machine stands: one that stopped or trapped answers the same again
abbrev pub step_by : Status → Counted → Stepped
step_by Running c = stepped (step c.machine.state) c
step_by (Stopped end) c = record { answer = answer_of end; later = c }
step_by (Trapped cause pc) c = record { answer = answer.Trap cause pc; later = c }

-- what `step` answers, and the machine after it
abbrev pub step_of : Counted → Stepped
step_of c = step_by c.machine.status c

-- whether an instruction puts a byte, and whether it asks for one
abbrev pub is_put : Act → Bool
is_put (Next s) = false
is_put (Puts byte s) = true
is_put (Gets s) = false
is_put (Halts end s) = false
is_put (Traps cause) = false

abbrev pub is_get : Act → Bool
is_get (Next s) = false
is_get (Puts byte s) = false
is_get (Gets s) = true
is_get (Halts end s) = false
is_get (Traps cause) = false

-- a machine waits for a byte: it runs, and the instruction at its program counter asks for one
abbrev pub IsWaiting : Machine → Type 0
IsWaiting m = (m.status ≡ Running) × (is_get (step m.state) ≡ true)

-- the word that a byte from the input is in a0; -1 at its end
abbrev pub word_of : Option ℕ → ℕ
word_of None = no_byte
word_of (Some byte) = byte

-- the machine after the instruction that asks for a byte is retired with this word in a0
abbrev pub given_by : Act → ℕ → Counted → Counted
given_by (Next s) word c = c
given_by (Puts byte s) word c = c
given_by (Gets s) word c = retire c (with_a0 s word) Running
given_by (Halts end s) word c = c
given_by (Traps cause) word c = c

-- a waiting machine after it was given a byte, or the end of the input
abbrev pub given : Option ℕ → Counted → Counted
given byte c = given_by (step c.machine.state) (word_of byte) c
