-- What the machine's parts answer of an instruction, by the definition of what it does.
use Rattle.std.specs.Prelude.{◌≡◌}
use Rattle.th_rv.specs.Step as step
use Rattle.th_rv.specs.Step.{State, Act, with_reg}
use Rattle.th_mach.specs.declared.hart.Halt.{Halt}
use Rattle.th_mach.specs.declared.hart.Halt.TheVariants as halt
use Rattle.th_mach.specs.declared.hart.Done.{Done}
use Rattle.th_mach.specs.declared.hart.Done.TheVariants.{Next, Put, Get, Halted, Trapped}

-- the end that the code's answer means
abbrev pub halt_of : Halt → step.Halt
halt_of halt.Ended = step.Ended
halt_of (halt.Raised at length) = step.Raised at length
halt_of halt.RoomUsed = step.RoomUsed

-- what was done, by the answer and the states before and after: a byte to be put and a byte asked for
-- leave the state as it is, and what follows goes on at the next instruction
abbrev pub act_of : Done → State → State → Act
act_of Next before later = step.Next later
act_of (Put byte) before later = step.Puts byte (with_reg before 0 0)
act_of Get before later = step.Gets (with_reg before 0 0)
act_of (Halted end) before later = step.Halts (halt_of end) later
act_of (Trapped cause) before later = step.Traps cause

-- whether the answer says that nothing was changed yet; then the state after is the one before
abbrev pub Stays : Done → State → State → Type 0
Stays Next before later = Unit {0}
Stays (Put byte) before later = later ≡ before
Stays Get before later = later ≡ before
Stays (Halted end) before later = Unit {0}
Stays (Trapped cause) before later = later ≡ before
