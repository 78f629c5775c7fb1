-- How the code's machine stands, and how it goes on after an instruction.
use Rattle.th_rv.specs.Step.{State}
use Rattle.th_elf.specs.Run as run
use Rattle.th_mach.specs.declared.machine.Status.{Status}
use Rattle.th_mach.specs.declared.machine.Status.TheVariants as status
use Rattle.th_mach.specs.declared.hart.Done.{Done}
use Rattle.th_mach.specs.declared.hart.Done.TheVariants.{Next, Put, Get, Halted, Trapped}
use Rattle.th_mach.specs.Done.{halt_of}
use Rattle.th_mach.specs.Counted.{Counted, retire, trap}

-- how the machine stands
abbrev pub status_of : Status → run.Status
status_of status.Running = run.Running
status_of (status.Stopped end) = run.Stopped (halt_of end)
status_of (status.Trapped cause pc) = run.Trapped cause pc

-- the machine after an instruction was done so and left the hart in a state; a byte to be put and a byte asked for
-- leave it as it is
abbrev pub later_of : Done → Counted → State → Counted
later_of Next c s = retire c s run.Running
later_of (Put byte) c s = c
later_of Get c s = c
later_of (Halted end) c s = retire c s (run.Stopped (halt_of end))
later_of (Trapped cause) c s = trap c cause
