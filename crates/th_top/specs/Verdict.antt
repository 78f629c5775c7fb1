-- The code's verdicts.
use Rattle.th_top.specs.declared.verdict.Verdict.{Verdict}
use Rattle.th_top.specs.declared.verdict.Verdict.TheVariants as code
use Rattle.th_top.specs.Answers as answers

-- the verdict that the code's means
abbrev pub verdict_of : Verdict → answers.Verdict
verdict_of code.Done = answers.Done
verdict_of (code.BadFile name) = answers.BadFile name.now
verdict_of (code.Refused name refusal) = answers.Refused name.now refusal
verdict_of (code.NotBuilt name) = answers.NotBuilt name.now
verdict_of (code.BadElf name field) = answers.BadElf name.now field
verdict_of (code.RunRaised name) = answers.RunRaised name.items
verdict_of code.NoRoom = answers.NoRoom
verdict_of code.NoSteps = answers.NoSteps
verdict_of (code.Trapped cause pc) = answers.Trapped cause pc
verdict_of code.NoMemory = answers.NoMemory
verdict_of code.StreamFailed = answers.StreamFailed
