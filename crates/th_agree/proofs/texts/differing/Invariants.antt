use Rattle.std.proofs.Common.{take}
use Rattle.th_meaning.specs.View.{program_of}
use Rattle.th_agree.specs.Names.{kept}
use Rattle.th_agree.specs.Agree.{kept_interfaces}
use Rattle.th_agree.specs.Noted.{Noted, text_seen, with_texts}
use Rattle.th_agree.proofs.texts.differing.Given as goal

abbrev pub invariant-loop-module : goal.invariant-loop-module
invariant-loop-module l = Noted text_seen (with_texts (kept_interfaces (program_of (take l.module-index l.modules)))) l.texts (kept l.least)
