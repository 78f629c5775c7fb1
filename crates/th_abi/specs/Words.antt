-- The words of code patterns, whose labels and relocations are still open.
use Rattle.std.specs.Prelude.{ℕ, Option, Some, None, List, [], ◌∷◌, map}
use Rattle.th_rv.specs.declared.instr.Instr.{Instr}
use Rattle.th_rv.specs.declared.instr.Instr.TheVariants.{Auipc, Jalr}
use Rattle.th_rv.specs.Table.{encode}
use Rattle.th_abi.specs.declared.word.RelocKind.{RelocKind}
use Rattle.th_abi.specs.declared.word.Failure.{Failure}
use Rattle.th_abi.specs.declared.word.Part.{Part}
use Rattle.th_abi.specs.declared.word.Part.TheVariants.{High, Low}
use Rattle.th_abi.specs.declared.word.PatternWord.{PatternWord}
use Rattle.th_abi.specs.Registers as register

-- an instruction
abbrev pub plain : Instr → PatternWord
plain instr = record { word = encode instr; reloc = None; failure = None; label = None }

-- an instruction whose immediate a relocation gives
abbrev pub filled : RelocKind → Instr → PatternWord
filled kind instr = record { word = encode instr; reloc = Some kind; failure = None; label = None }

-- a word in whose place a relocation puts an address
abbrev pub address : RelocKind → Option Failure → PatternWord
address kind failure = record { word = 0; reloc = Some kind; failure = failure; label = None }

-- a word of the jump to the operation's label
abbrev pub labelled : Part → Instr → PatternWord
labelled part instr = record { word = encode instr; reloc = None; failure = None; label = Some part }

-- the jump to the operation's label: the distance's upper part is added to the first word's place, and its lower part by the second word
abbrev pub jump : List PatternWord
jump = labelled High (Auipc register.free 0) ∷ labelled Low (Jalr 0 register.free 0) ∷ []
