use Rattle.std.proofs.Common.{ℕ, List, ◌++◌, map, take}
use Rattle.th_meaning.specs.View.{interface_of}
use Rattle.th_agree.specs.Names.{kept}
use Rattle.th_agree.specs.Noted.{Entry, Noted, text_seen, with_texts}
use Rattle.th_agree.proofs.texts.note_all.Given as goal

abbrev pub invariant-loop-interface : goal.invariant-loop-interface
invariant-loop-interface l = (done : List (Entry (List ℕ))) → Noted text_seen done l.fn.texts (kept l.fn.least) → Noted text_seen (done ++ with_texts (map interface_of (take l.interface-index l.interfaces))) l.texts (kept l.least)
