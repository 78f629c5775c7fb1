use Rattle.std.proofs.Common.{take, subst, rules, arith}
use Rattle.th_meaning.specs.View.{program_of}
use Rattle.th_agree.specs.Names.{kept}
use Rattle.th_agree.specs.Noted.{Noted, place_seen, placed, names_by}
use Rattle.th_agree.proofs.Placed.{placed_more, no_clash}
use Rattle.th_agree.proofs.marks.marks_of.Goals as goal

pub loop-k-init : goal.loop-k-init
loop-k-init c = record { first = λ q. search rules; least = λ q h. no_clash q h }

pub loop-k-preserved : goal.loop-k-preserved
loop-k-preserved c =
    subst (λ es. Noted place_seen es c.note_module.new.places (kept c.note_module.new.least))
    (placed_more (names_by c.args.kind) c.args.modules.now c.loop-k.k c.index-modules-k.result (omega arith) c.index-modules-k.is)
    (c.in_ok-note_module.ensures (placed (names_by c.args.kind) 0 (program_of (take c.loop-k.k c.args.modules.now))) c.loop-k.invariant)
