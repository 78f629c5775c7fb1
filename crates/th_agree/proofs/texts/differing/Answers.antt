use Rattle.std.proofs.Common.{[], map, take, ap, sym, ◌∙◌, append-nil, rules, arith}
use Rattle.th_meaning.specs.View.{interface_of, program_of}
use Rattle.th_agree.specs.Names.{kept}
use Rattle.th_agree.specs.Agree.{kept_interfaces}
use Rattle.th_agree.specs.Noted.{text_seen, with_texts}
use Rattle.th_agree.proofs.Placed.{loop_more, kept_parts, no_clash, texts_end}
use Rattle.th_agree.proofs.texts.differing.Goals as goal

pub loop-module-init : goal.loop-module-init
loop-module-init c = record { first = λ q. search rules; least = λ q h. no_clash q h }

pub loop-module-preserved : goal.loop-module-preserved
loop-module-preserved c =
    loop_more text_seen (λ xs. with_texts (kept_interfaces (program_of xs))) kept_parts c.note_all.new.texts (kept c.note_all.new.least) [] c.args.modules.now
    c.loop-module.module-index c.module-item.result (with_texts (map interface_of c.deref.result.now)) (omega arith) c.module-item.is
    (ap (λ xs. with_texts (map interface_of xs)) c.deref.ensures.value ∙ ap with_texts (sym (append-nil (map interface_of c.module-item.result.interfaces.items))))
    (c.in_ok-note_all.ensures (with_texts (kept_interfaces (program_of (take c.loop-module.module-index c.args.modules.now)))) c.loop-module.invariant)

pub returns : goal.returns
returns c = texts_end c.args.modules.now c.loop-module.module-index c.loop-module.texts (kept c.loop-module.least) (omega arith) c.loop-module.invariant
