use Rattle.std.proofs.Common.{[], ◌∷◌, ◌++◌, map, take, ap, ◌∙◌, arith}
use Rattle.th_meaning.specs.View.{interface_of}
use Rattle.th_agree.specs.Names.{kept}
use Rattle.th_agree.specs.Noted.{entry, text_seen, with_texts}
use Rattle.th_agree.proofs.Placed.{loop_more, loop_end, text_parts}
use Rattle.th_agree.proofs.texts.note_all.Goals as goal

pub loop-interface-preserved : goal.loop-interface-preserved
loop-interface-preserved c = λ done h.
    loop_more text_seen (λ xs. with_texts (map interface_of xs)) text_parts c.note_text.new.texts (kept c.note_text.new.least) done c.args.interfaces.now
    c.loop-interface.interface-index c.interface-item.result (entry c.as_bytes.result.now c.as_slice.result.now ∷ []) (omega arith) c.interface-item.is
    (ap (λ n. entry n c.as_slice.result.now ∷ []) c.as_bytes.ensures ∙ ap (λ t. entry (interface_of c.interface-item.result).name t ∷ []) c.as_slice.ensures)
    (c.in_ok-note_text.ensures (done ++ with_texts (map interface_of (take c.loop-interface.interface-index c.args.interfaces.now))) (c.loop-interface.invariant done h))

pub returns : goal.returns
returns c = λ done h.
    loop_end text_seen (λ xs. with_texts (map interface_of xs)) c.loop-interface.texts (kept c.loop-interface.least) done c.args.interfaces.now c.loop-interface.interface-index (omega arith) (c.loop-interface.invariant done h)
