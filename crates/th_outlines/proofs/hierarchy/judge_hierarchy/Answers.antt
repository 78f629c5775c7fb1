use Rattle.std.proofs.Common.{◌∙◌, map, sym}
use Rattle.std.proofs.lemmas.List.{length-map}
use Rattle.th_tree.specs.DeclView.{interface_of}
use Rattle.th_outlines.proofs.Answering.{answer_err, answer_ok}
use Rattle.th_outlines.proofs.hierarchy.judge_hierarchy.Goals as goal

pub returns-in-Ok-clause-answer : goal.returns-in-Ok-clause-answer
returns-in-Ok-clause-answer c = λ ns ms.
    answer_ok c.args.names.now c.args.texts.now (map interface_of c.args.interfaces.now) ns ms c.in-Ok.hierarchy (c.requires.paired ∙ sym (length-map c.args.interfaces.now interface_of)) c.in-Ok.ensures.answer.0 c.in-Ok.ensures.answer.1

pub returns-in-Err-clause-answer : goal.returns-in-Err-clause-answer
returns-in-Err-clause-answer c = λ ns ms.
    answer_err c.args.names.now c.args.texts.now (map interface_of c.args.interfaces.now) ns ms c.in-Err.error c.placed_error.result (c.requires.paired ∙ sym (length-map c.args.interfaces.now interface_of)) c.requires.ascending
    c.placed_error.ensures c.in-Err.ensures.answer
