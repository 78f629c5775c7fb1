use Rattle.std.proofs.Common.{◌∙◌, map, ap, sym}
use Rattle.std.proofs.lemmas.List.{length-map}
use Rattle.th_tree.specs.DeclView.{interface_of}
use Rattle.th_inherits.specs.Rows.{rows_of}
use Rattle.th_outlines.proofs.RowTexts.{exported_least}
use Rattle.th_outlines.proofs.inheriting.judge_exported.Goals as goal

pub returns : goal.returns
returns c =
    exported_least c.args.texts.now c.args.fulls.now c.args.index.now (map interface_of c.args.interfaces.now) (rows_of c.deref.result.now) (rows_of c.deref-2.result.now) c.in_ok-found.found c.placed_found.result
    (c.requires.paired ∙ sym (length-map c.args.interfaces.now interface_of)) c.requires.ascending
    (ap rows_of c.deref.ensures.value ∙ c.in_ok-rows.ensures) (ap rows_of c.deref-2.ensures.value ∙ c.in_ok-rows.ensures) c.placed_found.ensures c.in_ok-found.ensures
