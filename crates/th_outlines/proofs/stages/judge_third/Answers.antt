use Rattle.std.proofs.Common.{◌∙◌, ℕ, List, map, subst, sym}
use Rattle.std.proofs.lemmas.List.{length-map}
use Rattle.th_tree.specs.DeclView.{interface_of, module_of}
use Rattle.th_program.specs.Programs.{with_texts}
use Rattle.th_outlines.specs.Programs.{AllNamed}
use Rattle.th_outlines.proofs.Pairing.{all_named}
use Rattle.th_outlines.proofs.Thirds.{third_is}
use Rattle.th_outlines.proofs.stages.judge_third.Goals as goal

pub judge_all_own-requires-clause-named : goal.judge_all_own-requires-clause-named
judge_all_own-requires-clause-named c =
    let ms = with_texts c.args.module_texts.now (map module_of c.args.modules.now) in
    subst (λ (t : List (List ℕ)). AllNamed t ms) (sym c.in_ok-least.ensures.names) (all_named c.args.names.now ms c.requires.named.modules)

pub returns-clause-least : goal.returns-clause-least
returns-clause-least c =
    third_is c.args.names.now _ c.in_ok-fulls.fulls c.args.interface_texts.now (map interface_of c.args.interfaces.now) c.args.module_texts.now (map module_of c.args.modules.now) c.args.index.now
    c.in_ok-least.least c.keep.new.least c.in_ok-exported.exported c.judge_all_own.new.least
    (c.requires.paired ∙ sym (length-map c.args.interfaces.now interface_of)) c.in_ok-least.ensures.names c.requires.items
    c.in_ok-fulls.ensures c.in_ok-least.ensures.least c.in_ok-exported.ensures c.keep.ensures c.in_ok-judge_all_own.ensures.least
