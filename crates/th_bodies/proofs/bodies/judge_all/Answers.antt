use Rattle.std.proofs.Common.{◌≡◌, length, map, sym, ◌∙◌, subst}
use Rattle.std.specs.Prelude.{Option}
use Rattle.std.proofs.lemmas.List.{length-map}
use Rattle.th_tree.specs.DeclView.{interface_of, module_of}
use Rattle.th_type.specs.declared.place.Failure.{Failure}
use Rattle.th_type.specs.Failures.{IsLeastOf}
use Rattle.th_module_rules.specs.Stages.{FailsFourth}
use Rattle.th_program.specs.Programs.{program, with_texts}
use Rattle.th_bodies.proofs.Paired.{all_named}
use Rattle.th_bodies.proofs.Thirds.{least_of_all, units_of_program}
use Rattle.th_bodies.proofs.bodies.judge_all.Goals as goal

pub judge_modules-requires-clause-named : goal.judge_modules-requires-clause-named
judge_modules-requires-clause-named c = all_named c.args.names.now (with_texts c.args.module_texts.now (map module_of c.args.modules.now)) c.requires.named.modules

pub returns-clause-least : goal.returns-clause-least
returns-clause-least c =
    least_of_all c.args.names.now c.args.interface_texts.now (map interface_of c.args.interfaces.now) c.args.module_texts.now (map module_of c.args.modules.now) c.args.hierarchy.now
    (c.requires.paired ∙ sym (length-map c.args.interfaces.now interface_of)) c.requires.hierarchy c.judge_exported.new.least c.judge_modules.new.least c.in_ok-judge_exported.ensures c.in_ok-bodies.ensures.least

pub returns-clause-bodies : goal.returns-clause-bodies
returns-clause-bodies c = λ none.
    let fs = map interface_of c.args.interfaces.now in
    let ms = map module_of c.args.modules.now in
    let paired : length c.args.interface_texts.now ≡ length fs = c.requires.paired ∙ sym (length-map c.args.interfaces.now interface_of) in
    let least = least_of_all c.args.names.now c.args.interface_texts.now fs c.args.module_texts.now ms c.args.hierarchy.now paired c.requires.hierarchy c.judge_exported.new.least c.judge_modules.new.least c.in_ok-judge_exported.ensures c.in_ok-bodies.ensures.least in
    units_of_program c.args.names.now c.args.interface_texts.now fs c.args.module_texts.now ms c.args.hierarchy.now paired c.requires.hierarchy c.in_ok-bodies.bodies.units.items c.in_ok-bodies.bodies.known.items c.requires.named c.requires.outlines
    (subst (λ (o : Option Failure). IsLeastOf (FailsFourth (program c.args.names.now c.args.interface_texts.now fs c.args.module_texts.now ms)) o) none least) (c.in_ok-bodies.ensures.bodies none)
