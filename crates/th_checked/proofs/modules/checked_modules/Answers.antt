use Rattle.std.proofs.Common.{◌≡◌, ◌∙◌, map}
use Rattle.th_meaning.specs.View.{module_of}
use Rattle.th_checked.proofs.Checking.{bodies_count, checked_are, names_as}
use Rattle.th_checked.proofs.modules.checked_modules.Goals as goal

pub made_modules-requires-clause-names : goal.made_modules-requires-clause-names
made_modules-requires-clause-names c =
    names_as c.args.names.now c.args.interface_texts.now c.args.module_texts.now c.args.interfaces.now c.args.modules.now c.in_ok-different.different c.requires.interfaces c.requires.first c.in_ok-different.ensures

pub made_modules-requires-clause-known : goal.made_modules-requires-clause-known
made_modules-requires-clause-known c =
    (bodies_count c.args.names.now c.args.interface_texts.now c.args.module_texts.now c.args.interfaces.now c.args.modules.now c.args.bodies.units.items c.args.bodies.known.items c.requires.modules c.requires.bodies).1

pub made_modules-requires-clause-units : goal.made_modules-requires-clause-units
made_modules-requires-clause-units c =
    (bodies_count c.args.names.now c.args.interface_texts.now c.args.module_texts.now c.args.interfaces.now c.args.modules.now c.args.bodies.units.items c.args.bodies.known.items c.requires.modules c.requires.bodies).0

pub returns-clause-checked : goal.returns-clause-checked
returns-clause-checked c =
    let heads : c.deref.result.now ≡ c.args.tokens.now = c.deref.ensures.value ∙ c.in_ok-heads.ensures in
    checked_are c.args.names.now c.args.interface_texts.now c.args.module_texts.now c.args.interfaces.now c.args.modules.now
    c.args.hierarchy.now c.args.tokens.now c.deref.result.now c.in_ok-places.places c.args.bodies.known.items c.args.bodies.units.items (map module_of c.in_ok-done.done.items)
    c.requires.interfaces c.requires.hierarchy c.requires.first c.requires.bodies heads c.in_ok-places.ensures c.in_ok-done.ensures.made
