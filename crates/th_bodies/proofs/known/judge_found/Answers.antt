use Rattle.std.proofs.Common.{map, refl}
use Rattle.th_tree.specs.DeclView.{interface_of, module_of}
use Rattle.th_modules.specs.View.{units_opt}
use Rattle.th_bodies.proofs.Knowing.{judged_least, judged_units}
use Rattle.th_bodies.proofs.known.judge_found.Goals as goal

pub returns-clause-units : goal.returns-clause-units
returns-clause-units c =
    judged_units c.args.text c.args.names.now c.args.names.now c.args.hierarchy.now (map interface_of c.args.interfaces.now) (module_of c.args.program.now) c.in_ok-known.known refl
    (c.in_ok-known.ensures c.args.names.now c.args.text c.requires.found c.requires.home) c.judge_by.new.least (units_opt c.in_ok-units.units) c.in_ok-units.ensures.units

pub returns-clause-items : goal.returns-clause-items
returns-clause-items c = (c.in_ok-known.ensures c.args.names.now c.args.text c.requires.found c.requires.home).items

pub returns-clause-least : goal.returns-clause-least
returns-clause-least c =
    judged_least c.args.text c.args.names.now c.args.names.now c.args.hierarchy.now (map interface_of c.args.interfaces.now) (module_of c.args.program.now) c.in_ok-known.known refl
    (c.in_ok-known.ensures c.args.names.now c.args.text c.requires.found c.requires.home) c.args.least.now c.judge_by.new.least c.in_ok-units.ensures.least
