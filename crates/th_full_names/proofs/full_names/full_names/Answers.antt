use Rattle.std.proofs.Common.{ℕ, List, ◌++◌, ◌∙◌, map, ap}
use Rattle.th_tree.specs.DeclView.{interface_of, module_of}
use Rattle.th_full_names.specs.Numbering.{names_in_interfaces, names_in_modules}
use Rattle.th_full_names.proofs.NameLaws.{adds_both}
use Rattle.th_full_names.proofs.full_names.full_names.Goals as goal

pub returns : goal.returns
returns c =
    let fs = map interface_of c.args.interfaces.now in
    let ms = map module_of c.args.modules.now in
    λ t w.
    adds_both c.args.names.now (λ u. names_in_interfaces u fs) (λ u. names_in_modules u ms) c.in_ok-further.further.items c.add_interfaces.new.further.items c.add_modules.new.further.items
    c.in_ok-add_interfaces.ensures c.in_ok-add_modules.ensures t w
    ∙ ap (λ (ns : List (List ℕ)). ns ++ (names_in_interfaces t fs ++ names_in_modules t ms)) c.in_ok-further.ensures
