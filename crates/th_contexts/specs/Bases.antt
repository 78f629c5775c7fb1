-- Where in the list of classes the first of each number stands.
use Rattle.std.specs.Prelude.{List, map}
use Rattle.th_module_rules.specs.Contexts.{Base}
use Rattle.th_contexts.specs.declared.bases.Bases.{Bases}
use Rattle.th_contexts.specs.BaseView.{base_of}

-- the classes
abbrev pub bases_of : Bases → List Base
bases_of bs = map base_of bs.list.items
