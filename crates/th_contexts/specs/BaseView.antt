-- A class as the classes below it see it, without where it lies in memory.
use Rattle.th_type.specs.Types.{ty_of}
use Rattle.th_module_rules.specs.Contexts.{Base}
use Rattle.th_contexts.specs.declared.base_row.Base.{Base as CodeBase}

abbrev pub base_of : CodeBase → Base
base_of b = record { full = b.full; of = ty_of b.of; inherits = b.inherits; methods = b.methods }
