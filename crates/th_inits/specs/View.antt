-- What the code holds of inherited classes and of fields, without where it lies in memory.
use Rattle.std.specs.Prelude.{Option, Some, None}
use Rattle.th_type.specs.Types.{list_of, tys_of}
use Rattle.th_module_rules.specs.Initializers.{Inherited}
use Rattle.th_scope.specs.View.{class_of}
use Rattle.th_inits.specs.declared.above.Above.{Above}

-- the class above, with the arguments at which it is inherited
abbrev pub above_of : Above → Inherited
above_of a = record { full = a.full; class = class_of a.class.now; args = list_of (tys_of a.args.now); types = tys_of a.args.now }

abbrev pub above_opt : Option Above → Option Inherited
above_opt None = None
above_opt (Some a) = Some (above_of a)
