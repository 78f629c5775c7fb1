-- The failures in an initializer: those on exceptions that it does not list, and all others.
use Rattle.std.specs.Prelude.{List, ◌++◌, Option}
use Rattle.th_tree.specs.Trees.{InitSyn}
use Rattle.th_type.specs.declared.place.Failure.{Failure}
use Rattle.th_rules.specs.Context.{Binding, ClassInfo, Context}
use Rattle.th_module_rules.specs.Initializers.{Inherited, shape_fails, super_call_fails, assigns_fail, super_call_raises, assigns_raise}

-- the failures of all rules but that on exceptions
abbrev pub own_fails : Context → List Binding → ClassInfo → Option Inherited → InitSyn → List Failure
own_fails C ls c above i = shape_fails C.text c i ++ super_call_fails C ls above i.super_call ++ assigns_fail C ls c.fields i.assigns

-- the failures of the rule on exceptions
abbrev pub own_raises : Context → List Binding → Option Inherited → InitSyn → List Failure
own_raises C ls above i = super_call_raises C ls above i.super_call ++ assigns_raise C ls i.assigns
