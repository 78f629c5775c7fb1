-- Super calls, step by step.
use Rattle.std.proofs.Common.{◌≡◌, List, Option, Some, None, refl}
use Rattle.th_tree.specs.Trees.{SuperCallSyn}
use Rattle.th_rules.specs.Context.{Binding, Context}
use Rattle.th_rules.specs.Typing.{typed_all}
use Rattle.th_module_rules.specs.Initializers.{Inherited, inherited_init, super_stmt_of}
use Rattle.th_inits.specs.Supers.{arguments_given, super_given}

-- the super call with its arguments, given to the initializer of the class above
pub given_is : (C : Context) (ls : List Binding) (above : Option Inherited) (s : SuperCallSyn)
    → super_given C above (arguments_given C (inherited_init above) (typed_all C ls s.args)) ≡ super_stmt_of C ls above s
given_is C ls None s = refl
given_is C ls (Some i) s = refl
