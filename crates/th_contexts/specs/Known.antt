-- What the definitions of a module are judged by, as the code has it.
use Rattle.std.specs.Prelude.{◌≡◌}
use Rattle.th_type.specs.Judged.{SameNumbers}
use Rattle.th_scope.specs.View.{items_of}
use Rattle.th_module_rules.specs.Modules.{Judged}
use Rattle.th_contexts.specs.declared.known.Known.{Known}
use Rattle.th_contexts.specs.Bases.{bases_of}

-- the code has the items, what is asked of classes, and the numbers of the own classes
pub record Knows (k : Known) (J : Judged) : Type 0 where
  pub items : items_of k.items ≡ J.items
  pub bases : bases_of k.bases ≡ J.bases
  pub own : SameNumbers k.own J.own
