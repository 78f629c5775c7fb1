-- What the code holds, without where it lies in memory.
use Rattle.std.specs.Prelude.{ℕ, List, ◌++◌, map, Option, Some, None}
use Rattle.th_type.specs.Types.{tys_of}
use Rattle.th_type.specs.Signatures.{sig_of, clause_of}
pub use Rattle.th_scope.specs.ItemView.{binding_of, locals_of, routine_of, class_of, item_head_of, item_of}
use Rattle.th_scope.specs.declared.items.Items.{Items}
use Rattle.th_scope.specs.declared.env.Env.{Env}
use Rattle.th_scope.specs.declared.naming.Meant.{Meant}
use Rattle.th_scope.specs.declared.naming.Meant.TheVariants as meant
use Rattle.th_scope.specs.declared.handled.Handled.{Handled}
use Rattle.th_scope.specs.declared.handled.Handled.TheVariants as handled
use Rattle.th_scope.specs.declared.class_use.ClassPart.{ClassPart}
use Rattle.th_rules.specs.Resolving.{ClassUse}
use Rattle.th_rules.specs.Context.{Context, Meaning, no_meaning, local_meaning, param_meaning, item_meaning, Item}

-- items
abbrev pub items_of : Items → List Item
items_of is = map item_of is.list.items

-- what is known where a unit stands
abbrev pub context_of : Env → Context
context_of e = record {
  text = e.text;
  names = e.names.now;
  types = e.hierarchy.now.types;
  items = items_of e.items.now;
  visible = record { text = None; implements = e.implements; uses = e.uses.now; params = e.params.now };
  clauses = map clause_of e.clauses.now;
  sig = sig_of e.sig.now;
  class = e.class;
}

-- what a name means
abbrev pub meant_of : Meant → Meaning
meant_of meant.Nothing = no_meaning
meant_of (meant.Local l) = local_meaning (binding_of l.now)
meant_of (meant.Param k) = param_meaning k
meant_of (meant.Item i) = item_meaning (item_of i.now)

-- the exceptions that are handled or listed, those of the nearest block first
abbrev pub handled_of : Handled → List ℕ
handled_of (handled.Listed ns) = ns.now
handled_of (handled.Block' ns i rest) = ns.now ++ handled_of rest

-- the use of a class, where there is one
abbrev pub use_of : ClassPart → ClassUse
use_of c = record { full = c.full; class = class_of c.class.now; args = tys_of c.args }

abbrev pub use_opt : Option ClassPart → Option ClassUse
use_opt None = None
use_opt (Some c) = Some (use_of c)
