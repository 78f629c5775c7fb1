use Rattle.std.proofs.Common.{◌≡◌, ◌≤◌, ◌+◌, ◌-◌, ◌*◌}
use Rattle.th_tree.specs.declared.tokens.Sym.TheVariants.{Comma}
use Rattle.th_tree.specs.declared.lexeme.Mark.TheVariants.{Symbol}
use Rattle.th_tree.specs.Trees.{no_type, more_types, types_height}
use Rattle.th_tree.specs.View.{types_of}
use Rattle.th_tree.specs.Onto.{types_onto}
use Rattle.th_syntax.specs.Read.{listed}
use Rattle.th_syntax.specs.Parse.{read_type}
use Rattle.th_syntax.specs.Lists.{type_list}
use Rattle.th_syntax.specs.Lists.{with_back}
use Rattle.th_syntax.proofs.step.Reader.+types.Given as goal

abbrev pub decreases-array_type : goal.decreases-array_type
decreases-array_type l = (l.r + 1) * 10 + 2

abbrev pub decreases-named_within : goal.decreases-named_within
decreases-named_within l = (l.r + 1) * 10 + 4

abbrev pub decreases-type_args : goal.decreases-type_args
decreases-type_args l = (l.r + 1) * 10 + 3

abbrev pub decreases-type_tree : goal.decreases-type_tree
decreases-type_tree l = l.room * 10 + 9

abbrev pub decreases-type_within : goal.decreases-type_within
decreases-type_within l = (l.r + 1) * 10 + 6

abbrev pub decreases-types : goal.decreases-types
decreases-types l = (l.r + 1) * 10 + 1

abbrev pub invariant-types-loop : goal.invariant-types-loop
invariant-types-loop l =
    (type_list l.r l.self.most l.fn.tokens ≡ with_back types_onto (types_of l.back) (listed (Symbol Comma) (read_type l.r) more_types no_type (l.self.most - l.counter) l.self.most l.rest))
    × (l.height ≡ types_height (types_of l.back))
    × (l.height ≤ l.r)
