use Rattle.std.proofs.Common.{◌≡◌, ◌-◌, ◌++◌, [], ◌∷◌, map}
use Rattle.th_tree.specs.declared.tokens.Sym.TheVariants.{Comma}
use Rattle.th_tree.specs.declared.lexeme.Mark.TheVariants.{Symbol}
use Rattle.th_tree.specs.View.{formal_of}
use Rattle.th_syntax.specs.Read.{listed as read_list}
use Rattle.th_syntax.specs.Parse.{read_formal}
use Rattle.th_syntax.specs.Lists.{with_back}
use Rattle.th_decl.specs.Parse.{listed}
use Rattle.th_decl.proofs.lists.formal_list.Given as goal

abbrev pub invariant-loop : goal.invariant-loop
invariant-loop l = listed (Symbol Comma) (read_formal l.room) l.reader.most l.fn.tokens ≡ with_back (λ a b. a ++ b) (map formal_of l.found.items) (read_list (Symbol Comma) (read_formal l.room) (λ a b. a ∷ b) [] (l.reader.most - l.counter) l.reader.most l.rest)
