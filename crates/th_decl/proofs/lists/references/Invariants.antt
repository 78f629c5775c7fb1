use Rattle.std.proofs.Common.{◌≡◌, ◌-◌, ◌++◌, [], ◌∷◌}
use Rattle.th_tree.specs.declared.tokens.Sym.TheVariants.{Comma}
use Rattle.th_tree.specs.declared.lexeme.Mark.TheVariants.{Symbol}
use Rattle.th_syntax.specs.Read.{listed as read_list}
use Rattle.th_syntax.specs.Parse.{read_ref}
use Rattle.th_syntax.specs.Lists.{with_back}
use Rattle.th_decl.specs.Parse.{listed}
use Rattle.th_decl.proofs.lists.references.Given as goal

abbrev pub invariant-loop : goal.invariant-loop
invariant-loop l = listed (Symbol Comma) (read_ref) l.fn.reader.most l.fn.tokens ≡ with_back (λ a b. a ++ b) (l.found.items) (read_list (Symbol Comma) (read_ref) (λ a b. a ∷ b) [] (l.fn.reader.most - l.counter) l.fn.reader.most l.rest)
