use Rattle.std.proofs.Common.{◌≡◌, ◌-◌, ◌++◌, [], ◌∷◌, map}
use Rattle.th_tree.specs.declared.tokens.Reserved.TheVariants.{KeyHidden, KeyIter}
use Rattle.th_tree.specs.declared.lexeme.Mark.TheVariants.{Word}
use Rattle.th_tree.specs.DeclView.{method_of}
use Rattle.th_syntax.specs.Read.{code, in_set, many, ret}
use Rattle.th_syntax.specs.Lists.{with_back}
use Rattle.th_decl.specs.Parse.{method, methods}
use Rattle.th_decl.proofs.lists.methods.Given as goal

abbrev pub invariant-loop : goal.invariant-loop
invariant-loop l = methods l.room l.reader.most l.fn.tokens ≡ with_back (λ a b. a ++ b) (map method_of l.found.items) (many (in_set (code (Word KeyHidden) ∷ code (Word KeyIter) ∷ 0 ∷ [])) (method l.room) (λ a b. a ∷ b) (ret []) (l.reader.most - l.counter) l.reader.most l.rest)
