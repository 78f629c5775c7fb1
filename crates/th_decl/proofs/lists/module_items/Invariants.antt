use Rattle.std.proofs.Common.{◌≡◌, ◌-◌, ◌++◌, [], ◌∷◌, map}
use Rattle.th_tree.specs.declared.tokens.Reserved.TheVariants.{KeyIter, KeyClass, KeyRoutine}
use Rattle.th_tree.specs.declared.lexeme.Mark.TheVariants.{Word}
use Rattle.th_tree.specs.DeclView.{module_item_of}
use Rattle.th_syntax.specs.Read.{code, in_set, many, ret}
use Rattle.th_syntax.specs.Lists.{with_back}
use Rattle.th_decl.specs.Parse.{module_item, module_items}
use Rattle.th_decl.proofs.lists.module_items.Given as goal

abbrev pub invariant-loop : goal.invariant-loop
invariant-loop l = module_items l.room l.reader.most l.fn.tokens ≡ with_back (λ a b. a ++ b) (map module_item_of l.found.items) (many (in_set (code (Word KeyClass) ∷ code (Word KeyIter) ∷ code (Word KeyRoutine) ∷ [])) (module_item l.room) (λ a b. a ∷ b) (ret []) (l.reader.most - l.counter) l.reader.most l.rest)
