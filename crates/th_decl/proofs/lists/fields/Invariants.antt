use Rattle.std.proofs.Common.{◌≡◌, ◌-◌, ◌++◌, [], ◌∷◌, map}
use Rattle.th_tree.specs.declared.tokens.Reserved.TheVariants.{KeyField}
use Rattle.th_tree.specs.declared.lexeme.Mark.TheVariants.{Word}
use Rattle.th_tree.specs.View.{formal_of}
use Rattle.th_syntax.specs.Read.{code, in_set, many, ret}
use Rattle.th_syntax.specs.Lists.{with_back}
use Rattle.th_decl.specs.Parse.{field, fields}
use Rattle.th_decl.proofs.lists.fields.Given as goal

abbrev pub invariant-loop : goal.invariant-loop
invariant-loop l = fields l.room l.reader.most l.fn.tokens ≡ with_back (λ a b. a ++ b) (map formal_of l.found.items) (many (in_set (code (Word KeyField) ∷ [])) (field l.room) (λ a b. a ∷ b) (ret []) (l.reader.most - l.counter) l.reader.most l.rest)
