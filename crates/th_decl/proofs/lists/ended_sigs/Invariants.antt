use Rattle.std.proofs.Common.{◌≡◌, ◌-◌, ◌++◌, [], ◌∷◌, map}
use Rattle.th_tree.specs.declared.tokens.Reserved.TheVariants.{KeyIter}
use Rattle.th_tree.specs.declared.lexeme.Mark.TheVariants.{Word}
use Rattle.th_tree.specs.DeclView.{sig_of}
use Rattle.th_syntax.specs.Read.{code, in_set, many, ret}
use Rattle.th_syntax.specs.Lists.{with_back}
use Rattle.th_decl.specs.Parse.{ended_sig, ended_sigs}
use Rattle.th_decl.proofs.lists.ended_sigs.Given as goal

abbrev pub invariant-loop : goal.invariant-loop
invariant-loop l = ended_sigs l.room l.reader.most l.fn.tokens ≡ with_back (λ a b. a ++ b) (map sig_of l.found.items) (many (in_set (code (Word KeyIter) ∷ 0 ∷ [])) (ended_sig l.room) (λ a b. a ∷ b) (ret []) (l.reader.most - l.counter) l.reader.most l.rest)
