use Rattle.std.proofs.Common.{◌≡◌, ◌-◌, ◌++◌, [], ◌∷◌, map}
use Rattle.th_tree.specs.DeclView.{field_assign_of}
use Rattle.th_syntax.specs.Read.{in_set, many, ret}
use Rattle.th_syntax.specs.Lists.{with_back}
use Rattle.th_decl.specs.Parse.{field_assign, field_assigns}
use Rattle.th_decl.proofs.lists.field_assigns.Given as goal

abbrev pub invariant-loop : goal.invariant-loop
invariant-loop l = field_assigns l.room l.reader.most l.fn.tokens ≡ with_back (λ a b. a ++ b) (map field_assign_of l.found.items) (many (in_set (0 ∷ [])) (field_assign l.room) (λ a b. a ∷ b) (ret []) (l.reader.most - l.counter) l.reader.most l.rest)
