-- Lists of trees that the code builds back to front.
use Rattle.std.specs.Prelude.{ℕ}
use Rattle.th_tree.specs.declared.tokens.Sym.TheVariants.{Comma}
use Rattle.th_tree.specs.declared.lexeme.Mark.TheVariants.{Symbol}
use Rattle.th_tree.specs.Trees.{TypeSyns, no_type, more_types}
use Rattle.th_syntax.specs.Read.{Res, Got, P, bind, list_of}
use Rattle.th_syntax.specs.Parse.{read_type}

-- types with commas between them
abbrev pub type_list : ℕ → ℕ → P TypeSyns
type_list r n ts = list_of (Symbol Comma) (read_type r) more_types no_type n ts

-- what was read before, back to front, before what is read
abbrev pub with_back : {B : Type 0} → (B → B → B) → B → Res B → Res B
with_back onto b x = bind x (λ bs rest. Got (onto b bs) rest)
