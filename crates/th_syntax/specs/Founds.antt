-- What the code read of expressions, without where it lies in memory.
use Rattle.std.specs.Prelude.{ℕ, max}
use Rattle.th_tree.specs.declared.tokens.Sym.TheVariants.{Comma}
use Rattle.th_tree.specs.declared.lexeme.Mark.TheVariants.{Symbol}
use Rattle.th_tree.specs.Trees.{ExprSyns}
use Rattle.th_tree.specs.View.{expr_of, exprs_of}
use Rattle.th_tree.specs.Onto.{exprs_onto}
use Rattle.th_tree.specs.Grammar.{Form, Found, found, Founds, no_founds, more_founds}
use Rattle.th_tree.specs.Grammar as forms
use Rattle.th_syntax.specs.declared.exprs.ReadExpr.{ReadExpr}
use Rattle.th_syntax.specs.declared.exprs.ReadExprs.{ReadExprs}
use Rattle.th_syntax.specs.declared.exprs.Level.{Level}
use Rattle.th_syntax.specs.declared.exprs.Level.TheVariants as levels
use Rattle.th_syntax.specs.Read.{P, list_of as marks_between}
use Rattle.th_syntax.specs.Parse.{read_form}

abbrev pub read_of : ReadExpr → Found
read_of r = found (expr_of r.tree) r.height r.start

abbrev pub list_of : ReadExprs → Founds
list_of r = record { trees = exprs_of r.trees; height = r.height }

abbrev pub form_named : Level → Form
form_named levels.Expr = forms.Expr
form_named levels.Conj = forms.Conj
form_named levels.Neg = forms.Neg
form_named levels.Rel = forms.Rel
form_named levels.Sum = forms.Sum
form_named levels.Term = forms.Term
form_named levels.Unary = forms.Unary
form_named levels.Post = forms.Post

-- expressions with commas between them
abbrev pub expr_list : ℕ → ℕ → P Founds
expr_list r n ts = marks_between (Symbol Comma) (read_form r forms.Expr) more_founds no_founds n ts

-- expressions and the greatest of their heights
abbrev pub founds : ExprSyns → ℕ → Founds
founds es h = record { trees = es; height = h }

-- the first expressions the other way round, before the second
abbrev pub founds_onto : Founds → Founds → Founds
founds_onto a b = founds (exprs_onto a.trees b.trees) (max a.height b.height)
