-- What the code read of statements, without where it lies in memory.
use Rattle.std.specs.Prelude.{ℕ, List, nat_lt, if◌then◌else◌}
use Rattle.th_tree.specs.declared.tokens.Reserved.{Reserved}
use Rattle.th_tree.specs.declared.tokens.Sym.TheVariants.{OpenParen, CloseParen, Semicolon}
use Rattle.th_tree.specs.declared.lexeme.Mark.TheVariants.{Word, Symbol}
use Rattle.th_tree.specs.Trees.{ExprSyn}
use Rattle.th_tree.specs.View.{expr_of, formal_of, body_of, option_of}
use Rattle.th_tree.specs.Grammar.{ElseifPart, WhenPart, Expr}
use Rattle.th_parse.specs.declared.stmts.ElseifRead.{ElseifRead}
use Rattle.th_parse.specs.declared.stmts.WhenRead.{WhenRead}
use Rattle.th_syntax.specs.Read.{Res, Got, Bad, P, bind, seq, ret, one, after, between}
use Rattle.th_syntax.specs.Parse.{read_form}

abbrev pub elseif_part : ElseifRead → ElseifPart
elseif_part r = record { at = r.at; test = expr_of r.test; body = body_of r.body }

abbrev pub when_part : WhenRead → WhenPart
when_part r = record { at = r.at; exc = r.exc; variable = option_of formal_of r.variable; body = body_of r.body }

-- a word, an expression in parentheses and `;`, where there is room
abbrev pub put_read : ℕ → Reserved → ℕ → P (ℕ × ExprSyn)
put_read r key n ts =
    if nat_lt 0 r then seq (one (Word key)) (λ p. seq (between (Symbol OpenParen) (Symbol CloseParen) (read_form r Expr)) (λ e. after (Symbol Semicolon) (ret (p, e.tree)))) n ts else Bad ts
