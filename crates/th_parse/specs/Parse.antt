-- Reading statements lexeme by lexeme.
use Rattle.std.specs.Prelude.{ℕ, zero, suc, nat_lt, List, [], ◌∷◌, Option, Some, None, if◌then◌else◌}
use Rattle.th_tree.specs.declared.tokens.Reserved.TheVariants.{KeyVar, KeyIf, KeyThen, KeyElseif, KeyElse, KeyEnd, KeyWhile, KeyFor, KeyIn, KeyDo, KeyBreak, KeyReturn, KeyYield, KeyRaise, KeyBegin, KeyExcept, KeyWhen, KeyPutByte, KeyPutInt, KeyPutString, KeyOverflow, KeyZeroDivide, KeyBounds, KeyEndOfInput}
use Rattle.th_tree.specs.declared.tokens.Sym.TheVariants.{OpenParen, CloseParen, Semicolon, Becomes}
use Rattle.th_tree.specs.declared.lexeme.Mark.{Mark}
use Rattle.th_tree.specs.declared.lexeme.Mark.TheVariants.{Word, Symbol}
use Rattle.th_tree.specs.declared.tree.ExcTree.{ExcTree}
use Rattle.th_tree.specs.declared.tree.ExcTree.TheVariants.{Declared, Overflow, ZeroDivide, Bounds, EndOfInput}
use Rattle.th_tree.specs.Trees.{ExprSyn, FormalSyn, StmtSyn, var_stmt, assign_stmt, plain_stmt, if_stmt, while_stmt, for_stmt, break_stmt, return_stmt, return_value_stmt, yield_stmt, raise_stmt, raise_value_stmt, begin_stmt, put_byte_stmt, put_int_stmt, put_text_stmt, BodySyn, no_stmt, more_stmts, ElseSyn, no_else, else_do, WhenSyns, no_when}
use Rattle.th_tree.specs.Grammar.{Expr, Post, ElseifPart, more_elses, WhenPart, more_handlers}
use Rattle.th_syntax.specs.Read.{P, Got, code, seq, ret, one, after, between, either, either_if, or_if, any_of}
use Rattle.th_syntax.specs.Parse.{read_ref, read_form, read_formal, atom_first}

-- an exception
abbrev pub read_exc : ℕ → P ExcTree
read_exc =
    either (Word KeyOverflow) (seq (one (Word KeyOverflow)) (λ p. ret (Overflow p)))
    (either (Word KeyZeroDivide) (seq (one (Word KeyZeroDivide)) (λ p. ret (ZeroDivide p)))
    (either (Word KeyBounds) (seq (one (Word KeyBounds)) (λ p. ret (Bounds p)))
    (either (Word KeyEndOfInput) (seq (one (Word KeyEndOfInput)) (λ p. ret (EndOfInput p)))
    (seq read_ref (λ a. ret (Declared a))))))

-- the `end` after handlers
abbrev pub whens_end : ℕ → P WhenSyns
whens_end = after (Word KeyEnd) (ret no_when)

-- statements up to the height r + 1, where `sub` reads statements up to r
module _ (r : ℕ) (sub : ℕ → P BodySyn) where
  abbrev pub var_of : ℕ → P StmtSyn
  var_of = seq (one (Word KeyVar)) (λ p. seq (read_formal r) (λ f. after (Symbol Becomes) (seq (read_form r Expr) (λ e. after (Symbol Semicolon) (ret (var_stmt p f e.tree))))))

  abbrev pub post_stmt_of : ℕ → P StmtSyn
  post_stmt_of = seq (read_form r Post) (λ a.
      either (Symbol Becomes) (after (Symbol Becomes) (seq (read_form r Expr) (λ e. after (Symbol Semicolon) (ret (assign_stmt a.start a.tree e.tree)))))
      (after (Symbol Semicolon) (ret (plain_stmt a.start a.tree))))

  abbrev pub elseif_of : ℕ → P ElseifPart
  elseif_of = seq (one (Word KeyElseif)) (λ p. seq (read_form r Expr) (λ e. after (Word KeyThen) (seq sub (λ b. ret (record { at = p; test = e.tree; body = b })))))

  abbrev pub else_of : ℕ → P ElseSyn
  else_of =
      either (Word KeyElse) (after (Word KeyElse) (seq sub (λ b. after (Word KeyEnd) (ret (else_do b)))))
      (after (Word KeyEnd) (ret no_else))

  abbrev pub elses_of : ℕ → P ElseSyn
  elses_of = any_of (code (Word KeyElseif) ∷ []) elseif_of more_elses else_of

  abbrev pub if_of : ℕ → P StmtSyn
  if_of = seq (one (Word KeyIf)) (λ p. seq (read_form r Expr) (λ e. after (Word KeyThen) (seq sub (λ b. seq elses_of (λ c. ret (if_stmt p e.tree b c))))))

  abbrev pub while_of : ℕ → P StmtSyn
  while_of = seq (one (Word KeyWhile)) (λ p. seq (read_form r Expr) (λ e. after (Word KeyDo) (seq sub (λ b. after (Word KeyEnd) (ret (while_stmt p e.tree b))))))

  abbrev pub for_of : ℕ → P StmtSyn
  for_of = seq (one (Word KeyFor)) (λ p. seq (read_formal r) (λ f. after (Word KeyIn) (seq (read_form r Post) (λ e. after (Word KeyDo) (seq sub (λ b. after (Word KeyEnd) (ret (for_stmt p f e.tree b))))))))

  abbrev pub break_of : ℕ → P StmtSyn
  break_of = seq (one (Word KeyBreak)) (λ p. after (Symbol Semicolon) (ret (break_stmt p)))

  abbrev pub return_of : ℕ → P StmtSyn
  return_of = seq (one (Word KeyReturn)) (λ p.
      or_if (Symbol Semicolon) (nat_lt 0 r) (after (Symbol Semicolon) (ret (return_stmt p)))
      (seq (read_form r Expr) (λ e. after (Symbol Semicolon) (ret (return_value_stmt p e.tree)))))

  abbrev pub yield_of : ℕ → P StmtSyn
  yield_of = seq (one (Word KeyYield)) (λ p. seq (read_form r Expr) (λ e. after (Symbol Semicolon) (ret (yield_stmt p e.tree))))

  abbrev pub raise_of : ℕ → P StmtSyn
  raise_of = seq (one (Word KeyRaise)) (λ p. seq read_exc (λ x.
      either_if (Symbol OpenParen) (nat_lt 0 r) (seq (between (Symbol OpenParen) (Symbol CloseParen) (read_form r Expr)) (λ e. after (Symbol Semicolon) (ret (raise_value_stmt p x e.tree))))
      (after (Symbol Semicolon) (ret (raise_stmt p x)))))

  -- the variable of a handler, or none
  abbrev pub variable_of : ℕ → P (Option FormalSyn)
  variable_of = either_if (Symbol OpenParen) (nat_lt 0 r) (seq (between (Symbol OpenParen) (Symbol CloseParen) (read_formal r)) (λ a. ret (Some a))) (ret None)

  abbrev pub when_of : ℕ → P WhenPart
  when_of = seq (one (Word KeyWhen)) (λ p. seq read_exc (λ x. seq variable_of (λ v. after (Word KeyDo) (seq sub (λ b. ret (record { at = p; exc = x; variable = v; body = b }))))))

  -- further handlers and the `end`
  abbrev pub whens_of : ℕ → P WhenSyns
  whens_of = any_of (code (Word KeyWhen) ∷ []) when_of more_handlers whens_end

  abbrev pub begin_of : ℕ → P StmtSyn
  begin_of = seq (one (Word KeyBegin)) (λ p. seq sub (λ b. after (Word KeyExcept) (seq when_of (λ w. seq whens_of (λ ws. ret (begin_stmt p b (more_handlers w ws)))))))

  abbrev pub put_of : Mark → (ℕ → ExprSyn → StmtSyn) → ℕ → P StmtSyn
  put_of m make = seq (one m) (λ p. seq (between (Symbol OpenParen) (Symbol CloseParen) (read_form r Expr)) (λ e. after (Symbol Semicolon) (ret (make p e.tree))))

  abbrev pub stmt_of : ℕ → P StmtSyn
  stmt_of =
      either_if (Word KeyVar) (nat_lt 0 r) var_of
      (either_if (Word KeyIf) (nat_lt 0 r) if_of
      (either_if (Word KeyWhile) (nat_lt 0 r) while_of
      (either_if (Word KeyFor) (nat_lt 0 r) for_of
      (either (Word KeyReturn) return_of
      (either_if (Word KeyYield) (nat_lt 0 r) yield_of
      (either (Word KeyRaise) raise_of
      (either (Word KeyBegin) begin_of
      (either_if (Word KeyPutByte) (nat_lt 0 r) (put_of (Word KeyPutByte) put_byte_stmt)
      (either_if (Word KeyPutInt) (nat_lt 0 r) (put_of (Word KeyPutInt) put_int_stmt)
      (either_if (Word KeyPutString) (nat_lt 0 r) (put_of (Word KeyPutString) put_text_stmt)
      (or_if (Word KeyBreak) (nat_lt 0 r) break_of post_stmt_of)))))))))))

-- the marks with which a statement begins
abbrev pub stmt_first : List ℕ
stmt_first = code (Word KeyVar) ∷ code (Word KeyIf) ∷ code (Word KeyWhile) ∷ code (Word KeyFor) ∷ code (Word KeyReturn) ∷ code (Word KeyYield) ∷ code (Word KeyRaise) ∷ code (Word KeyBegin)
    ∷ code (Word KeyPutByte) ∷ code (Word KeyPutInt) ∷ code (Word KeyPutString) ∷ code (Word KeyBreak) ∷ atom_first

-- statements up to the height r + 1
abbrev pub stmts_of : ℕ → (ℕ → P BodySyn) → ℕ → P BodySyn
stmts_of r sub = any_of stmt_first (stmt_of r sub) more_stmts (ret no_stmt)

-- statements up to the height r
abbrev pub read_body : ℕ → ℕ → P BodySyn
read_body zero n ts = Got no_stmt ts
read_body (suc r) n ts = stmts_of r (read_body r) n ts
