-- Statements are read exactly.
use Rattle.std.proofs.Common.{◌≡◌, ℕ, zero, suc, ◌≤◌, ◌<◌, Bool, true, false, nat_lt, List, [], ◌∷◌, ◌++◌, Option, Some, None, refl, arith}
use Rattle.th_tree.specs.declared.tokens.Reserved.TheVariants.{KeyVar, KeyIf, KeyThen, KeyElseif, KeyElse, KeyEnd, KeyWhile, KeyFor, KeyIn, KeyDo, KeyBreak, KeyReturn, KeyYield, KeyRaise, KeyBegin, KeyExcept, KeyWhen, KeyPutByte, KeyPutInt, KeyPutString, KeyOverflow, KeyZeroDivide, KeyBounds, KeyEndOfInput}
use Rattle.th_tree.specs.declared.tokens.Sym.TheVariants.{OpenParen, CloseParen, Semicolon, Colon, Becomes, Dollar}
use Rattle.th_tree.specs.declared.lexeme.Mark.{Mark}
use Rattle.th_tree.specs.declared.lexeme.Mark.TheVariants.{Word, Symbol}
use Rattle.th_tree.specs.declared.lexeme.Lexeme.{Lexeme}
use Rattle.th_tree.specs.declared.tree.ExcTree.{ExcTree}
use Rattle.th_tree.specs.declared.tree.ExcTree.TheVariants.{Declared, Overflow, ZeroDivide, Bounds, EndOfInput}
use Rattle.th_tree.specs.Trees.{ExprSyn, FormalSyn, StmtSyn, var_stmt, assign_stmt, plain_stmt, if_stmt, while_stmt, for_stmt, break_stmt, return_stmt, return_value_stmt, yield_stmt, raise_stmt, raise_value_stmt, begin_stmt, put_byte_stmt, put_int_stmt, put_text_stmt, BodySyn, no_stmt, more_stmts, ElseSyn, no_else, else_do, WhenSyns, no_when}
use Rattle.th_tree.specs.Forms.{Lang, Done, done, Then, Many, none_more, one_more, Maybe, Between}
use Rattle.th_tree.specs.Grammar.{Form, Expr, Post, FormAt, FormalAt, Exc, ElseifPart, more_elses, WhenPart, more_handlers, VarStmt, PostStmt, Elseif, Else, IfStmt, WhileStmt, ForStmt, BreakStmt, ReturnStmt, YieldStmt, RaiseStmt, When, BeginStmt, PutStmt, AStmt, StmtAt, BodyAt}
use Rattle.th_syntax.specs.Read.{P, code}
use Rattle.th_syntax.specs.Parse.{read_form, read_formal, atom_first}
use Rattle.th_parse.specs.Parse.{read_exc, var_of, post_stmt_of, elseif_of, else_of, elses_of, if_of, while_of, for_of, break_of, return_of, yield_of, raise_of, variable_of, when_of, whens_of, begin_of, put_of, stmt_of, stmt_first, read_body}
use Rattle.th_syntax.proofs.Good.{good_map}
use Rattle.th_syntax.proofs.Marks.{Exact}
use Rattle.th_syntax.proofs.Law.{Law, law_weak, law_done, law_then, law_the}
use Rattle.th_syntax.proofs.Choice.{law_either, law_first_if, law_second_if}
use Rattle.th_syntax.proofs.Repeat.{law_many}
use Rattle.th_syntax.proofs.Words.{law_ref, law_after, law_place, law_between, none_next, none_then, none_between}
use Rattle.th_syntax.proofs.TypeLaws.{law_formal, none_formal, type_more}
use Rattle.th_syntax.proofs.ExprLaws.{law_form, none_form, form_more, post_more}

-- one language in place of another with the same words
pub law_same : {A : Type 0} {L K : A → List Lexeme → Type 0} {run : ℕ → P A} {f : List ℕ} {b : Bool} {m : List ℕ} → ((a : A) (xs : List Lexeme) → L a xs → K a xs) → ((a : A) (xs : List Lexeme) → K a xs → L a xs)
    → Law L run f b m → Law K run f b m
law_same {L = L} {K = K} {run = run} to from l = record {
  good = λ n ts. good_map L K ts (run n ts) to (l.good n ts);
  steady = l.steady;
  comes = λ n a xs rest h z o. l.comes n a xs rest (from a xs h) z o;
  heads = λ a xs h. l.heads a xs (from a xs h);
}

abbrev pub exc_first : List ℕ
exc_first = code (Word KeyOverflow) ∷ code (Word KeyZeroDivide) ∷ code (Word KeyBounds) ∷ code (Word KeyEndOfInput) ∷ 0 ∷ []

law_exc : Law Exc read_exc exc_first false (code (Symbol Dollar) ∷ [])
law_exc = law_weak
    (law_either (law_place (Word KeyOverflow) tt Overflow)
    (law_either (law_place (Word KeyZeroDivide) tt ZeroDivide)
    (law_either (law_place (Word KeyBounds) tt Bounds)
    (law_either (law_place (Word KeyEndOfInput) tt EndOfInput)
    (law_then law_ref (λ a xs h. law_done (Declared a)) refl) refl) refl) refl) refl) refl refl

abbrev pub LawBody : Lang BodySyn → (ℕ → P BodySyn) → Type 0
LawBody L run = Law L run stmt_first true stmt_first

module _ (r : ℕ) (SubBody : Lang BodySyn) (sub : ℕ → P BodySyn) (law_sub : LawBody SubBody sub) where
  abbrev room : Bool
  room = nat_lt 0 r

  law_var : room ≡ true → Law (VarStmt r SubBody) (var_of r sub) (code (Word KeyVar) ∷ []) false []
  law_var e = law_then (law_the (Word KeyVar) tt) (λ p xs h. law_then (law_formal r e) (λ f ys i. law_after (Symbol Becomes) tt (law_then (law_form r e Expr) (λ a zs j. law_after (Symbol Semicolon) tt (law_done (var_stmt p f a.tree))) refl)) refl) refl

  law_post_stmt : room ≡ true → Law (PostStmt r SubBody) (post_stmt_of r sub) atom_first false []
  law_post_stmt e = law_then (law_form r e Post) (λ a xs h. law_either
      (law_after (Symbol Becomes) tt (law_then (law_form r e Expr) (λ b ys i. law_after (Symbol Semicolon) tt (law_done (assign_stmt a.start a.tree b.tree))) refl))
      (law_after (Symbol Semicolon) tt (law_done (plain_stmt a.start a.tree))) refl) refl

  law_elseif : room ≡ true → Law (Elseif r SubBody) (elseif_of r sub) (code (Word KeyElseif) ∷ []) false stmt_first
  law_elseif e = law_weak (law_then (law_the (Word KeyElseif) tt) (λ p xs h. law_then (law_form r e Expr) (λ a ys i. law_after (Word KeyThen) tt (law_then law_sub (λ b zs j. law_done (record { at = p; test = a.tree; body = b })) refl)) refl) refl) refl refl

  law_else : Law (Else r SubBody) (else_of r sub) (code (Word KeyElse) ∷ code (Word KeyEnd) ∷ []) false []
  law_else = law_either (law_after (Word KeyElse) tt (law_then law_sub (λ b xs h. law_after (Word KeyEnd) tt (law_done (else_do b))) refl)) (law_after (Word KeyEnd) tt (law_done no_else)) refl

  law_if : room ≡ true → Law (IfStmt r SubBody) (if_of r sub) (code (Word KeyIf) ∷ []) false []
  law_if e = law_then (law_the (Word KeyIf) tt) (λ p xs h. law_then (law_form r e Expr) (λ a ys i. law_after (Word KeyThen) tt (law_then law_sub (λ b zs j.
      law_then (law_many more_elses (law_elseif e) law_else refl refl) (λ c us k. law_done (if_stmt p a.tree b c)) refl) refl)) refl) refl

  law_while : room ≡ true → Law (WhileStmt r SubBody) (while_of r sub) (code (Word KeyWhile) ∷ []) false []
  law_while e = law_then (law_the (Word KeyWhile) tt) (λ p xs h. law_then (law_form r e Expr) (λ a ys i. law_after (Word KeyDo) tt (law_then law_sub (λ b zs j. law_after (Word KeyEnd) tt (law_done (while_stmt p a.tree b))) refl)) refl) refl

  law_for : room ≡ true → Law (ForStmt r SubBody) (for_of r sub) (code (Word KeyFor) ∷ []) false []
  law_for e = law_then (law_the (Word KeyFor) tt) (λ p xs h. law_then (law_formal r e) (λ f ys i. law_after (Word KeyIn) tt (law_then (law_form r e Post) (λ a zs j. law_after (Word KeyDo) tt
      (law_then law_sub (λ b us k. law_after (Word KeyEnd) tt (law_done (for_stmt p f a.tree b))) refl)) refl)) refl) refl

  law_break : Law (BreakStmt r SubBody) (break_of r sub) (code (Word KeyBreak) ∷ []) false []
  law_break = law_then (law_the (Word KeyBreak) tt) (λ p xs h. law_after (Symbol Semicolon) tt (law_done (break_stmt p))) refl

  law_return : Law (ReturnStmt r SubBody) (return_of r sub) (code (Word KeyReturn) ∷ []) false []
  law_return = law_then (law_the (Word KeyReturn) tt) (λ p xs h. law_second_if room (law_after (Symbol Semicolon) tt (law_done (return_stmt p)))
      (λ e. law_then (law_form r e Expr) (λ a ys i. law_after (Symbol Semicolon) tt (law_done (return_value_stmt p a.tree))) refl) (λ e. none_then (none_form r e Expr)) refl) refl

  law_yield : room ≡ true → Law (YieldStmt r SubBody) (yield_of r sub) (code (Word KeyYield) ∷ []) false []
  law_yield e = law_then (law_the (Word KeyYield) tt) (λ p xs h. law_then (law_form r e Expr) (λ a ys i. law_after (Symbol Semicolon) tt (law_done (yield_stmt p a.tree))) refl) refl

  law_raise : Law (RaiseStmt r SubBody) (raise_of r sub) (code (Word KeyRaise) ∷ []) false []
  law_raise = law_then (law_the (Word KeyRaise) tt) (λ p xs h. law_then law_exc (λ x ys i. law_first_if room
      (λ e. law_then (law_between (Symbol OpenParen) (Symbol CloseParen) tt tt (law_form r e Expr) refl) (λ a zs j. law_after (Symbol Semicolon) tt (law_done (raise_value_stmt p x a.tree))) refl)
      (λ e. none_then (none_between (none_form r e Expr))) (law_after (Symbol Semicolon) tt (law_done (raise_stmt p x))) refl) refl) refl

  law_variable : Law (Maybe (Between (Symbol OpenParen) (Symbol CloseParen) (FormalAt r))) (variable_of r sub) (code (Symbol OpenParen) ∷ []) true (code (Symbol OpenParen) ∷ [])
  law_variable = law_first_if room (λ e. law_then (law_between (Symbol OpenParen) (Symbol CloseParen) tt tt (law_formal r e) refl) (λ a xs h. law_done (Some a)) refl)
      (λ e. none_then (none_between (none_formal r e))) (law_done None) refl

  law_when : Law (When r SubBody) (when_of r sub) (code (Word KeyWhen) ∷ []) false stmt_first
  law_when = law_weak (law_then (law_the (Word KeyWhen) tt) (λ p xs h. law_then law_exc (λ x ys i. law_then law_variable (λ v zs j. law_after (Word KeyDo) tt
      (law_then law_sub (λ b us k. law_done (record { at = p; exc = x; variable = v; body = b })) refl)) refl) refl) refl) refl refl

  law_begin : Law (BeginStmt r SubBody) (begin_of r sub) (code (Word KeyBegin) ∷ []) false []
  law_begin = law_then (law_the (Word KeyBegin) tt) (λ p xs h. law_then law_sub (λ b ys i. law_after (Word KeyExcept) tt (law_then law_when (λ w zs j.
      law_then (law_many more_handlers law_when (law_after (Word KeyEnd) tt (law_done no_when)) refl refl) (λ ws us k. law_done (begin_stmt p b (more_handlers w ws))) refl) refl)) refl) refl

  law_put : (m : Mark) → Exact m → (make : ℕ → ExprSyn → StmtSyn) → room ≡ true → Law (PutStmt r SubBody m make) (put_of r sub m make) (code m ∷ []) false []
  law_put m x make e = law_then (law_the m x) (λ p xs h. law_then (law_between (Symbol OpenParen) (Symbol CloseParen) tt tt (law_form r e Expr) refl) (λ a ys i. law_after (Symbol Semicolon) tt (law_done (make p a.tree))) refl) refl

  pub law_stmt_of : Law (AStmt r SubBody) (stmt_of r sub) stmt_first false []
  law_stmt_of = law_weak
      (law_first_if room law_var (λ e. none_next (λ p. none_then (none_formal r e)))
      (law_first_if room law_if (λ e. none_next (λ p. none_then (none_form r e Expr)))
      (law_first_if room law_while (λ e. none_next (λ p. none_then (none_form r e Expr)))
      (law_first_if room law_for (λ e. none_next (λ p. none_then (none_formal r e)))
      (law_either law_return
      (law_first_if room law_yield (λ e. none_next (λ p. none_then (none_form r e Expr)))
      (law_either law_raise
      (law_either law_begin
      (law_first_if room (law_put (Word KeyPutByte) tt put_byte_stmt) (λ e. none_next (λ p. none_then (none_between (none_form r e Expr))))
      (law_first_if room (law_put (Word KeyPutInt) tt put_int_stmt) (λ e. none_next (λ p. none_then (none_between (none_form r e Expr))))
      (law_first_if room (law_put (Word KeyPutString) tt put_text_stmt) (λ e. none_next (λ p. none_then (none_between (none_form r e Expr))))
      (law_second_if room law_break law_post_stmt (λ e. none_then (none_form r e Post)) refl) refl) refl) refl) refl) refl) refl) refl) refl) refl) refl) refl) refl refl

-- statements up to a height are read exactly
pub law_body : (r : ℕ) → LawBody (BodyAt r) (read_body r)
law_body zero = law_weak (law_same to from (law_done no_stmt)) refl refl where
  to : (b : BodySyn) (xs : List Lexeme) → Done no_stmt b xs → BodyAt zero b xs
  to b xs done = none_more no_stmt [] done

  from : (b : BodySyn) (xs : List Lexeme) → BodyAt zero b xs → Done no_stmt b xs
  from b xs (none_more c us h) = h
  from b xs (one_more a c us vs h i) = absurd h
law_body (suc r) = law_weak (law_many more_stmts (law_stmt_of r (BodyAt r) (read_body r) (law_body r)) (law_done no_stmt) refl refl) refl refl
