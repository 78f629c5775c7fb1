-- The grammar of types, expressions and statements: one definition for each form, with its production above it.
-- A height stands at each form: its trees are those up to this height, and their parts are lower by one.
use Rattle.std.specs.Prelude.{◌≡◌, ℕ, zero, suc, ◌≤◌, max, Bool, true, false, List, [], ◌∷◌, Option, Some, None}
use Rattle.th_tree.specs.declared.tokens.Reserved.TheVariants.{KeyArray, KeyInt, KeyBool, KeyString, KeyVar, KeyIf, KeyThen, KeyElseif, KeyElse, KeyEnd, KeyWhile, KeyFor, KeyIn, KeyDo, KeyBreak, KeyReturn, KeyYield, KeyRaise, KeyBegin, KeyExcept, KeyWhen, KeyNew, KeyTrue, KeyFalse, KeySelf, KeySuper, KeyOr, KeyAnd, KeyNot, KeyLength, KeyPutByte, KeyPutInt, KeyPutString, KeyGetByte, KeyOverflow, KeyZeroDivide, KeyBounds, KeyEndOfInput}
use Rattle.th_tree.specs.declared.tokens.Sym.TheVariants.{OpenParen, CloseParen, OpenSquare, CloseSquare, OpenBrace, CloseBrace, Comma, Semicolon, Colon, Dot, Dollar, Becomes}
use Rattle.th_tree.specs.declared.tokens.Sym.TheVariants as signs
use Rattle.th_tree.specs.declared.lexeme.Mark.{Mark}
use Rattle.th_tree.specs.declared.lexeme.Mark.TheVariants.{Name, Word, Number, Symbol, Text}
use Rattle.th_tree.specs.declared.tree.Ident.{Ident}
use Rattle.th_tree.specs.declared.tree.RefTree.{RefTree}
use Rattle.th_tree.specs.declared.tree.BinaryOp.{BinaryOp}
use Rattle.th_tree.specs.declared.tree.BinaryOp.TheVariants as ops
use Rattle.th_tree.specs.declared.tree.ExcTree.{ExcTree}
use Rattle.th_tree.specs.declared.tree.ExcTree.TheVariants.{Declared, Overflow, ZeroDivide, Bounds, EndOfInput}
use Rattle.th_tree.specs.Trees.{TypeSyn, int_type, bool_type, text_type, array_type, named_type, TypeSyns, no_type, more_types, type_height, types_height, NamedSyn, ExprSyn, number_expr, text_expr, true_expr, false_expr, self_expr, super_expr, item_expr, call_expr, new_expr, new_array_expr, get_byte_expr, field_expr, method_expr, length_expr, element_expr, not_expr, negative_expr, binary_expr, ExprSyns, no_expr, more_exprs, FormalSyn, StmtSyn, var_stmt, assign_stmt, plain_stmt, if_stmt, while_stmt, for_stmt, break_stmt, return_stmt, return_value_stmt, yield_stmt, raise_stmt, raise_value_stmt, begin_stmt, put_byte_stmt, put_int_stmt, put_text_stmt, BodySyn, no_stmt, more_stmts, ElseSyn, no_else, else_do, elseif_then, WhenSyns, no_when, more_whens}
use Rattle.th_tree.specs.Forms.{Lang, Nothing, Done, The, Valued, OneOf, Then, Either, Many, Listed, Steps, Where, After, Between, Maybe, AName}

-- Ref = name ["$" name]
abbrev pub Ref : Lang RefTree
Ref = Then AName (λ a. Then (Maybe (After (Symbol Dollar) AName)) (λ b. Done (record { first = a; second = b })))

-- types at a height up to r + 1, where SubType is those up to r
module _ (SubType : Lang TypeSyn) where
  -- "[" Type {"," Type} "]", or nothing
  abbrev pub TypeArgs : Lang TypeSyns
  TypeArgs = Either (Between (Symbol OpenSquare) (Symbol CloseSquare) (Listed (Symbol Comma) SubType more_types no_type)) (Done no_type)

  -- Named = Ref ["[" Type {"," Type} "]"]
  abbrev pub Named : Lang NamedSyn
  Named = Then Ref (λ a. Then TypeArgs (λ ts. Done (record { item = a; args = ts })))

  -- "array" "[" Type "]"
  abbrev pub ArrayType : Lang TypeSyn
  ArrayType = Then (The (Word KeyArray)) (λ p. Then (Between (Symbol OpenSquare) (Symbol CloseSquare) SubType) (λ t. Done (array_type p t)))

  -- Type = "int" | "bool" | "string" | "array" "[" Type "]" | Named
  abbrev pub AType : Lang TypeSyn
  AType =
      Either (Then (The (Word KeyInt)) (λ p. Done (int_type p)))
      (Either (Then (The (Word KeyBool)) (λ p. Done (bool_type p)))
      (Either (Then (The (Word KeyString)) (λ p. Done (text_type p)))
      (Either ArrayType
      (Then Named (λ n. Done (named_type n.item n.args))))))

-- the types at a height up to r
abbrev pub TypeAt : ℕ → Lang TypeSyn
TypeAt zero = Nothing
TypeAt (suc r) = AType (TypeAt r)

-- the named types at a height up to r
abbrev pub NamedAt : ℕ → Lang NamedSyn
NamedAt zero = Nothing
NamedAt (suc r) = Named (TypeAt r)

-- the forms of an expression
pub data Form : Type 0 where
  Expr : Form
  Conj : Form
  Neg : Form
  Rel : Form
  Sum : Form
  Term : Form
  Unary : Form
  Post : Form
  Atom : Form

-- which marks are an operator between two operands of a form
abbrev pub operator_of : Form → Mark → Option BinaryOp
operator_of Expr (Word KeyOr) = Some ops.Or
operator_of Conj (Word KeyAnd) = Some ops.And
operator_of Rel (Symbol signs.Equal) = Some ops.Equal
operator_of Rel (Symbol signs.NotEqual) = Some ops.NotEqual
operator_of Rel (Symbol signs.Same) = Some ops.Same
operator_of Rel (Symbol signs.Less) = Some ops.Less
operator_of Rel (Symbol signs.LessEqual) = Some ops.LessEqual
operator_of Rel (Symbol signs.Greater) = Some ops.Greater
operator_of Rel (Symbol signs.GreaterEqual) = Some ops.GreaterEqual
operator_of Sum (Symbol signs.Plus) = Some ops.Plus
operator_of Sum (Symbol signs.Minus) = Some ops.Minus
operator_of Sum (Symbol signs.Ampersand) = Some ops.Join
operator_of Term (Symbol signs.Times) = Some ops.Times
operator_of Term (Symbol signs.Divide) = Some ops.Divide
operator_of Term (Symbol signs.Remainder) = Some ops.Remainder
operator_of _ _ = None

-- an expression with its height and the byte where its first lexeme starts, which may be a parenthesis around it
pub record Found : Type 0 where
  pub tree : ExprSyn
  pub height : ℕ
  pub start : ℕ

abbrev pub found : ExprSyn → ℕ → ℕ → Found
found e h s = record { tree = e; height = h; start = s }

-- expressions with the greatest of their heights
pub record Founds : Type 0 where
  pub trees : ExprSyns
  pub height : ℕ

abbrev pub no_founds : Founds
no_founds = record { trees = no_expr; height = 0 }

abbrev pub more_founds : Found → Founds → Founds
more_founds a bs = record { trees = more_exprs a.tree bs.trees; height = max a.height bs.height }

-- two operands with an operator between them
abbrev pub joined : BinaryOp → Found → Found → Found
joined o a b = found (binary_expr a.start o a.tree b.tree) (suc (max a.height b.height)) a.start

-- the forms at a height up to r + 1, where those of the parts are up to r
module _ (r : ℕ) (SubType : Lang TypeSyn) (SubNamed : Lang NamedSyn) (Sub : Form → Lang Found) where
  -- Args = "(" [Expr {"," Expr}] ")"
  abbrev pub Args : Lang Founds
  Args = After (Symbol OpenParen)
      (Either (Then (The (Symbol CloseParen)) (λ p. Done no_founds))
      (Then (Listed (Symbol Comma) (Sub Expr) more_founds no_founds) (λ bs. After (Symbol CloseParen) (Done bs))))

  -- "(" Expr ")"
  abbrev pub Parens : Lang Found
  Parens = Then (The (Symbol OpenParen)) (λ p. Then (Sub Expr) (λ a. After (Symbol CloseParen) (Done (found a.tree (suc a.height) p))))

  -- "super" "." name Args
  abbrev pub Super : Lang Found
  Super = Then (The (Word KeySuper)) (λ p. After (Symbol Dot) (Then AName (λ n. Then Args (λ bs. Done (found (super_expr p n bs.trees) (suc bs.height) p)))))

  -- "new" Named Args | "new" "array" "[" Type "]" "(" Expr "," Expr ")"
  abbrev pub New : Lang Found
  New = Then (The (Word KeyNew)) (λ p.
      Either (After (Word KeyArray) (Then (Between (Symbol OpenSquare) (Symbol CloseSquare) SubType) (λ t.
      After (Symbol OpenParen) (Then (Sub Expr) (λ n. After (Symbol Comma) (Then (Sub Expr) (λ e. After (Symbol CloseParen)
      (Done (found (new_array_expr p t n.tree e.tree) (suc (max (type_height t) (max n.height e.height))) p)))))))))
      (Then SubNamed (λ c. Then Args (λ bs. Done (found (new_expr p c bs.trees) (suc (max (suc (types_height c.args)) bs.height)) p)))))

  -- "get_byte" "(" ")"
  abbrev pub GetByte : Lang Found
  GetByte = Then (The (Word KeyGetByte)) (λ p. After (Symbol OpenParen) (After (Symbol CloseParen) (Done (found (get_byte_expr p) 1 p))))

  -- "{" Type {"," Type} "}", or nothing
  abbrev pub Braces : Lang TypeSyns
  Braces = Either (Between (Symbol OpenBrace) (Symbol CloseBrace) (Listed (Symbol Comma) SubType more_types no_type)) (Done no_type)

  -- Ref ["{" Type {"," Type} "}"] [Args]
  abbrev pub Item : Lang Found
  Item = Then Ref (λ a. Then Braces (λ ts.
      Either (Then Args (λ bs. Done (found (call_expr a.first.at a ts bs.trees) (suc (max (types_height ts) bs.height)) a.first.at)))
      (Done (found (item_expr a.first.at a ts) (suc (types_height ts)) a.first.at))))

  -- Atom = number | "true" | "false" | "self" | a literal | "(" Expr ")" | "super" "." name Args
  --      | Ref ["{" Type {"," Type} "}"] [Args] | "new" Named Args | "new" "array" "[" Type "]" "(" Expr "," Expr ")" | "get_byte" "(" ")"
  abbrev pub AnAtom : Lang Found
  AnAtom =
      Either (Valued Number (λ n p. found (number_expr p n) 1 p))
      (Either (Then (The (Word KeyTrue)) (λ p. Done (found (true_expr p) 1 p)))
      (Either (Then (The (Word KeyFalse)) (λ p. Done (found (false_expr p) 1 p)))
      (Either (Then (The (Word KeySelf)) (λ p. Done (found (self_expr p) 1 p)))
      (Either (Valued Text (λ n p. found (text_expr p n) 1 p))
      (Either Parens
      (Either Super
      (Either New
      (Either GetByte Item))))))))

  -- what follows the `.` after an expression: "length" | name [Args]
  abbrev pub Member : Found → Lang Found
  Member a =
      Either (After (Word KeyLength) (Done (found (length_expr a.start a.tree) (suc a.height) a.start)))
      (Then AName (λ n.
      Either (Then Args (λ bs. Done (found (method_expr a.start a.tree n bs.trees) (suc (max a.height bs.height)) a.start)))
      (Done (found (field_expr a.start a.tree n) (suc a.height) a.start))))

  -- "." name [Args] | "." "length" | "[" Expr "]" after an expression
  abbrev pub Suffix : Found → Lang Found
  Suffix a =
      Either (After (Symbol Dot) (Member a))
      (Then (Between (Symbol OpenSquare) (Symbol CloseSquare) (Sub Expr)) (λ b.
      Done (found (element_expr a.start a.tree b.tree) (suc (max a.height b.height)) a.start)))

  -- Post = Atom { "." name [Args] | "." "length" | "[" Expr "]" }
  abbrev pub APost : Lang Found
  APost = Then AnAtom (Steps (λ a. Where (a.height ≤ r) (Suffix a)))

  -- an operator of the form F, and an operand of the form G, after an expression
  abbrev pub Operand : Form → Form → Found → Lang Found
  Operand F G a = Then (OneOf (operator_of F)) (λ o. Then (Sub G) (λ b. Done (joined o a b)))

  -- a chain of operands G with operators of the form F, which groups to the left; First is G at the height r + 1
  abbrev pub Chain : Form → Form → Lang Found → Lang Found
  Chain F G First = Then First (Steps (λ a. Where (a.height ≤ r) (Operand F G a)))

  -- Unary = "-" Unary | Post
  abbrev pub AUnary : Lang Found
  AUnary = Either (Then (The (Symbol signs.Minus)) (λ p. Then (Sub Unary) (λ a. Done (found (negative_expr p a.tree) (suc a.height) p)))) APost

  -- Term = Unary {("*"|"/"|"%") Unary}
  abbrev pub ATerm : Lang Found
  ATerm = Chain Term Unary AUnary

  -- Sum = Term {("+"|"-"|"&") Term}
  abbrev pub ASum : Lang Found
  ASum = Chain Sum Term ATerm

  -- Rel = Sum [("="|"~="|"=="|"<"|"<="|">"|">=") Sum]
  abbrev pub ARel : Lang Found
  ARel = Then ASum (λ a. Either (Where (a.height ≤ r) (Operand Rel Sum a)) (Done a))

  -- Neg = "not" Neg | Rel
  abbrev pub ANeg : Lang Found
  ANeg = Either (Then (The (Word KeyNot)) (λ p. Then (Sub Neg) (λ a. Done (found (not_expr p a.tree) (suc a.height) p)))) ARel

  -- Conj = Neg {"and" Neg}
  abbrev pub AConj : Lang Found
  AConj = Chain Conj Neg ANeg

  -- Expr = Conj {"or" Conj}
  abbrev pub AnExpr : Lang Found
  AnExpr = Chain Expr Conj AConj

  abbrev pub form_language : Form → Lang Found
  form_language Expr = AnExpr
  form_language Conj = AConj
  form_language Neg = ANeg
  form_language Rel = ARel
  form_language Sum = ASum
  form_language Term = ATerm
  form_language Unary = AUnary
  form_language Post = APost
  form_language Atom = AnAtom

-- the forms at a height up to r
abbrev pub FormAt : ℕ → Form → Lang Found
FormAt zero F = Nothing
FormAt (suc r) F = form_language r (TypeAt r) (NamedAt r) (FormAt r) F

-- the expressions at a height up to r
abbrev pub ExprAt : ℕ → Lang Found
ExprAt r = FormAt r Expr

-- name ":" Type, with the types up to the height r
abbrev pub FormalAt : ℕ → Lang FormalSyn
FormalAt r = Then AName (λ n. After (Symbol Colon) (Then (TypeAt r) (λ t. Done (record { name = n; of = t }))))

-- Exc = Ref | "overflow" | "zero_divide" | "bounds" | "end_of_input"
abbrev pub Exc : Lang ExcTree
Exc =
    Either (Then (The (Word KeyOverflow)) (λ p. Done (Overflow p)))
    (Either (Then (The (Word KeyZeroDivide)) (λ p. Done (ZeroDivide p)))
    (Either (Then (The (Word KeyBounds)) (λ p. Done (Bounds p)))
    (Either (Then (The (Word KeyEndOfInput)) (λ p. Done (EndOfInput p)))
    (Then Ref (λ a. Done (Declared a))))))

-- an `elseif` up to its statements
pub record ElseifPart : Type 0 where
  pub at : ℕ
  pub test : ExprSyn
  pub body : BodySyn

abbrev pub more_elses : ElseifPart → ElseSyn → ElseSyn
more_elses a b = elseif_then a.at a.test a.body b

-- a handler
pub record WhenPart : Type 0 where
  pub at : ℕ
  pub exc : ExcTree
  pub variable : Option FormalSyn
  pub body : BodySyn

abbrev pub more_handlers : WhenPart → WhenSyns → WhenSyns
more_handlers a b = more_whens a.at a.exc a.variable a.body b

-- statements at a height up to r + 1, where SubBody is statements up to r
module _ (r : ℕ) (SubBody : Lang BodySyn) where
  -- "var" name ":" Type ":=" Expr ";"
  abbrev pub VarStmt : Lang StmtSyn
  VarStmt = Then (The (Word KeyVar)) (λ p. Then (FormalAt r) (λ f. After (Symbol Becomes) (Then (ExprAt r) (λ e. After (Symbol Semicolon) (Done (var_stmt p f e.tree))))))

  -- Post [":=" Expr] ";"
  abbrev pub PostStmt : Lang StmtSyn
  PostStmt = Then (FormAt r Post) (λ a.
      Either (After (Symbol Becomes) (Then (ExprAt r) (λ e. After (Symbol Semicolon) (Done (assign_stmt a.start a.tree e.tree)))))
      (After (Symbol Semicolon) (Done (plain_stmt a.start a.tree))))

  -- "elseif" Expr "then" Body
  abbrev pub Elseif : Lang ElseifPart
  Elseif = Then (The (Word KeyElseif)) (λ p. Then (ExprAt r) (λ e. After (Word KeyThen) (Then SubBody (λ b. Done (record { at = p; test = e.tree; body = b })))))

  -- ["else" Body] "end"
  abbrev pub Else : Lang ElseSyn
  Else =
      Either (After (Word KeyElse) (Then SubBody (λ b. After (Word KeyEnd) (Done (else_do b)))))
      (After (Word KeyEnd) (Done no_else))

  -- "if" Expr "then" Body {"elseif" Expr "then" Body} ["else" Body] "end"
  abbrev pub IfStmt : Lang StmtSyn
  IfStmt = Then (The (Word KeyIf)) (λ p. Then (ExprAt r) (λ e. After (Word KeyThen) (Then SubBody (λ b. Then (Many Elseif more_elses Else) (λ c. Done (if_stmt p e.tree b c))))))

  -- "while" Expr "do" Body "end"
  abbrev pub WhileStmt : Lang StmtSyn
  WhileStmt = Then (The (Word KeyWhile)) (λ p. Then (ExprAt r) (λ e. After (Word KeyDo) (Then SubBody (λ b. After (Word KeyEnd) (Done (while_stmt p e.tree b))))))

  -- "for" name ":" Type "in" Post "do" Body "end"
  abbrev pub ForStmt : Lang StmtSyn
  ForStmt = Then (The (Word KeyFor)) (λ p. Then (FormalAt r) (λ f. After (Word KeyIn) (Then (FormAt r Post) (λ e. After (Word KeyDo) (Then SubBody (λ b. After (Word KeyEnd) (Done (for_stmt p f e.tree b))))))))

  -- "break" ";"
  abbrev pub BreakStmt : Lang StmtSyn
  BreakStmt = Then (The (Word KeyBreak)) (λ p. After (Symbol Semicolon) (Done (break_stmt p)))

  -- "return" [Expr] ";"
  abbrev pub ReturnStmt : Lang StmtSyn
  ReturnStmt = Then (The (Word KeyReturn)) (λ p.
      Either (After (Symbol Semicolon) (Done (return_stmt p)))
      (Then (ExprAt r) (λ e. After (Symbol Semicolon) (Done (return_value_stmt p e.tree)))))

  -- "yield" Expr ";"
  abbrev pub YieldStmt : Lang StmtSyn
  YieldStmt = Then (The (Word KeyYield)) (λ p. Then (ExprAt r) (λ e. After (Symbol Semicolon) (Done (yield_stmt p e.tree))))

  -- "raise" Exc ["(" Expr ")"] ";"
  abbrev pub RaiseStmt : Lang StmtSyn
  RaiseStmt = Then (The (Word KeyRaise)) (λ p. Then Exc (λ x.
      Either (Then (Between (Symbol OpenParen) (Symbol CloseParen) (ExprAt r)) (λ e. After (Symbol Semicolon) (Done (raise_value_stmt p x e.tree))))
      (After (Symbol Semicolon) (Done (raise_stmt p x)))))

  -- When = "when" Exc ["(" name ":" Type ")"] "do" Body
  abbrev pub When : Lang WhenPart
  When = Then (The (Word KeyWhen)) (λ p. Then Exc (λ x. Then (Maybe (Between (Symbol OpenParen) (Symbol CloseParen) (FormalAt r))) (λ v. After (Word KeyDo) (Then SubBody (λ b.
      Done (record { at = p; exc = x; variable = v; body = b }))))))

  -- "begin" Body "except" When {When} "end"
  abbrev pub BeginStmt : Lang StmtSyn
  BeginStmt = Then (The (Word KeyBegin)) (λ p. Then SubBody (λ b. After (Word KeyExcept) (Then When (λ w. Then (Many When more_handlers (After (Word KeyEnd) (Done no_when))) (λ ws.
      Done (begin_stmt p b (more_handlers w ws)))))))

  -- the word, "(" Expr ")" ";"
  abbrev pub PutStmt : Mark → (ℕ → ExprSyn → StmtSyn) → Lang StmtSyn
  PutStmt m make = Then (The m) (λ p. Then (Between (Symbol OpenParen) (Symbol CloseParen) (ExprAt r)) (λ e. After (Symbol Semicolon) (Done (make p e.tree))))

  -- Stmt = "var" .. | "if" .. | "while" .. | "for" .. | "return" .. | "yield" .. | "raise" .. | "begin" ..
  --      | "put_byte" "(" Expr ")" ";" | "put_int" "(" Expr ")" ";" | "put_string" "(" Expr ")" ";" | Post [":=" Expr] ";" | "break" ";"
  abbrev pub AStmt : Lang StmtSyn
  AStmt =
      Either VarStmt
      (Either IfStmt
      (Either WhileStmt
      (Either ForStmt
      (Either ReturnStmt
      (Either YieldStmt
      (Either RaiseStmt
      (Either BeginStmt
      (Either (PutStmt (Word KeyPutByte) put_byte_stmt)
      (Either (PutStmt (Word KeyPutInt) put_int_stmt)
      (Either (PutStmt (Word KeyPutString) put_text_stmt)
      (Either BreakStmt PostStmt)))))))))))

-- the statements at a height up to r
abbrev pub StmtAt : ℕ → Lang StmtSyn
StmtAt zero = Nothing
StmtAt (suc r) = AStmt r (Many (StmtAt r) more_stmts (Done no_stmt))

-- Body = {Stmt}, with the statements up to the height r
abbrev pub BodyAt : ℕ → Lang BodySyn
BodyAt r = Many (StmtAt r) more_stmts (Done no_stmt)

-- no tree of a greater height is in the grammar
unfoldable pub height_limit : ℕ
height_limit = 600

-- whether a statement may begin with the mark
abbrev pub begins_statement : Option Mark → Bool
begins_statement (Some (Name n)) = true
begins_statement (Some (Number n)) = true
begins_statement (Some (Text n)) = true
begins_statement (Some (Symbol OpenParen)) = true
begins_statement (Some (Word KeyTrue)) = true
begins_statement (Some (Word KeyFalse)) = true
begins_statement (Some (Word KeySelf)) = true
begins_statement (Some (Word KeySuper)) = true
begins_statement (Some (Word KeyNew)) = true
begins_statement (Some (Word KeyGetByte)) = true
begins_statement (Some (Word KeyVar)) = true
begins_statement (Some (Word KeyIf)) = true
begins_statement (Some (Word KeyWhile)) = true
begins_statement (Some (Word KeyFor)) = true
begins_statement (Some (Word KeyBreak)) = true
begins_statement (Some (Word KeyReturn)) = true
begins_statement (Some (Word KeyYield)) = true
begins_statement (Some (Word KeyRaise)) = true
begins_statement (Some (Word KeyBegin)) = true
begins_statement (Some (Word KeyPutByte)) = true
begins_statement (Some (Word KeyPutInt)) = true
begins_statement (Some (Word KeyPutString)) = true
begins_statement _ = false
