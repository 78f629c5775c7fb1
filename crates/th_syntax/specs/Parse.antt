-- Reading types and expressions lexeme by lexeme.
use Rattle.std.specs.Prelude.{ℕ, zero, suc, max, Bool, true, nat_lt, nat_le, List, [], ◌∷◌, if◌then◌else◌}
use Rattle.th_tree.specs.declared.tokens.Reserved.TheVariants.{KeyArray, KeyInt, KeyBool, KeyString, KeyNew, KeyTrue, KeyFalse, KeySelf, KeySuper, KeyNot, KeyLength, KeyGetByte}
use Rattle.th_tree.specs.declared.tokens.Sym.TheVariants.{OpenParen, CloseParen, OpenSquare, CloseSquare, OpenBrace, CloseBrace, Comma, Colon, Dot, Dollar, Minus}
use Rattle.th_tree.specs.declared.lexeme.Mark.TheVariants.{Word, Symbol}
use Rattle.th_tree.specs.declared.tree.Ident.{Ident}
use Rattle.th_tree.specs.declared.tree.RefTree.{RefTree}
use Rattle.th_tree.specs.Trees.{TypeSyn, int_type, bool_type, text_type, array_type, named_type, TypeSyns, no_type, more_types, type_height, types_height, NamedSyn, number_expr, text_expr, true_expr, false_expr, self_expr, super_expr, item_expr, call_expr, new_expr, new_array_expr, get_byte_expr, field_expr, method_expr, length_expr, element_expr, not_expr, negative_expr, FormalSyn}
use Rattle.th_tree.specs.Grammar.{Form, Expr, Conj, Neg, Rel, Sum, Term, Unary, Post, Atom, operator_of, Found, found, Founds, no_founds, more_founds, joined}
use Rattle.th_syntax.specs.Read.{P, Got, Bad, peek, choose, valued, lookup, one_of_table, steps, code, in_set, has, seq, ret, one, after, between, either, either_if, or_if, maybe, list_of, name_in, number_in, text_in}

-- a name
abbrev pub read_name : ℕ → P Ident
read_name n ts = valued name_in (λ i p. record { name = i; at = p }) ts

-- a reference
abbrev pub read_ref : ℕ → P RefTree
read_ref = seq read_name (λ a. seq (maybe (Symbol Dollar) (after (Symbol Dollar) read_name)) (λ b. ret (record { first = a; second = b })))

-- types up to the height r + 1, where `sub` reads those up to r
module _ (r : ℕ) (sub : ℕ → P TypeSyn) where
  abbrev pub type_args : ℕ → P TypeSyns
  type_args = either_if (Symbol OpenSquare) (nat_lt 0 r) (between (Symbol OpenSquare) (Symbol CloseSquare) (list_of (Symbol Comma) sub more_types no_type)) (ret no_type)

  abbrev pub named_type_of : ℕ → P NamedSyn
  named_type_of = seq read_ref (λ a. seq type_args (λ ts. ret (record { item = a; args = ts })))

  abbrev pub array_type_of : ℕ → P TypeSyn
  array_type_of = seq (one (Word KeyArray)) (λ p. seq (between (Symbol OpenSquare) (Symbol CloseSquare) sub) (λ t. ret (array_type p t)))

  abbrev pub type_of : ℕ → P TypeSyn
  type_of =
      either (Word KeyInt) (seq (one (Word KeyInt)) (λ p. ret (int_type p)))
      (either (Word KeyBool) (seq (one (Word KeyBool)) (λ p. ret (bool_type p)))
      (either (Word KeyString) (seq (one (Word KeyString)) (λ p. ret (text_type p)))
      (either_if (Word KeyArray) (nat_lt 0 r) array_type_of
      (seq named_type_of (λ a. ret (named_type a.item a.args))))))

-- a type up to the height r
abbrev pub read_type : ℕ → ℕ → P TypeSyn
read_type zero n ts = Bad ts
read_type (suc r) n ts = type_of r (read_type r) n ts

-- a named type up to the height r
abbrev pub read_named : ℕ → ℕ → P NamedSyn
read_named zero n ts = Bad ts
read_named (suc r) n ts = named_type_of r (read_type r) n ts

-- `array`, the type of its elements, which is of a height up to r, and `(`
abbrev pub array_head : ℕ → ℕ → P TypeSyn
array_head r = after (Word KeyArray) (seq (between (Symbol OpenSquare) (Symbol CloseSquare) (read_type r)) (λ t. after (Symbol OpenParen) (ret t)))

-- the marks with which a suffix begins
abbrev pub suffix_first : List ℕ
suffix_first = code (Symbol Dot) ∷ code (Symbol OpenSquare) ∷ []

-- whether a value is low enough to be a part of one of the height r + 1
abbrev pub goes_on : ℕ → Found → Bool
goes_on r a = nat_le a.height r

-- the forms up to the height r + 1, where `sub` reads those up to r
module _ (r : ℕ) (sub : Form → ℕ → P Found) where
  -- arguments after the `(`
  abbrev pub args_inside : ℕ → P Founds
  args_inside = or_if (Symbol CloseParen) (nat_lt 0 r) (seq (one (Symbol CloseParen)) (λ p. ret no_founds))
      (seq (list_of (Symbol Comma) (sub Expr) more_founds no_founds) (λ bs. after (Symbol CloseParen) (ret bs)))

  abbrev pub args_of : ℕ → P Founds
  args_of = after (Symbol OpenParen) args_inside

  abbrev pub parens_of : ℕ → P Found
  parens_of = seq (one (Symbol OpenParen)) (λ p. seq (sub Expr) (λ a. after (Symbol CloseParen) (ret (found a.tree (suc a.height) p))))

  abbrev pub super_of : ℕ → P Found
  super_of = seq (one (Word KeySuper)) (λ p. after (Symbol Dot) (seq read_name (λ m. seq args_of (λ bs. ret (found (super_expr p m bs.trees) (suc bs.height) p)))))

  -- the length and the first value of an array of the type, in a `new` at p
  abbrev pub array_values : ℕ → TypeSyn → ℕ → P Found
  array_values p t = seq (sub Expr) (λ m. after (Symbol Comma) (seq (sub Expr) (λ e. after (Symbol CloseParen)
      (ret (found (new_array_expr p t m.tree e.tree) (suc (max (type_height t) (max m.height e.height))) p)))))

  -- `array` and what follows, in a `new` at p
  abbrev pub new_array_of : ℕ → ℕ → P Found
  new_array_of p = after (Word KeyArray) (seq (between (Symbol OpenSquare) (Symbol CloseSquare) (read_type r)) (λ t. after (Symbol OpenParen) (array_values p t)))

  -- a class and arguments, in a `new` at p
  abbrev pub new_object_of : ℕ → ℕ → P Found
  new_object_of p = seq (read_named r) (λ c. seq args_of (λ bs. ret (found (new_expr p c bs.trees) (suc (max (suc (types_height c.args)) bs.height)) p)))

  abbrev pub new_of : ℕ → P Found
  new_of = seq (one (Word KeyNew)) (λ p. either (Word KeyArray) (new_array_of p) (new_object_of p))

  abbrev pub get_byte_of : ℕ → P Found
  get_byte_of = seq (one (Word KeyGetByte)) (λ p. after (Symbol OpenParen) (after (Symbol CloseParen) (ret (found (get_byte_expr p) 1 p))))

  abbrev pub braces_of : ℕ → P TypeSyns
  braces_of = either_if (Symbol OpenBrace) (nat_lt 0 r) (between (Symbol OpenBrace) (Symbol CloseBrace) (list_of (Symbol Comma) (read_type r) more_types no_type)) (ret no_type)

  -- arguments or none, after a reference and types in braces
  abbrev pub item_end : RefTree → TypeSyns → ℕ → P Found
  item_end a ts = either (Symbol OpenParen) (seq args_of (λ bs. ret (found (call_expr a.first.at a ts bs.trees) (suc (max (types_height ts) bs.height)) a.first.at)))
      (ret (found (item_expr a.first.at a ts) (suc (types_height ts)) a.first.at))

  abbrev pub item_of : ℕ → P Found
  item_of = seq read_ref (λ a. seq braces_of (λ ts. item_end a ts))

  abbrev pub atom_of : ℕ → P Found
  atom_of =
      choose (in_set (1 ∷ [])) true true (λ n ts. valued number_in (λ i p. found (number_expr p i) 1 p) ts)
      (either (Word KeyTrue) (seq (one (Word KeyTrue)) (λ p. ret (found (true_expr p) 1 p)))
      (either (Word KeyFalse) (seq (one (Word KeyFalse)) (λ p. ret (found (false_expr p) 1 p)))
      (either (Word KeySelf) (seq (one (Word KeySelf)) (λ p. ret (found (self_expr p) 1 p)))
      (choose (in_set (2 ∷ [])) true true (λ n ts. valued text_in (λ i p. found (text_expr p i) 1 p) ts)
      (either_if (Symbol OpenParen) (nat_lt 0 r) parens_of
      (either (Word KeySuper) super_of
      (either_if (Word KeyNew) (nat_lt 0 r) new_of
      (either (Word KeyGetByte) get_byte_of item_of))))))))

  -- what follows a `.`
  abbrev pub member_of : Found → ℕ → P Found
  member_of a = either (Word KeyLength) (after (Word KeyLength) (ret (found (length_expr a.start a.tree) (suc a.height) a.start)))
      (seq read_name (λ m. either (Symbol OpenParen) (seq args_of (λ bs. ret (found (method_expr a.start a.tree m bs.trees) (suc (max a.height bs.height)) a.start)))
      (ret (found (field_expr a.start a.tree m) (suc a.height) a.start))))

  abbrev pub suffix_of : Found → ℕ → P Found
  suffix_of a = either (Symbol Dot) (after (Symbol Dot) (member_of a))
      (seq (between (Symbol OpenSquare) (Symbol CloseSquare) (sub Expr)) (λ b. ret (found (element_expr a.start a.tree b.tree) (suc (max a.height b.height)) a.start)))

  -- the suffixes after an atom
  abbrev pub suffixes : Found → ℕ → P Found
  suffixes a n ts = steps (in_set suffix_first) (goes_on r) suffix_of (suc r) a n ts

  abbrev pub post_of : ℕ → P Found
  post_of = seq atom_of suffixes

  abbrev pub operand_of : Form → Form → Found → ℕ → P Found
  operand_of F G a = seq (λ n. one_of_table (operator_of F)) (λ o. seq (sub G) (λ b. ret (joined o a b)))

  -- further operands of a chain
  abbrev pub chain : Form → Form → Found → ℕ → P Found
  chain F G a n ts = steps (λ o. has (lookup (operator_of F) o)) (goes_on r) (operand_of F G) (suc r) a n ts

  abbrev pub unary_of : ℕ → P Found
  unary_of = either_if (Symbol Minus) (nat_lt 0 r) (seq (one (Symbol Minus)) (λ p. seq (sub Unary) (λ a. ret (found (negative_expr p a.tree) (suc a.height) p)))) post_of

  abbrev pub term_of : ℕ → P Found
  term_of = seq unary_of (chain Term Unary)

  abbrev pub sum_of : ℕ → P Found
  sum_of = seq term_of (chain Sum Term)

  -- a comparison with a sum or none, after a sum
  abbrev pub comparison : Found → ℕ → P Found
  comparison a n ts =
      if has (lookup (operator_of Rel) (peek ts)) then (if goes_on r a then operand_of Rel Sum a n ts else Bad ts) else Got a ts

  abbrev pub rel_of : ℕ → P Found
  rel_of = seq sum_of comparison

  abbrev pub neg_of : ℕ → P Found
  neg_of = either_if (Word KeyNot) (nat_lt 0 r) (seq (one (Word KeyNot)) (λ p. seq (sub Neg) (λ a. ret (found (not_expr p a.tree) (suc a.height) p)))) rel_of

  abbrev pub conj_of : ℕ → P Found
  conj_of = seq neg_of (chain Conj Neg)

  abbrev pub expr_of : ℕ → P Found
  expr_of = seq conj_of (chain Expr Conj)

  abbrev pub form_of : Form → ℕ → P Found
  form_of Expr = expr_of
  form_of Conj = conj_of
  form_of Neg = neg_of
  form_of Rel = rel_of
  form_of Sum = sum_of
  form_of Term = term_of
  form_of Unary = unary_of
  form_of Post = post_of
  form_of Atom = atom_of

-- the forms up to the height r
abbrev pub read_form : ℕ → Form → ℕ → P Found
read_form zero F n ts = Bad ts
read_form (suc r) F n ts = form_of r (read_form r) F n ts

-- a name and its type
abbrev pub read_formal : ℕ → ℕ → P FormalSyn
read_formal r = seq read_name (λ i. after (Symbol Colon) (seq (read_type r) (λ t. ret (record { name = i; of = t }))))

-- the marks with which an atom begins
abbrev pub atom_first : List ℕ
atom_first = 1 ∷ code (Word KeyTrue) ∷ code (Word KeyFalse) ∷ code (Word KeySelf) ∷ 2 ∷ code (Symbol OpenParen) ∷ code (Word KeySuper) ∷ code (Word KeyNew) ∷ code (Word KeyGetByte) ∷ 0 ∷ []
