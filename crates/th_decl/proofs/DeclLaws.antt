-- Modules and interfaces are read exactly.
use Rattle.std.proofs.Common.{◌≡◌, ℕ, true, false, nat_lt, List, [], ◌∷◌, Some, refl}
use Rattle.th_tree.specs.declared.tokens.Reserved.TheVariants.{KeyModule, KeyInterface, KeyImplements, KeyUses, KeyType, KeyClass, KeyFor, KeyInherits, KeyWhere, KeyHas, KeyException, KeyRoutine, KeyIter, KeyInit, KeyHidden, KeyField, KeyReturns, KeyYields, KeySignals, KeyEnd, KeySuper}
use Rattle.th_tree.specs.declared.tokens.Sym.TheVariants.{OpenParen, CloseParen, OpenSquare, CloseSquare, Comma, Semicolon, Becomes, Less}
use Rattle.th_tree.specs.declared.lexeme.Mark.TheVariants.{Word, Symbol}
use Rattle.th_tree.specs.Trees.{no_type, more_types, exception_item, type_item, class_item, routine_item, module_class, module_routine}
use Rattle.th_tree.specs.Grammar.{Expr, FormAt}
use Rattle.th_tree.specs.Declarations as grammar
use Rattle.th_syntax.specs.Read.{code}
use Rattle.th_syntax.specs.Parse.{read_form}
use Rattle.th_syntax.proofs.Law.{Law, law_weak, law_done, law_then, law_the}
use Rattle.th_syntax.proofs.Choice.{law_either}
use Rattle.th_syntax.proofs.Repeat.{law_many, law_listed}
use Rattle.th_syntax.proofs.Words.{law_name, law_ref, law_after, law_between, law_maybe}
use Rattle.th_syntax.proofs.TypeLaws.{law_type, law_named, type_more}
use Rattle.th_syntax.proofs.ExprLaws.{law_form, none_form, law_args}
use Rattle.th_syntax.proofs.TypeLaws.{law_formal}
use Rattle.th_parse.proofs.StmtLaws.{law_body}
use Rattle.th_decl.specs.Parse.{uses, params, signals, formals, in_parens, returns, yields, sig, type_formals, clause, clauses, head, class_head, init_head, interface_class, super_call, field_assign, init, method, field, class, supertypes, type_decl, exception, interface_item, interface, routine, module_item, whole_module}

abbrev signal_more : List ℕ
signal_more = code (Word KeySignals) ∷ []

abbrev sig_more : List ℕ
sig_more = code (Word KeySignals) ∷ code (Word KeyReturns) ∷ []

abbrev head_more : List ℕ
head_more = code (Word KeyWhere) ∷ code (Symbol Comma) ∷ sig_more

law_uses : (limit : ℕ) → Law (grammar.Uses limit) uses (code (Word KeyUses) ∷ []) true (code (Symbol Comma) ∷ code (Word KeyUses) ∷ [])
law_uses limit = law_weak (law_either (law_after (Word KeyUses) tt (law_listed (Symbol Comma) (λ a b. a ∷ b) [] law_name tt refl)) (law_done []) refl) refl refl

law_params : (limit : ℕ) → Law (grammar.Params limit) params (code (Symbol OpenSquare) ∷ []) true (code (Symbol OpenSquare) ∷ [])
law_params limit = law_weak (law_either (law_between (Symbol OpenSquare) (Symbol CloseSquare) tt tt (law_listed (Symbol Comma) (λ a b. a ∷ b) [] law_name tt refl) refl) (law_done []) refl) refl refl

law_signals : (limit : ℕ) → Law (grammar.Signals limit) signals signal_more true signal_more
law_signals limit = law_weak (law_either (law_after (Word KeySignals) tt (law_between (Symbol OpenParen) (Symbol CloseParen) tt tt (law_listed (Symbol Comma) (λ a b. a ∷ b) [] law_ref tt refl) refl)) (law_done []) refl) refl refl

module _ (limit : ℕ) (some : nat_lt 0 limit ≡ true) where
  law_formals : Law (grammar.Formals limit) (formals limit) (code (Symbol OpenParen) ∷ []) false []
  law_formals = law_weak (law_after (Symbol OpenParen) tt (law_either (law_after (Symbol CloseParen) tt (law_done []))
      (law_then (law_listed (Symbol Comma) (λ a b. a ∷ b) [] (law_formal limit some) tt refl) (λ fs xs h. law_after (Symbol CloseParen) tt (law_done fs)) refl) refl)) refl refl

  law_in_parens : Law (grammar.InParens limit) (in_parens limit) (code (Symbol OpenParen) ∷ []) false []
  law_in_parens = law_between (Symbol OpenParen) (Symbol CloseParen) tt tt (law_type limit some) refl

  law_returns : Law (grammar.Returns limit) (returns limit) (code (Word KeyReturns) ∷ []) true (code (Word KeyReturns) ∷ [])
  law_returns = law_maybe (Word KeyReturns) (law_after (Word KeyReturns) tt law_in_parens) refl

  law_yields : Law (grammar.Yields limit) (yields limit) (code (Word KeyYields) ∷ []) false []
  law_yields = law_after (Word KeyYields) tt (law_then law_in_parens (λ t xs h. law_done (Some t)) refl)

  law_sig : Law (grammar.MSig limit) (sig limit) (code (Word KeyIter) ∷ 0 ∷ []) false sig_more
  law_sig = law_weak (law_either
      (law_then (law_the (Word KeyIter) tt) (λ p xs h. law_then law_name (λ i ys j. law_then law_formals (λ fs zs k. law_then law_yields (λ t us o. law_then (law_signals limit) (λ ss vs q.
      law_done (record { at = p; iterator = true; name = i; formals = fs; gives = t; signals = ss })) refl) refl) refl) refl) refl)
      (law_then law_name (λ i ys j. law_then law_formals (λ fs zs k. law_then law_returns (λ t us o. law_then (law_signals limit) (λ ss vs q.
      law_done (record { at = i.at; iterator = false; name = i; formals = fs; gives = t; signals = ss })) refl) refl) refl) refl) refl) refl refl

  law_type_formals : Law (grammar.TypeFormals limit) (type_formals limit) (code (Symbol OpenParen) ∷ []) false []
  law_type_formals = law_weak (law_after (Symbol OpenParen) tt (law_either (law_after (Symbol CloseParen) tt (law_done no_type))
      (law_then (law_listed (Symbol Comma) more_types no_type (law_type limit some) tt refl) (λ ts xs h. law_after (Symbol CloseParen) tt (law_done ts)) refl) refl)) refl refl

  law_clause : Law (grammar.Clause limit) (clause limit) (0 ∷ []) false sig_more
  law_clause = law_weak (law_then law_name (λ a xs h. law_after (Word KeyHas) tt (law_then law_name (λ m ys j. law_then law_type_formals (λ ts zs k. law_then law_returns (λ t us o. law_then (law_signals limit) (λ ss vs q.
      law_done (record { param = a; method = m; formals = ts; gives = t; signals = ss })) refl) refl) refl) refl)) refl) refl refl

  law_clauses : Law (grammar.Clauses limit) (clauses limit) (code (Word KeyWhere) ∷ []) true head_more
  law_clauses = law_weak (law_either (law_after (Word KeyWhere) tt (law_listed (Symbol Comma) (λ a b. a ∷ b) [] law_clause tt refl)) (law_done []) refl) refl refl

  law_head : Law (grammar.RHead limit) (head limit) (code (Word KeyIter) ∷ code (Word KeyRoutine) ∷ []) false head_more
  law_head = law_weak (law_either
      (law_then (law_the (Word KeyIter) tt) (λ p xs h. law_then law_name (λ i ys j. law_then (law_params limit) (λ ps zs k. law_then law_formals (λ fs us o. law_then law_yields (λ t vs q. law_then (law_signals limit) (λ ss ws r. law_then law_clauses (λ cs ns e.
      law_done (record { at = p; iterator = true; name = i; params = ps; formals = fs; gives = t; signals = ss; clauses = cs })) refl) refl) refl) refl) refl) refl) refl)
      (law_then (law_the (Word KeyRoutine) tt) (λ p xs h. law_then law_name (λ i ys j. law_then (law_params limit) (λ ps zs k. law_then law_formals (λ fs us o. law_then law_returns (λ t vs q. law_then (law_signals limit) (λ ss ws r. law_then law_clauses (λ cs ns e.
      law_done (record { at = p; iterator = false; name = i; params = ps; formals = fs; gives = t; signals = ss; clauses = cs })) refl) refl) refl) refl) refl) refl) refl) refl) refl refl

  law_class_head : Law (grammar.CHead limit) (class_head limit) (code (Word KeyClass) ∷ []) false []
  law_class_head = law_weak (law_then (law_the (Word KeyClass) tt) (λ p xs h. law_then law_name (λ i ys j. law_then (law_params limit) (λ ps zs k. law_after (Word KeyFor) tt (law_then (law_named limit some) (λ t us o.
      law_then (law_maybe (Word KeyInherits) (law_after (Word KeyInherits) tt (law_named limit some)) refl) (λ n vs q. law_then law_clauses (λ cs ws r. law_after (Symbol Semicolon) tt
      (law_done (record { at = p; name = i; params = ps; of = t; inherits = n; clauses = cs }))) refl) refl) refl)) refl) refl) refl) refl refl

  law_init_head : Law (grammar.InitHead limit) (init_head limit) (code (Word KeyInit) ∷ []) false signal_more
  law_init_head = law_weak (law_then (law_the (Word KeyInit) tt) (λ p xs h. law_then law_formals (λ fs ys j. law_then (law_signals limit) (λ ss zs k. law_done (record { at = p; formals = fs; signals = ss })) refl) refl) refl) refl refl

  law_interface_class : Law (grammar.IClass limit) (interface_class limit) (code (Word KeyClass) ∷ []) false []
  law_interface_class = law_weak (law_then law_class_head (λ c xs h. law_then
      (law_many (λ a b. a ∷ b) (law_after (Word KeyHidden) tt (law_then law_sig (λ s ys j. law_after (Symbol Semicolon) tt (law_done s)) refl)) (law_done []) refl refl)
      (λ ms zs k. law_then law_init_head (λ i us o. law_after (Symbol Semicolon) tt (law_after (Word KeyEnd) tt (law_done (record { head = c; hidden = ms; init = i })))) refl) refl) refl) refl refl

  law_super_call : Law (grammar.SuperCall limit) (super_call limit) (code (Word KeySuper) ∷ []) false []
  law_super_call = law_then (law_the (Word KeySuper) tt) (λ p xs h. law_then (law_args limit (FormAt limit) (read_form limit) (λ e F. law_form limit e F) (none_form limit)) (λ bs ys j. law_after (Symbol Semicolon) tt (law_done (record { at = p; args = bs.trees }))) refl) refl

  law_field_assign : Law (grammar.FieldAssign limit) (field_assign limit) (0 ∷ []) false []
  law_field_assign = law_then law_name (λ i xs h. law_after (Symbol Becomes) tt (law_then (law_form limit some Expr) (λ e ys j. law_after (Symbol Semicolon) tt (law_done (record { field = i; value = e.tree }))) refl)) refl

  law_init : Law (grammar.Init limit) (init limit) (code (Word KeyInit) ∷ []) false []
  law_init = law_weak (law_then law_init_head (λ c xs h. law_then (law_maybe (Word KeySuper) law_super_call refl) (λ s ys j. law_then (law_many (λ a b. a ∷ b) law_field_assign (law_done []) refl refl) (λ fs zs k.
      law_after (Word KeyEnd) tt (law_done (record { head = c; super_call = s; assigns = fs }))) refl) refl) refl) refl refl

  law_method : Law (grammar.Method limit) (method limit) (code (Word KeyHidden) ∷ code (Word KeyIter) ∷ 0 ∷ []) false []
  law_method = law_weak (law_either
      (law_then (law_the (Word KeyHidden) tt) (λ p xs h. law_then law_sig (λ s ys j. law_then (law_body limit) (λ b zs k. law_after (Word KeyEnd) tt (law_done (record { at = p; hidden = true; sig = s; body = b }))) refl) refl) refl)
      (law_then law_sig (λ s ys j. law_then (law_body limit) (λ b zs k. law_after (Word KeyEnd) tt (law_done (record { at = s.at; hidden = false; sig = s; body = b }))) refl) refl) refl) refl refl

  law_field : Law (grammar.Field limit) (field limit) (code (Word KeyField) ∷ []) false []
  law_field = law_after (Word KeyField) tt (law_then (law_formal limit some) (λ f xs h. law_after (Symbol Semicolon) tt (law_done f)) refl)

  law_class : Law (grammar.Class limit) (class limit) (code (Word KeyClass) ∷ []) false []
  law_class = law_weak (law_then law_class_head (λ c xs h. law_then (law_many (λ a b. a ∷ b) law_field (law_done []) refl refl) (λ fs ys j. law_then law_init (λ i zs k. law_then (law_many (λ a b. a ∷ b) law_method (law_done []) refl refl) (λ ms us o.
      law_after (Word KeyEnd) tt (law_done (record { head = c; fields = fs; init = i; methods = ms }))) refl) refl) refl) refl) refl refl

  law_supertypes : Law (grammar.Supertypes limit) (supertypes limit) (code (Symbol Less) ∷ []) true (code (Symbol Comma) ∷ code (Symbol Less) ∷ type_more)
  law_supertypes = law_weak (law_either (law_after (Symbol Less) tt (law_listed (Symbol Comma) (λ a b. a ∷ b) [] (law_named limit some) tt refl)) (law_done []) refl) refl refl

  law_type_decl : Law (grammar.TypeDecl limit) (type_decl limit) (code (Word KeyType) ∷ []) false []
  law_type_decl = law_weak (law_then (law_the (Word KeyType) tt) (λ p xs h. law_then law_name (λ i ys j. law_then (law_params limit) (λ ps zs k. law_then law_supertypes (λ ts us o. law_after (Symbol Semicolon) tt
      (law_then (law_many (λ a b. a ∷ b) (law_then law_sig (λ s vs q. law_after (Symbol Semicolon) tt (law_done s)) refl) (law_done []) refl refl) (λ ms ws r. law_after (Word KeyEnd) tt
      (law_done (record { at = p; name = i; params = ps; supertypes = ts; methods = ms }))) refl)) refl) refl) refl) refl) refl refl

  law_exception : Law (grammar.Exception limit) (exception limit) (code (Word KeyException) ∷ []) false []
  law_exception = law_weak (law_then (law_the (Word KeyException) tt) (λ p xs h. law_then law_name (λ i ys j. law_then (law_maybe (Symbol OpenParen) law_in_parens refl) (λ t zs k. law_after (Symbol Semicolon) tt (law_done (record { at = p; name = i; argument = t }))) refl) refl) refl) refl refl

  law_interface_item : Law (grammar.InterfaceItem limit) (interface_item limit) (code (Word KeyException) ∷ code (Word KeyType) ∷ code (Word KeyClass) ∷ code (Word KeyIter) ∷ code (Word KeyRoutine) ∷ []) false []
  law_interface_item = law_weak
      (law_either (law_then law_exception (λ x xs h. law_done (exception_item x)) refl)
      (law_either (law_then law_type_decl (λ x xs h. law_done (type_item x)) refl)
      (law_either (law_then law_interface_class (λ x xs h. law_done (class_item x)) refl)
      (law_then law_head (λ x xs h. law_after (Symbol Semicolon) tt (law_done (routine_item x))) refl) refl) refl) refl) refl refl

  -- an interface
  pub law_interface : Law (grammar.Interface limit) (interface limit) (code (Word KeyInterface) ∷ []) false []
  law_interface = law_weak (law_then (law_the (Word KeyInterface) tt) (λ p xs h. law_then law_name (λ i ys j. law_then (law_uses limit) (λ us zs k. law_after (Symbol Semicolon) tt
      (law_then (law_many (λ a b. a ∷ b) law_interface_item (law_done []) refl refl) (λ is vs o. law_after (Word KeyEnd) tt (law_done (record { at = p; name = i; uses = us; items = is }))) refl)) refl) refl) refl) refl refl

  law_routine : Law (grammar.Routine limit) (routine limit) (code (Word KeyIter) ∷ code (Word KeyRoutine) ∷ []) false []
  law_routine = law_weak (law_then law_head (λ c xs h. law_then (law_body limit) (λ b ys j. law_after (Word KeyEnd) tt (law_done (record { head = c; body = b }))) refl) refl) refl refl

  law_module_item : Law (grammar.ModuleItem limit) (module_item limit) (code (Word KeyClass) ∷ code (Word KeyIter) ∷ code (Word KeyRoutine) ∷ []) false []
  law_module_item = law_weak (law_either (law_then law_class (λ x xs h. law_done (module_class x)) refl) (law_then law_routine (λ x xs h. law_done (module_routine x)) refl) refl) refl refl

  -- a module
  pub law_module : Law (grammar.Module limit) (whole_module limit) (code (Word KeyModule) ∷ []) false []
  law_module = law_weak (law_then (law_the (Word KeyModule) tt) (λ p xs h. law_then law_name (λ i ys j. law_then (law_maybe (Word KeyImplements) (law_after (Word KeyImplements) tt law_name) refl) (λ m zs k. law_then (law_uses limit) (λ us vs o.
      law_after (Symbol Semicolon) tt (law_then (law_many (λ a b. a ∷ b) law_module_item (law_done []) refl refl) (λ is ws q. law_after (Word KeyEnd) tt
      (law_done (record { at = p; name = i; implements = m; uses = us; items = is }))) refl)) refl) refl) refl) refl) refl refl
