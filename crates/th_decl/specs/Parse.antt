-- Reading modules and interfaces lexeme by lexeme.
use Rattle.std.specs.Prelude.{ℕ, true, false, List, [], ◌∷◌, Option, Some}
use Rattle.th_tree.specs.declared.tokens.Reserved.TheVariants.{KeyModule, KeyInterface, KeyImplements, KeyUses, KeyType, KeyClass, KeyFor, KeyInherits, KeyWhere, KeyHas, KeyException, KeyRoutine, KeyIter, KeyInit, KeyHidden, KeyField, KeyReturns, KeyYields, KeySignals, KeyEnd, KeySuper}
use Rattle.th_tree.specs.declared.tokens.Sym.TheVariants.{OpenParen, CloseParen, OpenSquare, CloseSquare, Comma, Semicolon, Becomes, Less}
use Rattle.th_tree.specs.declared.lexeme.Mark.{Mark}
use Rattle.th_tree.specs.declared.lexeme.Mark.TheVariants.{Word, Symbol}
use Rattle.th_tree.specs.declared.tree.Ident.{Ident}
use Rattle.th_tree.specs.declared.tree.RefTree.{RefTree}
use Rattle.th_tree.specs.Trees.{TypeSyn, TypeSyns, no_type, more_types, NamedSyn, FormalSyn, SigSyn, ClauseSyn, RoutineHeadSyn, RoutineSyn, ClassHeadSyn, InitHeadSyn, InterfaceClassSyn, SuperCallSyn, FieldAssignSyn, InitSyn, MethodSyn, ClassSyn, TypeDeclSyn, ExceptionSyn, InterfaceItemSyn, exception_item, type_item, class_item, routine_item, InterfaceSyn, ModuleItemSyn, module_class, module_routine, ModuleSyn}
use Rattle.th_tree.specs.Grammar.{Expr}
use Rattle.th_syntax.specs.Read.{P, code, seq, ret, one, after, between, either, maybe, list_of, any_of}
use Rattle.th_syntax.specs.Parse.{read_name, read_ref, read_type, read_named, read_form, read_formal, args_of}
use Rattle.th_parse.specs.Parse.{read_body}

-- words with the mark between them
abbrev pub listed : {A : Type 0} → Mark → (ℕ → P A) → ℕ → P (List A)
listed c p = list_of c p (λ a b. a ∷ b) []

-- words that begin with one of the marks
abbrev pub all_of : {A : Type 0} → List ℕ → (ℕ → P A) → ℕ → P (List A)
all_of f p = any_of f p (λ a b. a ∷ b) (ret [])

-- the one where the mark is next, else nothing
abbrev pub or_none : {A : Type 0} → Mark → (ℕ → P (List A)) → ℕ → P (List A)
or_none c p = either c p (ret [])

abbrev pub uses : ℕ → P (List Ident)
uses = or_none (Word KeyUses) (after (Word KeyUses) (listed (Symbol Comma) read_name))

abbrev pub params : ℕ → P (List Ident)
params = or_none (Symbol OpenSquare) (between (Symbol OpenSquare) (Symbol CloseSquare) (listed (Symbol Comma) read_name))

abbrev pub signals : ℕ → P (List RefTree)
signals = or_none (Word KeySignals) (after (Word KeySignals) (between (Symbol OpenParen) (Symbol CloseParen) (listed (Symbol Comma) read_ref)))

-- types, expressions and statements up to the height `room`
module _ (room : ℕ) where
  abbrev pub formals_end : ℕ → P (List FormalSyn)
  formals_end = either (Symbol CloseParen) (after (Symbol CloseParen) (ret []))
      (seq (listed (Symbol Comma) (read_formal room)) (λ fs. after (Symbol CloseParen) (ret fs)))

  abbrev pub formals : ℕ → P (List FormalSyn)
  formals = after (Symbol OpenParen) formals_end

  abbrev pub in_parens : ℕ → P TypeSyn
  in_parens = between (Symbol OpenParen) (Symbol CloseParen) (read_type room)

  abbrev pub returns : ℕ → P (Option TypeSyn)
  returns = maybe (Word KeyReturns) (after (Word KeyReturns) in_parens)

  abbrev pub yields : ℕ → P (Option TypeSyn)
  yields = after (Word KeyYields) (seq in_parens (λ t. ret (Some t)))

  abbrev pub iter_sig : ℕ → P SigSyn
  iter_sig = seq (one (Word KeyIter)) (λ p. seq read_name (λ i. seq formals (λ fs. seq yields (λ t. seq signals (λ ss.
      ret (record { at = p; iterator = true; name = i; formals = fs; gives = t; signals = ss }))))))

  abbrev pub plain_sig : ℕ → P SigSyn
  plain_sig = seq read_name (λ i. seq formals (λ fs. seq returns (λ t. seq signals (λ ss.
      ret (record { at = i.at; iterator = false; name = i; formals = fs; gives = t; signals = ss })))))

  abbrev pub sig : ℕ → P SigSyn
  sig = either (Word KeyIter) iter_sig plain_sig

  abbrev pub type_formals_end : ℕ → P TypeSyns
  type_formals_end = either (Symbol CloseParen) (after (Symbol CloseParen) (ret no_type))
      (seq (list_of (Symbol Comma) (read_type room) more_types no_type) (λ ts. after (Symbol CloseParen) (ret ts)))

  abbrev pub type_formals : ℕ → P TypeSyns
  type_formals = after (Symbol OpenParen) type_formals_end

  abbrev pub clause : ℕ → P ClauseSyn
  clause = seq read_name (λ a. after (Word KeyHas) (seq read_name (λ m. seq type_formals (λ ts. seq returns (λ t. seq signals (λ ss.
      ret (record { param = a; method = m; formals = ts; gives = t; signals = ss })))))))

  abbrev pub clauses : ℕ → P (List ClauseSyn)
  clauses = or_none (Word KeyWhere) (after (Word KeyWhere) (listed (Symbol Comma) clause))

  abbrev pub iter_head : ℕ → P RoutineHeadSyn
  iter_head = seq (one (Word KeyIter)) (λ p. seq read_name (λ i. seq params (λ ps. seq formals (λ fs. seq yields (λ t. seq signals (λ ss. seq clauses (λ cs.
      ret (record { at = p; iterator = true; name = i; params = ps; formals = fs; gives = t; signals = ss; clauses = cs }))))))))

  abbrev pub routine_head : ℕ → P RoutineHeadSyn
  routine_head = seq (one (Word KeyRoutine)) (λ p. seq read_name (λ i. seq params (λ ps. seq formals (λ fs. seq returns (λ t. seq signals (λ ss. seq clauses (λ cs.
      ret (record { at = p; iterator = false; name = i; params = ps; formals = fs; gives = t; signals = ss; clauses = cs }))))))))

  abbrev pub head : ℕ → P RoutineHeadSyn
  head = either (Word KeyIter) iter_head routine_head

  abbrev pub inherits : ℕ → P (Option NamedSyn)
  inherits = maybe (Word KeyInherits) (after (Word KeyInherits) (read_named room))

  abbrev pub class_head : ℕ → P ClassHeadSyn
  class_head = seq (one (Word KeyClass)) (λ p. seq read_name (λ i. seq params (λ ps. after (Word KeyFor) (seq (read_named room) (λ t.
      seq inherits (λ h. seq clauses (λ cs. after (Symbol Semicolon)
      (ret (record { at = p; name = i; params = ps; of = t; inherits = h; clauses = cs })))))))))

  abbrev pub init_head : ℕ → P InitHeadSyn
  init_head = seq (one (Word KeyInit)) (λ p. seq formals (λ fs. seq signals (λ ss. ret (record { at = p; formals = fs; signals = ss }))))

  abbrev pub hidden_sig : ℕ → P SigSyn
  hidden_sig = after (Word KeyHidden) (seq sig (λ s. after (Symbol Semicolon) (ret s)))

  abbrev pub hidden_sigs : ℕ → P (List SigSyn)
  hidden_sigs = all_of (code (Word KeyHidden) ∷ []) hidden_sig

  abbrev pub interface_class : ℕ → P InterfaceClassSyn
  interface_class = seq class_head (λ h. seq hidden_sigs (λ ms. seq init_head (λ i. after (Symbol Semicolon) (after (Word KeyEnd) (ret (record { head = h; hidden = ms; init = i }))))))

  abbrev pub super_call : ℕ → P SuperCallSyn
  super_call = seq (one (Word KeySuper)) (λ p. seq (args_of room (read_form room)) (λ bs. after (Symbol Semicolon) (ret (record { at = p; args = bs.trees }))))

  abbrev pub super_part : ℕ → P (Option SuperCallSyn)
  super_part = maybe (Word KeySuper) super_call

  abbrev pub field_assign : ℕ → P FieldAssignSyn
  field_assign = seq read_name (λ i. after (Symbol Becomes) (seq (read_form room Expr) (λ e. after (Symbol Semicolon) (ret (record { field = i; value = e.tree })))))

  abbrev pub field_assigns : ℕ → P (List FieldAssignSyn)
  field_assigns = all_of (0 ∷ []) field_assign

  abbrev pub init : ℕ → P InitSyn
  init = seq init_head (λ h. seq super_part (λ s. seq field_assigns (λ fs. after (Word KeyEnd) (ret (record { head = h; super_call = s; assigns = fs })))))

  abbrev pub hidden_method : ℕ → P MethodSyn
  hidden_method = seq (one (Word KeyHidden)) (λ p. seq sig (λ s. seq (read_body room) (λ b. after (Word KeyEnd) (ret (record { at = p; hidden = true; sig = s; body = b })))))

  abbrev pub plain_method : ℕ → P MethodSyn
  plain_method = seq sig (λ s. seq (read_body room) (λ b. after (Word KeyEnd) (ret (record { at = s.at; hidden = false; sig = s; body = b }))))

  abbrev pub method : ℕ → P MethodSyn
  method = either (Word KeyHidden) hidden_method plain_method

  abbrev pub methods : ℕ → P (List MethodSyn)
  methods = all_of (code (Word KeyHidden) ∷ code (Word KeyIter) ∷ 0 ∷ []) method

  abbrev pub field : ℕ → P FormalSyn
  field = after (Word KeyField) (seq (read_formal room) (λ f. after (Symbol Semicolon) (ret f)))

  abbrev pub fields : ℕ → P (List FormalSyn)
  fields = all_of (code (Word KeyField) ∷ []) field

  abbrev pub class : ℕ → P ClassSyn
  class = seq class_head (λ h. seq fields (λ fs. seq init (λ i. seq methods (λ ms. after (Word KeyEnd) (ret (record { head = h; fields = fs; init = i; methods = ms }))))))

  abbrev pub supertypes : ℕ → P (List NamedSyn)
  supertypes = or_none (Symbol Less) (after (Symbol Less) (listed (Symbol Comma) (read_named room)))

  abbrev pub ended_sig : ℕ → P SigSyn
  ended_sig = seq sig (λ s. after (Symbol Semicolon) (ret s))

  abbrev pub ended_sigs : ℕ → P (List SigSyn)
  ended_sigs = all_of (code (Word KeyIter) ∷ 0 ∷ []) ended_sig

  abbrev pub type_decl : ℕ → P TypeDeclSyn
  type_decl = seq (one (Word KeyType)) (λ p. seq read_name (λ i. seq params (λ ps. seq supertypes (λ ts. after (Symbol Semicolon) (seq ended_sigs (λ ms. after (Word KeyEnd)
      (ret (record { at = p; name = i; params = ps; supertypes = ts; methods = ms }))))))))

  abbrev pub argument : ℕ → P (Option TypeSyn)
  argument = maybe (Symbol OpenParen) in_parens

  abbrev pub exception : ℕ → P ExceptionSyn
  exception = seq (one (Word KeyException)) (λ p. seq read_name (λ i. seq argument (λ t. after (Symbol Semicolon) (ret (record { at = p; name = i; argument = t })))))

  abbrev pub interface_item : ℕ → P InterfaceItemSyn
  interface_item =
      either (Word KeyException) (seq exception (λ x. ret (exception_item x)))
      (either (Word KeyType) (seq type_decl (λ x. ret (type_item x)))
      (either (Word KeyClass) (seq interface_class (λ x. ret (class_item x)))
      (seq head (λ x. after (Symbol Semicolon) (ret (routine_item x))))))

  abbrev pub interface_items : ℕ → P (List InterfaceItemSyn)
  interface_items = all_of (code (Word KeyException) ∷ code (Word KeyType) ∷ code (Word KeyClass) ∷ code (Word KeyIter) ∷ code (Word KeyRoutine) ∷ []) interface_item

  abbrev pub interface : ℕ → P InterfaceSyn
  interface = seq (one (Word KeyInterface)) (λ p. seq read_name (λ i. seq uses (λ us. after (Symbol Semicolon) (seq interface_items (λ is. after (Word KeyEnd) (ret (record { at = p; name = i; uses = us; items = is })))))))

  abbrev pub routine : ℕ → P RoutineSyn
  routine = seq head (λ h. seq (read_body room) (λ b. after (Word KeyEnd) (ret (record { head = h; body = b }))))

  abbrev pub module_item : ℕ → P ModuleItemSyn
  module_item = either (Word KeyClass) (seq class (λ x. ret (module_class x))) (seq routine (λ x. ret (module_routine x)))

  abbrev pub module_items : ℕ → P (List ModuleItemSyn)
  module_items = all_of (code (Word KeyClass) ∷ code (Word KeyIter) ∷ code (Word KeyRoutine) ∷ []) module_item

  abbrev pub implements : ℕ → P (Option Ident)
  implements = maybe (Word KeyImplements) (after (Word KeyImplements) read_name)

  abbrev pub whole_module : ℕ → P ModuleSyn
  whole_module = seq (one (Word KeyModule)) (λ p. seq read_name (λ i. seq implements (λ m. seq uses (λ us. after (Symbol Semicolon) (seq module_items (λ is. after (Word KeyEnd)
      (ret (record { at = p; name = i; implements = m; uses = us; items = is }))))))))
