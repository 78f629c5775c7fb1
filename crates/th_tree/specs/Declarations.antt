-- The grammar of modules and interfaces: one definition for each form, with its production above it.
use Rattle.std.specs.Prelude.{ℕ, Bool, true, false, List, [], ◌∷◌, Option, Some, None}
use Rattle.th_tree.specs.declared.tokens.Reserved.TheVariants.{KeyModule, KeyInterface, KeyImplements, KeyUses, KeyType, KeyClass, KeyFor, KeyInherits, KeyWhere, KeyHas, KeyException, KeyRoutine, KeyIter, KeyInit, KeyHidden, KeyField, KeyReturns, KeyYields, KeySignals, KeyEnd, KeySuper}
use Rattle.th_tree.specs.declared.tokens.Sym.TheVariants.{OpenParen, CloseParen, OpenSquare, CloseSquare, Comma, Semicolon, Colon, Becomes, Less}
use Rattle.th_tree.specs.declared.lexeme.Mark.TheVariants.{Word, Symbol}
use Rattle.th_tree.specs.declared.tree.Ident.{Ident}
use Rattle.th_tree.specs.declared.tree.RefTree.{RefTree}
use Rattle.th_tree.specs.Trees.{TypeSyn, TypeSyns, no_type, more_types, NamedSyn, FormalSyn, BodySyn, SigSyn, ClauseSyn, RoutineHeadSyn, RoutineSyn, ClassHeadSyn, InitHeadSyn, InterfaceClassSyn, SuperCallSyn, FieldAssignSyn, InitSyn, MethodSyn, ClassSyn, TypeDeclSyn, ExceptionSyn, InterfaceItemSyn, exception_item, type_item, class_item, routine_item, InterfaceSyn, ModuleItemSyn, module_class, module_routine, ModuleSyn}
use Rattle.th_tree.specs.Forms.{Lang, Done, The, Then, Either, Listed, After, Between, Maybe, AnyOf, ListOf, AName}
use Rattle.th_tree.specs.Grammar.{Ref, TypeAt, NamedAt, Args, Founds, ExprAt, FormalAt, FormAt, BodyAt, height_limit}

-- types, expressions and statements up to the height `limit`
module _ (limit : ℕ) where
  -- the types
  abbrev pub Type' : Lang TypeSyn
  Type' = TypeAt limit

  -- the named types
  abbrev pub Named' : Lang NamedSyn
  Named' = NamedAt limit

  -- Uses = "uses" name {"," name}, or nothing
  abbrev pub Uses : Lang (List Ident)
  Uses = Either (After (Word KeyUses) (ListOf (Symbol Comma) AName)) (Done [])

  -- Params = "[" name {"," name} "]", or nothing
  abbrev pub Params : Lang (List Ident)
  Params = Either (Between (Symbol OpenSquare) (Symbol CloseSquare) (ListOf (Symbol Comma) AName)) (Done [])

  -- Formals = "(" [name ":" Type {"," name ":" Type}] ")"
  abbrev pub Formals : Lang (List FormalSyn)
  Formals = After (Symbol OpenParen)
      (Either (After (Symbol CloseParen) (Done []))
      (Then (ListOf (Symbol Comma) (FormalAt limit)) (λ fs. After (Symbol CloseParen) (Done fs))))

  -- Signals = "signals" "(" Ref {"," Ref} ")", or nothing
  abbrev pub Signals : Lang (List RefTree)
  Signals = Either (After (Word KeySignals) (Between (Symbol OpenParen) (Symbol CloseParen) (ListOf (Symbol Comma) Ref))) (Done [])

  -- "(" Type ")"
  abbrev pub InParens : Lang TypeSyn
  InParens = Between (Symbol OpenParen) (Symbol CloseParen) Type'

  -- "returns" "(" Type ")", or nothing
  abbrev pub Returns : Lang (Option TypeSyn)
  Returns = Maybe (After (Word KeyReturns) InParens)

  -- "yields" "(" Type ")"
  abbrev pub Yields : Lang (Option TypeSyn)
  Yields = After (Word KeyYields) (Then InParens (λ t. Done (Some t)))

  -- MSig = name Formals ["returns" "(" Type ")"] [Signals] | "iter" name Formals "yields" "(" Type ")" [Signals]
  abbrev pub MSig : Lang SigSyn
  MSig =
      Either (Then (The (Word KeyIter)) (λ p. Then AName (λ n. Then Formals (λ fs. Then Yields (λ t. Then Signals (λ ss.
      Done (record { at = p; iterator = true; name = n; formals = fs; gives = t; signals = ss })))))))
      (Then AName (λ n. Then Formals (λ fs. Then Returns (λ t. Then Signals (λ ss.
      Done (record { at = n.at; iterator = false; name = n; formals = fs; gives = t; signals = ss }))))))

  -- "(" [Type {"," Type}] ")"
  abbrev pub TypeFormals : Lang TypeSyns
  TypeFormals = After (Symbol OpenParen)
      (Either (After (Symbol CloseParen) (Done no_type))
      (Then (Listed (Symbol Comma) Type' more_types no_type) (λ ts. After (Symbol CloseParen) (Done ts))))

  -- Clause = name "has" name "(" [Type {"," Type}] ")" ["returns" "(" Type ")"] [Signals]
  abbrev pub Clause : Lang ClauseSyn
  Clause = Then AName (λ a. After (Word KeyHas) (Then AName (λ m. Then TypeFormals (λ ts. Then Returns (λ t. Then Signals (λ ss.
      Done (record { param = a; method = m; formals = ts; gives = t; signals = ss })))))))

  -- Where = "where" Clause {"," Clause}, or nothing
  abbrev pub Clauses : Lang (List ClauseSyn)
  Clauses = Either (After (Word KeyWhere) (ListOf (Symbol Comma) Clause)) (Done [])

  -- RHead = "routine" name [Params] Formals ["returns" "(" Type ")"] [Signals] [Where]
  --       | "iter" name [Params] Formals "yields" "(" Type ")" [Signals] [Where]
  abbrev pub RHead : Lang RoutineHeadSyn
  RHead =
      Either (Then (The (Word KeyIter)) (λ p. Then AName (λ n. Then Params (λ ps. Then Formals (λ fs. Then Yields (λ t. Then Signals (λ ss. Then Clauses (λ cs.
      Done (record { at = p; iterator = true; name = n; params = ps; formals = fs; gives = t; signals = ss; clauses = cs })))))))))
      (Then (The (Word KeyRoutine)) (λ p. Then AName (λ n. Then Params (λ ps. Then Formals (λ fs. Then Returns (λ t. Then Signals (λ ss. Then Clauses (λ cs.
      Done (record { at = p; iterator = false; name = n; params = ps; formals = fs; gives = t; signals = ss; clauses = cs })))))))))

  -- CHead = "class" name [Params] "for" Named ["inherits" Named] [Where] ";"
  abbrev pub CHead : Lang ClassHeadSyn
  CHead = Then (The (Word KeyClass)) (λ p. Then AName (λ n. Then Params (λ ps. After (Word KeyFor) (Then Named' (λ t. Then (Maybe (After (Word KeyInherits) Named')) (λ i. Then Clauses (λ cs. After (Symbol Semicolon)
      (Done (record { at = p; name = n; params = ps; of = t; inherits = i; clauses = cs })))))))))

  -- "init" Formals [Signals]
  abbrev pub InitHead : Lang InitHeadSyn
  InitHead = Then (The (Word KeyInit)) (λ p. Then Formals (λ fs. Then Signals (λ ss. Done (record { at = p; formals = fs; signals = ss }))))

  -- IClass = CHead { "hidden" MSig ";" } "init" Formals [Signals] ";" "end"
  abbrev pub IClass : Lang InterfaceClassSyn
  IClass = Then CHead (λ h. Then (AnyOf (After (Word KeyHidden) (Then MSig (λ s. After (Symbol Semicolon) (Done s))))) (λ ms. Then InitHead (λ i. After (Symbol Semicolon) (After (Word KeyEnd)
      (Done (record { head = h; hidden = ms; init = i }))))))

  -- "super" Args ";"
  abbrev pub SuperCall : Lang SuperCallSyn
  SuperCall = Then (The (Word KeySuper)) (λ p. Then (Args limit (TypeAt limit) (NamedAt limit) (FormAt limit)) (λ bs. After (Symbol Semicolon) (Done (record { at = p; args = bs.trees }))))

  -- name ":=" Expr ";"
  abbrev pub FieldAssign : Lang FieldAssignSyn
  FieldAssign = Then AName (λ n. After (Symbol Becomes) (Then (ExprAt limit) (λ e. After (Symbol Semicolon) (Done (record { field = n; value = e.tree })))))

  -- Init = "init" Formals [Signals] ["super" Args ";"] { name ":=" Expr ";" } "end"
  abbrev pub Init : Lang InitSyn
  Init = Then InitHead (λ h. Then (Maybe SuperCall) (λ s. Then (AnyOf FieldAssign) (λ fs. After (Word KeyEnd) (Done (record { head = h; super_call = s; assigns = fs })))))

  -- Method = ["hidden"] MSig Body "end"
  abbrev pub Method : Lang MethodSyn
  Method =
      Either (Then (The (Word KeyHidden)) (λ p. Then MSig (λ s. Then (BodyAt limit) (λ b. After (Word KeyEnd) (Done (record { at = p; hidden = true; sig = s; body = b }))))))
      (Then MSig (λ s. Then (BodyAt limit) (λ b. After (Word KeyEnd) (Done (record { at = s.at; hidden = false; sig = s; body = b })))))

  -- "field" name ":" Type ";"
  abbrev pub Field : Lang FormalSyn
  Field = After (Word KeyField) (Then (FormalAt limit) (λ f. After (Symbol Semicolon) (Done f)))

  -- Class = CHead { "field" name ":" Type ";" } Init { Method } "end"
  abbrev pub Class : Lang ClassSyn
  Class = Then CHead (λ h. Then (AnyOf Field) (λ fs. Then Init (λ i. Then (AnyOf Method) (λ ms. After (Word KeyEnd) (Done (record { head = h; fields = fs; init = i; methods = ms }))))))

  -- "<" Named {"," Named}, or nothing
  abbrev pub Supertypes : Lang (List NamedSyn)
  Supertypes = Either (After (Symbol Less) (ListOf (Symbol Comma) Named')) (Done [])

  -- TypeDecl = "type" name [Params] ["<" Named {"," Named}] ";" { MSig ";" } "end"
  abbrev pub TypeDecl : Lang TypeDeclSyn
  TypeDecl = Then (The (Word KeyType)) (λ p. Then AName (λ n. Then Params (λ ps. Then Supertypes (λ ts. After (Symbol Semicolon) (Then (AnyOf (Then MSig (λ s. After (Symbol Semicolon) (Done s)))) (λ ms. After (Word KeyEnd)
      (Done (record { at = p; name = n; params = ps; supertypes = ts; methods = ms }))))))))

  -- Exception = "exception" name ["(" Type ")"] ";"
  abbrev pub Exception : Lang ExceptionSyn
  Exception = Then (The (Word KeyException)) (λ p. Then AName (λ n. Then (Maybe InParens) (λ t. After (Symbol Semicolon) (Done (record { at = p; name = n; argument = t })))))

  -- Exception | TypeDecl | IClass | RHead ";"
  abbrev pub InterfaceItem : Lang InterfaceItemSyn
  InterfaceItem =
      Either (Then Exception (λ x. Done (exception_item x)))
      (Either (Then TypeDecl (λ x. Done (type_item x)))
      (Either (Then IClass (λ x. Done (class_item x)))
      (Then RHead (λ x. After (Symbol Semicolon) (Done (routine_item x))))))

  -- Interface = "interface" name [Uses] ";" { Exception | TypeDecl | IClass | RHead ";" } "end"
  abbrev pub Interface : Lang InterfaceSyn
  Interface = Then (The (Word KeyInterface)) (λ p. Then AName (λ n. Then Uses (λ us. After (Symbol Semicolon) (Then (AnyOf InterfaceItem) (λ is. After (Word KeyEnd)
      (Done (record { at = p; name = n; uses = us; items = is })))))))

  -- Routine = RHead Body "end"
  abbrev pub Routine : Lang RoutineSyn
  Routine = Then RHead (λ h. Then (BodyAt limit) (λ b. After (Word KeyEnd) (Done (record { head = h; body = b }))))

  -- Class | Routine
  abbrev pub ModuleItem : Lang ModuleItemSyn
  ModuleItem = Either (Then Class (λ x. Done (module_class x))) (Then Routine (λ x. Done (module_routine x)))

  -- Module = "module" name ["implements" name] [Uses] ";" { Class | Routine } "end"
  abbrev pub Module : Lang ModuleSyn
  Module = Then (The (Word KeyModule)) (λ p. Then AName (λ n. Then (Maybe (After (Word KeyImplements) AName)) (λ i. Then Uses (λ us. After (Symbol Semicolon) (Then (AnyOf ModuleItem) (λ is. After (Word KeyEnd)
      (Done (record { at = p; name = n; implements = i; uses = us; items = is }))))))))

-- a whole module text
abbrev pub WholeModule : Lang ModuleSyn
WholeModule = Module height_limit

-- a whole interface text
abbrev pub WholeInterface : Lang InterfaceSyn
WholeInterface = Interface height_limit
