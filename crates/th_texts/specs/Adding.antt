-- One text read after others.
use Rattle.std.specs.Prelude.{◌≡◌, ℕ, ◌<◌, ◌⊎◌, List, [], ◌∷◌, ◌++◌, length}
use Rattle.th_tree.specs.declared.decl.Interface.{Interface}
use Rattle.th_tree.specs.declared.decl.Module.{Module}
use Rattle.th_tree.specs.declared.lexeme.Lexeme.{Lexeme}
use Rattle.th_tree.specs.Spans.{Tokenized}
use Rattle.th_tree.specs.Forms.{Lang}
use Rattle.th_tree.specs.Numbered.{lexemes_of, with_tokens}
use Rattle.th_tree.specs.DeclView.{interface_of, module_of}
use Rattle.th_tree.specs.Declarations.{WholeModule, WholeInterface}
use Rattle.th_tree.specs.Verdict.{FirstWrong, place as byte_of}
use Rattle.th_type.specs.Failures.{place}
use Rattle.th_parse.specs.declared.body.ParseError.{ParseError}
use Rattle.th_parse.specs.declared.body.ParseError.TheVariants as parsing
use Rattle.th_program.specs.declared.trees.Trees.{Trees}
use Rattle.th_texts.specs.declared.error.TextError.{TextError}
use Rattle.th_texts.specs.declared.error.TextError.TheVariants.{BadByte, WideNumber, Syntax, Memory}
use Rattle.th_texts.specs.declared.trees.Told.{Told}
use Rattle.th_texts.specs.declared.trees.Told.TheVariants.{ByFirstToken, ByPlace}
use Rattle.th_texts.specs.Tokens.{AreAllTokens}
use Rattle.th_texts.specs.Reading.{IsInterface, GoesWrongIn, IsSyntaxIn, with_all_tokens}

-- the new trees are the old ones with this interface at the end, the text of this number
pub record KeepsInterface (old : Trees) (n : ℕ) (tree : Interface) (new : Trees) : Type 0 where
  pub names : new.names ≡ old.names
  pub interfaces : new.interfaces.items ≡ old.interfaces.items ++ tree ∷ []
  pub interface_texts : new.interface_texts.items ≡ old.interface_texts.items ++ n ∷ []
  pub modules : new.modules.items ≡ old.modules.items
  pub module_texts : new.module_texts.items ≡ old.module_texts.items

-- the new trees are the old ones with this module at the end, the text of this number
pub record KeepsModule (old : Trees) (n : ℕ) (tree : Module) (new : Trees) : Type 0 where
  pub names : new.names ≡ old.names
  pub interfaces : new.interfaces.items ≡ old.interfaces.items
  pub interface_texts : new.interface_texts.items ≡ old.interface_texts.items
  pub modules : new.modules.items ≡ old.modules.items ++ tree ∷ []
  pub module_texts : new.module_texts.items ≡ old.module_texts.items ++ n ∷ []

-- the new trees are the old ones and that of an interface, the text of this number
pub record AddsInterface (old : Trees) (n : ℕ) (x : Tokenized) (new : Trees) : Type 0 where
  pub tree : Interface
  pub interfaces : new.interfaces.items ≡ old.interfaces.items ++ tree ∷ []
  pub interface_texts : new.interface_texts.items ≡ old.interface_texts.items ++ n ∷ []
  pub modules : new.modules.items ≡ old.modules.items
  pub module_texts : new.module_texts.items ≡ old.module_texts.items
  pub whole : WholeInterface (interface_of tree) (lexemes_of new.names x.text x.list)
  pub names : new.names ≡ with_tokens old.names x.text x.list

-- the new trees are the old ones and that of a module, the text of this number
pub record AddsModule (old : Trees) (n : ℕ) (x : Tokenized) (new : Trees) : Type 0 where
  pub tree : Module
  pub interfaces : new.interfaces.items ≡ old.interfaces.items
  pub interface_texts : new.interface_texts.items ≡ old.interface_texts.items
  pub modules : new.modules.items ≡ old.modules.items ++ tree ∷ []
  pub module_texts : new.module_texts.items ≡ old.module_texts.items ++ n ∷ []
  pub whole : WholeModule (module_of tree) (lexemes_of new.names x.text x.list)
  pub names : new.names ≡ with_tokens old.names x.text x.list

-- the same of the form that the text of this number has
abbrev pub Adds : Told → Trees → ℕ → Tokenized → Trees → Type 0
Adds told old n x new = (IsInterface told n x.list × AddsInterface old n x new) ⊎ ((¬ IsInterface told n x.list) × AddsModule old n x new)

-- the text of this number has no tree in this language, for this reason, where the table was the old one and is the new one now
abbrev pub HasNoTree : {A : Type 0} → Lang A → List (List ℕ) → ℕ → Tokenized → List (List ℕ) → TextError → Type 0
HasNoTree F old n x new (BadByte at) = ⊥
HasNoTree F old n x new (WideNumber at) = ⊥
HasNoTree F old n x new (Syntax at) =
    (rest : List Lexeme) × FirstWrong F (lexemes_of new x.text x.list) rest × (at ≡ place n (byte_of (length x.text) rest)) × (new ≡ with_tokens old x.text x.list)
HasNoTree F old n x new Memory = Unit {0}

-- the same of the form that the text of this number is to have
abbrev pub HasNoTreeIn : Told → List (List ℕ) → ℕ → Tokenized → List (List ℕ) → TextError → Type 0
HasNoTreeIn told old n x new (BadByte at) = ⊥
HasNoTreeIn told old n x new (WideNumber at) = ⊥
HasNoTreeIn told old n x new (Syntax at) =
    (rest : List Lexeme) × GoesWrongIn told new n x.text x.list rest × (at ≡ place n (byte_of (length x.text) rest)) × (new ≡ with_tokens old x.text x.list)
HasNoTreeIn told old n x new Memory = Unit {0}

-- the texts that are modules, of so many texts: where their places say it, the first and no other
abbrev pub AreModuleTexts : Told → ℕ → List ℕ → Type 0
AreModuleTexts ByFirstToken many ns = Unit {0}
AreModuleTexts ByPlace many ns = (many ≡ 0 → ns ≡ []) × (0 < many → ns ≡ 0 ∷ [])

-- why the text of this number has no tree
abbrev pub tree_error : ℕ → ParseError → TextError
tree_error text (parsing.Syntax at) = Syntax (place text at)
tree_error text parsing.Memory = Memory

-- not all of the texts have trees, for this reason, where it is known so which of them are interfaces
abbrev pub HaveNoTreesIn : Told → List (List ℕ) → TextError → Type 0
HaveNoTreesIn told texts (BadByte at) = ⊥
HaveNoTreesIn told texts (WideNumber at) = ⊥
HaveNoTreesIn told texts (Syntax at) = (xs : List Tokenized) × AreAllTokens texts xs × IsSyntaxIn told (with_all_tokens [] xs) texts at
HaveNoTreesIn told texts Memory = Unit {0}
