-- The reading of one text.
use Rattle.std.proofs.Common.{◌≡◌, ℕ, ◌↔◌, Bool, true, false, List, inl, inr, Result, Ok, Err, OnOk, sym, ◌∙◌, subst}
use Rattle.th_tree.specs.declared.decl.Interface.{Interface}
use Rattle.th_tree.specs.declared.decl.Module.{Module}
use Rattle.th_tree.specs.Spans.{Tokenized}
use Rattle.th_tree.specs.Numbered.{lexemes_of, with_tokens}
use Rattle.th_tree.specs.DeclView.{interface_of, module_of}
use Rattle.th_tree.specs.Declarations.{WholeModule, WholeInterface}
use Rattle.th_program.specs.declared.trees.Trees.{Trees}
use Rattle.th_texts.specs.declared.trees.Told.{Told}
use Rattle.th_texts.specs.Reading.{IsInterface}
use Rattle.th_texts.specs.Adding.{KeepsInterface, KeepsModule, AddsInterface, AddsModule, Adds}

-- trees with another table
abbrev pub with_table : Trees → List (List ℕ) → Trees
with_table t names = record { names = names; interfaces = t.interfaces; interface_texts = t.interface_texts; modules = t.modules; module_texts = t.module_texts }

-- the table is that with the names of the text; then the tree is kept
pub interface_added : {T E : Type 0} (r : Result T E) (old : Trees) (names : List (List ℕ)) (new : Trees) (n : ℕ) (x : Tokenized) (tree : Interface) → names ≡ with_tokens old.names x.text x.list
    → WholeInterface (interface_of tree) (lexemes_of names x.text x.list) → OnOk r (KeepsInterface (with_table old names) n tree new) → OnOk r (AddsInterface old n x new)
interface_added (Err e) old names new n x tree t w k = k
interface_added (Ok u) old names new n x tree t w k = record {
  tree = tree;
  interfaces = k.interfaces;
  interface_texts = k.interface_texts;
  modules = k.modules;
  module_texts = k.module_texts;
  whole = subst (λ (y : List (List ℕ)). WholeInterface (interface_of tree) (lexemes_of y x.text x.list)) (sym k.names) w;
  names = k.names ∙ t;
}

pub module_added : {T E : Type 0} (r : Result T E) (old : Trees) (names : List (List ℕ)) (new : Trees) (n : ℕ) (x : Tokenized) (tree : Module) → names ≡ with_tokens old.names x.text x.list
    → WholeModule (module_of tree) (lexemes_of names x.text x.list) → OnOk r (KeepsModule (with_table old names) n tree new) → OnOk r (AddsModule old n x new)
module_added (Err e) old names new n x tree t w k = k
module_added (Ok u) old names new n x tree t w k = record {
  tree = tree;
  interfaces = k.interfaces;
  interface_texts = k.interface_texts;
  modules = k.modules;
  module_texts = k.module_texts;
  whole = subst (λ (y : List (List ℕ)). WholeModule (module_of tree) (lexemes_of y x.text x.list)) (sym k.names) w;
  names = k.names ∙ t;
}

-- a text that is an interface is added as one
pub adds_interface : {T E : Type 0} (r : Result T E) (told : Told) (old new : Trees) (n m : ℕ) (x : Tokenized) → m ≡ n → IsInterface told n x.list → OnOk r (AddsInterface old m x new) → OnOk r (Adds told old n x new)
adds_interface (Err e) told old new n m x d i k = k
adds_interface (Ok u) told old new n m x d i k = inl (i, subst (λ (y : ℕ). AddsInterface old y x new) d k)

not_one : {P : Type 0} (b : Bool) → ((b ≡ true) ↔ P) → b ≡ false → P → ⊥
not_one b i f p = let t : b ≡ true = i.1 p in absurd (cc)

-- a text that is none is added as a module
pub adds_module : {T E : Type 0} (r : Result T E) (told : Told) (old new : Trees) (n m : ℕ) (x : Tokenized) (b : Bool) → m ≡ n → ((b ≡ true) ↔ IsInterface told n x.list) → b ≡ false → OnOk r (AddsModule old m x new)
    → OnOk r (Adds told old n x new)
adds_module (Err e) told old new n m x b d i f k = k
adds_module (Ok u) told old new n m x b d i f k = inr (not_one b i f, subst (λ (y : ℕ). AddsModule old y x new) d k)
