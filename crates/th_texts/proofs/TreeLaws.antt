-- Texts read one after the other.
use Rattle.std.proofs.Common.{◌≡◌, ℕ, suc, ◌+◌, ◌<◌, ◌⊎◌, inl, inr, List, [], ◌∷◌, ◌++◌, map, length, drop, refl, sym, ◌∙◌, subst, ap, append_assoc, length-append, arith}
use Rattle.th_tree.specs.declared.decl.Interface.{Interface}
use Rattle.th_tree.specs.declared.decl.Module.{Module}
use Rattle.th_tree.specs.Spans.{Tokenized}
use Rattle.th_tree.specs.Numbered.{lexemes_of, with_tokens}
use Rattle.th_tree.specs.Trees.{InterfaceSyn, ModuleSyn}
use Rattle.th_tree.specs.DeclView.{interface_of, module_of}
use Rattle.th_tree.specs.Declarations.{WholeModule, WholeInterface}
use Rattle.th_type.specs.Lists.{IsIn}
use Rattle.th_type.proofs.Members.{from_append}
use Rattle.th_hier.specs.Numbering.{Grown}
use Rattle.th_module_rules.specs.Stages.{Numbered, numbered}
use Rattle.th_module_rules.specs.Texts.{AreRead}
use Rattle.th_program.specs.declared.trees.Trees.{Trees}
use Rattle.th_program.specs.Programs.{with_texts, program_of, IsPaired, Ascending}
use Rattle.th_texts.specs.declared.trees.Told.{Told}
use Rattle.th_texts.specs.Tokens.{AreAllTokens}
use Rattle.th_texts.specs.Reading.{HasFormIn}
use Rattle.th_texts.specs.Adding.{Adds, AddsInterface, AddsModule}
use Rattle.th_texts.proofs.Beginnings.{interface_begins, module_begins}
use Rattle.th_texts.proofs.KeptLaws.{lexemes_kept, tokens_grown}

-- texts with their tokens, of which the first has this number, are these interfaces and modules, in order
abbrev pub AreTrees : List (List ℕ) → ℕ → List Tokenized → List (Numbered InterfaceSyn) → List (Numbered ModuleSyn) → Type 0
AreTrees table n [] is ms = (is ≡ []) × (ms ≡ [])
AreTrees table n (x ∷ xs) is ms =
    ((f : InterfaceSyn) × (js : List (Numbered InterfaceSyn)) × (is ≡ numbered n f ∷ js) × WholeInterface f (lexemes_of table x.text x.list) × AreTrees table (n + 1) xs js ms)
    ⊎ ((m : ModuleSyn) × (ns : List (Numbered ModuleSyn)) × (ms ≡ numbered n m ∷ ns) × WholeModule m (lexemes_of table x.text x.list) × AreTrees table (n + 1) xs is ns)

-- one more text
pub texts_push : {A : Type 0} (ns : List ℕ) (rs : List A) (n : ℕ) (a : A) → length ns ≡ length rs → with_texts (ns ++ n ∷ []) (rs ++ a ∷ []) ≡ with_texts ns rs ++ numbered n a ∷ []
texts_push [] [] n a e = refl
texts_push [] (b ∷ rs) n a e = absurd (cc)
texts_push (m ∷ ns) [] n a e = absurd (cc)
texts_push (m ∷ ns) (b ∷ rs) n a e = let i : length ns ≡ length rs = omega (arith, e) in ap (λ y. numbered m b ∷ y) (texts_push ns rs n a i)

pub map_push : {A B : Type 0} (f : A → B) (rs : List A) (a : A) → map f (rs ++ a ∷ []) ≡ map f rs ++ f a ∷ []
map_push f [] a = refl
map_push f (b ∷ rs) a = ap (λ y. f b ∷ y) (map_push f rs a)

pub map_length : {A B : Type 0} (f : A → B) (rs : List A) → length (map f rs) ≡ length rs
map_length f [] = refl
map_length f (a ∷ rs) = ap suc (map_length f rs)

pub interfaces_push : (old new : Trees) (n : ℕ) (x : Tokenized) → IsPaired old → (a : AddsInterface old n x new)
    → (program_of new).interfaces ≡ (program_of old).interfaces ++ numbered n (interface_of a.tree) ∷ []
interfaces_push old new n x p a =
    ap (λ (y : List ℕ). with_texts y (map interface_of new.interfaces.items)) a.interface_texts
    ∙ ap (λ (y : List Interface). with_texts (old.interface_texts.items ++ n ∷ []) (map interface_of y)) a.interfaces
    ∙ ap (λ (y : List InterfaceSyn). with_texts (old.interface_texts.items ++ n ∷ []) y) (map_push interface_of old.interfaces.items a.tree)
    ∙ texts_push old.interface_texts.items (map interface_of old.interfaces.items) n (interface_of a.tree) (p.interfaces ∙ sym (map_length interface_of old.interfaces.items))

pub modules_push : (old new : Trees) (n : ℕ) (x : Tokenized) → IsPaired old → (a : AddsModule old n x new)
    → (program_of new).modules ≡ (program_of old).modules ++ numbered n (module_of a.tree) ∷ []
modules_push old new n x p a =
    ap (λ (y : List ℕ). with_texts y (map module_of new.modules.items)) a.module_texts
    ∙ ap (λ (y : List Module). with_texts (old.module_texts.items ++ n ∷ []) (map module_of y)) a.modules
    ∙ ap (λ (y : List ModuleSyn). with_texts (old.module_texts.items ++ n ∷ []) y) (map_push module_of old.modules.items a.tree)
    ∙ texts_push old.module_texts.items (map module_of old.modules.items) n (module_of a.tree) (p.modules ∙ sym (map_length module_of old.modules.items))

-- the table after a text is read
pub adds_names : (told : Told) (old new : Trees) (n : ℕ) (x : Tokenized) → Adds told old n x new → new.names ≡ with_tokens old.names x.text x.list
adds_names told old new n x (inl (i, a)) = a.names
adds_names told old new n x (inr (i, a)) = a.names

-- each tree has the number of its text still
pub paired_more : (told : Told) (old new : Trees) (n : ℕ) (x : Tokenized) → IsPaired old → Adds told old n x new → IsPaired new
paired_more told old new n x p (inl (i, a)) = record {
  interfaces = ap length a.interface_texts ∙ length-append old.interface_texts.items (n ∷ []) ∙ ap (λ (y : ℕ). y + 1) p.interfaces
      ∙ sym (length-append old.interfaces.items (a.tree ∷ [])) ∙ sym (ap length a.interfaces);
  modules = ap length a.module_texts ∙ p.modules ∙ sym (ap length a.modules);
}
paired_more told old new n x p (inr (i, a)) = record {
  interfaces = ap length a.interface_texts ∙ p.interfaces ∙ sym (ap length a.interfaces);
  modules = ap length a.module_texts ∙ length-append old.module_texts.items (n ∷ []) ∙ ap (λ (y : ℕ). y + 1) p.modules
      ∙ sym (length-append old.modules.items (a.tree ∷ [])) ∙ sym (ap length a.modules);
}

-- each of the numbers is below this one
abbrev pub AllBelow : List ℕ → ℕ → Type 0
AllBelow ns k = (m : ℕ) → IsIn m ns → m < k

ascending_push : (ns : List ℕ) (k : ℕ) → Ascending ns → AllBelow ns k → Ascending (ns ++ k ∷ [])
ascending_push [] k a b = (λ m h. absurd h, tt)
ascending_push (n ∷ ns) k (l, a) b = (
  λ m h. elim (from_append m ns (k ∷ []) h) [
    | inl i ↦ l m i
    | inr i ↦ elim i [ inl e ↦ subst (λ (y : ℕ). n < y) (sym e) (b n (inl refl)) | inr v ↦ absurd v ]
  ],
  ascending_push ns k a (λ m h. b m (inr h)),
)

below_push : (ns : List ℕ) (k : ℕ) → AllBelow ns k → AllBelow (ns ++ k ∷ []) (k + 1)
below_push ns k b m h = elim (from_append m ns (k ∷ []) h) [
  | inl i ↦ (let l : m < k = b m i in omega (arith, l))
  | inr i ↦ elim i [ inl e ↦ omega (arith, e) | inr v ↦ absurd v ]
]

below_more : (ns : List ℕ) (k : ℕ) → AllBelow ns k → AllBelow ns (k + 1)
below_more ns k b m h = let l : m < k = b m h in omega (arith, l)

-- the numbers of the interfaces ascend still
pub adds_ascending : (told : Told) (old new : Trees) (k : ℕ) (x : Tokenized) → Ascending old.interface_texts.items → AllBelow old.interface_texts.items k → Adds told old k x new → Ascending new.interface_texts.items
adds_ascending told old new k x s b (inl (i, a)) = subst (λ (y : List ℕ). Ascending y) (sym a.interface_texts) (ascending_push old.interface_texts.items k s b)
adds_ascending told old new k x s b (inr (i, a)) = subst (λ (y : List ℕ). Ascending y) (sym a.interface_texts) s

pub adds_below : (told : Told) (old new : Trees) (k : ℕ) (x : Tokenized) → AllBelow old.interface_texts.items k → Adds told old k x new → AllBelow new.interface_texts.items (k + 1)
adds_below told old new k x b (inl (i, a)) = subst (λ (y : List ℕ). AllBelow y (k + 1)) (sym a.interface_texts) (below_push old.interface_texts.items k b)
adds_below told old new k x b (inr (i, a)) = subst (λ (y : List ℕ). AllBelow y (k + 1)) (sym a.interface_texts) (below_more old.interface_texts.items k b)

-- the table grows as a text is read
pub adds_grown : (told : Told) (old new : Trees) (n : ℕ) (x : Tokenized) → Adds told old n x new → Grown old.names new.names
adds_grown told old new n x a = subst (λ (y : List (List ℕ)). Grown old.names y) (sym (adds_names told old new n x a)) (tokens_grown old.names x.text x.list)

-- the lexemes of the text that was read, over every longer table
kept : (old new : Trees) (x : Tokenized) (table : List (List ℕ)) → new.names ≡ with_tokens old.names x.text x.list → Grown new.names table → lexemes_of table x.text x.list ≡ lexemes_of new.names x.text x.list
kept old new x table e g =
    lexemes_kept old.names table x.text x.list (subst (λ (y : List (List ℕ)). Grown y table) e g) ∙ sym (ap (λ (y : List (List ℕ)). lexemes_of y x.text x.list) e)

interface_kept : (old new : Trees) (n : ℕ) (x : Tokenized) (table : List (List ℕ)) (a : AddsInterface old n x new) → Grown new.names table → WholeInterface (interface_of a.tree) (lexemes_of table x.text x.list)
interface_kept old new n x table a g = subst (λ y. WholeInterface (interface_of a.tree) y) (sym (kept old new x table a.names g)) a.whole

module_kept : (old new : Trees) (n : ℕ) (x : Tokenized) (table : List (List ℕ)) (a : AddsModule old n x new) → Grown new.names table → WholeModule (module_of a.tree) (lexemes_of table x.text x.list)
module_kept old new n x table a g = subst (λ y. WholeModule (module_of a.tree) y) (sym (kept old new x table a.names g)) a.whole

-- the tree of the text that was read
pub adds_form : (told : Told) (old new : Trees) (n : ℕ) (x : Tokenized) (table : List (List ℕ)) → Adds told old n x new → Grown new.names table → HasFormIn told table n x.text x.list
adds_form told old new n x table (inl (i, a)) g = inl (i, (interface_of a.tree, interface_kept old new n x table a g))
adds_form told old new n x table (inr (i, a)) g = inr (i, (module_of a.tree, module_kept old new n x table a g))

push_then : {A : Type 0} (rs : List A) (a : A) (bs : List A) → rs ++ (a ∷ bs) ≡ (rs ++ a ∷ []) ++ bs
push_then rs a bs = sym (append_assoc rs (a ∷ []) bs)

-- what is read of the first k texts, over a table: whatever the other texts are, all of them are that and these
abbrev pub ReadUpTo : List (List ℕ) → List Tokenized → ℕ → Trees → Type 0
ReadUpTo table xs k t =
    (is : List (Numbered InterfaceSyn)) (ms : List (Numbered ModuleSyn)) → AreTrees table k (drop k xs) is ms → AreTrees table 0 xs ((program_of t).interfaces ++ is) ((program_of t).modules ++ ms)

interfaces_same : (old new : Trees) (n : ℕ) (x : Tokenized) → AddsModule old n x new → (program_of old).interfaces ≡ (program_of new).interfaces
interfaces_same old new n x a =
    ap (λ (y : List ℕ). with_texts y (map interface_of old.interfaces.items)) (sym a.interface_texts) ∙ ap (λ (y : List Interface). with_texts new.interface_texts.items (map interface_of y)) (sym a.interfaces)

modules_same : (old new : Trees) (n : ℕ) (x : Tokenized) → AddsInterface old n x new → (program_of old).modules ≡ (program_of new).modules
modules_same old new n x a =
    ap (λ (y : List ℕ). with_texts y (map module_of old.modules.items)) (sym a.module_texts) ∙ ap (λ (y : List Module). with_texts new.module_texts.items (map module_of y)) (sym a.modules)

-- one more text is read
pub adds_trees : (told : Told) (xs : List Tokenized) (old new : Trees) (k : ℕ) (x : Tokenized) (table : List (List ℕ)) → IsPaired old → Adds told old k x new → Grown new.names table
    → drop k xs ≡ x ∷ drop (k + 1) xs → ReadUpTo table xs k old → ReadUpTo table xs (k + 1) new
adds_trees told xs old new k x table p (inl (i, a)) g d h is ms t =
    let f = interface_of a.tree in
    let r = h (numbered k f ∷ is) ms (subst (λ y. AreTrees table k y (numbered k f ∷ is) ms) (sym d) (inl (f, is, refl, interface_kept old new k x table a g, t))) in
    let e : (program_of old).interfaces ++ (numbered k f ∷ is) ≡ (program_of new).interfaces ++ is =
    push_then (program_of old).interfaces (numbered k f) is ∙ ap (λ y. y ++ is) (sym (interfaces_push old new k x p a)) in
    subst (λ y. AreTrees table 0 xs ((program_of new).interfaces ++ is) (y ++ ms)) (modules_same old new k x a) (subst (λ y. AreTrees table 0 xs y ((program_of old).modules ++ ms)) e r)
adds_trees told xs old new k x table p (inr (i, a)) g d h is ms t =
    let f = module_of a.tree in
    let r = h is (numbered k f ∷ ms) (subst (λ y. AreTrees table k y is (numbered k f ∷ ms)) (sym d) (inr (f, ms, refl, module_kept old new k x table a g, t))) in
    let e : (program_of old).modules ++ (numbered k f ∷ ms) ≡ (program_of new).modules ++ ms =
    push_then (program_of old).modules (numbered k f) ms ∙ ap (λ y. y ++ ms) (sym (modules_push old new k x p a)) in
    subst (λ y. AreTrees table 0 xs (y ++ is) ((program_of new).modules ++ ms)) (interfaces_same old new k x a) (subst (λ y. AreTrees table 0 xs ((program_of old).interfaces ++ is) y) e r)

-- texts that were read are the interfaces and modules
pub are_read : (table : List (List ℕ)) (n : ℕ) (texts : List (List ℕ)) (xs : List Tokenized) (is : List (Numbered InterfaceSyn)) (ms : List (Numbered ModuleSyn)) → AreAllTokens texts xs
    → AreTrees table n xs is ms → AreRead table n texts is ms
are_read table n [] [] is ms a t = t
are_read table n [] (x ∷ xs) is ms a t = absurd a
are_read table n (u ∷ us) [] is ms a t = absurd a
are_read table n (u ∷ us) (x ∷ xs) is ms (e, k, a) (inl (f, js, d, w, t)) = inl (
  f,
  js,
  d,
  (x.list, k, interface_begins table x.text x.list f w, subst (λ (y : List ℕ). WholeInterface f (lexemes_of table y x.list)) e w),
  are_read table (n + 1) us xs js ms a t,
)
are_read table n (u ∷ us) (x ∷ xs) is ms (e, k, a) (inr (m, ns, d, w, t)) = inr (
  m,
  ns,
  d,
  (x.list, k, module_begins table x.text x.list m w, subst (λ (y : List ℕ). WholeModule m (lexemes_of table y x.list)) e w),
  are_read table (n + 1) us xs is ns a t,
)
