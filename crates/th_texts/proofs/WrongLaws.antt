-- Texts read in order, and the first text without a tree.
use Rattle.std.proofs.Common.{◌≡◌, ℕ, zero, suc, ◌+◌, ◌<◌, ◌⊎◌, inl, inr, List, [], ◌∷◌, ◌++◌, append-nil, length, drop, slice_get, Some, refl, sym, ◌∙◌, subst, ap, arith}
use Rattle.th_tree.specs.declared.lexeme.Lexeme.{Lexeme}
use Rattle.th_tree.specs.Spans.{Tokenized}
use Rattle.th_tree.specs.Numbered.{lexemes_of, with_tokens}
use Rattle.th_tree.specs.Declarations.{WholeModule, WholeInterface}
use Rattle.th_tree.specs.Verdict.{FirstWrong}
use Rattle.th_hier.specs.Numbering.{Grown}
use Rattle.th_hier.proofs.Growing.{grown_self, grown_on}
use Rattle.th_module_rules.specs.Texts.{AreRead}
use Rattle.th_program.specs.declared.trees.Trees.{Trees}
use Rattle.th_program.specs.Programs.{program_of, IsPaired, Ascending}
use Rattle.th_texts.specs.declared.error.TextError.{TextError}
use Rattle.th_texts.specs.declared.error.TextError.TheVariants.{BadByte, WideNumber, Syntax, Memory}
use Rattle.th_texts.specs.declared.trees.Told.{Told}
use Rattle.th_texts.specs.declared.trees.Told.TheVariants.{ByFirstToken, ByPlace}
use Rattle.th_texts.specs.Tokens.{AreAllTokens}
use Rattle.th_texts.specs.Reading.{HasFormIn, GoesWrongIn, with_all_tokens}
use Rattle.th_texts.specs.Adding.{Adds, AreModuleTexts, HasNoTreeIn, HaveNoTreesIn}
use Rattle.th_texts.proofs.KeptLaws.{tokens_grown, lexemes_kept}
use Rattle.th_texts.proofs.LexLaws.{all_of, all_at, all_cut, one_list, drop_next}
use Rattle.th_texts.proofs.TreeLaws.{AreTrees, AllBelow, ReadUpTo, paired_more, adds_names, adds_ascending, adds_below, adds_grown, adds_form, adds_trees, are_read}

-- what is known of the trees of the first k texts, over every longer table
pub record ReadSoFar (told : Told) (xs : List Tokenized) (k : ℕ) (t : Trees) : Type 0 where
  pub paired : IsPaired t
  pub names : with_all_tokens t.names (drop k xs) ≡ with_all_tokens [] xs
  pub first : AreModuleTexts told k t.module_texts.items
  pub ascending : Ascending t.interface_texts.items
  pub below : AllBelow t.interface_texts.items k
  pub read : (table : List (List ℕ)) → Grown t.names table → ReadUpTo table xs k t
  pub forms : (table : List (List ℕ)) → Grown t.names table → (j : ℕ) (x : Tokenized) → j < k → slice_get xs j ≡ Some x → HasFormIn told table j x.text x.list

-- the table grows as more texts are read
all_grown : (table : List (List ℕ)) (xs : List Tokenized) → Grown table (with_all_tokens table xs)
all_grown table [] = grown_self table
all_grown table (x ∷ xs) =
    let one = with_tokens table x.text x.list in
    grown_on table one (with_all_tokens one xs) (tokens_grown table x.text x.list) (all_grown one xs)

-- one more text and the others have the table of all
names_more : (xs : List Tokenized) (k : ℕ) (x : Tokenized) (old new : List (List ℕ)) → with_all_tokens old (drop k xs) ≡ with_all_tokens [] xs → slice_get xs k ≡ Some x → new ≡ with_tokens old x.text x.list
    → with_all_tokens new (drop (k + 1) xs) ≡ with_all_tokens [] xs
names_more xs k x old new h g n =
    ap (λ (y : List (List ℕ)). with_all_tokens y (drop (k + 1) xs)) n ∙ sym (ap (λ (y : List Tokenized). with_all_tokens old y) (drop_next xs k x g)) ∙ h

-- the table of all texts is a longer one
grown_all : (xs : List Tokenized) (k : ℕ) (table : List (List ℕ)) → with_all_tokens table (drop k xs) ≡ with_all_tokens [] xs → Grown table (with_all_tokens [] xs)
grown_all xs k table h = subst (λ (y : List (List ℕ)). Grown table y) h (all_grown table (drop k xs))

-- a text that goes wrong does so over every longer table
wrong_kept : (told : Told) (k : ℕ) (x : Tokenized) (old new table : List (List ℕ)) (rest : List Lexeme) → new ≡ with_tokens old x.text x.list → Grown new table → GoesWrongIn told new k x.text x.list rest
    → GoesWrongIn told table k x.text x.list rest
wrong_kept told k x old new table rest n g w = go w where
  same : lexemes_of new x.text x.list ≡ lexemes_of table x.text x.list
  same = ap (λ (y : List (List ℕ)). lexemes_of y x.text x.list) n ∙ sym (lexemes_kept old table x.text x.list (subst (λ (y : List (List ℕ)). Grown y table) n g))

  go : GoesWrongIn told new k x.text x.list rest → GoesWrongIn told table k x.text x.list rest
  go (inl (i, w)) = inl (i, subst (λ (y : List Lexeme). FirstWrong WholeInterface y rest) same w)
  go (inr (i, w)) = inr (i, subst (λ (y : List Lexeme). FirstWrong WholeModule y rest) same w)

-- the first text is the module, where the places say it
first_more : (told : Told) (old new : Trees) (k : ℕ) (x : Tokenized) → AreModuleTexts told k old.module_texts.items → Adds told old k x new → AreModuleTexts told (k + 1) new.module_texts.items
first_more ByFirstToken old new k x f a = tt
first_more ByPlace old new k x f (inl (i, a)) = (λ e. absurd (omega (arith, e)), λ l. a.module_texts ∙ f.1 i)
first_more ByPlace old new k x f (inr (i, a)) = (λ e. absurd (omega (arith, e)), λ l. a.module_texts ∙ ap (λ (y : List ℕ). y ++ k ∷ []) (f.0 (none k i)) ∙ ap (λ (y : ℕ). y ∷ []) (none k i)) where
  none : (k : ℕ) → ¬ (0 < k) → k ≡ 0
  none zero i = refl
  none (suc k) i = absurd (i (omega arith))

-- the k-th text has no tree
pub no_tree : (told : Told) (texts : List (List ℕ)) (xs : List Tokenized) (old : Trees) (k : ℕ) (x : Tokenized) (new : List (List ℕ)) (e : TextError) → AreAllTokens texts xs → ReadSoFar told xs k old
    → slice_get xs k ≡ Some x → HasNoTreeIn told old.names k x new e → HaveNoTreesIn told texts e
no_tree told texts xs old k x new (BadByte at) a s g h = h
no_tree told texts xs old k x new (WideNumber at) a s g h = h
no_tree told texts xs old k x new Memory a s g h = tt
no_tree told texts xs old k x new (Syntax at) a s g (rest, w, p, n) =
    let y = all_of texts xs k x a g in
    let all = with_all_tokens [] xs in
    let longer : Grown new all = grown_all xs (k + 1) new (names_more xs k x old.names new s.names g n) in
    let grown : Grown old.names all = grown_all xs k old.names s.names in
    subst (λ q. HaveNoTreesIn told texts (Syntax q)) (sym p) (
      xs,
      a,
      (
        x.text,
        x.list,
        rest,
        y.0,
        y.1,
        all_cut texts xs (length texts) a,
        (λ j u us l e t.
            let z = all_at texts xs j u a e in
            let f = s.forms all grown j z.0 l z.1 in
            subst (λ v. HasFormIn told all j u v) (one_list u z.0.list us z.3 t) (subst (λ v. HasFormIn told all j v z.0.list) z.2 f)),
        wrong_kept told k x old.names new all rest n longer w,
        refl,
      ),
    )

before : (j k : ℕ) → j < k + 1 → (j < k) ⊎ (j ≡ k)
before zero zero l = inr refl
before zero (suc k) l = inl (omega arith)
before (suc j) zero l = absurd (omega (arith, l))
before (suc j) (suc k) l = elim (before j k (omega (arith, l))) [ inl h ↦ inl (omega (arith, h)) | inr h ↦ inr (ap suc h) ]

no_modules : (told : Told) (ns : List ℕ) → ns ≡ [] → AreModuleTexts told 0 ns
no_modules ByFirstToken ns e = tt
no_modules ByPlace ns e = (λ d. e, λ l. absurd (omega (arith, l)))

-- nothing is read yet
pub read_starts : (told : Told) (xs : List Tokenized) (t : Trees) → t.names ≡ [] → t.interfaces.items ≡ [] → t.interface_texts.items ≡ [] → t.modules.items ≡ [] → t.module_texts.items ≡ [] → ReadSoFar told xs 0 t
read_starts told xs t d i n m k = record {
  paired = record { interfaces = ap length n ∙ sym (ap length i); modules = ap length k ∙ sym (ap length m) };
  names = ap (λ (y : List (List ℕ)). with_all_tokens y xs) d;
  first = no_modules told t.module_texts.items k;
  ascending = subst (λ (y : List ℕ). Ascending y) (sym n) tt;
  below = subst (λ (y : List ℕ). AllBelow y 0) (sym n) (λ m h. absurd h);
  read = λ table g is ms h. rw (i, n, m, k) h;
  forms = λ table g j x l e. absurd (omega (arith, l));
}

-- one more text is read
pub read_goes : (told : Told) (xs : List Tokenized) (old new : Trees) (k : ℕ) (x : Tokenized) → ReadSoFar told xs k old → slice_get xs k ≡ Some x → Adds told old k x new → ReadSoFar told xs (k + 1) new
read_goes told xs old new k x s g a = record {
  paired = paired_more told old new k x s.paired a;
  names = names_more xs k x old.names new.names s.names g (adds_names told old new k x a);
  first = first_more told old new k x s.first a;
  ascending = adds_ascending told old new k x s.ascending s.below a;
  below = adds_below told old new k x s.below a;
  read = λ table r. adds_trees told xs old new k x table s.paired a r (drop_next xs k x g) (s.read table (grown_on old.names new.names table (adds_grown told old new k x a) r));
  forms = λ table r j y l e. elim (before j k l) [
    | inl h ↦ s.forms table (grown_on old.names new.names table (adds_grown told old new k x a) r) j y h e
    | inr h ↦ (let d : Some y ≡ Some x = sym e ∙ ap (λ n. slice_get xs n) h ∙ g in let w : x ≡ y = cc in
        subst (λ n. HasFormIn told table n y.text y.list) (sym h) (subst (λ (z : Tokenized). HasFormIn told table k z.text z.list) w (adds_form told old new k x table a r)))
  ];
}

nothing_left : {A : Type 0} (xs : List A) → drop (length xs) xs ≡ []
nothing_left [] = refl
nothing_left (x ∷ xs) = nothing_left xs

-- all texts are read
pub read_ends : (told : Told) (texts : List (List ℕ)) (xs : List Tokenized) (k : ℕ) (t : Trees) (table : List (List ℕ)) → AreAllTokens texts xs → ReadSoFar told xs k t → k ≡ length xs → Grown t.names table
    → AreRead table 0 texts (program_of t).interfaces (program_of t).modules
read_ends told texts xs k t table a s e g =
    let none : drop k xs ≡ [] = ap (λ n. drop n xs) e ∙ nothing_left xs in
    let h : AreTrees table 0 xs ((program_of t).interfaces ++ []) ((program_of t).modules ++ []) = s.read table g [] [] (subst (λ y. AreTrees table k y [] []) (sym none) (refl, refl)) in
    are_read table 0 texts xs (program_of t).interfaces (program_of t).modules a
    (subst (λ y. AreTrees table 0 xs y (program_of t).modules) (append-nil (program_of t).interfaces) (subst (λ y. AreTrees table 0 xs ((program_of t).interfaces ++ []) y) (append-nil (program_of t).modules) h))

-- the table is that of all texts
pub names_end : (told : Told) (xs : List Tokenized) (k : ℕ) (t : Trees) → ReadSoFar told xs k t → k ≡ length xs → t.names ≡ with_all_tokens [] xs
names_end told xs k t s e = let none : drop k xs ≡ [] = ap (λ n. drop n xs) e ∙ nothing_left xs in sym (ap (λ (y : List Tokenized). with_all_tokens t.names y) none) ∙ s.names

-- the first text is the module
pub first_ends : (told : Told) (xs : List Tokenized) (k : ℕ) (t : Trees) → ReadSoFar told xs k t → k ≡ length xs → AreModuleTexts told (length xs) t.module_texts.items
first_ends told xs k t s e = subst (λ (n : ℕ). AreModuleTexts told n t.module_texts.items) e s.first
