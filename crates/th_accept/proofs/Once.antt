-- Texts have one list of tokens each, and one tree.
use Rattle.std.proofs.Common.{◌≡◌, ◌∙◌, ℕ, zero, suc, ◌+◌, List, [], ◌∷◌, Some, slice_get, refl, sym, ap, subst, inl, inr, nat_lt, true}
use Rattle.th_tree.specs.declared.tokens.Token.{Token}
use Rattle.th_tree.specs.declared.lexeme.Lexeme.{Lexeme}
use Rattle.th_tree.specs.Spans.{Tokenized}
use Rattle.th_tree.specs.Cut.{Cuts, Bad, Wide, FirstBad, FirstWide}
use Rattle.th_tree.specs.Numbered.{lexemes_of, with_tokens}
use Rattle.th_tree.specs.Verdict.{FirstWrong}
use Rattle.th_tree.specs.Trees.{InterfaceSyn, ModuleSyn}
use Rattle.th_tree.specs.Declarations.{WholeModule, WholeInterface}
use Rattle.th_tree.specs.Grammar.{height_limit}
use Rattle.th_lex.proofs.Unique.{one_verdict}
use Rattle.th_decl.proofs.Whole.{one_interface, one_module}
use Rattle.th_hier.specs.Numbering.{Grown}
use Rattle.th_hier.proofs.Growing.{grown_on, grown_self}
use Rattle.th_module_rules.specs.Stages.{Numbered, numbered}
use Rattle.th_module_rules.specs.Texts.{AreRead, AreTokens}
use Rattle.th_texts.specs.Tokens.{AreAllTokens}
use Rattle.th_texts.specs.Reading.{with_all_tokens}
use Rattle.th_texts.proofs.KeptLaws.{lexemes_kept, tokens_grown}
use Rattle.th_accept.proofs.Reading.{one_list, begins_on}

-- a text that has tokens has no bad byte and no wide number
pub not_bad : (t : List ℕ) (ts : List Token) (p : ℕ) → AreTokens t ts → FirstBad t p → ⊥
not_bad t ts p a h = let e = one_verdict t (Cuts ts) (Bad p) a.cut h in cc

pub not_wide : (t : List ℕ) (ts : List Token) (p : ℕ) → AreTokens t ts → FirstWide t p → ⊥
not_wide t ts p a h = let e = one_verdict t (Cuts ts) (Wide p) a.cut h in cc

-- each of the texts has tokens
pub tokens_at : (texts : List (List ℕ)) (xs : List Tokenized) → AreAllTokens texts xs → (k : ℕ) (t : List ℕ) → slice_get texts k ≡ Some t → (ts : List Token) × AreTokens t ts
tokens_at [] [] h k t e = absurd (cc)
tokens_at [] (x ∷ xs) h k t e = absurd h
tokens_at (u ∷ us) [] h k t e = absurd h
tokens_at (u ∷ us) (x ∷ xs) h zero t e = let s : u ≡ t = cc in (x.list, subst (λ (v : List ℕ). AreTokens v x.list) s h.1)
tokens_at (u ∷ us) (x ∷ xs) h (suc k) t e = tokens_at us xs h.2 k t e

abbrev with_list : List ℕ → List Token → Tokenized
with_list t ts = record { text = t; list = ts }

same_text : (x y : Tokenized) (t : List ℕ) → x.text ≡ t → y.text ≡ t → x.list ≡ y.list → x ≡ y
same_text x y t a b c = ap (λ (u : List ℕ). with_list u x.list) (a ∙ sym b) ∙ ap (λ (ts : List Token). with_list y.text ts) c

-- texts have one list of tokens each
pub same_tokens : (texts : List (List ℕ)) (xs ys : List Tokenized) → AreAllTokens texts xs → AreAllTokens texts ys → xs ≡ ys
same_tokens [] [] [] a b = refl
same_tokens [] (x ∷ xs) ys a b = absurd a
same_tokens [] [] (y ∷ ys) a b = absurd b
same_tokens (t ∷ ts) [] ys a b = absurd a
same_tokens (t ∷ ts) (x ∷ xs) [] a b = absurd b
same_tokens (t ∷ ts) (x ∷ xs) (y ∷ ys) a b =
    let s : x ≡ y = same_text x y t a.0 b.0 (one_list t x.list y.list a.1 b.1) in
    ap (λ (z : Tokenized). z ∷ xs) s ∙ ap (λ (zs : List Tokenized). y ∷ zs) (same_tokens ts xs ys a.2 b.2)

all_grown : (table : List (List ℕ)) (xs : List Tokenized) → Grown table (with_all_tokens table xs)
all_grown table [] = grown_self table
all_grown table (x ∷ xs) = grown_on table (with_tokens table x.text x.list) (with_all_tokens (with_tokens table x.text x.list) xs) (tokens_grown table x.text x.list) (all_grown (with_tokens table x.text x.list) xs)

-- the lexemes of a text are the same over two tables that begin with its names
pub same_lexemes : (old a b : List (List ℕ)) (t : List ℕ) (ts us : List Token) → AreTokens t ts → AreTokens t us → Grown (with_tokens old t ts) a → Grown (with_tokens old t ts) b → lexemes_of a t us ≡ lexemes_of b t us
same_lexemes old a b t ts us x y g h =
    subst (λ (vs : List Token). lexemes_of a t vs ≡ lexemes_of b t vs) (one_list t ts us x y) (lexemes_kept old a t ts g ∙ sym (lexemes_kept old b t ts h))

-- texts have one tree each
pub record SameTrees (is js : List (Numbered InterfaceSyn)) (ms ns : List (Numbered ModuleSyn)) : Type 0 where
  pub interfaces : is ≡ js
  pub modules : ms ≡ ns

limit_some : nat_lt 0 height_limit ≡ true
unfolding height_limit
limit_some = refl

-- two readings of a text over two tables that begin with its names
module _ (old a b : List (List ℕ)) (t : List ℕ) (ts : List Token) (k : AreTokens t ts) (g : Grown (with_tokens old t ts) a) (h : Grown (with_tokens old t ts) b) where
  lexemes_on : (us vs : List Token) → AreTokens t us → AreTokens t vs → lexemes_of a t us ≡ lexemes_of b t vs
  lexemes_on us vs x y = same_lexemes old a b t ts us k x g h ∙ ap (λ (ws : List Token). lexemes_of b t ws) (one_list t us vs x y)

  pub same_interface : (f d : InterfaceSyn) (us vs : List Token) → AreTokens t us → AreTokens t vs → WholeInterface f (lexemes_of a t us) → WholeInterface d (lexemes_of b t vs) → f ≡ d
  same_interface f d us vs x y p q =
      one_interface height_limit limit_some (lexemes_of b t vs) f d (subst (λ (ls : List Lexeme). WholeInterface f ls) (lexemes_on us vs x y) p) q

  pub same_module : (f d : ModuleSyn) (us vs : List Token) → AreTokens t us → AreTokens t vs → WholeModule f (lexemes_of a t us) → WholeModule d (lexemes_of b t vs) → f ≡ d
  same_module f d us vs x y p q =
      one_module height_limit limit_some (lexemes_of b t vs) f d (subst (λ (ls : List Lexeme). WholeModule f ls) (lexemes_on us vs x y) p) q

pub grown_here : (old c : List (List ℕ)) (t : List ℕ) (x : Tokenized) (xs : List Tokenized) → x.text ≡ t → Grown (with_all_tokens (with_tokens old x.text x.list) xs) c → Grown (with_tokens old t x.list) c
grown_here old c t x xs e w =
    let one = with_tokens old x.text x.list in
    subst (λ (v : List ℕ). Grown (with_tokens old v x.list) c) e (grown_on one (with_all_tokens one xs) c (all_grown one xs) w)

pub same_trees : (old a b : List (List ℕ)) (n : ℕ) (texts : List (List ℕ)) (xs : List Tokenized) (is js : List (Numbered InterfaceSyn)) (ms ns : List (Numbered ModuleSyn)) → AreAllTokens texts xs
    → Grown (with_all_tokens old xs) a → Grown (with_all_tokens old xs) b → AreRead a n texts is ms → AreRead b n texts js ns → SameTrees is js ms ns
same_trees old a b n [] [] is js ms ns k g h p q = record { interfaces = p.0 ∙ sym q.0; modules = p.1 ∙ sym q.1 }
same_trees old a b n [] (x ∷ xs) is js ms ns k g h p q = absurd k
same_trees old a b n (t ∷ ts) [] is js ms ns k g h p q = absurd k
same_trees old a b n (t ∷ ts) (x ∷ xs) is js ms ns k g h (inl p) (inl q) =
    let r = p.3 in
    let r2 = q.3 in
    let same : p.0 ≡ q.0 = same_interface old a b t x.list k.1 (grown_here old a t x xs k.0 g) (grown_here old b t x xs k.0 h) p.0 q.0 r.0 r2.0 r.1 r2.1 r.3 r2.3 in
    let s = same_trees (with_tokens old x.text x.list) a b (n + 1) ts xs p.1 q.1 ms ns k.2 g h p.4 q.4 in
    record { interfaces = p.2 ∙ ap (λ (z : InterfaceSyn). numbered n z ∷ p.1) same ∙ ap (λ (zs : List (Numbered InterfaceSyn)). numbered n q.0 ∷ zs) s.interfaces ∙ sym q.2; modules = s.modules }
same_trees old a b n (t ∷ ts) (x ∷ xs) is js ms ns k g h (inl p) (inr q) = let r = p.3 in let r2 = q.3 in absurd (r2.2 (begins_on t r.0 r2.0 r.1 r2.1 r.2))
same_trees old a b n (t ∷ ts) (x ∷ xs) is js ms ns k g h (inr p) (inl q) = let r = p.3 in let r2 = q.3 in absurd (r.2 (begins_on t r2.0 r.0 r2.1 r.1 r2.2))
same_trees old a b n (t ∷ ts) (x ∷ xs) is js ms ns k g h (inr p) (inr q) =
    let r = p.3 in
    let r2 = q.3 in
    let same : p.0 ≡ q.0 = same_module old a b t x.list k.1 (grown_here old a t x xs k.0 g) (grown_here old b t x xs k.0 h) p.0 q.0 r.0 r2.0 r.1 r2.1 r.3 r2.3 in
    let s = same_trees (with_tokens old x.text x.list) a b (n + 1) ts xs is js p.1 q.1 k.2 g h p.4 q.4 in
    record { interfaces = s.interfaces; modules = p.2 ∙ ap (λ (z : ModuleSyn). numbered n z ∷ p.1) same ∙ ap (λ (zs : List (Numbered ModuleSyn)). numbered n q.0 ∷ zs) s.modules ∙ sym q.2 }

-- lexemes that go wrong have no tree
pub no_tree : {A : Type 0} (F : A → List Lexeme → Type 0) (ls rest : List Lexeme) (x : A) → FirstWrong F ls rest → F x ls → ⊥
no_tree F ls [] x w h = w.early x refl h
no_tree F ls (l ∷ rest) x w h = w.wrong l rest rest x refl (subst (λ (ms : List Lexeme). F x ms) w.split h)
