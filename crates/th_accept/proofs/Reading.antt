-- Texts that are read, and those that are not.
use Rattle.std.proofs.Common.{◌≡◌, ◌≤◌, ◌+◌, ℕ, zero, suc, List, [], ◌∷◌, Some, length, slice_get, refl, sym, ◌∙◌, ap, subst, inl, inr, arith}
use Rattle.th_tree.specs.declared.tokens.Token.{Token}
use Rattle.th_tree.specs.Spans.{Tokenized}
use Rattle.th_tree.specs.Cut.{Cuts}
use Rattle.th_tree.specs.Trees.{InterfaceSyn, ModuleSyn}
use Rattle.th_lex.proofs.Unique.{one_verdict}
use Rattle.th_module_rules.specs.Stages.{Numbered, numbered}
use Rattle.th_module_rules.specs.Texts.{AreRead, AreTokens, BeginsInterface}
use Rattle.th_texts.specs.Tokens.{AreAllTokens, HaveNoTokens}
use Rattle.th_texts.specs.Reading.{AreShort, HaveNoTrees, HaveNoTreesWith}
use Rattle.th_texts.specs.declared.error.TextError.{TextError}
use Rattle.th_texts.specs.declared.error.TextError.TheVariants.{BadByte, WideNumber, Syntax, Memory}
use Rattle.th_accept.specs.Answers.{IsModuleFirst, Refused, RefusedWith}
use Rattle.th_accept.specs.Stages.{text_refusal}

pub not_cut : (texts : List (List ℕ)) (e : TextError) → HaveNoTokens texts e → Refused texts (text_refusal e)
not_cut texts (BadByte at) h = h
not_cut texts (WideNumber at) h = h
not_cut texts (Syntax at) h = absurd h
not_cut texts Memory h = tt

pub not_cut_with : (texts : List (List ℕ)) (e : TextError) → HaveNoTokens texts e → RefusedWith texts (text_refusal e)
not_cut_with texts (BadByte at) h = h
not_cut_with texts (WideNumber at) h = h
not_cut_with texts (Syntax at) h = absurd h
not_cut_with texts Memory h = tt

pub not_read : (texts : List (List ℕ)) (e : TextError) → HaveNoTrees texts e → Refused texts (text_refusal e)
not_read texts (BadByte at) h = absurd h
not_read texts (WideNumber at) h = absurd h
not_read texts (Syntax at) h = h
not_read texts Memory h = tt

pub not_read_with : (texts : List (List ℕ)) (e : TextError) → HaveNoTreesWith texts e → RefusedWith texts (text_refusal e)
not_read_with texts (BadByte at) h = absurd h
not_read_with texts (WideNumber at) h = absurd h
not_read_with texts (Syntax at) h = h
not_read_with texts Memory h = tt

-- tokens of short texts are those of short texts
pub short_tokens : (texts : List (List ℕ)) (xs : List Tokenized) → AreAllTokens texts xs → ((k : ℕ) (t : List ℕ) → slice_get texts k ≡ Some t → length t ≤ 2097152) → AreShort xs
short_tokens [] [] h few k x e = absurd (cc)
short_tokens [] (y ∷ xs) h few k x e = absurd h
short_tokens (t ∷ ts) [] h few k x e = absurd h
short_tokens (t ∷ ts) (y ∷ xs) h few zero x e = let s : y ≡ x = cc in let q : x.text ≡ t = ap (λ (z : Tokenized). z.text) (sym s) ∙ h.0 in omega (arith, few zero t refl, ap length q)
short_tokens (t ∷ ts) (y ∷ xs) h few (suc k) x e = short_tokens ts xs h.2 (λ j u i. few (suc j) u i) k x e

-- a text has one list of tokens
pub one_list : (t : List ℕ) (ts us : List Token) → AreTokens t ts → AreTokens t us → ts ≡ us
one_list t ts us a b = let e = one_verdict t (Cuts ts) (Cuts us) a.cut b.cut in cc

pub begins_on : (t : List ℕ) (ts us : List Token) → AreTokens t ts → AreTokens t us → BeginsInterface ts → BeginsInterface us
begins_on t ts us a b h = subst (λ (vs : List Token). BeginsInterface vs) (one_list t ts us a b) h

-- a list that begins with something is not empty
nothing_more : {A : Type 0} (xs : List A) (y : A) (ys : List A) → xs ≡ [] → xs ≡ y ∷ ys → ⊥
nothing_more xs y ys e d = cc

first_of : {A : Type 0} {x y : A} {xs ys : List A} → x ∷ xs ≡ y ∷ ys → x ≡ y
first_of e = cc

rest_of : {A : Type 0} {x y : A} {xs ys : List A} → x ∷ xs ≡ y ∷ ys → xs ≡ ys
rest_of e = cc

-- texts among which no module was read are interfaces
all_interfaces : (table : List (List ℕ)) (n : ℕ) (texts : List (List ℕ)) (is : List (Numbered InterfaceSyn)) (ms : List (Numbered ModuleSyn)) → ms ≡ [] → AreRead table n texts is ms
    → (k : ℕ) (t : List ℕ) (ts : List Token) → slice_get texts k ≡ Some t → AreTokens t ts → BeginsInterface ts
all_interfaces table n [] is ms none h k t ts e a = absurd (cc)
all_interfaces table n (u ∷ us) is ms none (inl h) zero t ts e a =
    let s : u ≡ t = cc in let r = h.3 in begins_on t r.0 ts (subst (λ (v : List ℕ). AreTokens v r.0) s r.1) a r.2
all_interfaces table n (u ∷ us) is ms none (inl h) (suc k) t ts e a = all_interfaces table (n + 1) us h.1 ms none h.4 k t ts e a
all_interfaces table n (u ∷ us) is ms none (inr h) k t ts e a = absurd (nothing_more ms (numbered n h.0) h.1 none h.2)

-- the first module has no lesser number than the first text
not_earlier : (table : List (List ℕ)) (n : ℕ) (texts : List (List ℕ)) (is : List (Numbered InterfaceSyn)) (j : ℕ) (m : ModuleSyn) (ms : List (Numbered ModuleSyn))
    → AreRead table n texts is (numbered j m ∷ ms) → n ≤ j
not_earlier table n [] is j m ms h = absurd (nothing_more (numbered j m ∷ ms) (numbered j m) ms h.1 refl)
not_earlier table n (u ∷ us) is j m ms (inl h) = omega (arith, not_earlier table (n + 1) us h.1 j m ms h.4)
not_earlier table n (u ∷ us) is j m ms (inr h) = let e : j ≡ n = ap (λ (x : Numbered ModuleSyn). x.text) (first_of h.2) in omega arith

-- where the first text is the only module, the others are interfaces
pub first_module : (table : List (List ℕ)) (texts : List (List ℕ)) (is : List (Numbered InterfaceSyn)) (m : ModuleSyn) → AreRead table 0 texts is (numbered 0 m ∷ []) → IsModuleFirst texts
first_module table [] is m h k t ts e a = absurd (cc)
first_module table (u ∷ us) is m (inl h) k t ts e a = absurd (omega (arith, not_earlier table (0 + 1) us h.1 0 m [] h.4))
first_module table (u ∷ us) is m (inr h) zero t ts e a =
    let s : u ≡ t = cc in let r = h.3 in
    (λ z b. r.2 (begins_on t ts r.0 a (subst (λ (v : List ℕ). AreTokens v r.0) s r.1) b), λ l. absurd (omega arith))
first_module table (u ∷ us) is m (inr h) (suc k) t ts e a =
    (λ z. absurd (omega arith), λ l. all_interfaces table (0 + 1) us is h.1 (sym (rest_of h.2)) h.4 k t ts e a)
