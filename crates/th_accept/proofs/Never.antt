-- Accepted texts are refused for want of memory alone, and have one answer.
use Rattle.std.proofs.Common.{◌≡◌, ◌∙◌, ℕ, zero, suc, ◌+◌, ◌<◌, List, [], ◌∷◌, Some, None, map, slice_get, refl, sym, ap, subst, ◌⊎◌, inl, inr, arith}
use Rattle.std.specs.Prelude.{Result, Ok, Err, IfErr}
use Rattle.th_tree.specs.declared.tokens.Token.{Token}
use Rattle.th_tree.specs.declared.lexeme.Lexeme.{Lexeme}
use Rattle.th_tree.specs.Spans.{Tokenized}
use Rattle.th_tree.specs.Numbered.{lexemes_of, with_tokens}
use Rattle.th_tree.specs.Trees.{InterfaceSyn, ModuleSyn}
use Rattle.th_tree.specs.Declarations.{WholeModule, WholeInterface}
use Rattle.th_tree.specs.Verdict.{FirstWrong}
use Rattle.th_type.specs.declared.place.Failure.{Failure}
use Rattle.th_type.specs.Failures.{IsLeastOf, failure}
use Rattle.th_hier.specs.Numbering.{Grown}
use Rattle.th_hier.proofs.Growing.{grown_self}
use Rattle.th_meaning.specs.Program.{ProgramModule}
use Rattle.th_module_rules.specs.Limits.{Counted, IsFirstExcess, KeepsLimits}
use Rattle.th_module_rules.specs.Refusals.{GoesWrong, IsMissing}
use Rattle.th_module_rules.specs.Stages.{FailsFirst, FailsFourth, FailsSecond, FailsThird, Numbered, Program, RefusedBy, RulesHold}
use Rattle.th_module_rules.specs.Texts.{AllGiven, AreRead, AreTokens, UsedName}
use Rattle.th_texts.specs.Tokens.{AreAllTokens}
use Rattle.th_texts.specs.Reading.{with_all_tokens}
use Rattle.th_full_names.specs.Numbering.{full_names, with_full_names}
use Rattle.th_full_names.proofs.NameLaws.{names_grown}
use Rattle.th_checked.specs.Checked.{AreChecked}
use Rattle.th_accept.specs.Answers.{Accepted, AcceptedWith, AreLawful, IsModuleFirst, IsRead, Refused, RefusedWith, all_names}
use Rattle.th_accept.specs.Counts.{all_counts}
use Rattle.th_accept.specs.declared.refusal.Refusal.{Refusal}
use Rattle.th_accept.specs.declared.refusal.Refusal.TheVariants.{BadByte, WideNumber, Syntax, MissingInterface, Rule, TooLarge, Memory}
use Rattle.th_accept.proofs.Accepting.{given_on}
use Rattle.th_accept.proofs.OneModule.{same_checked}
use Rattle.th_accept.proofs.Reading.{begins_on, one_list}
use Rattle.th_accept.proofs.Once.{SameTrees, grown_here, no_tree, not_bad, not_wide, same_lexemes, same_tokens, same_trees, tokens_at}

-- texts that were read over two tables that begin with their names have the same trees
one_reading : (texts : List (List ℕ)) (xs ys : List Tokenized) (a b : List (List ℕ)) (p q : Program) → IsRead texts xs a p → IsRead texts ys b q
    → Grown (with_all_tokens [] xs) p.table → Grown (with_all_tokens [] ys) q.table → SameTrees p.interfaces q.interfaces p.modules q.modules
one_reading texts xs ys a b p q h k g w =
    let s : ys ≡ xs = same_tokens texts ys xs k.tokens h.tokens in
    same_trees [] p.table q.table 0 texts xs p.interfaces q.interfaces p.modules q.modules h.tokens g (subst (λ (zs : List Tokenized). Grown (with_all_tokens [] zs) q.table) s w) h.read k.read

-- the table of a program begins with the names of its texts
words_first : (texts : List (List ℕ)) (xs : List Tokenized) (p : Program) → IsRead texts xs (all_names xs p) p → Grown (with_all_tokens [] xs) p.table
words_first texts xs p r =
    subst (λ (t : List (List ℕ)). Grown (with_all_tokens [] xs) t) (sym r.table)
    (names_grown (with_all_tokens [] xs) (full_names (with_all_tokens [] xs) (map (λ (i : Numbered InterfaceSyn). i.tree) p.interfaces) (map (λ (m : Numbered ModuleSyn). m.tree) p.modules)))

words_alone : (texts : List (List ℕ)) (xs : List Tokenized) (p : Program) → IsRead texts xs (with_all_tokens [] xs) p → Grown (with_all_tokens [] xs) p.table
words_alone texts xs p r = subst (λ (t : List (List ℕ)). Grown (with_all_tokens [] xs) t) (sym r.table) (grown_self (with_all_tokens [] xs))

abbrev make : List (List ℕ) → List (Numbered InterfaceSyn) → List (Numbered ModuleSyn) → Program
make t is ms = record { table = t; interfaces = is; modules = ms }

same_program : (p q : Program) → p.table ≡ q.table → SameTrees p.interfaces q.interfaces p.modules q.modules → p ≡ q
same_program p q e s =
    ap (λ (t : List (List ℕ)). make t p.interfaces p.modules) e ∙ ap (λ (is : List (Numbered InterfaceSyn)). make q.table is p.modules) s.interfaces
    ∙ ap (λ (ms : List (Numbered ModuleSyn)). make q.table q.interfaces ms) s.modules

abbrev named : List Tokenized → List (Numbered InterfaceSyn) → List (Numbered ModuleSyn) → List (List ℕ)
named xs is ms = with_full_names (with_all_tokens [] xs) (map (λ (i : Numbered InterfaceSyn). i.tree) is) (map (λ (m : Numbered ModuleSyn). m.tree) ms)

-- texts are one program
one_program : (texts : List (List ℕ)) (xs ys : List Tokenized) (p q : Program) → IsRead texts xs (all_names xs p) p → IsRead texts ys (all_names ys q) q → p ≡ q
one_program texts xs ys p q h k =
    let s : SameTrees p.interfaces q.interfaces p.modules q.modules =
    one_reading texts xs ys (all_names xs p) (all_names ys q) p q h k (words_first texts xs p h) (words_first texts ys q k) in
    let t : p.table ≡ q.table =
    h.table ∙ ap (λ (zs : List Tokenized). named zs p.interfaces p.modules) (same_tokens texts xs ys h.tokens k.tokens)
    ∙ ap (λ (is : List (Numbered InterfaceSyn)). named ys is p.modules) s.interfaces ∙ ap (λ (ms : List (Numbered ModuleSyn)). named ys q.interfaces ms) s.modules ∙ sym k.table in
    same_program p q t s

-- a text that was read does not go wrong
wrong_here : (a b : List (List ℕ)) (n : ℕ) (t : List ℕ) (us : List Token) (rest : List Lexeme) (is : List (Numbered InterfaceSyn)) (ms : List (Numbered ModuleSyn)) (more : List (List ℕ))
    → AreTokens t us → ((vs : List Token) → AreTokens t vs → lexemes_of a t vs ≡ lexemes_of b t us) → AreRead a n (t ∷ more) is ms → GoesWrong b t us rest → ⊥
wrong_here a b n t us rest is ms more y same (inl h) (inl w) =
    let r = h.3 in no_tree WholeInterface (lexemes_of b t us) rest h.0 w.1 (subst (λ (ls : List Lexeme). WholeInterface h.0 ls) (same r.0 r.1) r.3)
wrong_here a b n t us rest is ms more y same (inl h) (inr w) = let r = h.3 in w.0 (begins_on t r.0 us r.1 y r.2)
wrong_here a b n t us rest is ms more y same (inr h) (inl w) = let r = h.3 in r.2 (begins_on t us r.0 y r.1 w.0)
wrong_here a b n t us rest is ms more y same (inr h) (inr w) =
    let r = h.3 in no_tree WholeModule (lexemes_of b t us) rest h.0 w.1 (subst (λ (ls : List Lexeme). WholeModule h.0 ls) (same r.0 r.1) r.3)

-- of texts that were read none goes wrong
not_wrong : (old a b : List (List ℕ)) (n : ℕ) (texts : List (List ℕ)) (xs : List Tokenized) (is : List (Numbered InterfaceSyn)) (ms : List (Numbered ModuleSyn)) → AreAllTokens texts xs
    → Grown (with_all_tokens old xs) a → Grown (with_all_tokens old xs) b → AreRead a n texts is ms → (k : ℕ) (t : List ℕ) (us : List Token) (rest : List Lexeme) → slice_get texts k ≡ Some t → AreTokens t us → GoesWrong b t us rest → ⊥
not_wrong old a b n [] xs is ms h g l r k t us rest e y w = absurd (cc)
not_wrong old a b n (u ∷ more) [] is ms h g l r k t us rest e y w = absurd h
not_wrong old a b n (u ∷ more) (x ∷ xs) is ms h g l r zero t us rest e y w =
    let s : u ≡ t = cc in
    let z : AreTokens u us = subst (λ (v : List ℕ). AreTokens v us) (sym s) y in
    wrong_here a b n u us rest is ms more z
    (λ vs i. same_lexemes old a b u x.list vs h.1 i (grown_here old a u x xs h.0 g) (grown_here old b u x xs h.0 l) ∙ ap (λ (ws : List Token). lexemes_of b u ws) (one_list u vs us i z))
    r (subst (λ (v : List ℕ). GoesWrong b v us rest) (sym s) w)
not_wrong old a b n (u ∷ more) (x ∷ xs) is ms h g l (inl r) (suc k) t us rest e y w =
    not_wrong (with_tokens old x.text x.list) a b (n + 1) more xs r.1 ms h.2 g l r.4 k t us rest e y w
not_wrong old a b n (u ∷ more) (x ∷ xs) is ms h g l (inr r) (suc k) t us rest e y w =
    not_wrong (with_tokens old x.text x.list) a b (n + 1) more xs is r.1 h.2 g l r.4 k t us rest e y w

-- where all names are given none is missing
not_missing : (p q : Program) → SameTrees p.interfaces q.interfaces p.modules q.modules → AllGiven p → (u : UsedName) → IsMissing q u → ⊥
not_missing p q s g u m = m.1 (given_on p q (sym s.interfaces) (sym s.modules) g u m.0)

-- where no failure is there none is the least
none_there : (S : Failure → Type 0) (f : Failure) → IsLeastOf S None → IsLeastOf S (Some f) → ⊥
none_there S f n h = n f h.0

never_named : (p : Program) (f : Failure) → RulesHold p → RefusedBy p f → ⊥
never_named p f n h = elim h [
  | inl a ↦ none_there (FailsFirst p) f n.0 a
  | inr b ↦ elim b.1 [
    | inl c ↦ none_there (FailsSecond p) f n.1.0 c
    | inr d ↦ elim d.1 [ inl e ↦ none_there (FailsThird p) f n.1.1.0 e | inr g ↦ elim g.1 [ inl i ↦ none_there (FailsFourth p) f n.1.1.1.0 i | inr j ↦ j.1 ] ]
  ]
]

-- in lawful texts no rule fails
not_unlawful : (texts : List (List ℕ)) (xs ys : List Tokenized) (p q : Program) (ms : List ProgramModule) (f : Failure) → AreLawful texts xs p ms → IsRead texts ys (all_names ys q) q → RefusedBy q f → ⊥
not_unlawful texts xs ys p q ms f l r h =
    let s : q ≡ p = one_program texts ys xs q p r l.read in
    never_named p f l.lawful.rules (subst (λ (o : Program). RefusedBy o f) s h)

-- lawful texts have one list of checked modules
one_list_of_modules : (texts : List (List ℕ)) (xs ys : List Tokenized) (p q : Program) (ms ns : List ProgramModule) → AreLawful texts xs p ms → AreLawful texts ys q ns → ms ≡ ns
one_list_of_modules texts xs ys p q ms ns l k =
    let s : q ≡ p = one_program texts ys xs q p k.read l.read in
    let t : ys ≡ xs = same_tokens texts ys xs k.read.tokens l.read.tokens in
    let d : AreChecked p xs p.modules ns = subst (λ (zs : List Tokenized). AreChecked p zs p.modules ns) t (subst (λ (o : Program). AreChecked o ys o.modules ns) s k.checked) in
    same_checked p xs p.modules ms ns l.checked d

-- where the limits are kept nothing is too large
none_too_large : (cs : List Counted) (c : Counted) → KeepsLimits cs → IsFirstExcess cs c → ⊥
none_too_large cs c k h = let a = k c h.0 in let b = h.1 in omega arith

not_too_large : (texts : List (List ℕ)) (xs ys : List Tokenized) (p q : Program) (ms ns : List ProgramModule) (c : Counted) → AreLawful texts xs p ms → KeepsLimits (all_counts xs p ms) → AreLawful texts ys q ns
    → IsFirstExcess (all_counts ys q ns) c → ⊥
not_too_large texts xs ys p q ms ns c l keeps k h =
    let s : q ≡ p = one_program texts ys xs q p k.read l.read in
    let t : ys ≡ xs = same_tokens texts ys xs k.read.tokens l.read.tokens in
    let same : ns ≡ ms = sym (one_list_of_modules texts xs ys p q ms ns l k) in
    none_too_large (all_counts xs p ms) c keeps
    (subst (λ (os : List ProgramModule). IsFirstExcess (all_counts xs p os) c) same
    (subst (λ (zs : List Tokenized). IsFirstExcess (all_counts zs p ns) c) t (subst (λ (o : Program). IsFirstExcess (all_counts ys o ns) c) s h)))

-- of accepted texts none goes wrong
not_syntax : (texts : List (List ℕ)) (ms : List ProgramModule) (xs : List Tokenized) (k : ℕ) (t : List ℕ) (us : List Token) (rest : List Lexeme) → Accepted texts ms → AreAllTokens texts xs
    → slice_get texts k ≡ Some t → AreTokens t us → GoesWrong (with_all_tokens [] xs) t us rest → ⊥
not_syntax texts ms xs k t us rest d h e y w =
    let p : Program = d.1 in
    let r : IsRead texts d.0 (all_names d.0 p) p = d.2.read in
    let s : d.0 ≡ xs = same_tokens texts d.0 xs r.tokens h in
    not_wrong [] p.table (with_all_tokens [] xs) 0 texts d.0 p.interfaces p.modules r.tokens (words_first texts d.0 p r)
    (subst (λ (zs : List Tokenized). Grown (with_all_tokens [] d.0) (with_all_tokens [] zs)) s (grown_self (with_all_tokens [] d.0)))
    r.read k t us rest e y w

-- accepted texts are refused for want of memory alone
pub never_refused : (texts : List (List ℕ)) (ms : List ProgramModule) (e : Refusal) → Accepted texts ms → Refused texts e → e ≡ Memory
never_refused texts ms (BadByte at) d h = let a = tokens_at texts d.0 d.2.read.tokens at.text h.0 h.1 in absurd (not_bad h.0 a.0 at.at a.1 h.3)
never_refused texts ms (WideNumber at) d h = let a = tokens_at texts d.0 d.2.read.tokens at.text h.0 h.1 in absurd (not_wide h.0 a.0 at.at a.1 h.3)
never_refused texts ms (Syntax at) d h = let w = h.2 in absurd (not_syntax texts ms h.0 at.text w.0 w.1 w.2 d h.1 w.3 w.4 w.7)
never_refused texts ms (MissingInterface at name) d h =
    let s : SameTrees d.1.interfaces h.1.interfaces d.1.modules h.1.modules =
    one_reading texts d.0 h.0 (all_names d.0 d.1) (with_all_tokens [] h.0) d.1 h.1 d.2.read h.3 (words_first texts d.0 d.1 d.2.read) (words_alone texts h.0 h.1 h.3) in
    absurd (not_missing d.1 h.1 s d.2.lawful.given h.2 h.4)
never_refused texts ms (Rule number at) d h = absurd (not_unlawful texts d.0 h.0 d.1 h.1 ms (failure number at) d.2 h.2 h.5)
never_refused texts ms (TooLarge what count at) d h = absurd (not_too_large texts d.0 h.0 d.1 h.1 ms h.2 h.3 d.2 d.3 h.4 h.5)
never_refused texts ms Memory d h = refl

-- texts are accepted with one list of checked modules
pub one_answer : (texts : List (List ℕ)) (ms ns : List ProgramModule) → Accepted texts ms → Accepted texts ns → ms ≡ ns
one_answer texts ms ns d e = one_list_of_modules texts d.0 e.0 d.1 e.1 ms ns d.2 e.2

-- what goes wrong where a text's place says its form goes wrong where its first token says it
wrong_by_token : (texts : List (List ℕ)) (table : List (List ℕ)) (k : ℕ) (t : List ℕ) (us : List Token) (rest : List Lexeme) → IsModuleFirst texts → slice_get texts k ≡ Some t → AreTokens t us
    → ((0 < k) × FirstWrong WholeInterface (lexemes_of table t us) rest) ⊎ ((0 < k → ⊥) × FirstWrong WholeModule (lexemes_of table t us) rest) → GoesWrong table t us rest
wrong_by_token texts table k t us rest f e y (inl w) = inl ((f k t us e y).1 w.0, w.1)
wrong_by_token texts table zero t us rest f e y (inr w) = inr ((f zero t us e y).0 refl, w.1)
wrong_by_token texts table (suc k) t us rest f e y (inr w) = absurd (w.0 (omega arith))

pub never_refused_with : (texts : List (List ℕ)) (m : ProgramModule) (e : Refusal) → AcceptedWith texts m → RefusedWith texts e → e ≡ Memory
never_refused_with texts m (BadByte at) d h = never_refused texts (m ∷ []) (BadByte at) d.1 h
never_refused_with texts m (WideNumber at) d h = never_refused texts (m ∷ []) (WideNumber at) d.1 h
never_refused_with texts m (Syntax at) d h =
    let w = h.2 in
    absurd (not_syntax texts (m ∷ []) h.0 at.text w.0 w.1 w.2 d.1 h.1 w.3 w.4 (wrong_by_token texts (with_all_tokens [] h.0) at.text w.0 w.1 w.2 d.0 w.3 w.4 w.7))
never_refused_with texts m (MissingInterface at name) d h = never_refused texts (m ∷ []) (MissingInterface at name) d.1 h.1
never_refused_with texts m (Rule number at) d h = never_refused texts (m ∷ []) (Rule number at) d.1 h.1
never_refused_with texts m (TooLarge what count at) d h = never_refused texts (m ∷ []) (TooLarge what count at) d.1 h.1
never_refused_with texts m Memory d h = refl

pub one_answer_with : (texts : List (List ℕ)) (m n : ProgramModule) → AcceptedWith texts m → AcceptedWith texts n → m ≡ n
one_answer_with texts m n d e = let s : m ∷ [] ≡ n ∷ [] = one_answer texts (m ∷ []) (n ∷ []) d.1 e.1 in cc

-- so where texts are refused for anything else, they are not accepted
pub complete : {A : Type 0} (texts : List (List ℕ)) (r : Result A Refusal) → IfErr r (Refused texts) → IfErr r (λ e. (ms : List ProgramModule) → Accepted texts ms → e ≡ Memory)
complete texts (Ok a) h = tt
complete texts (Err e) h = λ ms d. never_refused texts ms e d h

pub complete_with : {A : Type 0} (texts : List (List ℕ)) (r : Result A Refusal) → IfErr r (RefusedWith texts) → IfErr r (λ e. (m : ProgramModule) → AcceptedWith texts m → e ≡ Memory)
complete_with texts (Ok a) h = tt
complete_with texts (Err e) h = λ m d. never_refused_with texts m e d h
