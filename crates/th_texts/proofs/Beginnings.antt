-- The first token of an interface and of a module.
use Rattle.std.proofs.Common.{◌≡◌, ℕ, List, [], ◌∷◌, slice_get, Some, refl, sym, ◌∙◌, ap}
use Rattle.th_tree.specs.declared.tokens.TokenKind.{TokenKind}
use Rattle.th_tree.specs.declared.tokens.TokenKind.TheVariants as kinds
use Rattle.th_tree.specs.declared.tokens.Token.{Token}
use Rattle.th_tree.specs.declared.tokens.Reserved.{Reserved}
use Rattle.th_tree.specs.declared.tokens.Reserved.TheVariants.{KeyModule, KeyInterface}
use Rattle.th_tree.specs.declared.lexeme.Mark.TheVariants as marks
use Rattle.th_tree.specs.declared.lexeme.Lexeme.{Lexeme}
use Rattle.th_tree.specs.Forms.{lex, The, the, Then, in_turn}
use Rattle.th_tree.specs.Spans.{bytes_of}
use Rattle.th_tree.specs.Numbered.{mark_of, lexeme_of, lexemes_of}
use Rattle.th_tree.specs.Trees.{InterfaceSyn, ModuleSyn}
use Rattle.th_tree.specs.Grammar.{height_limit}
use Rattle.th_tree.specs.Declarations.{Interface, Module, WholeModule, WholeInterface}
use Rattle.th_module_rules.specs.Texts.{BeginsInterface}

-- the first of the lexemes is this word
abbrev BeginsWith : Reserved → List Lexeme → Type 0
BeginsWith w ls = (p : ℕ) × (rest : List Lexeme) × (ls ≡ lex (marks.Word w) p ∷ rest)

begins_with : {B : Type 0} {K : ℕ → B → List Lexeme → Type 0} (w : Reserved) (b : B) (ls : List Lexeme) → Then (The (marks.Word w)) K b ls → BeginsWith w ls
begins_with w b ls (in_turn p c us vs (the q) k) = (q, vs, refl)

interface_first : (limit : ℕ) (f : InterfaceSyn) (ls : List Lexeme) → Interface limit f ls → BeginsWith KeyInterface ls
interface_first limit f ls h = begins_with KeyInterface f ls h

module_first : (limit : ℕ) (m : ModuleSyn) (ls : List Lexeme) → Module limit m ls → BeginsWith KeyModule ls
module_first limit m ls h = begins_with KeyModule m ls h

-- a mark that is a word is that of the word
of_word : (table : List (List ℕ)) (k : TokenKind) (bs : List ℕ) (w : Reserved) → mark_of table k bs ≡ marks.Word w → k ≡ kinds.Word w
of_word table kinds.Name bs w e = absurd (cc)
of_word table kinds.Text bs w e = absurd (cc)
of_word table (kinds.Word v) bs w e = let h : v ≡ w = cc in ap kinds.Word h
of_word table (kinds.Number n) bs w e = absurd (cc)
of_word table (kinds.Symbol s) bs w e = absurd (cc)

-- where the first of the lexemes is a word, the first token is
first_token : (table : List (List ℕ)) (text : List ℕ) (ts : List Token) (w : Reserved) → BeginsWith w (lexemes_of table text ts)
    → (t : Token) × (slice_get ts 0 ≡ Some t) × (t.kind ≡ kinds.Word w)
first_token table text [] w (p, rest, e) = absurd (cc)
first_token table text (t ∷ ts) w (p, rest, e) =
    let h : lexeme_of table text t ≡ lex (marks.Word w) p = cc in
    (t, refl, of_word table t.kind (bytes_of text t) w (ap (λ (l : Lexeme). l.mark) h))

-- a text that is an interface begins with the word `interface`
pub interface_begins : (table : List (List ℕ)) (text : List ℕ) (ts : List Token) (f : InterfaceSyn) → WholeInterface f (lexemes_of table text ts) → BeginsInterface ts
interface_begins table text ts f h = first_token table text ts KeyInterface (interface_first height_limit f (lexemes_of table text ts) h)

-- a text that is a module does not
pub module_begins : (table : List (List ℕ)) (text : List ℕ) (ts : List Token) (m : ModuleSyn) → WholeModule m (lexemes_of table text ts) → BeginsInterface ts → ⊥
module_begins table text ts m h (u, e, k) =
    let (t, d, i) = first_token table text ts KeyModule (module_first height_limit m (lexemes_of table text ts) h) in
    let s : Some t ≡ Some u = sym d ∙ e in
    let w : t ≡ u = cc in
    let same : kinds.Word KeyModule ≡ kinds.Word KeyInterface = sym i ∙ ap (λ (x : Token). x.kind) w ∙ k in
    absurd (cc)
