-- The lexemes of a text stay as the table grows, once its names are there.
use Rattle.std.proofs.Common.{◌≡◌, ℕ, ◌+◌, Bool, true, false, ◌||◌, List, [], ◌∷◌, ◌++◌, refl, sym, ◌∙◌, subst, ap, if◌then◌else◌}
use Rattle.std.specs.Str.{bytes_eq}
use Rattle.th_tree.specs.declared.tokens.TokenKind.{TokenKind}
use Rattle.th_tree.specs.declared.tokens.TokenKind.TheVariants as kinds
use Rattle.th_tree.specs.declared.tokens.Token.{Token}
use Rattle.th_tree.specs.declared.lexeme.Mark.TheVariants as marks
use Rattle.th_tree.specs.Spans.{bytes_of}
use Rattle.th_tree.specs.Names.{is_there, place_of}
use Rattle.th_tree.specs.Numbered.{literal_value, mark_of, lexemes_of, with_token, with_tokens}
use Rattle.th_syntax.specs.Grown.{TokenThere}
use Rattle.th_syntax.proofs.Tables.{name_there, token_grown, AllThere}
use Rattle.th_hier.specs.Numbering.{Grown}
use Rattle.th_hier.proofs.Growing.{grown_self, grown_on}

-- a name that is there keeps its place
stable : (ns more : List (List ℕ)) (n : List ℕ) → is_there ns n ≡ true → place_of (ns ++ more) n ≡ place_of ns n
stable [] more n e = absurd (cc)
stable (x ∷ ns) more n e = go (bytes_eq n x) e (λ d. stable ns more n d) where
  go : (b : Bool) → (b || is_there ns n) ≡ true → (is_there ns n ≡ true → place_of (ns ++ more) n ≡ place_of ns n) → (if b then 0 else 1 + place_of (ns ++ more) n) ≡ (if b then 0 else 1 + place_of ns n)
  go true d k = refl
  go false d k = ap (λ y. 1 + y) (k d)

there_more : (ns more : List (List ℕ)) (n : List ℕ) → is_there ns n ≡ true → is_there (ns ++ more) n ≡ true
there_more [] more n e = absurd (cc)
there_more (x ∷ ns) more n e = go (bytes_eq n x) e (λ d. there_more ns more n d) where
  go : (b : Bool) → (b || is_there ns n) ≡ true → (is_there ns n ≡ true → is_there (ns ++ more) n ≡ true) → (b || is_there (ns ++ more) n) ≡ true
  go true d k = refl
  go false d k = k d

token_more : (ns more : List (List ℕ)) (k : TokenKind) (bs : List ℕ) → TokenThere ns k bs → TokenThere (ns ++ more) k bs
token_more ns more kinds.Name bs h = there_more ns more bs h
token_more ns more kinds.Text bs h = there_more ns more (literal_value bs) h
token_more ns more (kinds.Word w) bs h = tt
token_more ns more (kinds.Number n) bs h = tt
token_more ns more (kinds.Symbol s) bs h = tt

token_there : (ns : List (List ℕ)) (k : TokenKind) (bs : List ℕ) → TokenThere (with_token ns k bs) k bs
token_there ns kinds.Name bs = name_there ns bs
token_there ns kinds.Text bs = name_there ns (literal_value bs)
token_there ns (kinds.Word w) bs = tt
token_there ns (kinds.Number n) bs = tt
token_there ns (kinds.Symbol s) bs = tt

mark_stable : (ns more : List (List ℕ)) (k : TokenKind) (bs : List ℕ) → TokenThere ns k bs → mark_of (ns ++ more) k bs ≡ mark_of ns k bs
mark_stable ns more kinds.Name bs h = ap marks.Name (stable ns more bs h)
mark_stable ns more kinds.Text bs h = ap marks.Text (stable ns more (literal_value bs) h)
mark_stable ns more (kinds.Word w) bs h = refl
mark_stable ns more (kinds.Number n) bs h = refl
mark_stable ns more (kinds.Symbol s) bs h = refl

lexemes_stable : (ns more : List (List ℕ)) (text : List ℕ) (ts : List Token) → AllThere ns text ts → lexemes_of (ns ++ more) text ts ≡ lexemes_of ns text ts
lexemes_stable ns more text [] h = refl
lexemes_stable ns more text (t ∷ ts) h = rw (mark_stable ns more t.kind (bytes_of text t) h.0, lexemes_stable ns more text ts h.1) refl

pub tokens_grown : (ns : List (List ℕ)) (text : List ℕ) (ts : List Token) → Grown ns (with_tokens ns text ts)
tokens_grown ns text [] = grown_self ns
tokens_grown ns text (t ∷ ts) =
    grown_on ns (with_token ns t.kind (bytes_of text t)) (with_tokens (with_token ns t.kind (bytes_of text t)) text ts) (token_grown ns t.kind (bytes_of text t)) (tokens_grown (with_token ns t.kind (bytes_of text t)) text ts)

kept_there : (ns new : List (List ℕ)) (k : TokenKind) (bs : List ℕ) → Grown ns new → TokenThere ns k bs → TokenThere new k bs
kept_there ns new k bs g h = subst (λ (y : List (List ℕ)). TokenThere y k bs) (sym g.1) (token_more ns g.0 k bs h)

all_there : (ns : List (List ℕ)) (text : List ℕ) (ts : List Token) → AllThere (with_tokens ns text ts) text ts
all_there ns text [] = tt
all_there ns text (t ∷ ts) =
    let one = with_token ns t.kind (bytes_of text t) in
    (kept_there one (with_tokens one text ts) t.kind (bytes_of text t) (tokens_grown one text ts) (token_there ns t.kind (bytes_of text t)), all_there one text ts)

-- the lexemes of a text whose names are in the table are those over any longer table
pub lexemes_kept : (old table : List (List ℕ)) (text : List ℕ) (ts : List Token) → Grown (with_tokens old text ts) table → lexemes_of table text ts ≡ lexemes_of (with_tokens old text ts) text ts
lexemes_kept old table text ts g =
    ap (λ (y : List (List ℕ)). lexemes_of y text ts) g.1 ∙ lexemes_stable (with_tokens old text ts) g.0 text ts (all_there old text ts)
