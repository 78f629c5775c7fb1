-- The canonical texts of the heads of classes.
use Rattle.std.specs.Prelude.{ℕ, Bool, true, false, not, ◌&&◌, ◌||◌, nat_lt, List, [], ◌∷◌, ◌++◌, map, Option, Some, None, is_some, option_map, if◌then◌else◌}
use Rattle.std.specs.List.{join_with_byte}
use Rattle.th_tree.specs.declared.tokens.Token.{Token}
use Rattle.th_tree.specs.declared.tokens.TokenKind.{TokenKind}
use Rattle.th_tree.specs.declared.tokens.TokenKind.TheVariants as kinds
use Rattle.th_tree.specs.declared.tokens.Reserved.TheVariants.{KeyFor, KeyHas}
use Rattle.th_tree.specs.declared.tokens.Sym.TheVariants.{Dollar, Semicolon}
use Rattle.th_tree.specs.Names.{place_of}
use Rattle.th_tree.specs.Spans.{Tokenized, bytes_of}
use Rattle.th_tree.specs.Trees.{ClassHeadSyn}
use Rattle.th_lex.specs.Canonical.{canonical, spelled}
use Rattle.th_hier.specs.Naming.{Items, different, has, item_in}
use Rattle.th_rules.specs.Cores.{name_at}

abbrev pub is_name : TokenKind → Bool
is_name kinds.Name = true
is_name _ = false

abbrev pub is_semicolon : TokenKind → Bool
is_semicolon (kinds.Symbol Semicolon) = true
is_semicolon _ = false

abbrev pub is_dollar : TokenKind → Bool
is_dollar (kinds.Symbol Dollar) = true
is_dollar _ = false

abbrev pub is_for : TokenKind → Bool
is_for (kinds.Word KeyFor) = true
is_for _ = false

abbrev pub is_has : TokenKind → Bool
is_has (kinds.Word KeyHas) = true
is_has _ = false

-- the tokens from the first one on that starts at the byte or after it
abbrev pub from_byte : ℕ → List Token → List Token
from_byte at [] = []
from_byte at (t ∷ ts) = if nat_lt t.start at then from_byte at ts else t ∷ ts

-- the tokens up to the first `;`, which ends the head of a class
abbrev pub up_to_end : List Token → List Token
up_to_end [] = []
up_to_end (t ∷ ts) = t ∷ (if is_semicolon t.kind then [] else up_to_end ts)

-- the tokens of the head of a class that starts at the byte, with the `;` at its end
abbrev pub head_tokens : ℕ → List Token → List Token
head_tokens at ts = up_to_end (from_byte at ts)

-- whether a token beside a name is `$` or `has`, so that the name is a part of `I$n`, or the type parameter or the method of a clause
abbrev pub is_tied : Option TokenKind → Bool
is_tied None = false
is_tied (Some k) = is_dollar k || is_has k

abbrev pub first_kind : List Token → Option TokenKind
first_kind [] = None
first_kind (t ∷ ts) = Some t.kind

-- whether a token of this kind between two others, where there are any, is a name that refers to something by itself
abbrev pub is_bare : Option TokenKind → TokenKind → Option TokenKind → Bool
is_bare before k after = is_name k && not (is_tied before) && not (is_tied after)

-- The interface as whose item a bare name is written: the implemented one, where it has an item of that name and the name is not
-- that of a type parameter. An item of the module of that name is that item, so it is written so too.
abbrev pub written_with : Items → Option ℕ → List ℕ → ℕ → Option ℕ
written_with items implements params n = if not (has params n) && is_some (item_in items implements n) then implements else None

-- a name as it is written with an interface that there may be: as the tokens of `I$n`, or alone
abbrev pub full_words : Option (List ℕ) → List ℕ → List (List ℕ)
full_words None w = w ∷ []
full_words (Some i) w = i ∷ (36 ∷ []) ∷ w ∷ []

-- what the words of a private class's head are read by: the table of names, the items of interfaces, the interface that the module
-- implements, and the class's type parameters
pub record Origin : Type 0 where
  pub names : List (List ℕ)
  pub items : Items
  pub implements : Option ℕ
  pub params : List ℕ

-- the interface with which a bare name is written
abbrev pub interface_of_name : Origin → List ℕ → Option (List ℕ)
interface_of_name o w = option_map (name_at o.names) (written_with o.items o.implements o.params (place_of o.names w))

-- the words of a token of these bytes, which the canonical text writes so: with an interface where it is a bare name that is written with one
abbrev pub words_of : Origin → Bool → List ℕ → List ℕ → List (List ℕ)
words_of o bare bytes w = full_words (if bare then interface_of_name o bytes else None) w

-- the words of a token of the head of a private class, which stands behind the word `for` or not, and between two others, where there are any
abbrev pub token_words : Origin → List ℕ → Bool → Option TokenKind → Token → Option TokenKind → List (List ℕ)
token_words o text after_for before t after = words_of o (after_for && is_bare before t.kind after) (bytes_of text t) (spelled text t)

-- the words of the head of a private class: each bare name that means an item of the implemented interface is written as `I$n`
abbrev pub private_words : Origin → List ℕ → Bool → Option TokenKind → List Token → List (List ℕ)
private_words o text after_for before [] = []
private_words o text after_for before (t ∷ ts) =
    token_words o text after_for before t (first_kind ts) ++ private_words o text (after_for || is_for t.kind) (Some t.kind) ts

-- the canonical text of the head of a class of an interface, which starts at the byte
abbrev pub declared_head : Tokenized → ℕ → List ℕ
declared_head x at = canonical x.text (head_tokens at x.list)

-- what the words of a class's head are read by
abbrev pub origin_of : List (List ℕ) → Items → Option ℕ → ClassHeadSyn → Origin
origin_of names items implements h = record { names = names; items = items; implements = implements; params = different (map (λ p. p.name) h.params) }

-- the canonical text of the head of a private class of a module
abbrev pub private_head : List (List ℕ) → Items → Option ℕ → Tokenized → ClassHeadSyn → List ℕ
private_head names items implements x h =
    join_with_byte 32 (private_words (origin_of names items implements h) x.text false None (head_tokens h.at x.list))
