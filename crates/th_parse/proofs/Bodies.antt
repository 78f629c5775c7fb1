-- The answer of the parser of statements.
use Rattle.std.proofs.Common.{◌≡◌, ℕ, zero, suc, ◌≤◌, ◌<◌, ◌+◌, Bool, true, false, nat_lt, List, [], ◌∷◌, ◌++◌, length, drop, ◌-◌, Option, Some, None, refl, sym, ◌∙◌, subst, ap, append-nil, length-append, le_refl, arith, if◌then◌else◌}
use Rattle.th_tree.specs.declared.tokens.Reserved.TheVariants.{KeyVar}
use Rattle.th_tree.specs.declared.tokens.Sym.TheVariants.{OpenParen}
use Rattle.th_tree.specs.declared.lexeme.Mark.{Mark}
use Rattle.th_tree.specs.declared.lexeme.Mark.TheVariants.{Word, Symbol}
use Rattle.th_tree.specs.declared.lexeme.Lexeme.{Lexeme}
use Rattle.th_tree.specs.Trees.{TypeSyn, NamedSyn, BodySyn, no_stmt, more_stmts}
use Rattle.th_tree.specs.Forms.{Many}
use Rattle.th_tree.specs.Grammar.{Form, Expr, Conj, Neg, Rel, Sum, Term, Unary, Post, Atom, Found, TypeAt, NamedAt, FormAt, BodyAt, begins_statement}
use Rattle.std.proofs.lemmas.List.{length-drop}
use Rattle.th_tree.specs.declared.tokens.Token.{Token}
use Rattle.th_tree.specs.Numbered.{lexemes_of}
use Rattle.th_tree.specs.Verdict.{FirstWrong}
use Rattle.th_syntax.specs.Read.{Res, Got, Bad, P, bind, peek, member, in_set, many, ret}
use Rattle.th_parse.specs.Parse.{read_body, stmts_of, stmt_of, stmt_first}
use Rattle.th_parse.specs.Answer.{statement_next, BodyFront, OneTree}
use Rattle.th_syntax.proofs.Good.{Good, goods, bads}
use Rattle.th_syntax.proofs.Law.{Law}
use Rattle.th_syntax.proofs.Repeat.{one_long}
use Rattle.th_syntax.proofs.Tables.{lexemes_length}
use Rattle.th_syntax.proofs.Exact.{unique, front_of, refused}
use Rattle.th_syntax.proofs.TypeLaws.{law_type, law_named, none_type, none_named}
use Rattle.th_syntax.proofs.ExprLaws.{law_form, none_form, form_more}
use Rattle.th_parse.proofs.StmtLaws.{law_body, law_stmt_of}

starts_same : (o : Option Mark) → in_set stmt_first o ≡ begins_statement o
starts_same (Some (Word KeyVar)) = refl
starts_same (Some (Symbol OpenParen)) = refl
starts_same _ = refl

-- the test of the code is that of the grammar
pub next_same : (ts : List Lexeme) → in_set stmt_first (peek ts) ≡ statement_next ts
next_same [] = refl
next_same (t ∷ ts) = starts_same (Some t.mark)

-- where items were read up to the end of the list, none begins behind them
many_ends : {A B : Type 0} {L : A → List Lexeme → Type 0} {item : ℕ → P A} {f m : List ℕ} (more : A → B → B) (z : B) → Law L item f false m → member 3 f ≡ false → (x n : ℕ) (ts rest : List Lexeme) (b : B)
    → length ts ≤ x → many (in_set f) item more (ret z) x n ts ≡ Got b rest → in_set f (peek rest) ≡ false
many_ends {f = f} more z l none zero n [] rest b y e = let d : [] ≡ rest = end_same e in subst (λ q. in_set f (peek q) ≡ false) d none where
  end_same : Got z [] ≡ Got b rest → [] ≡ rest
  end_same e = cc
many_ends more z l none zero n (t ∷ ts) rest b y e = absurd (omega arith)
many_ends {A = A} {B = B} {L = L} {item = item} {f = f} more z l none (suc x) n ts rest b y e = go (in_set f (peek ts)) refl e (λ ts1 b1 k d. many_ends more z l none x n ts1 rest b1 k d) where
  same : Got z ts ≡ Got b rest → ts ≡ rest
  same e = cc

  next : (r : Res B) (a : A) → bind r (λ c ts2. Got (more a c) ts2) ≡ Got b rest → (c : B) × (r ≡ Got c rest)
  next (Got c us) a e = let d : us ≡ rest = rest_same e in (c, ap (λ q. Got c q) d) where
    rest_same : Got (more a c) us ≡ Got b rest → us ≡ rest
    rest_same e = cc
  next (Bad us) a e = absurd (cc)

  first : (r : Res A) → Good L ts r → bind r (λ a ts1. bind (many (in_set f) item more (ret z) x n ts1) (λ c ts2. Got (more a c) ts2)) ≡ Got b rest
      → ((ts1 : List Lexeme) (b1 : B) → length ts1 ≤ x → many (in_set f) item more (ret z) x n ts1 ≡ Got b1 rest → in_set f (peek rest) ≡ false) → in_set f (peek rest) ≡ false
  first (Bad us) g e k = absurd (cc)
  first (Got a us) (goods a1 xs rest1 d h) e k =
      let s = next (many (in_set f) item more (ret z) x n us) a e in
      let i = one_long f xs (l.heads a xs h) in
      let w : length (xs ++ us) ≤ suc x = subst (λ q. length q ≤ suc x) d y in
      k us s.0 (omega (arith, length-append xs us)) s.1

  go : (c : Bool) → in_set f (peek ts) ≡ c → (if c then bind (item n ts) (λ a ts1. bind (many (in_set f) item more (ret z) x n ts1) (λ c ts2. Got (more a c) ts2)) else Got z ts) ≡ Got b rest
      → ((ts1 : List Lexeme) (b1 : B) → length ts1 ≤ x → many (in_set f) item more (ret z) x n ts1 ≡ Got b1 rest → in_set f (peek rest) ≡ false) → in_set f (peek rest) ≡ false
  go true t e k = first (item n ts) (l.good n ts) e k
  go false t e k = subst (λ q. in_set f (peek q) ≡ false) (same e) t

body_ends : (limit n : ℕ) (ts rest : List Lexeme) (b : BodySyn) → nat_lt 0 limit ≡ true → length ts ≤ n → read_body limit n ts ≡ Got b rest → in_set stmt_first (peek rest) ≡ false
body_ends zero n ts rest b s z e = absurd (cc)
body_ends (suc r) n ts rest b s z e = many_ends more_stmts no_stmt (law_stmt_of r (BodyAt r) (read_body r) (law_body r)) refl n n ts rest b z e

-- statements that were read
pub body_front : (limit n : ℕ) (ts rest : List Lexeme) (b : BodySyn) → nat_lt 0 limit ≡ true → length ts ≤ n → read_body limit n ts ≡ Got b rest → BodyFront limit b ts rest
body_front limit n ts rest b s z e = let g = front_of (law_body limit) refl n ts b rest e in record {
  front = g.0;
  split = g.1;
  is = g.2;
  ends = sym (next_same rest) ∙ body_ends limit n ts rest b s z e;
}

-- where reading stopped at a wrong lexeme
pub body_wrong : (limit n : ℕ) (ts rest : List Lexeme) → length ts ≤ n → read_body limit n ts ≡ Bad rest → FirstWrong (BodyAt limit) ts rest
body_wrong limit n ts rest z e = refused (law_body limit) refl n ts rest z e

pub body_none : (limit n : ℕ) (ts rest : List Lexeme) → length ts ≤ n → read_body limit n ts ≡ Bad rest → (b : BodySyn) (other : List Lexeme) → BodyFront limit b ts other → ⊥
body_none limit n ts rest z e b other h =
    let w : length (h.front ++ other) ≤ n = subst (λ q. length q ≤ n) h.split z in
    let i : read_body limit n (h.front ++ other) ≡ Got b other = (law_body limit).comes n b h.front other h.is (omega (arith, length-append h.front other)) (next_same other ∙ h.ends) in
    let j : Bad rest ≡ Got b other = sym e ∙ (ap (λ q. read_body limit n q) h.split ∙ i) in cc j

none_more : (F : Form) → member 3 (form_more F) ≡ false
none_more Expr = refl
none_more Conj = refl
none_more Neg = refl
none_more Rel = refl
none_more Sum = refl
none_more Term = refl
none_more Unary = refl
none_more Post = refl
none_more Atom = refl

-- lexemes have at most one tree of each form
pub one_tree : (limit : ℕ) → OneTree limit
one_tree limit = go (nat_lt 0 limit) refl where
  go : (c : Bool) → nat_lt 0 limit ≡ c → OneTree limit
  go true s = record {
    types = λ ts a b h i. unique (law_type limit s) refl a b ts h i;
    named = λ ts a b h i. unique (law_named limit s) refl a b ts h i;
    expressions = λ F ts a b h i. unique (law_form limit s F) (none_more F) a b ts h i;
    bodies = λ ts a b h i. unique (law_body limit) refl a b ts h i;
  }
  go false s = record {
    types = λ ts a b h i. absurd (none_type limit s a ts h);
    named = λ ts a b h i. absurd (none_named limit s a ts h);
    expressions = λ F ts a b h i. absurd (none_form limit s F a ts h);
    bodies = λ ts a b h i. unique (law_body limit) refl a b ts h i;
  }

pub same_length : (found ts : List Lexeme) (n : ℕ) → ts ≡ found → n ≡ length found → length ts ≤ n
same_length found ts n e d = let z : length ts ≡ length found = ap (λ x. length x) e in omega arith

-- what is left is no longer than all the tokens
pub left_short : (limit n : ℕ) (table : List (List ℕ)) (text : List ℕ) (from : ℕ) (all : List Token) (found ts rest : List Lexeme) (b : BodySyn) → found ≡ lexemes_of table text (drop from all) → ts ≡ found → n ≡ length found
    → read_body limit n ts ≡ Got b rest → (m : ℕ) → m ≡ length all → length rest ≤ m
left_short limit n table text from all found ts rest b e d k i m j =
    let g = front_of (law_body limit) refl n ts b rest i in
    let x : length ts ≡ length (g.0 ++ rest) = ap (λ x. length x) g.1 in
    let y : length ts ≡ length (lexemes_of table text (drop from all)) = ap (λ x. length x) (d ∙ e) in
    let z : length (lexemes_of table text (drop from all)) ≡ length (drop from all) = lexemes_length table text (drop from all) in
    let w : length (drop from all) ≡ length all - from = length-drop from all in
    omega (arith, length-append g.0 rest, x, y, z, w)
