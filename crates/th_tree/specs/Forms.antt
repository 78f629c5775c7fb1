-- The notation of the grammar: languages whose words are lists of lexemes and have values.
use Rattle.std.specs.Prelude.{◌≡◌, ℕ, List, [], ◌∷◌, ◌++◌, Option, Some, None}
use Rattle.th_tree.specs.declared.lexeme.Mark.{Mark}
use Rattle.th_tree.specs.declared.lexeme.Mark.TheVariants.{Name}
use Rattle.th_tree.specs.declared.lexeme.Lexeme.{Lexeme}
use Rattle.th_tree.specs.declared.tree.Ident.{Ident}

-- a language: which lexemes are a word of it with which value
abbrev pub Lang : Type 0 → Type 1
Lang A = A → List Lexeme → Type 0

-- a lexeme of this mark that starts there
abbrev pub lex : Mark → ℕ → Lexeme
lex m p = record { mark = m; at = p }

-- no word
abbrev pub Nothing : {A : Type 0} → Lang A
Nothing a xs = ⊥

-- the empty word, with this value
pub data Done {A : Type 0} (a : A) : A → List Lexeme → Type 0 where
  done : Done a a []

-- the mark; its value is the byte where it stands
pub data The (m : Mark) : ℕ → List Lexeme → Type 0 where
  the : (p : ℕ) → The m p (lex m p ∷ [])

-- a mark with a number, as a name; what the number and the byte make is the value
pub data Valued {A : Type 0} (mark : ℕ → Mark) (make : ℕ → ℕ → A) : A → List Lexeme → Type 0 where
  valued : (n p : ℕ) → Valued mark make (make n p) (lex (mark n) p ∷ [])

-- one of the marks to which the table gives a value
pub data OneOf {A : Type 0} (table : Mark → Option A) : A → List Lexeme → Type 0 where
  one_of : (m : Mark) (a : A) (p : ℕ) → table m ≡ Some a → OneOf table a (lex m p ∷ [])

-- a word of the one, and then of the other, which may depend on the value of the one
pub data Then {A B : Type 0} (L : A → List Lexeme → Type 0) (K : A → B → List Lexeme → Type 0) : B → List Lexeme → Type 0 where
  in_turn : (a : A) (b : B) (us vs : List Lexeme) → L a us → K a b vs → Then L K b (us ++ vs)

-- a word of the one or of the other
pub data Either {A : Type 0} (L K : A → List Lexeme → Type 0) : A → List Lexeme → Type 0 where
  left : (a : A) (us : List Lexeme) → L a us → Either L K a us
  right : (a : A) (us : List Lexeme) → K a us → Either L K a us

-- words of the one, any number of them, and then a word of the last
pub data Many {A B : Type 0} (L : A → List Lexeme → Type 0) (more : A → B → B) (Last : B → List Lexeme → Type 0) : B → List Lexeme → Type 0 where
  none_more : (b : B) (us : List Lexeme) → Last b us → Many L more Last b us
  one_more : (a : A) (b : B) (us vs : List Lexeme) → L a us → Many L more Last b vs → Many L more Last (more a b) (us ++ vs)

-- words with the mark between them, at least one
pub data Listed {A B : Type 0} (m : Mark) (L : A → List Lexeme → Type 0) (more : A → B → B) (none : B) : B → List Lexeme → Type 0 where
  last_one : (a : A) (us : List Lexeme) → L a us → Listed m L more none (more a none) us
  one_before : (a : A) (b : B) (p : ℕ) (us vs : List Lexeme) → L a us → Listed m L more none b vs → Listed m L more none (more a b) (us ++ lex m p ∷ vs)

-- steps from the value on, any number of them, each from the value that the one before it gave
pub data Steps {A : Type 0} (Step : A → A → List Lexeme → Type 0) : A → A → List Lexeme → Type 0 where
  no_step : (a : A) → Steps Step a a []
  a_step : (a b c : A) (us vs : List Lexeme) → Step a b us → Steps Step b c vs → Steps Step a c (us ++ vs)

-- the language where the condition holds, else no word
pub data Where {A : Type 0} (C : Type 0) (L : A → List Lexeme → Type 0) : A → List Lexeme → Type 0 where
  where_holds : (a : A) (us : List Lexeme) → C → L a us → Where C L a us

-- the mark, and then a word of the language
abbrev pub After : {B : Type 0} → Mark → Lang B → Lang B
After m K = Then (The m) (λ p. K)

-- a word between two marks
abbrev pub Between : {A : Type 0} → Mark → Mark → Lang A → Lang A
Between m n L = After m (Then L (λ a. After n (Done a)))

-- a word or none
abbrev pub Maybe : {A : Type 0} → Lang A → Lang (Option A)
Maybe L = Either (Then L (λ a. Done (Some a))) (Done None)

-- any number of words
abbrev pub AnyOf : {A : Type 0} → Lang A → Lang (List A)
AnyOf L = Many L (λ a b. a ∷ b) (Done [])

-- words with the mark between them
abbrev pub ListOf : {A : Type 0} → Mark → Lang A → Lang (List A)
ListOf m L = Listed m L (λ a b. a ∷ b) []

-- a name
abbrev pub AName : Lang Ident
AName = Valued Name (λ n p. record { name = n; at = p })
