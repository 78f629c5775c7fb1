-- Reading lexeme by lexeme: the parts of which the reading of each form is made.
use Rattle.std.specs.Prelude.{ℕ, zero, suc, Bool, true, false, nat_eq, List, [], ◌∷◌, Option, Some, None, if◌then◌else◌}
use Rattle.th_tree.specs.declared.tokens.Reserved.{Reserved}
use Rattle.th_tree.specs.declared.tokens.Reserved.TheVariants.{KeyModule, KeyInterface, KeyImplements, KeyUses, KeyType, KeyClass, KeyFor, KeyInherits, KeyWhere, KeyHas, KeyException, KeyRoutine, KeyIter, KeyInit, KeyHidden, KeyField, KeyReturns, KeyYields, KeySignals, KeyVar, KeyIf, KeyThen, KeyElseif, KeyElse, KeyEnd, KeyWhile, KeyDo, KeyIn, KeyBreak, KeyReturn, KeyYield, KeyRaise, KeyBegin, KeyExcept, KeyWhen, KeyNew, KeyArray, KeyInt, KeyBool, KeyTrue, KeyFalse, KeySelf, KeySuper, KeyOr, KeyAnd, KeyNot, KeyLength, KeyPutByte, KeyPutInt, KeyGetByte, KeyOverflow, KeyZeroDivide, KeyBounds, KeyEndOfInput, KeyString, KeyPutString}
use Rattle.th_tree.specs.declared.tokens.Sym.{Sym}
use Rattle.th_tree.specs.declared.tokens.Sym.TheVariants.{OpenParen, CloseParen, OpenSquare, CloseSquare, OpenBrace, CloseBrace, Comma, Semicolon, Colon, Dot, Dollar, Becomes, Equal, Same, NotEqual, Less, LessEqual, Greater, GreaterEqual, Plus, Minus, Times, Divide, Remainder, Ampersand}
use Rattle.th_tree.specs.declared.lexeme.Mark.{Mark}
use Rattle.th_tree.specs.declared.lexeme.Mark.TheVariants.{Name, Word, Number, Symbol, Text}
use Rattle.th_tree.specs.declared.lexeme.Lexeme.{Lexeme}

-- what was read and the lexemes after it, or the lexemes from the first wrong one on
pub data Res (A : Type 0) : Type 0 where
  Got : A → List Lexeme → Res A
  Bad : List Lexeme → Res A

-- a reading
abbrev pub P : Type 0 → Type 0
P A = List Lexeme → Res A

-- a reading, and then another on what it left
abbrev pub bind : {A B : Type 0} → Res A → (A → P B) → Res B
bind (Got a ts) f = f a ts
bind (Bad ts) f = Bad ts

-- the next mark
abbrev pub peek : List Lexeme → Option Mark
peek [] = None
peek (t ∷ ts) = Some t.mark

-- one lexeme
abbrev pub take_one : P Lexeme
take_one [] = Bad []
take_one (t ∷ ts) = Got t ts

-- a number for each reserved word
abbrev pub word_code : Reserved → ℕ
word_code KeyModule = 10
word_code KeyInterface = 11
word_code KeyImplements = 12
word_code KeyUses = 13
word_code KeyType = 14
word_code KeyClass = 15
word_code KeyFor = 16
word_code KeyInherits = 17
word_code KeyWhere = 18
word_code KeyHas = 19
word_code KeyException = 20
word_code KeyRoutine = 21
word_code KeyIter = 22
word_code KeyInit = 23
word_code KeyHidden = 24
word_code KeyField = 25
word_code KeyReturns = 26
word_code KeyYields = 27
word_code KeySignals = 28
word_code KeyVar = 29
word_code KeyIf = 30
word_code KeyThen = 31
word_code KeyElseif = 32
word_code KeyElse = 33
word_code KeyEnd = 34
word_code KeyWhile = 35
word_code KeyDo = 36
word_code KeyIn = 37
word_code KeyBreak = 38
word_code KeyReturn = 39
word_code KeyYield = 40
word_code KeyRaise = 41
word_code KeyBegin = 42
word_code KeyExcept = 43
word_code KeyWhen = 44
word_code KeyNew = 45
word_code KeyArray = 46
word_code KeyInt = 47
word_code KeyBool = 48
word_code KeyTrue = 49
word_code KeyFalse = 50
word_code KeySelf = 51
word_code KeySuper = 52
word_code KeyOr = 53
word_code KeyAnd = 54
word_code KeyNot = 55
word_code KeyLength = 56
word_code KeyPutByte = 57
word_code KeyPutInt = 58
word_code KeyGetByte = 59
word_code KeyOverflow = 60
word_code KeyZeroDivide = 61
word_code KeyBounds = 62
word_code KeyEndOfInput = 63
word_code KeyString = 64
word_code KeyPutString = 65

-- a number for each symbol
abbrev pub sign_code : Sym → ℕ
sign_code OpenParen = 70
sign_code CloseParen = 71
sign_code OpenSquare = 72
sign_code CloseSquare = 73
sign_code OpenBrace = 74
sign_code CloseBrace = 75
sign_code Comma = 76
sign_code Semicolon = 77
sign_code Colon = 78
sign_code Dot = 79
sign_code Dollar = 80
sign_code Becomes = 81
sign_code Equal = 82
sign_code Same = 83
sign_code NotEqual = 84
sign_code Less = 85
sign_code LessEqual = 86
sign_code Greater = 87
sign_code GreaterEqual = 88
sign_code Plus = 89
sign_code Minus = 90
sign_code Times = 91
sign_code Divide = 92
sign_code Remainder = 93
sign_code Ampersand = 94

-- a number for each word and each symbol, and one for all names, all numbers and all literals
abbrev pub code : Mark → ℕ
code (Name n) = 0
code (Number n) = 1
code (Text n) = 2
code (Word w) = word_code w
code (Symbol s) = sign_code s

-- the number of the next mark, where there is one
abbrev pub code_of : Option Mark → ℕ
code_of None = 3
code_of (Some m) = code m

abbrev pub member : ℕ → List ℕ → Bool
member x [] = false
member x (c ∷ cs) = if nat_eq x c then true else member x cs

-- whether the next mark is one of these
abbrev pub in_set : List ℕ → Option Mark → Bool
in_set cs o = member (code_of o) cs

-- whether it is this one
abbrev pub is_mark : Mark → Option Mark → Bool
is_mark c o = in_set (code c ∷ []) o

-- what there may be
abbrev pub on_some : {A B : Type 0} → Option A → (A → B) → B → B
on_some (Some a) f b = f a
on_some None f b = b

-- the mark; its byte
abbrev pub mark : Mark → P ℕ
mark c ts = if is_mark c (peek ts) then bind (take_one ts) (λ t ts1. Got t.at ts1) else Bad ts

-- a mark with a number
abbrev pub valued : {A : Type 0} → (Option Mark → Option ℕ) → (ℕ → ℕ → A) → P A
valued get make ts = on_some (get (peek ts)) (λ n. bind (take_one ts) (λ t ts1. Got (make n t.at) ts1)) (Bad ts)

-- what the table gives to the next mark
abbrev pub lookup : {A : Type 0} → (Mark → Option A) → Option Mark → Option A
lookup table None = None
lookup table (Some m) = table m

-- a mark of the table
abbrev pub one_of_table : {A : Type 0} → (Mark → Option A) → P A
one_of_table table ts = on_some (lookup table (peek ts)) (λ a. bind (take_one ts) (λ t ts1. Got a ts1)) (Bad ts)

-- whether the one or the other is read is decided by the test; each is read only where its room allows it
abbrev pub choose : {A : Type 0} → (Option Mark → Bool) → Bool → Bool → (ℕ → P A) → (ℕ → P A) → ℕ → P A
choose test g1 g2 p q n ts = if test (peek ts) then (if g1 then p n ts else Bad ts) else (if g2 then q n ts else Bad ts)

-- items as long as the test holds of the next mark, then the last; at most k items, each with lists up to n
abbrev pub many : {A B : Type 0} → (Option Mark → Bool) → (ℕ → P A) → (A → B → B) → (ℕ → P B) → ℕ → ℕ → P B
many test item more last zero n ts = last n ts
many test item more last (suc k) n ts =
    if test (peek ts) then bind (item n ts) (λ a ts1. bind (many test item more last k n ts1) (λ b ts2. Got (more a b) ts2)) else last n ts

-- items with the mark between them
abbrev pub listed : {A B : Type 0} → Mark → (ℕ → P A) → (A → B → B) → B → ℕ → ℕ → P B
listed c item more none zero n ts = bind (item n ts) (λ a ts1. Got (more a none) ts1)
listed c item more none (suc k) n ts =
    bind (item n ts) (λ a ts1. if is_mark c (peek ts1)
    then bind (take_one ts1) (λ t ts2. bind (listed c item more none k n ts2) (λ b ts3. Got (more a b) ts3))
    else Got (more a none) ts1)

-- steps from a value on, as long as the test holds of the next mark; where the value is closed that mark is wrong
abbrev pub steps : {A : Type 0} → (Option Mark → Bool) → (A → Bool) → (A → ℕ → P A) → ℕ → A → ℕ → P A
steps test goes step zero a n ts = Got a ts
steps test goes step (suc k) a n ts =
    if test (peek ts) then (if goes a then bind (step a n ts) (λ b ts1. steps test goes step k b n ts1) else Bad ts) else Got a ts

-- The readings below take a bound on the lengths of lists; they are put together as the grammar's forms are.

-- the one, and then the other
abbrev pub seq : {A B : Type 0} → (ℕ → P A) → (A → ℕ → P B) → ℕ → P B
seq p q n ts = bind (p n ts) (λ a ts1. q a n ts1)

-- nothing; the value
abbrev pub ret : {A : Type 0} → A → ℕ → P A
ret a n ts = Got a ts

-- the mark
abbrev pub one : Mark → ℕ → P ℕ
one c n ts = mark c ts

-- the mark, and then the other
abbrev pub after : {B : Type 0} → Mark → (ℕ → P B) → ℕ → P B
after c q = seq (one c) (λ p. q)

-- what stands between two marks
abbrev pub between : {A : Type 0} → Mark → Mark → (ℕ → P A) → ℕ → P A
between c d p = after c (seq p (λ a. after d (ret a)))

-- the one where the mark is next, else the other
abbrev pub either : {A : Type 0} → Mark → (ℕ → P A) → (ℕ → P A) → ℕ → P A
either c p q = choose (in_set (code c ∷ [])) true true p q

-- the same, where the one is read only if there is room
abbrev pub either_if : {A : Type 0} → Mark → Bool → (ℕ → P A) → (ℕ → P A) → ℕ → P A
either_if c g p q = choose (in_set (code c ∷ [])) g true p q

-- the same, where the other is read only if there is room
abbrev pub or_if : {A : Type 0} → Mark → Bool → (ℕ → P A) → (ℕ → P A) → ℕ → P A
or_if c g p q = choose (in_set (code c ∷ [])) true g p q

-- what begins with the mark, where it is next
abbrev pub maybe : {A : Type 0} → Mark → (ℕ → P A) → ℕ → P (Option A)
maybe c p = either c (seq p (λ a. ret (Some a))) (ret None)

-- items with the mark between them
abbrev pub list_of : {A B : Type 0} → Mark → (ℕ → P A) → (A → B → B) → B → ℕ → P B
list_of c item more none n = listed c item more none n n

-- items that begin with one of the marks, and then the last
abbrev pub any_of : {A B : Type 0} → List ℕ → (ℕ → P A) → (A → B → B) → (ℕ → P B) → ℕ → P B
any_of f item more last n = many (in_set f) item more last n n

abbrev pub name_in : Option Mark → Option ℕ
name_in (Some (Name n)) = Some n
name_in _ = None

abbrev pub number_in : Option Mark → Option ℕ
number_in (Some (Number n)) = Some n
number_in _ = None

abbrev pub text_in : Option Mark → Option ℕ
text_in (Some (Text n)) = Some n
text_in _ = None

abbrev pub has : {A : Type 0} → Option A → Bool
has (Some a) = true
has None = false
