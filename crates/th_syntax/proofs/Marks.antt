-- A mark's number tells the mark, of words and symbols.
use Rattle.std.proofs.Common.{◌≡◌, ℕ, Bool, true, false, nat_eq, List, [], ◌∷◌, Option, Some, None, refl, sym, ◌∙◌, ap, if◌then◌else◌, eqb-true, eq-eqb, IsTrue, ◌↔◌}
use Rattle.th_tree.specs.declared.tokens.Reserved.{Reserved}
use Rattle.th_tree.specs.declared.tokens.Reserved.TheVariants.{KeyModule, KeyInterface, KeyImplements, KeyUses, KeyType, KeyClass, KeyFor, KeyInherits, KeyWhere, KeyHas, KeyException, KeyRoutine, KeyIter, KeyInit, KeyHidden, KeyField, KeyReturns, KeyYields, KeySignals, KeyVar, KeyIf, KeyThen, KeyElseif, KeyElse, KeyEnd, KeyWhile, KeyDo, KeyIn, KeyBreak, KeyReturn, KeyYield, KeyRaise, KeyBegin, KeyExcept, KeyWhen, KeyNew, KeyArray, KeyInt, KeyBool, KeyTrue, KeyFalse, KeySelf, KeySuper, KeyOr, KeyAnd, KeyNot, KeyLength, KeyPutByte, KeyPutInt, KeyGetByte, KeyOverflow, KeyZeroDivide, KeyBounds, KeyEndOfInput, KeyString, KeyPutString}
use Rattle.th_tree.specs.declared.tokens.Sym.{Sym}
use Rattle.th_tree.specs.declared.tokens.Sym.TheVariants.{OpenParen, CloseParen, OpenSquare, CloseSquare, OpenBrace, CloseBrace, Comma, Semicolon, Colon, Dot, Dollar, Becomes, Equal, Same, NotEqual, Less, LessEqual, Greater, GreaterEqual, Plus, Minus, Times, Divide, Remainder, Ampersand}
use Rattle.th_tree.specs.declared.lexeme.Mark.{Mark}
use Rattle.th_tree.specs.declared.lexeme.Mark.TheVariants.{Name, Word, Number, Symbol, Text}
use Rattle.th_tree.specs.declared.lexeme.Lexeme.{Lexeme}
use Rattle.th_tree.specs.Forms.{lex}
use Rattle.th_tree.specs.Tokens.{all_words, all_symbols}
use Rattle.th_syntax.specs.Read.{peek, word_code, sign_code, code, is_mark}
use Rattle.th_syntax.proofs.Good.{Headed}

abbrev find_word : List Reserved → ℕ → Option Mark → Option Mark
find_word [] c z = z
find_word (w ∷ ws) c z = if nat_eq c (word_code w) then Some (Word w) else find_word ws c z

abbrev find_sign : List Sym → ℕ → Option Mark
find_sign [] c = None
find_sign (s ∷ ss) c = if nat_eq c (sign_code s) then Some (Symbol s) else find_sign ss c

-- the word or symbol of this number
abbrev back : ℕ → Option Mark
back c = find_word all_words c (find_sign all_symbols c)

back_word : (w : Reserved) → back (word_code w) ≡ Some (Word w)
back_word KeyModule = refl
back_word KeyInterface = refl
back_word KeyImplements = refl
back_word KeyUses = refl
back_word KeyType = refl
back_word KeyClass = refl
back_word KeyFor = refl
back_word KeyInherits = refl
back_word KeyWhere = refl
back_word KeyHas = refl
back_word KeyException = refl
back_word KeyRoutine = refl
back_word KeyIter = refl
back_word KeyInit = refl
back_word KeyHidden = refl
back_word KeyField = refl
back_word KeyReturns = refl
back_word KeyYields = refl
back_word KeySignals = refl
back_word KeyVar = refl
back_word KeyIf = refl
back_word KeyThen = refl
back_word KeyElseif = refl
back_word KeyElse = refl
back_word KeyEnd = refl
back_word KeyWhile = refl
back_word KeyDo = refl
back_word KeyIn = refl
back_word KeyBreak = refl
back_word KeyReturn = refl
back_word KeyYield = refl
back_word KeyRaise = refl
back_word KeyBegin = refl
back_word KeyExcept = refl
back_word KeyWhen = refl
back_word KeyNew = refl
back_word KeyArray = refl
back_word KeyInt = refl
back_word KeyBool = refl
back_word KeyTrue = refl
back_word KeyFalse = refl
back_word KeySelf = refl
back_word KeySuper = refl
back_word KeyOr = refl
back_word KeyAnd = refl
back_word KeyNot = refl
back_word KeyLength = refl
back_word KeyPutByte = refl
back_word KeyPutInt = refl
back_word KeyGetByte = refl
back_word KeyOverflow = refl
back_word KeyZeroDivide = refl
back_word KeyBounds = refl
back_word KeyEndOfInput = refl
back_word KeyString = refl
back_word KeyPutString = refl

back_sign : (s : Sym) → back (sign_code s) ≡ Some (Symbol s)
back_sign OpenParen = refl
back_sign CloseParen = refl
back_sign OpenSquare = refl
back_sign CloseSquare = refl
back_sign OpenBrace = refl
back_sign CloseBrace = refl
back_sign Comma = refl
back_sign Semicolon = refl
back_sign Colon = refl
back_sign Dot = refl
back_sign Dollar = refl
back_sign Becomes = refl
back_sign Equal = refl
back_sign Same = refl
back_sign NotEqual = refl
back_sign Less = refl
back_sign LessEqual = refl
back_sign Greater = refl
back_sign GreaterEqual = refl
back_sign Plus = refl
back_sign Minus = refl
back_sign Times = refl
back_sign Divide = refl
back_sign Remainder = refl
back_sign Ampersand = refl

-- a word or a symbol
abbrev pub Exact : Mark → Type 0
Exact (Word w) = Unit {0}
Exact (Symbol s) = Unit {0}
Exact (Name n) = ⊥
Exact (Number n) = ⊥
Exact (Text n) = ⊥

back_exact : (c : Mark) → Exact c → back (code c) ≡ Some c
back_exact (Word w) i = back_word w
back_exact (Symbol s) i = back_sign s
back_exact (Name n) i = absurd i
back_exact (Number n) i = absurd i
back_exact (Text n) i = absurd i

some_same : (a b : Mark) → Some a ≡ Some b → a ≡ b
some_same a b e = cc

same_mark : (m c : Mark) → Exact c → code m ≡ code c → m ≡ c
same_mark (Word w) c i e = some_same (Word w) c (sym (back_word w) ∙ (ap back e ∙ back_exact c i))
same_mark (Symbol s) c i e = some_same (Symbol s) c (sym (back_sign s) ∙ (ap back e ∙ back_exact c i))
same_mark (Name n) c i e = let j : None ≡ Some c = ap back e ∙ back_exact c i in absurd (cc)
same_mark (Number n) c i e = let j : None ≡ Some c = ap back e ∙ back_exact c i in absurd (cc)
same_mark (Text n) c i e = let j : None ≡ Some c = ap back e ∙ back_exact c i in absurd (cc)

none_code : (c : Mark) → Exact c → 3 ≡ code c → ⊥
none_code c i e = let j : None ≡ Some c = ap back e ∙ back_exact c i in cc

one_member : (b : Bool) → (if b then true else false) ≡ true → b ≡ true
one_member true e = refl
one_member false e = absurd (cc)

pub is_mark_same : (c : Mark) → is_mark c (Some c) ≡ true
is_mark_same c = rw (eq-eqb (code c) (code c) refl) refl

pub tells_mark : (c m : Mark) → Exact c → is_mark c (Some m) ≡ true → m ≡ c
tells_mark c m i e = same_mark m c i (eqb-true (code m) (code c) (one_member (nat_eq (code m) (code c)) e))

-- where the next mark is this one, it stands at the front
pub tells : (c : Mark) → Exact c → (ts : List Lexeme) → is_mark c (peek ts) ≡ true → Headed c ts
tells c i [] e = absurd (none_code c i (eqb-true 3 (code c) (one_member (nat_eq 3 (code c)) e)))
tells c i (t ∷ ts) e = record { place = t.at; rest = ts; is = ap (λ m. lex m t.at ∷ ts) (tells_mark c t.mark i e) }

-- a test of two words is that of their numbers
pub word_test : (w v : Reserved) (r : Bool) → IsTrue r ↔ (w ≡ v) → is_mark (Word v) (Some (Word w)) ≡ r
word_test w v true h = let e : w ≡ v = h.0 refl in rw e (is_mark_same (Word v))
word_test w v false h = no_test (is_mark (Word v) (Some (Word w))) (λ e. no_flag (h.1 (same_inside w v (tells_mark (Word v) (Word w) tt e)))) where
  no_flag : IsTrue false → ⊥
  no_flag e = cc

  same_inside : (w v : Reserved) → Word w ≡ Word v → w ≡ v
  same_inside w v e = cc

  no_test : (b : Bool) → (b ≡ true → ⊥) → b ≡ false
  no_test true k = absurd (k refl)
  no_test false k = refl
