-- Which bytes are a token, and of which kind.
use Rattle.std.specs.Prelude.{ℕ, ◌+◌, ◌*◌, ◌-◌, Bool, true, false, ◌&&◌, ◌||◌, nat_eq, nat_le, List, [], ◌∷◌, length, Option, Some, None, if◌then◌else◌, codes}
use Rattle.std.specs.Str.{bytes_eq}
use Rattle.th_tree.specs.declared.tokens.Reserved.{Reserved}
use Rattle.th_tree.specs.declared.tokens.Reserved.TheVariants.{
  KeyModule,
  KeyInterface,
  KeyImplements,
  KeyUses,
  KeyType,
  KeyClass,
  KeyFor,
  KeyInherits,
  KeyWhere,
  KeyHas,
  KeyException,
  KeyRoutine,
  KeyIter,
  KeyInit,
  KeyHidden,
  KeyField,
  KeyReturns,
  KeyYields,
  KeySignals,
  KeyVar,
  KeyIf,
  KeyThen,
  KeyElseif,
  KeyElse,
  KeyEnd,
  KeyWhile,
  KeyDo,
  KeyIn,
  KeyBreak,
  KeyReturn,
  KeyYield,
  KeyRaise,
  KeyBegin,
  KeyExcept,
  KeyWhen,
  KeyNew,
  KeyArray,
  KeyInt,
  KeyBool,
  KeyTrue,
  KeyFalse,
  KeySelf,
  KeySuper,
  KeyOr,
  KeyAnd,
  KeyNot,
  KeyLength,
  KeyPutByte,
  KeyPutInt,
  KeyGetByte,
  KeyOverflow,
  KeyZeroDivide,
  KeyBounds,
  KeyEndOfInput,
  KeyString,
  KeyPutString,
}
use Rattle.th_tree.specs.declared.tokens.Sym.{Sym}
use Rattle.th_tree.specs.declared.tokens.Sym.TheVariants.{
  OpenParen,
  CloseParen,
  OpenSquare,
  CloseSquare,
  OpenBrace,
  CloseBrace,
  Comma,
  Semicolon,
  Colon,
  Dot,
  Dollar,
  Becomes,
  Equal,
  Same,
  NotEqual,
  Less,
  LessEqual,
  Greater,
  GreaterEqual,
  Plus,
  Minus,
  Times,
  Divide,
  Remainder,
  Ampersand,
}
use Rattle.th_tree.specs.declared.tokens.TokenKind.{TokenKind}
use Rattle.th_tree.specs.declared.tokens.TokenKind.TheVariants.{Name, Word, Number, Symbol, Text}

-- how a reserved word is written
abbrev pub spelling : Reserved → List ℕ
spelling KeyModule = codes "module"
spelling KeyInterface = codes "interface"
spelling KeyImplements = codes "implements"
spelling KeyUses = codes "uses"
spelling KeyType = codes "type"
spelling KeyClass = codes "class"
spelling KeyFor = codes "for"
spelling KeyInherits = codes "inherits"
spelling KeyWhere = codes "where"
spelling KeyHas = codes "has"
spelling KeyException = codes "exception"
spelling KeyRoutine = codes "routine"
spelling KeyIter = codes "iter"
spelling KeyInit = codes "init"
spelling KeyHidden = codes "hidden"
spelling KeyField = codes "field"
spelling KeyReturns = codes "returns"
spelling KeyYields = codes "yields"
spelling KeySignals = codes "signals"
spelling KeyVar = codes "var"
spelling KeyIf = codes "if"
spelling KeyThen = codes "then"
spelling KeyElseif = codes "elseif"
spelling KeyElse = codes "else"
spelling KeyEnd = codes "end"
spelling KeyWhile = codes "while"
spelling KeyDo = codes "do"
spelling KeyIn = codes "in"
spelling KeyBreak = codes "break"
spelling KeyReturn = codes "return"
spelling KeyYield = codes "yield"
spelling KeyRaise = codes "raise"
spelling KeyBegin = codes "begin"
spelling KeyExcept = codes "except"
spelling KeyWhen = codes "when"
spelling KeyNew = codes "new"
spelling KeyArray = codes "array"
spelling KeyInt = codes "int"
spelling KeyBool = codes "bool"
spelling KeyTrue = codes "true"
spelling KeyFalse = codes "false"
spelling KeySelf = codes "self"
spelling KeySuper = codes "super"
spelling KeyOr = codes "or"
spelling KeyAnd = codes "and"
spelling KeyNot = codes "not"
spelling KeyLength = codes "length"
spelling KeyPutByte = codes "put_byte"
spelling KeyPutInt = codes "put_int"
spelling KeyGetByte = codes "get_byte"
spelling KeyOverflow = codes "overflow"
spelling KeyZeroDivide = codes "zero_divide"
spelling KeyBounds = codes "bounds"
spelling KeyEndOfInput = codes "end_of_input"
spelling KeyString = codes "string"
spelling KeyPutString = codes "put_string"

-- how a symbol is written
abbrev pub sign : Sym → List ℕ
sign OpenParen = codes "("
sign CloseParen = codes ")"
sign OpenSquare = codes "["
sign CloseSquare = codes "]"
sign OpenBrace = codes "{"
sign CloseBrace = codes "}"
sign Comma = codes ","
sign Semicolon = codes ";"
sign Colon = codes ":"
sign Dot = codes "."
sign Dollar = codes "$"
sign Becomes = codes ":="
sign Equal = codes "="
sign Same = codes "=="
sign NotEqual = codes "~="
sign Less = codes "<"
sign LessEqual = codes "<="
sign Greater = codes ">"
sign GreaterEqual = codes ">="
sign Plus = codes "+"
sign Minus = codes "-"
sign Times = codes "*"
sign Divide = codes "/"
sign Remainder = codes "%"
sign Ampersand = codes "&"

-- all reserved words
abbrev pub all_words : List Reserved
all_words =
    KeyModule ∷ KeyInterface ∷ KeyImplements ∷ KeyUses ∷ KeyType ∷ KeyClass ∷ KeyFor ∷ KeyInherits ∷ KeyWhere ∷ KeyHas ∷ KeyException
    ∷ KeyRoutine ∷ KeyIter ∷ KeyInit ∷ KeyHidden ∷ KeyField ∷ KeyReturns ∷ KeyYields ∷ KeySignals ∷ KeyVar ∷ KeyIf ∷ KeyThen ∷
    KeyElseif ∷ KeyElse ∷ KeyEnd ∷ KeyWhile ∷ KeyDo ∷ KeyIn ∷ KeyBreak ∷ KeyReturn ∷ KeyYield ∷ KeyRaise ∷ KeyBegin ∷ KeyExcept ∷
    KeyWhen ∷ KeyNew ∷ KeyArray ∷ KeyInt ∷ KeyBool ∷ KeyTrue ∷ KeyFalse ∷ KeySelf ∷ KeySuper ∷ KeyOr ∷ KeyAnd ∷ KeyNot ∷ KeyLength ∷
    KeyPutByte ∷ KeyPutInt ∷ KeyGetByte ∷ KeyOverflow ∷ KeyZeroDivide ∷ KeyBounds ∷ KeyEndOfInput ∷ KeyString ∷ KeyPutString ∷ []

-- all symbols
abbrev pub all_symbols : List Sym
all_symbols =
    OpenParen ∷ CloseParen ∷ OpenSquare ∷ CloseSquare ∷ OpenBrace ∷ CloseBrace ∷ Comma ∷ Semicolon ∷ Colon ∷ Dot ∷ Dollar ∷ Becomes ∷
    Equal ∷ Same ∷ NotEqual ∷ Less ∷ LessEqual ∷ Greater ∷ GreaterEqual ∷ Plus ∷ Minus ∷ Times ∷ Divide ∷ Remainder ∷ Ampersand ∷ []

-- the first of some things that is written as these bytes
abbrev pub written_as : {A : Type 0} → (A → List ℕ) → List A → List ℕ → Option A
written_as spell [] bs = None
written_as spell (x ∷ xs) bs = if bytes_eq bs (spell x) then Some x else written_as spell xs bs

-- the reserved word that is written so, where there is one
unfoldable pub reserved_of : List ℕ → Option Reserved
reserved_of bs = written_as spelling all_words bs

-- the symbol that is written so, where there is one
unfoldable pub symbol_of : List ℕ → Option Sym
symbol_of bs = written_as sign all_symbols bs

-- b is one of the bytes lo to hi
abbrev pub within : ℕ → ℕ → ℕ → Bool
within lo hi b = nat_le lo b && nat_le b hi

abbrev pub is_digit : ℕ → Bool
is_digit b = within 48 57 b

-- A to Z, or a to z
abbrev pub is_letter : ℕ → Bool
is_letter b = within 65 90 b || within 97 122 b

-- a letter, a digit or `_`
abbrev pub is_inner : ℕ → Bool
is_inner b = is_letter b || (is_digit b || nat_eq b 95)

-- space, tab, line feed, carriage return
abbrev pub is_blank : ℕ → Bool
is_blank b = nat_eq b 32 || (nat_eq b 9 || (nat_eq b 10 || nat_eq b 13))

-- a byte of printed text, 32 to 126
abbrev pub is_printed : ℕ → Bool
is_printed b = within 32 126 b

-- n, `"` or a backslash, which may follow a backslash
abbrev pub is_escape : ℕ → Bool
is_escape b = nat_eq b 110 || (nat_eq b 34 || nat_eq b 92)

-- each byte passes the test
abbrev pub all : (ℕ → Bool) → List ℕ → Bool
all p [] = true
all p (b ∷ bs) = p b && all p bs

-- the first byte, where there is one, passes the test
abbrev pub begins : (ℕ → Bool) → List ℕ → Bool
begins p [] = false
begins p (b ∷ bs) = p b

-- the number that digits write, after those that write n
abbrev pub value : ℕ → List ℕ → ℕ
value n [] = n
value n (b ∷ bs) = value (n * 10 + (b - 48)) bs

abbrev mutual
  -- what follows the opening quote of a literal: printed bytes and escapes, and a quote at the very end, where the only quotes and backslashes before it are in escapes
  pub closes : List ℕ → Bool
  closes [] = false
  closes (b ∷ bs) = if nat_eq b 34 then nat_eq (length bs) 0 else (if nat_eq b 92 then escape_closes bs else is_printed b && closes bs)

  -- the same after a backslash
  pub escape_closes : List ℕ → Bool
  escape_closes [] = false
  escape_closes (c ∷ bs) = is_escape c && closes bs

-- a name, unless it is a reserved word
abbrev pub word_kind : Option Reserved → TokenKind
word_kind (Some w) = Word w
word_kind None = Name

abbrev pub symbol_kind : Option Sym → Option TokenKind
symbol_kind (Some s) = Some (Symbol s)
symbol_kind None = None

-- of which kind of token the bytes are, all of them, where they are a token
abbrev pub kind_of : List ℕ → Option TokenKind
kind_of [] = None
kind_of (b ∷ bs) =
    if is_letter b then (if all is_inner bs then Some (word_kind (reserved_of (b ∷ bs))) else None)
    else (if is_digit b then (if all is_digit bs && nat_le (value 0 (b ∷ bs)) 2147483647 then Some (Number (value 0 (b ∷ bs))) else None)
    else (if nat_eq b 34 then (if closes bs then Some Text else None)
    else symbol_kind (symbol_of (b ∷ bs))))
