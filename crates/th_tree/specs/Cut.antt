-- The cutting of a text into tokens.
use Rattle.std.specs.Prelude.{◌≡◌, ℕ, ◌+◌, ◌≤◌, ◌<◌, Bool, true, false, nat_eq, List, [], ◌∷◌, ◌++◌, length, Some, if◌then◌else◌}
use Rattle.th_tree.specs.declared.tokens.TokenKind.{TokenKind}
use Rattle.th_tree.specs.declared.tokens.TokenKind.TheVariants.{Number}
use Rattle.th_tree.specs.declared.tokens.Token.{Token}
use Rattle.th_tree.specs.Tokens.{kind_of, begins, is_digit, is_blank, all, value}

-- no digit follows a number
abbrev pub MayFollow : TokenKind → List ℕ → Type 0
MayFollow (Number n) more = begins is_digit more ≡ false
MayFollow _ more = Unit {0}

-- the text begins with the bytes bs of a token, and more follows
pub record TokenAt (text bs more : List ℕ) (k : TokenKind) : Type 0 where
  pub split : text ≡ bs ++ more
  pub is : kind_of bs ≡ Some k
  pub ends : MayFollow k more

-- no longer token begins the text
pub record Longest (text bs more : List ℕ) (k : TokenKind) : Type 0 where
  pub token : TokenAt text bs more k
  pub longest : (cs rest : List ℕ) (j : TokenKind) → TokenAt text cs rest j → length cs ≤ length bs

-- a byte of a comment: any but a line feed
abbrev pub in_line : ℕ → Bool
in_line b = if nat_eq b 10 then false else true

-- the text begins with a blank, or with a whole comment: `#` and the bytes before the next line feed or the end
pub data Gap (more : List ℕ) : List ℕ → ℕ → Type 0 where
  blank : (b : ℕ) → is_blank b ≡ true → Gap more (b ∷ more) 1
  comment : (cs : List ℕ) → all in_line cs ≡ true → begins in_line more ≡ false → Gap more (35 ∷ (cs ++ more)) (1 + length cs)

-- From byte `at` to byte `to`, where `rest` is left, the text is gaps and these tokens, each the longest at its place.
pub data CutTo (to : ℕ) (rest : List ℕ) : ℕ → List ℕ → List Token → Type 0 where
  there : CutTo to rest to rest []
  gap : {ts : List Token} (at : ℕ) (text more : List ℕ) (n : ℕ) → Gap more text n → CutTo to rest (at + n) more ts → CutTo to rest at text ts
  token : {ts : List Token} (at : ℕ) (text bs more : List ℕ) (k : TokenKind) → Longest text bs more k → CutTo to rest (at + length bs) more ts
      → CutTo to rest at text (record { kind = k; start = at; end = at + length bs } ∷ ts)

-- the cutting of a whole text
abbrev pub Cut : List ℕ → List Token → Type 0
Cut text ts = CutTo (length text) [] 0 text ts

-- a number that is too great for a token begins the text
pub record WideNumber (text : List ℕ) : Type 0 where
  pub digits : List ℕ
  pub more : List ℕ
  pub split : text ≡ digits ++ more
  pub some : 0 < length digits
  pub are : all is_digit digits ≡ true
  pub ends : begins is_digit more ≡ false
  pub great : 2147483647 < value 0 digits

-- neither a gap, a token nor a wide number stands at the front of the text, which isn't empty
pub record BadByte (text : List ℕ) : Type 0 where
  pub some : 0 < length text
  pub no_gap : (more : List ℕ) (n : ℕ) → Gap more text n → ⊥
  pub no_token : (bs more : List ℕ) (k : TokenKind) → TokenAt text bs more k → ⊥
  pub no_number : WideNumber text → ⊥

-- byte p is the first place without a token, and no wide number stands there
abbrev pub FirstBad : List ℕ → ℕ → Type 0
FirstBad text p = (rest : List ℕ) × (ts : List Token) × CutTo p rest 0 text ts × BadByte rest

-- byte p is the first place without a token, and a wide number stands there
abbrev pub FirstWide : List ℕ → ℕ → Type 0
FirstWide text p = (rest : List ℕ) × (ts : List Token) × CutTo p rest 0 text ts × WideNumber rest

-- what becomes of a text: its cutting, or the first place without a token, where a wide number stands or not
pub data Verdict : Type 0 where
  Cuts : List Token → Verdict
  Bad : ℕ → Verdict
  Wide : ℕ → Verdict

-- the text has that verdict
abbrev pub HasVerdict : List ℕ → Verdict → Type 0
HasVerdict text (Cuts ts) = Cut text ts
HasVerdict text (Bad p) = FirstBad text p
HasVerdict text (Wide p) = FirstWide text p
