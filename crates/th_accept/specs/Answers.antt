-- When the texts of a program are accepted, and why they are refused. docs/LANGUAGE.md, "Which failure is named", states the order.
use Rattle.std.specs.Prelude.{◌≡◌, ◌-◌, ◌^◌, ◌<◌, ℕ, min, List, [], ◌∷◌, map, slice_get, Some}
use Rattle.th_tree.specs.declared.tokens.Token.{Token}
use Rattle.th_tree.specs.Spans.{Tokenized}
use Rattle.th_type.specs.Failures.{place, failure}
use Rattle.th_meaning.specs.Program.{ProgramModule}
use Rattle.th_rules.specs.Cores.{name_at}
use Rattle.th_module_rules.specs.Limits.{Counted, IsFirstExcess, KeepsLimits}
use Rattle.th_module_rules.specs.Refusals.{IsBadByte, IsWideNumber, IsSyntax, IsMissing}
use Rattle.th_module_rules.specs.Stages.{Program, RefusedBy}
use Rattle.th_module_rules.specs.Texts.{AllGiven, AreRead, AreTokens, BeginsInterface, HasNames, Lawful, UsedName}
use Rattle.th_texts.specs.Tokens.{AreAllTokens}
use Rattle.th_texts.specs.Reading.{HaveNoTreesWith, with_all_tokens}
use Rattle.th_full_names.specs.Numbering.{with_full_names}
use Rattle.th_texts.specs.declared.error.TextError.TheVariants as reading
use Rattle.th_checked.specs.Checked.{AreChecked}
use Rattle.th_accept.specs.Counts.{all_counts}
use Rattle.th_accept.specs.declared.refusal.Refusal.{Refusal}
use Rattle.th_accept.specs.declared.refusal.Refusal.TheVariants.{BadByte, WideNumber, Syntax, MissingInterface, Rule, TooLarge, Memory}

-- the names of texts with these tokens and the values of their literals, and then the full names of all items of a program
abbrev pub all_names : List Tokenized → Program → List (List ℕ)
all_names xs p = with_full_names (with_all_tokens [] xs) (map (λ i. i.tree) p.interfaces) (map (λ m. m.tree) p.modules)

-- texts with these tokens are the trees of a program over this table of names
pub record IsRead (texts : List (List ℕ)) (xs : List Tokenized) (names : List (List ℕ)) (p : Program) : Type 0 where
  pub tokens : AreAllTokens texts xs
  pub table : p.table ≡ names
  pub read : AreRead p.table 0 texts p.interfaces p.modules

-- in texts with these tokens and trees every rule holds, and these are their checked modules
pub record AreLawful (texts : List (List ℕ)) (xs : List Tokenized) (p : Program) (ms : List ProgramModule) : Type 0 where
  pub read : IsRead texts xs (all_names xs p) p
  pub lawful : Lawful texts p
  pub checked : AreChecked p xs p.modules ms

-- texts are accepted, with these checked modules
abbrev pub Accepted : List (List ℕ) → List ProgramModule → Type 0
Accepted texts ms = (xs : List Tokenized) × (p : Program) × AreLawful texts xs p ms × KeepsLimits (all_counts xs p ms)

-- texts are refused: for what stands first in the order of judging; want of memory says nothing
abbrev pub Refused : List (List ℕ) → Refusal → Type 0
Refused texts (BadByte at) = IsBadByte texts at
Refused texts (WideNumber at) = IsWideNumber texts at
Refused texts (Syntax at) = (xs : List Tokenized) × AreAllTokens texts xs × IsSyntax (with_all_tokens [] xs) texts at
Refused texts (MissingInterface at name) =
    (xs : List Tokenized) × (p : Program) × (u : UsedName) × IsRead texts xs (with_all_tokens [] xs) p × IsMissing p u
    × (at ≡ place u.text u.name.at) × (name ≡ name_at p.table u.name.name)
Refused texts (Rule number at) = (xs : List Tokenized) × (p : Program) × IsRead texts xs (all_names xs p) p × HasNames p × AllGiven p × RefusedBy p (failure number at)
Refused texts (TooLarge what count at) =
    (xs : List Tokenized) × (p : Program) × (ms : List ProgramModule) × (c : Counted) × AreLawful texts xs p ms × IsFirstExcess (all_counts xs p ms) c
    × (what ≡ c.what) × (count ≡ min c.many (2 ^ 64 - 1)) × (at ≡ c.place)
Refused texts Memory = Unit {0}

-- the first text is a module, and each other one is an interface
abbrev pub IsModuleFirst : List (List ℕ) → Type 0
IsModuleFirst texts =
    (k : ℕ) (t : List ℕ) (ts : List Token) → slice_get texts k ≡ Some t → AreTokens t ts → (k ≡ 0 → ¬ BeginsInterface ts) × (0 < k → BeginsInterface ts)

-- a module with its interfaces, which are the further texts, is accepted, with this checked module
abbrev pub AcceptedWith : List (List ℕ) → ProgramModule → Type 0
AcceptedWith texts m = IsModuleFirst texts × Accepted texts (m ∷ [])

-- they are refused: as any texts, where the first is a module and the others are interfaces; else for their grammar at the latest
abbrev pub RefusedWith : List (List ℕ) → Refusal → Type 0
RefusedWith texts (BadByte at) = Refused texts (BadByte at)
RefusedWith texts (WideNumber at) = Refused texts (WideNumber at)
RefusedWith texts (Syntax at) = HaveNoTreesWith texts (reading.Syntax at)
RefusedWith texts Memory = Unit {0}
RefusedWith texts e = IsModuleFirst texts × Refused texts e
