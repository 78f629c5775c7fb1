-- What the stages of judging answer.
use Rattle.std.specs.Prelude.{◌≡◌, ◌-◌, ◌^◌, ℕ, min, List, [], Result, Ok, Err}
use Rattle.th_tree.specs.Spans.{Tokenized}
use Rattle.th_type.specs.Failures.{place, failure}
use Rattle.th_hier.specs.Numbering.{Grown}
use Rattle.th_rules.specs.Cores.{name_at}
use Rattle.th_module_rules.specs.Limits.{Counted, IsFirstExcess}
use Rattle.th_module_rules.specs.Refusals.{IsMissing}
use Rattle.th_module_rules.specs.Stages.{Program, RefusedBy, RulesHold, hierarchy_in}
use Rattle.th_module_rules.specs.Texts.{AreRead, UsedName}
use Rattle.th_program.specs.Programs.{program_of}
use Rattle.th_program.specs.declared.trees.Trees.{Trees}
use Rattle.th_program.specs.declared.error.RuleError.{RuleError}
use Rattle.th_program.specs.declared.error.RuleError.TheVariants as ruled
use Rattle.th_texts.specs.Tokens.{AreAllTokens}
use Rattle.th_texts.specs.Reading.{with_all_tokens}
use Rattle.th_texts.specs.declared.error.TextError.{TextError}
use Rattle.th_texts.specs.declared.error.TextError.TheVariants as texts
use Rattle.th_bodies.specs.Bodies.{AreBodies}
use Rattle.th_accept.specs.Answers.{Refused}
use Rattle.th_accept.specs.declared.refusal.Refusal.{Refusal}
use Rattle.th_accept.specs.declared.refusal.Refusal.TheVariants.{BadByte, WideNumber, Syntax, MissingInterface, Rule, TooLarge, Memory}
use Rattle.th_accept.specs.declared.rules.Judged.{Judged}

-- the refusal of texts that are not read
abbrev pub text_refusal : TextError → Refusal
text_refusal (texts.BadByte at) = BadByte at
text_refusal (texts.WideNumber at) = WideNumber at
text_refusal (texts.Syntax at) = Syntax at
text_refusal texts.Memory = Memory

-- the refusal of texts in which a rule fails
abbrev pub rule_refusal : RuleError → Refusal
rule_refusal (ruled.Rule f) = Rule f.rule f.place
rule_refusal ruled.Memory = Memory

-- the code has the trees of texts with these tokens: over its table, which has their names and literals, and over any longer one
pub record HasRead (texts : List (List ℕ)) (xs : List Tokenized) (t : Trees) : Type 0 where
  pub tokens : AreAllTokens texts xs
  pub words : t.names ≡ with_all_tokens [] xs
  pub read : (table : List (List ℕ)) → Grown t.names table → AreRead table 0 texts (program_of t).interfaces (program_of t).modules

-- a name after `uses` or `implements` is not that of an interface, and it is the first such; want of memory says nothing
abbrev pub LacksInterface : Program → Refusal → Type 0
LacksInterface p (MissingInterface at name) = (u : UsedName) × IsMissing p u × (at ≡ place u.text u.name.at) × (name ≡ name_at p.table u.name.name)
LacksInterface p Memory = Unit {0}
LacksInterface p _ = ⊥

-- every rule holds, and these are the hierarchy and the checked units; or a rule fails, and this failure is named; want of memory says nothing
abbrev pub IsJudged : Program → Result Judged RuleError → Type 0
IsJudged p (Ok j) = RulesHold p × (j.hierarchy ≡ hierarchy_in p) × AreBodies p j.bodies
IsJudged p (Err (ruled.Rule f)) = RefusedBy p f
IsJudged p (Err ruled.Memory) = Unit {0}

-- the same as a refusal
abbrev pub FailsIn : Program → Refusal → Type 0
FailsIn p (Rule number at) = RefusedBy p (failure number at)
FailsIn p Memory = Unit {0}
FailsIn p _ = ⊥

-- something is too large, and this is the first that is
abbrev pub Exceeds : List Counted → Refusal → Type 0
Exceeds cs (TooLarge what count at) = (c : Counted) × IsFirstExcess cs c × (what ≡ c.what) × (count ≡ min c.many (2 ^ 64 - 1)) × (at ≡ c.place)
Exceeds cs Memory = Unit {0}
Exceeds cs _ = ⊥

-- texts that have trees are refused
abbrev pub RefusedLate : List (List ℕ) → Refusal → Type 0
RefusedLate texts (MissingInterface at name) = Refused texts (MissingInterface at name)
RefusedLate texts (Rule number at) = Refused texts (Rule number at)
RefusedLate texts (TooLarge what count at) = Refused texts (TooLarge what count at)
RefusedLate texts Memory = Unit {0}
RefusedLate texts _ = ⊥
