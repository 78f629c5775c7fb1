-- Texts of the form that is built.
use Rattle.std.specs.Prelude.{ℕ, List}
use Rattle.th_meaning.specs.Program.{Program}
use Rattle.th_accept.specs.Answers.{Accepted}
use Rattle.th_puts.specs.Form.{IsPuts}

-- texts are accepted with these checked modules, which are a program that puts bytes
pub record Means (texts : List (List ℕ)) (modules : Program) : Type 0 where
  pub accepted : Accepted texts modules
  pub puts : IsPuts modules

-- the texts are of the form that is built
abbrev pub AreOfForm : List (List ℕ) → Type 0
AreOfForm texts = (modules : Program) × Means texts modules
