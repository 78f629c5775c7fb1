-- The lines of the report.
use Rattle.std.specs.Prelude.{◌≡◌, ℕ, ◌≤◌, List, ◌++◌, Option, option_map, ◌⊎◌}
use Rattle.th_world.specs.Outside.{Rose}

-- what the report tells: the bytes put, None where they aren't told, and its count of faults
pub record Report : Type 0 where
  pub bytes : Option (List ℕ)
  pub faults : ℕ

-- this text was put at the report, without a fault
pub record ReportsAll (text : List ℕ) (before later : Report) : Type 0 where
  pub put : later.bytes ≡ option_map (λ bytes. bytes ++ text) before.bytes
  pub faults : later.faults ≡ before.faults

-- a prefix of this text was put at the report, and then came a fault
pub record ReportsPart (text : List ℕ) (before later : Report) : Type 0 where
  pub said : List ℕ
  pub unsaid : List ℕ
  pub split : text ≡ said ++ unsaid
  pub put : later.bytes ≡ option_map (λ bytes. bytes ++ said) before.bytes
  pub rose : Rose before.faults later.faults
  pub never_falls : before.faults ≤ later.faults

-- what was put at the report is this text, or up to a fault a prefix of it
abbrev pub Reports : List ℕ → Report → Report → Type 0
Reports text before later = ReportsAll text before later ⊎ ReportsPart text before later

-- a report that tells so much
abbrev pub reported : (bytes : Option (List ℕ)) → (faults : ℕ) → Report
reported bytes faults = record { bytes = bytes; faults = faults }
