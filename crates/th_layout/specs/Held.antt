-- What the objects of a class hold.
use Rattle.std.specs.Prelude.{◌≡◌, ℕ, ◌≤◌, Option, Some, None}
use Rattle.th_views.specs.Chain.{words, wheres_in, fields_in, filled}
use Rattle.th_views.specs.Rows.{Program, chain_of}
use Rattle.th_layout.specs.declared.layout.Held.{Held}

-- the header words, where-words and fields of the class's objects, which are few
pub record IsHeld (p : Program) (c : ℕ) (h : Held) : Type 0 where
  pub words : h.words ≡ words (chain_of p c)
  pub wheres : h.wheres ≡ wheres_in (chain_of p c)
  pub fields : h.fields ≡ fields_in (chain_of p c)
  pub few_words : h.words ≤ 64
  pub few : h.wheres ≤ 400
  pub few_fields : h.fields ≤ 400

abbrev pub HeldAt : Program → Option ℕ → Held → Type 0
HeldAt p None h = ⊥
HeldAt p (Some c) h = IsHeld p c h
