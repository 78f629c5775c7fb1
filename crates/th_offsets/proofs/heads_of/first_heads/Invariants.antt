use Rattle.std.proofs.Common.{◌≡◌, ℕ, drop}
use Rattle.std.specs.Prelude.{nat_eq}
use Rattle.std.specs.HashMap.{get}
use Rattle.th_views.specs.Lookups.{given_in}
use Rattle.th_offsets.specs.Maps.{or_else}
use Rattle.th_offsets.proofs.heads_of.first_heads.Given as goal

abbrev pub invariant-loop-entry : goal.invariant-loop-entry
invariant-loop-entry l = (q : ℕ) → or_else (get nat_eq l.map q) (given_in (drop l.entry-index l.list) q) ≡ given_in l.list q
