-- What the code gathers of a type's supertypes.
use Rattle.std.specs.Prelude.{ℕ, ◌+◌, Bool, true, false, cond}
use Rattle.th_offsets.specs.declared.heads.Walk.{Walk}
use Rattle.th_offsets.specs.declared.heads.Facts.{Facts}
use Rattle.th_views.specs.Tree.{Trees, End, Also, is_up, next, merged_at, tops, topped, room, span}

abbrev pub walk_on : Walk → Bool → Bool → ℕ → Walk
walk_on w q u n = record { turn = next w.turn q; span = w.span + room (merged_at w.turn u) n; topped = cond w.topped true (tops w.turn q u) }

abbrev pub walk_all : Walk → Trees → Walk
walk_all w End = w
walk_all w (Also s rest) = walk_all (walk_on w (topped s) (is_up s) (span s)) rest

abbrev pub facts_from : Bool → Bool → Walk → Facts
facts_from marked bare w = record { span = cond bare 1 w.span; topped = cond (cond marked bare false) true w.topped; upward = cond marked bare false }
