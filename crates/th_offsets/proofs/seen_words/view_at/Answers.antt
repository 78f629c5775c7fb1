use Rattle.std.proofs.Common.{subst, sym}
use Rattle.std.proofs.lemmas.List.Filters.{dedup_is}
use Rattle.std.specs.Prelude.{nat_eq}
use Rattle.th_views.specs.Lookups.{IsView}
use Rattle.th_offsets.proofs.Viewing.{view_made}
use Rattle.th_offsets.proofs.seen_words.view_at.Goals as goal

pub returns : goal.returns
returns c = subst (IsView c.args.types.now c.args.seen.now c.args.word) (sym c.of.ensures)
    (view_made c.args.types.now c.args.seen.now c.args.word c.in_ok-numbers.numbers.items c.sort_unstable.new.self.items c.dedup.new.self.items c.requires c.in_ok-numbers.ensures
    c.sort_unstable.ensures.permutation c.sort_unstable.ensures.sorted (dedup_is nat_eq c.sort_unstable.new.self.items c.dedup.new.self.items c.dedup.ensures.filtered))
