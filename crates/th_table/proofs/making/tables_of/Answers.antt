use Rattle.std.proofs.Common.{◌≡◌, ℕ, Some, refl, sym, ap, length}
use Rattle.th_table.specs.Shown.{IsTableAt}
use Rattle.th_table.proofs.Made.{each_push, each_none, one_more}
use Rattle.th_table.proofs.making.tables_of.Goals as goal

pub loop-word-init : goal.loop-word-init
loop-word-init c = record {
  many = ap length c.new-tables.ensures.items;
  each = λ d e. each_none (IsTableAt c.args.layout.now d) _ c.new-tables.ensures.items;
}

pub loop-word-preserved : goal.loop-word-preserved
loop-word-preserved c = record {
  many = one_more c.loop-word.tables.items c.push.new.self.items _ c.loop-word.word c.loop-word.invariant.many c.in_ok-push.ensures.items;
  each = λ d e. each_push (IsTableAt c.args.layout.now d) c.loop-word.tables.items c.push.new.self.items _ c.loop-word.word c.loop-word.invariant.many c.in_ok-push.ensures.items (c.loop-word.invariant.each d e) (c.in_ok-table.ensures d e);
}
