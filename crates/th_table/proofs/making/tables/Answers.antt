use Rattle.std.proofs.Common.{◌≡◌, ℕ, Some, refl, sym, ap, map, take}
use Rattle.std.specs.List.Sorted.{IsPermutation, IsSorted}
use Rattle.std.specs.Ordering.{nat_cmp}
use Rattle.std.proofs.Common.{subst, length, arith}
use Rattle.th_views.specs.Lookups.{class_place}
use Rattle.th_views.specs.Shapes.{names_of, shapes_of}
use Rattle.th_table.specs.Shown.{IsClassTables}
use Rattle.th_table.proofs.Made.{each_push, each_none, numbers_push, numbers_end, numbers_many, class_step, known}
use Rattle.th_table.proofs.making.tables.Goals as goal

pub loop-k-init : goal.loop-k-init
loop-k-init c = record {
  numbers = ap (map (λ x. x.class)) c.new-list.ensures.items;
  each = each_none (λ k x. (d : ℕ) → class_place c.args.layout.now x.class ≡ Some d → IsClassTables c.args.layout.now d x) _ c.new-list.ensures.items;
}

pub class_tables-requires : goal.class_tables-requires
class_tables-requires c = known c.args.layout.now (names_of (shapes_of c.args.classes.now)) c.in_ok-names.names.items c.loop-k.k c.index.result.now c.requires c.in_ok-names.ensures.all (omega (arith, c.loop-k-test.true, c.len-k-end.ensures)) c.index.ensures

pub loop-k-preserved : goal.loop-k-preserved
loop-k-preserved c = record {
  numbers = numbers_push c.loop-k.list.items c.push.new.self.items _ c.in_ok-names.names.items c.loop-k.k c.index.result.now c.index.result.now c.loop-k.invariant.numbers c.in_ok-push.ensures.items c.in_ok-class.ensures.class c.index.ensures (omega (arith, c.loop-k-test.true, c.len-k-end.ensures));
  each = each_push (λ k x. (d : ℕ) → class_place c.args.layout.now x.class ≡ Some d → IsClassTables c.args.layout.now d x) c.loop-k.list.items c.push.new.self.items _ c.loop-k.k
      (numbers_many c.loop-k.list.items c.in_ok-names.names.items c.loop-k.k (omega (arith, c.loop-k-test.true, c.len-k-end.ensures)) c.loop-k.invariant.numbers) c.in_ok-push.ensures.items c.loop-k.invariant.each
      (class_step c.args.layout.now c.index.result.now _ c.in_ok-class.ensures.class c.in_ok-class.ensures.tables);
}

pub returns : goal.returns
returns c = record {
  ascending = subst (IsSorted nat_cmp) (sym (numbers_end c.loop-k.list.items c.in_ok-names.names.items c.loop-k.k (omega (arith, c.loop-k-test.false, c.len-k-end.ensures)) c.loop-k.invariant.numbers)) c.in_ok-names.ensures.sorted;
  all = subst (IsPermutation (names_of (shapes_of c.args.classes.now))) (sym (numbers_end c.loop-k.list.items c.in_ok-names.names.items c.loop-k.k (omega (arith, c.loop-k-test.false, c.len-k-end.ensures)) c.loop-k.invariant.numbers)) c.in_ok-names.ensures.all;
  each = λ k d x g e. c.loop-k.invariant.each k x g d e;
}
