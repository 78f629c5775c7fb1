use Rattle.std.proofs.Common.{map, subst}
use Rattle.std.proofs.lemmas.List.Sorted.{IsPermutation-trans}
use Rattle.std.specs.List.Sorted.{IsPermutation}
use Rattle.th_type.specs.Ordering.{SupersFirst}
use Rattle.th_type.specs.Rows.{rows_of}
use Rattle.th_type.specs.Tables.{tables_up, tables_methods}
use Rattle.th_type.proofs.Ordered.{supers_before}
use Rattle.th_type.proofs.lattice.Lattice.supers_first.Goals as goal

pub returns : goal.returns
returns c =
    let p : IsPermutation c.self.inside.heads.items c.in_ok-order.order.items = subst (λ l. IsPermutation l c.in_ok-order.order.items) c.deref.ensures.value c.in_ok-order.ensures.same in
    record {
      order = subst (λ D. SupersFirst D c.in_ok-order.order.items) c.self.view_is
          (supers_before (rows_of c.self.inside.rows.entries) c.self.inside.heads.items c.in_ok-order.order.items (tables_up c.self.inside.tables) (tables_methods c.self.inside.tables) c.self.invariant p c.in_ok-order.ensures.sorted);
      all = subst (λ D. IsPermutation (map (λ d. d.name) D) c.in_ok-order.order.items) c.self.view_is
          (IsPermutation-trans (map (λ d. d.name) (rows_of c.self.inside.rows.entries)) c.self.inside.heads.items c.in_ok-order.order.items c.self.invariant.permutation p);
    }
