use Rattle.std.proofs.Common.{refl, subst}
use Rattle.th_classes.specs.Rows.{Bodies}
use Rattle.th_classes.proofs.row.row_of.Goals as goal

pub returns : goal.returns
returns c = λ p units numbers. record {
  class = refl;
  above = c.above_of.ensures p numbers;
  methods = subst (λ n. Bodies p n c.args.class.now.methods.items c.in_ok-methods.methods) c.as_bytes.ensures
      (subst (λ ms. Bodies p c.as_bytes.result.now ms c.in_ok-methods.methods) c.deref.ensures.value (c.in_ok-methods.ensures p units));
}
