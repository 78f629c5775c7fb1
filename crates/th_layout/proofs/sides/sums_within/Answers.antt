use Rattle.std.proofs.Common.{◌≤◌, arith}
use Rattle.th_views.specs.Rows.{tree_of, chain_of}
use Rattle.th_views.specs.Sums.{sum, sum_words}
use Rattle.th_layout.proofs.Judged.{fitting, Fitting}
use Rattle.th_layout.proofs.sides.sums_within.Goals as goal

pub returns : goal.returns
returns c =
    let f : Fitting c.args.limit (record { types = c.args.types.now; classes = c.args.classes.now }) = fitting c.args.limit (record { types = c.args.types.now; classes = c.args.classes.now }) c.requires.limit c.in_ok-judge.ensures in (
      record {
        types = c.in_ok-sums.ensures;
        classes = c.in_ok-tallies.ensures;
        few = λ k h. let e : sum (tree_of c.args.types.now k) ≤ c.args.limit = f.sums k h in omega arith;
        few_classes = λ k h. let e : sum_words (chain_of (record { types = c.args.types.now; classes = c.args.classes.now }) k) ≤ c.args.limit = f.class_sums k h in omega arith;
      },
      c.in_ok-judge.ensures,
    )
