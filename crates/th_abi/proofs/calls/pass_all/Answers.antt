use Rattle.std.proofs.Common.{◌≡◌, ℕ, suc, ◌+◌, List, ◌++◌, refl, sym, ap, ◌∙◌, append_assoc, add-one, arith}
use Rattle.th_abi.specs.declared.word.PatternWord.{PatternWord}
use Rattle.th_abi.specs.Sequences.{home}
use Rattle.th_abi.specs.Control.{passed, pass_first}
use Rattle.th_abi.proofs.calls.pass_all.Goals as goal

one_more : (old now then_ : List PatternWord) (place i : ℕ) → now ≡ old ++ pass_first place i → then_ ≡ now ++ passed (home (place + i)) i → then_ ≡ old ++ pass_first place (i + 1)
one_more old now then_ place i e1 e2 = rw add-one (e2 ∙ ap (λ l. l ++ passed (home (place + i)) i) e1 ∙ append_assoc old (pass_first place i) (passed (home (place + i)) i))

pub loop-i-preserved : goal.loop-i-preserved
loop-i-preserved c = record {
  words = one_more _ _ _ c.args.place c.loop-i.i c.loop-i.invariant.words c.pass.ensures.words;
  count = omega (arith, c.loop-i.invariant.count, c.pass.ensures.count);
}
