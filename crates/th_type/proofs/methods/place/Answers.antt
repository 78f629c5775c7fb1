use Rattle.std.proofs.Common.{◌≡◌, ◌≤◌, ◌<◌, ◌+◌, ◌-◌, ◌/◌, length, map, arith, ap, ◌∙◌}
use Rattle.th_type.specs.declared.sig.Sig.{Sig}
use Rattle.std.proofs.lemmas.Grind.{common_steps}
use Rattle.std.proofs.lemmas.List.{length-map}
use Rattle.th_type.specs.Signatures.{sig_of}
use Rattle.th_type.proofs.MethodLists.{get_at, low_more, high_more, goes_at}
use Rattle.th_type.proofs.methods.place.Goals as goal

pub returns-then-at-method : goal.returns-then-at-method
returns-then-at-method c =
    let i : c.loop-low.low + (c.loop-low.high - c.loop-low.low) / 2 < length c.args.sigs.now = grind (arith, common_steps) in
    (sig_of c.index-sigs-middle.result, get_at sig_of c.args.sigs.now (c.loop-low.low + (c.loop-low.high - c.loop-low.low) / 2) c.index-sigs-middle.result i c.index-sigs-middle.is, ap (λ (s : Sig). s.method) c.index-sigs-middle.is ∙ c.if-at-method.true)

pub loop-low-preserved-then-at-method-2 : goal.loop-low-preserved-then-at-method-2
loop-low-preserved-then-at-method-2 c =
    let middle = c.loop-low.low + (c.loop-low.high - c.loop-low.low) / 2 in
    let i : c.loop-low.low + (c.loop-low.high - c.loop-low.low) / 2 < length c.args.sigs.now = grind (arith, common_steps) in
    record {
      ordered = grind (arith, common_steps);
      within = c.loop-low.invariant.within;
      lower = low_more (map sig_of c.args.sigs.now) middle c.args.method (sig_of c.index-sigs-middle.result) c.requires (get_at sig_of c.args.sigs.now middle c.index-sigs-middle.result i c.index-sigs-middle.is) (let q = ap (λ (s : Sig). s.method) c.index-sigs-middle.is in let t = c.if-at-method-2.true in omega (arith, q, t));
      higher = c.loop-low.invariant.higher;
    }

pub loop-low-preserved : goal.loop-low-preserved
loop-low-preserved c =
    let middle = c.loop-low.low + (c.loop-low.high - c.loop-low.low) / 2 in
    let i : c.loop-low.low + (c.loop-low.high - c.loop-low.low) / 2 < length c.args.sigs.now = grind (arith, common_steps) in
    record {
      ordered = grind (arith, common_steps);
      within = grind (arith, common_steps);
      lower = c.loop-low.invariant.lower;
      higher = high_more (map sig_of c.args.sigs.now) middle c.args.method (sig_of c.index-sigs-middle.result) c.requires (get_at sig_of c.args.sigs.now middle c.index-sigs-middle.result i c.index-sigs-middle.is) (let q = ap (λ (s : Sig). s.method) c.index-sigs-middle.is in let t = c.if-at-method.false in let u = c.if-at-method-2.false in omega (arith, q, t, u));
    }

pub returns : goal.returns
returns c =
    let h : c.loop-low.high ≤ c.loop-low.low = c.loop-low-test.false in
    let o : c.loop-low.low ≤ c.loop-low.high = c.loop-low.invariant.ordered in
    let w : c.loop-low.high ≤ length c.args.sigs.now = c.loop-low.invariant.within in
    let e : length (map sig_of c.args.sigs.now) ≡ length c.args.sigs.now = length-map c.args.sigs.now sig_of in
    goes_at (map sig_of c.args.sigs.now) c.args.method c.loop-low.low (omega (arith, o, w, e)) c.loop-low.invariant.lower (λ j s l f. c.loop-low.invariant.higher j s (omega (arith, h, l)) f)
