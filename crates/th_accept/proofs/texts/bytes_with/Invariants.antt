use Rattle.std.proofs.Common.{◌≡◌, ◌∷◌, ◌++◌, map, drop}
use Rattle.th_accept.proofs.texts.bytes_with.Given as goal

abbrev pub invariant-loop-other : goal.invariant-loop-other
invariant-loop-other l = map (λ x. x.now) l.done.items ++ map (λ x. x.items) (drop l.other-index l.others) ≡ l.fn.text ∷ map (λ x. x.items) l.others
