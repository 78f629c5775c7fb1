use Rattle.std.proofs.Common.{◌≡◌, ◌++◌, map, drop}
use Rattle.th_accept.proofs.texts.bytes_of.Given as goal

abbrev pub invariant-loop-text : goal.invariant-loop-text
invariant-loop-text l = map (λ x. x.now) l.done.items ++ map (λ x. x.items) (drop l.text-index l.texts) ≡ map (λ x. x.items) l.texts
