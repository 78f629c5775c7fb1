use Rattle.std.proofs.Common.{◌≡◌, drop, map}
use Rattle.std.specs.Prelude.{find, bytes_eq}
use Rattle.th_meaning.specs.View.{method_of}
use Rattle.th_homes.proofs.types.written.Given as goal

abbrev pub invariant-loop-candidate : goal.invariant-loop-candidate
invariant-loop-candidate l = find (λ x. bytes_eq x.name l.fn.method) (map method_of (drop l.candidate-index l.fn.decl.methods.items)) ≡ find (λ x. bytes_eq x.name l.fn.method) (map method_of l.fn.decl.methods.items)
