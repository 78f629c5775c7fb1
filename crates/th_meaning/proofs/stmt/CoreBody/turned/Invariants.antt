use Rattle.std.proofs.Common.{◌≡◌}
use Rattle.th_meaning.specs.View.{body_of}
use Rattle.th_meaning.specs.Onto.{stmts_onto}
use Rattle.th_meaning.proofs.stmt.CoreBody.turned.Given as goal

abbrev pub invariant-loop-self : goal.invariant-loop-self
invariant-loop-self l = stmts_onto (body_of l.self) (body_of l.done) ≡ stmts_onto (body_of l.fn.self) (body_of l.fn.end)
