use Rattle.std.proofs.Common.{◌≡◌, ◌≤◌}
use Rattle.th_tree.specs.View.{body_of, else_of, whens_of}
use Rattle.th_tree.specs.declared.tree.Body.{size-Body}
use Rattle.th_tree.specs.declared.tree.ElseTree.{size-ElseTree}
use Rattle.th_tree.specs.declared.tree.WhenList.{size-WhenList}
use Rattle.th_stmt_rules.specs.Ending.{body_ends, else_ends, whens_end}
use Rattle.th_stmt_parts.proofs.ending.+ending.Given as goal

abbrev pub invariant-body_ends-loop-rest : goal.invariant-body_ends-loop-rest
invariant-body_ends-loop-rest l = (size-Body l.rest ≤ size-Body l.fn.tree) × (body_ends (body_of l.rest) ≡ body_ends (body_of l.fn.tree))

abbrev pub invariant-else_ends-loop-rest : goal.invariant-else_ends-loop-rest
invariant-else_ends-loop-rest l = (size-ElseTree l.rest ≤ size-ElseTree l.fn.tree) × (else_ends (else_of l.rest) ≡ else_ends (else_of l.fn.tree))

abbrev pub invariant-whens_end-loop-rest : goal.invariant-whens_end-loop-rest
invariant-whens_end-loop-rest l = (size-WhenList l.rest ≤ size-WhenList l.fn.tree) × (whens_end (whens_of l.rest) ≡ whens_end (whens_of l.fn.tree))
