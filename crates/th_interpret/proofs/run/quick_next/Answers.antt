use Rattle.std.proofs.Common.{ap}
use Rattle.th_meaning.specs.View.{expr_of, body_of}
use Rattle.th_control.specs.Config.{now_of}
use Rattle.th_interpret.proofs.Going.{value_leads, body_leads}
use Rattle.th_interpret.proofs.run.quick_next.Goals as goal

pub returns-in-Some-clause-some : goal.returns-in-Some-clause-some
returns-in-Some-clause-some c = λ e left put m from.
    value_leads e c.args.run.now left put m c.args.now.now (expr_of c.in-Eval.expr.now) c.in-Some.value (ap now_of c.in-Eval.is) c.in-Some.ensures from

pub returns-in-Some-quick_stmt-clause-some : goal.returns-in-Some-quick_stmt-clause-some
returns-in-Some-quick_stmt-clause-some c = λ e left put m from.
    body_leads e c.args.run.now left put m c.args.now.now c.quick_stmt.new.control (body_of c.in-Body.body.now) c.in-Some-quick_stmt.others (ap now_of c.in-Body.is) c.in-Some-quick_stmt.ensures.goes
    c.quick_stmt.ensures.rest c.quick_stmt.ensures.homes from
