use Rattle.std.proofs.Common.{inr}
use Rattle.th_words.specs.Decoded.{command_of}
use Rattle.th_top.specs.Answers.{report_of}
use Rattle.th_top.specs.Verdict.{verdict_of}
use Rattle.th_top.proofs.Said.{reports_of}
use Rattle.th_top.proofs.obey.Goals as goal

pub returns-clause-answers : goal.returns-clause-answers
returns-clause-answers g c = inr (record {
  command = command_of c.in-Some.command;
  is_command = c.in-Some.ensures.some;
  verdict = verdict_of c.carry_out-verdict.result;
  does = c.carry_out-verdict.ensures;
  answers = c.status.ensures;
  report = reports_of c.say_verdict.result (report_of (verdict_of c.carry_out-verdict.result)) _ _ c.say_verdict.ensures;
})
