use Rattle.th_accept.proofs.Never.{never_refused, never_refused_with, one_answer, one_answer_with}
use Rattle.th_accept.proofs.laws.answers_law.Goals as goal

pub returns-clause-refused : goal.returns-clause-refused
returns-clause-refused c = never_refused

pub returns-clause-refused_with : goal.returns-clause-refused_with
returns-clause-refused_with c = never_refused_with

pub returns-clause-answer : goal.returns-clause-answer
returns-clause-answer c = one_answer

pub returns-clause-answer_with : goal.returns-clause-answer_with
returns-clause-answer_with c = one_answer_with
