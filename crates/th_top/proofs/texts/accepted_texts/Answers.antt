use Rattle.std.proofs.Common.{map, string_bytes, subst, sym}
use Rattle.th_files.specs.Reading.{AreThere}
use Rattle.th_meaning.specs.View.{module_of}
use Rattle.th_accept.specs.Answers.{Accepted}
use Rattle.th_top.specs.Answers.{text_limit}
use Rattle.th_top.specs.Texts.{Stops}
use Rattle.th_top.specs.Verdict.{verdict_of}
use Rattle.th_top.proofs.Told.{there_few, all_short}
use Rattle.th_top.proofs.texts.accepted_texts.Goals as goal

pub returns-in-Err-clause-stops : goal.returns-in-Err-clause-stops
returns-in-Err-clause-stops g c = c.unread.ensures (g.F.Files.map c.args.files.now) (g.F.Files.faults c.args.files.now) (g.F.Files.faults c.read_files.new.files) c.in-Err.ensures.unread

pub judge-requires-clause-few : goal.judge-requires-clause-few
judge-requires-clause-few g c = there_few string_bytes (λ x. x.items) text_limit (g.F.Files.map c.args.files.now) c.args.names.now c.deref.result.now c.in-Ok.texts.items c.in-Ok.ensures.there c.deref.ensures.value c.requires

pub judge-requires-clause-short : goal.judge-requires-clause-short
judge-requires-clause-short g c = all_short string_bytes (λ x. x.items) text_limit (g.F.Files.map c.args.files.now) c.args.names.now c.deref.result.now c.in-Ok.texts.items c.in-Ok.ensures.there c.deref.ensures.value

pub returns-in-Ok-judge-clause-accepted : goal.returns-in-Ok-judge-clause-accepted
returns-in-Ok-judge-clause-accepted g c =
    subst (λ ts. Accepted (map (λ x. x.items) ts) (map module_of c.in-Ok-judge.modules.items)) c.deref.ensures.value c.in-Ok-judge.ensures.accepted

pub returns-clause-stops : goal.returns-clause-stops
returns-clause-stops g c =
    let told = g.F.Files.map c.args.files.now in
    let names = map string_bytes c.args.names.now in
    let there = subst (λ ts. AreThere text_limit told names (map (λ x. x.items) ts)) (sym c.deref.ensures.value) c.in-Ok.ensures.there in
    subst (λ n. Stops told names (g.F.Files.faults c.args.files.now) n (verdict_of c.in-Err-judge.verdict)) (sym c.in-Ok.ensures.no_fault) (c.in-Err-judge.ensures.stops told (g.F.Files.faults c.args.files.now) there)
