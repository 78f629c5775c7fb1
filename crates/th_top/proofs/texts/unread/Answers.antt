use Rattle.std.proofs.Common.{map, string_bytes, subst}
use Rattle.th_files.specs.Reading.{IsReadError}
use Rattle.th_top.specs.Answers.{text_limit}
use Rattle.th_top.proofs.Stopped.{unread_named, unread_nowhere}
use Rattle.th_top.proofs.texts.unread.Goals as goal

pub returns-in-Memory : goal.returns-in-Memory
returns-in-Memory c = λ told before later is. subst (λ e. IsReadError e text_limit told (map string_bytes c.args.names.now) before later) c.in-Memory.is is

pub returns-in-None : goal.returns-in-None
returns-in-None c = λ told before later is.
    unread_nowhere (map string_bytes c.args.names.now) c.in-File.place told before later c.in-None.ensures.none
    (subst (λ e. IsReadError e text_limit told (map string_bytes c.args.names.now) before later) c.in-File.is is)

pub returns-in-Some : goal.returns-in-Some
returns-in-Some c = λ told before later is.
    unread_named (map string_bytes c.args.names.now) c.in-File.place told c.in-Some.name.now before later c.in-Some.ensures.some
    (subst (λ e. IsReadError e text_limit told (map string_bytes c.args.names.now) before later) c.in-File.is is)
