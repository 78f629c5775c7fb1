use Rattle.std.proofs.Common.{◌<◌, length, arith}
use Rattle.th_meaning.specs.View.{body_of, module_of}
use Rattle.th_puts.proofs.Forms.{no_main, too_many}
use Rattle.th_puts.proofs.form.puts_in.Goals as goal

pub returns-in-None-clause-none : goal.returns-in-None-clause-none
returns-in-None-clause-none c = no_main (module_of c.args.program.now) c.in-None.ensures.none

pub returns-then-len-gt-LIMIT-clause-none : goal.returns-then-len-gt-LIMIT-clause-none
returns-then-len-gt-LIMIT-clause-none c =
    let put = rw c.in-Some-2.is at c.in_ok-bytes.ensures.some in
    let many : 4999 < length c.in-Some-2.bytes.items = omega (arith, c.len.ensures, c.if-len-gt-LIMIT.true) in
    too_many (module_of c.args.program.now) (body_of c.in-Some.unit.now.body) c.in-Some-2.bytes.items c.in-Some.ensures.some put.0 many
