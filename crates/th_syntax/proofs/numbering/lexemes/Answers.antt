use Rattle.std.proofs.Common.{drop, get_or, arith}
use Rattle.std.proofs.lemmas.List.{length-drop}
use Rattle.th_syntax.proofs.Tables.{no_token, numbering_step, numbering_room, grown_then}
use Rattle.th_syntax.proofs.numbering.lexemes.Goals as goal

pub mark-requires : goal.mark-requires
mark-requires c =
    let z = numbering_room c.args.names.now c.args.tokens.now.text (drop c.args.from c.args.tokens.now.list) (drop c.loop-k.k c.args.tokens.now.list) c.loop-k.names c.loop-k.found.items c.loop-k.invariant in
    omega (arith, z, length-drop c.args.from c.args.tokens.now.list, c.requires.room)

pub returns-in_err-push-clause-grown : goal.returns-in_err-push-clause-grown
returns-in_err-push-clause-grown c =
    grown_then c.args.names.now c.loop-k.names c.mark.new.names (get_or c.as_slice.result.now c.loop-k.k no_token).kind c.slice.result.now c.loop-k.invariant.grown c.in_ok-mark.ensures.table

pub loop-k-preserved : goal.loop-k-preserved
loop-k-preserved c =
    numbering_step c.args.names.now c.args.tokens.now.text c.args.tokens.now.list c.as_slice.result.now c.args.from c.loop-k.k c.loop-k.names c.mark.new.names c.loop-k.found.items c.push.new.self.items c.slice.result.now c.in_ok-mark.mark
    c.loop-k.invariant c.as_slice.ensures (omega (arith, c.loop-k-test.true, c.len-k-end.ensures)) c.slice.ensures c.in_ok-mark.ensures.table c.in_ok-mark.ensures.there c.in_ok-mark.ensures.mark c.in_ok-push.ensures.items
