use Rattle.std.proofs.Common.{◌≡◌, length, slice_get, Some, refl, arith}
use Rattle.std.proofs.lemmas.Option.{slice_get_read}
use Rattle.std.proofs.lemmas.Result.{err_from_is_err_and}
use Rattle.th_texts.proofs.WrongLaws.{no_tree, read_goes, read_ends, names_end, first_ends}
use Rattle.th_texts.proofs.trees.read.Goals as goal

pub returns-in_err-add_text-clause-refused : goal.returns-in_err-add_text-clause-refused
returns-in_err-add_text-clause-refused c = λ texts a.
    let p = err_from_is_err_and c.from_residual.result c.from_residual.ensures.1 in
    let i : slice_get c.args.tokens.now c.loop-k.k ≡ Some c.index-tokens-k.result = slice_get_read c.args.tokens.now (length c.args.tokens.now) c.loop-k.k c.index-tokens-k.result refl (omega arith) c.index-tokens-k.is in
    rw (p.1, p.2) (no_tree c.args.told texts c.args.tokens.now c.loop-k.trees c.loop-k.k c.index-tokens-k.result c.add_text.new.trees.names c.in_err-add_text.field-0.0 a c.loop-k.invariant i c.in_err-add_text.ensures.refused)

pub loop-k-preserved : goal.loop-k-preserved
loop-k-preserved c =
    let i : slice_get c.args.tokens.now c.loop-k.k ≡ Some c.index-tokens-k.result = slice_get_read c.args.tokens.now (length c.args.tokens.now) c.loop-k.k c.index-tokens-k.result refl (omega arith) c.index-tokens-k.is in
    read_goes c.args.told c.args.tokens.now c.loop-k.trees c.add_text.new.trees c.loop-k.k c.index-tokens-k.result c.loop-k.invariant i c.in_ok-add_text.ensures.added

pub returns-clause-read : goal.returns-clause-read
returns-clause-read c = λ texts a table g. read_ends c.args.told texts c.args.tokens.now c.loop-k.k c.loop-k.trees table a c.loop-k.invariant (omega arith) g

pub returns-clause-table : goal.returns-clause-table
returns-clause-table c = names_end c.args.told c.args.tokens.now c.loop-k.k c.loop-k.trees c.loop-k.invariant (omega arith)

pub returns-clause-first : goal.returns-clause-first
returns-clause-first c = first_ends c.args.told c.args.tokens.now c.loop-k.k c.loop-k.trees c.loop-k.invariant (omega arith)
