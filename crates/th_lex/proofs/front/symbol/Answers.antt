use Rattle.std.proofs.Common.{◌<◌, length, slice_index}
use Rattle.th_lex.proofs.Signs.{Other, pair_stands, single_stands, symbol_bad, is_long}
use Rattle.th_lex.proofs.front.symbol.Goals as goal

pub returns-in-Some : goal.returns-in-Some
returns-in-Some c =
    let o : Other (slice_index c.args.text.now 0) = record { no_blank = c.requires.no_blank; no_comment = c.requires.no_comment; no_letter = c.requires.no_letter; no_digit = c.requires.no_digit; no_quote = c.requires.no_quote } in
    let l : 1 < length c.args.text.now = is_long _ c.in-Some.sym c.in-Some.ensures.short in
    pair_stands c.args.text.now c.in-Some.sym l o (c.in-Some.ensures.long l)

pub returns-in-Some-single : goal.returns-in-Some-single
returns-in-Some-single c =
    let o : Other (slice_index c.args.text.now 0) = record { no_blank = c.requires.no_blank; no_comment = c.requires.no_comment; no_letter = c.requires.no_letter; no_digit = c.requires.no_digit; no_quote = c.requires.no_quote } in
    single_stands c.args.text.now c.in-Some-single.sym c.requires.some o (λ l. c.in-None.ensures.long l) c.in-Some-single.ensures

pub returns-in-None-single : goal.returns-in-None-single
returns-in-None-single c =
    let o : Other (slice_index c.args.text.now 0) = record { no_blank = c.requires.no_blank; no_comment = c.requires.no_comment; no_letter = c.requires.no_letter; no_digit = c.requires.no_digit; no_quote = c.requires.no_quote } in
    symbol_bad c.args.text.now c.requires.some o (λ l. c.in-None.ensures.long l) c.in-None-single.ensures
