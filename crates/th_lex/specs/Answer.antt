-- What an answer of the cutting says.
use Rattle.std.specs.Prelude.{Result, Ok, Err, Option, Some, None}
use Rattle.th_tree.specs.Spans.{Tokenized}
use Rattle.th_tree.specs.Cut.{Verdict, Cuts, Bad, Wide}
use Rattle.th_lex.specs.declared.LexError.{LexError}
use Rattle.th_lex.specs.declared.LexError.TheVariants as errors

-- the verdict on a text that an answer gives; none where memory ran out
abbrev pub verdict_of : Result Tokenized LexError → Option Verdict
verdict_of (Ok tokens) = Some (Cuts tokens.list)
verdict_of (Err (errors.BadByte p)) = Some (Bad p)
verdict_of (Err (errors.WideNumber p)) = Some (Wide p)
verdict_of (Err errors.Memory) = None
