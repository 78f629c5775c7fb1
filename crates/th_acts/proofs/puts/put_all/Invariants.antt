use Rattle.std.proofs.Common.{◌≡◌, ◌++◌, take, option_map}
use Rattle.th_acts.proofs.puts.put_all.Given as goal

abbrev pub invariant-loop-byte : goal.invariant-loop-byte
invariant-loop-byte g l = g.K.Sink.put_bytes l.output ≡ option_map (λ before. before ++ take l.byte-index l.bytes) (g.K.Sink.put_bytes l.fn.output)
