use Rattle.std.proofs.Common.{◌≡◌, ◌++◌, take}
use Rattle.std.specs.Prelude.{option_map}
use Rattle.th_table.proofs.put.put_text.Given as goal

abbrev pub invariant-loop-byte : goal.invariant-loop-byte
invariant-loop-byte g l = (g.K.Sink.put_bytes l.sink ≡ option_map (λ bytes. bytes ++ take l.byte-index l.text) (g.K.Sink.put_bytes l.fn.sink)) × (g.K.Sink.faults l.sink ≡ g.K.Sink.faults l.fn.sink)
