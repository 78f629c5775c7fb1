use Rattle.std.proofs.Common.{◌≡◌, ◌++◌, take}
use Rattle.std.specs.Prelude.{option_map}
use Rattle.th_top.proofs.report.say.Given as goal

abbrev pub invariant-loop-byte : goal.invariant-loop-byte
invariant-loop-byte g l = (g.E.Sink.put_bytes l.report ≡ option_map (λ bytes. bytes ++ take l.byte-index l.text) (g.E.Sink.put_bytes l.fn.report)) × (g.E.Sink.faults l.report ≡ g.E.Sink.faults l.fn.report)
