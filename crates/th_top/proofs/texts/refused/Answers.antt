use Rattle.std.proofs.Common.{map, string_bytes, sym, ◌∙◌}
use Rattle.th_top.proofs.Stopped.{refused_text}
use Rattle.th_top.proofs.texts.refused.Goals as goal

pub returns : goal.returns
returns c = λ told faults texts there refused memory.
    refused_text (map string_bytes c.args.names.now) texts told faults c.args.refusal c.in-Some.text c.in-Some-name_at.name.now (sym c.text_of.ensures ∙ c.in-Some.is) c.in-Some-name_at.ensures.some there refused memory
