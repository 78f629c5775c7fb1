use Rattle.th_offsets.proofs.Walked.{made_at}
use Rattle.th_offsets.proofs.heads.facts_of.Goals as goal

pub returns : goal.returns
returns c = made_at c.args.rows.now c.args.number c.requires.ordered c.index-rows-number.result c.index-rows-number.result c.make_facts.result c.is_empty.result c.gather-walk.result
    c.as_slice.result.now c.requires.within c.index-rows-number.is c.as_slice.ensures c.is_empty.ensures c.gather-walk.ensures c.make_facts.ensures
