use Rattle.std.proofs.Common.{◌++◌, [], ◌∷◌, map, take, ap, subst, ◌∙◌, arith}
use Rattle.std.proofs.lemmas.List.{take_all}
use Rattle.th_meaning.specs.View.{interface_of}
use Rattle.th_link_counts.specs.Kept.{firsts, names_onto}
use Rattle.th_link_counts.specs.Seen.{Seen}
use Rattle.th_link_counts.proofs.Keeping.{onto_more, firsts_more}
use Rattle.th_link_counts.proofs.kept.keep_all.Goals as goal

pub loop-interface-preserved : goal.loop-interface-preserved
loop-interface-preserved c = λ names seen.
    let k = c.loop-interface.interface-index in
    let all = c.args.interfaces.now in
    let i = c.interface-item.result in
    let before = c.loop-interface.invariant names seen in
    let sofar = names_onto names (map interface_of (take k all)) in (
      subst (λ ns. Seen ns c.keep.new.seen) (onto_more names all k i (omega arith) c.interface-item.is) (c.in_ok-keep.ensures.seen sofar before.0),
      c.in_ok-keep.ensures.kept sofar before.0 ∙ ap (λ xs. xs ++ firsts sofar (interface_of i ∷ [])) before.1
          ∙ firsts_more names (map (λ j. interface_of j.now) c.args.kept.now.items) all k i (omega arith) c.interface-item.is,
    )

pub returns-clause-seen : goal.returns-clause-seen
returns-clause-seen c = λ names seen.
    subst (λ xs. Seen (names_onto names (map interface_of xs)) c.loop-interface.seen) (take_all c.loop-interface.interface-index c.args.interfaces.now (omega arith)) (c.loop-interface.invariant names seen).0
