use Rattle.std.proofs.Common.{[], ◌++◌, map, take, ap, ◌∙◌, subst, arith}
use Rattle.th_meaning.specs.View.{interface_of}
use Rattle.th_link_counts.specs.Kept.{firsts, names_onto}
use Rattle.th_link_counts.specs.Seen.{Seen}
use Rattle.th_link_counts.proofs.Keeping.{all_kept, module_seen, module_kept}
use Rattle.th_link_counts.proofs.kept.interfaces_once.Goals as goal

pub loop-module-preserved : goal.loop-module-preserved
loop-module-preserved c =
    let k = c.loop-module.module-index in
    let ms = c.args.modules.now in
    let m = c.module-item.result in
    let sofar = names_onto [] (all_kept (take k ms)) in
    let old = map (λ j. interface_of j.now) c.loop-module.kept.items in (
      module_seen ms k m c.keep_all.new.seen (omega arith) c.module-item.is
          (subst (λ xs. Seen (names_onto sofar (map interface_of xs)) c.keep_all.new.seen) c.deref.ensures.value (c.in_ok-keep_all.ensures.seen sofar c.loop-module.invariant.0)),
      module_kept ms k m old (map (λ j. interface_of j.now) c.keep_all.new.kept.items) (omega arith) c.module-item.is c.loop-module.invariant.1
          (c.in_ok-keep_all.ensures.kept sofar c.loop-module.invariant.0 ∙ ap (λ xs. old ++ firsts sofar (map interface_of xs)) c.deref.ensures.value),
    )
