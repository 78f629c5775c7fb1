use Rattle.std.proofs.Common.{[], ◌∷◌, map, length, ap, ◌∙◌, arith}
use Rattle.std.proofs.lemmas.List.{length-map}
use Rattle.th_watch.specs.Watch.{after}
use Rattle.th_watch.proofs.WatchLemmas.{mapped-none, mapped-more, mapped-all}
use Rattle.th_watch.proofs.retire_all.Goals as goal

pub loop-watcher-init : goal.loop-watcher-init
loop-watcher-init g c = mapped-none (λ w. after w (c.args.pc ∷ [])) _ _ (ap (map _) c.deref_mut-watcher-items.ensures.value)

pub loop-watcher-preserved : goal.loop-watcher-preserved
loop-watcher-preserved g c =
    mapped-more _ _ _ _ _ _ _ c.loop-watcher.invariant (omega arith) (rw length-map (c.loop-watcher.auto.watcher-items ∙ ap length c.deref_mut-watcher-items.ensures.value)) c.retire_one.ensures

pub returns : goal.returns
returns g c =
    mapped-all _ (λ w. after w (c.args.pc ∷ [])) _ _ _ _ c.loop-watcher.invariant (omega (arith, c.deref_mut-watcher-items.ensures.len, c.args.list.now.ok.0)) (c.loop-watcher.auto.watcher-items ∙ ap length c.deref_mut-watcher-items.ensures.value) c.args.list.now.ok.0
