use Rattle.std.proofs.Common.{◌≡◌, [], ◌∷◌, ◌++◌, map, take, drop}
use Rattle.th_watch.specs.Watch.{after}
use Rattle.th_watch.proofs.retire_all.Given as goal

abbrev pub invariant-loop-watcher : goal.invariant-loop-watcher
invariant-loop-watcher g l =
    map (λ b. (goal.Watcher-dyn g (b.vtable, b.value)).watch b.value) l.watcher-items ≡ map (λ w. after w (l.pc ∷ [])) (take l.watcher-index (map (λ b. (goal.Watcher-dyn g (b.vtable, b.value)).watch b.value) l.fn.list.items)) ++ drop l.watcher-index (map (λ b. (goal.Watcher-dyn g (b.vtable, b.value)).watch b.value) l.fn.list.items)
