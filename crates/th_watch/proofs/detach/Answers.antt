use Rattle.th_watch.proofs.WatchLemmas.{seen_rest}
use Rattle.th_watch.proofs.detach.Goals as goal

pub returns-clause-rest : goal.returns-clause-rest
returns-clause-rest g c = rw c.remove-watcher.ensures.items (seen_rest _ c.args.list.now.items c.args.k)
