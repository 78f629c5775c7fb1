use Rattle.th_flat.proofs.FlowLemmas.{reached_next, reached_way, reached_failure, settled, still_known, Grows_trans}
use Rattle.th_flat.proofs.flow.Flow.follow_ways.Goals as goal

pub arrive_if-requires-clause-reached : goal.arrive_if-requires-clause-reached
arrive_if-requires-clause-reached c = reached_next _ _ _ _ c.requires.shape c.requires.enough _ c.next_of-next.ensures c.requires.reached

pub arrive_if-requires-2-clause-reached : goal.arrive_if-requires-2-clause-reached
arrive_if-requires-2-clause-reached c = reached_way _ _ _ _ c.requires.shape c.requires.enough c.requires.reached

pub arrive_if-requires-3-clause-reached : goal.arrive_if-requires-3-clause-reached
arrive_if-requires-3-clause-reached c = reached_failure _ _ _ _ c.requires.shape c.requires.enough c.requires.reached

pub returns-then-not-branch-2-clause-grows : goal.returns-then-not-branch-2-clause-grows
returns-then-not-branch-2-clause-grows c = Grows_trans _ _ _ _ _ _ c.in_ok-arrive_if.ensures.grows c.in_ok-arrive_if-2.ensures.grows

pub returns-then-not-branch-3-clause-grows : goal.returns-then-not-branch-3-clause-grows
returns-then-not-branch-3-clause-grows c = Grows_trans _ _ _ _ _ _ c.in_ok-arrive_if.ensures.grows (Grows_trans _ _ _ _ _ _ c.in_ok-arrive_if-2.ensures.grows c.in_ok-arrive_if-3.ensures.grows)

pub returns-clause-grows : goal.returns-clause-grows
returns-clause-grows c = Grows_trans _ _ _ _ _ _ c.in_ok-arrive_if.ensures.grows (Grows_trans _ _ _ _ _ _ c.in_ok-arrive_if-2.ensures.grows c.in_ok-arrive_if-3.ensures.grows)

pub returns-clause-right : goal.returns-clause-right
returns-clause-right c = λ _. settled _ _ _ _ c.requires.shape c.requires.enough _ _ c.next_of-next.ensures (still_known _ _ _ _ _ _ c.in_ok-arrive_if-3.ensures.grows (still_known _ _ _ _ _ _ c.in_ok-arrive_if-2.ensures.grows (c.in_ok-arrive_if.ensures.right c.if-not-branch.false))) (still_known _ _ _ _ _ _ c.in_ok-arrive_if-3.ensures.grows (c.in_ok-arrive_if-2.ensures.right c.if-not-branch-2.false)) (c.in_ok-arrive_if-3.ensures.right c.if-not-branch-3.false)
