use Rattle.th_world.proofs.CallsLemmas.{searched_Contains}
use Rattle.th_world.proofs.calls.CallCounter.is_to_fail.Goals as goal

pub returns-then-self-lt18446744073709551615 : goal.returns-then-self-lt18446744073709551615
returns-then-self-lt18446744073709551615 c =
    let found = searched_Contains c.self.inside.fail.items c.deref.result.now c.self.inside.number c.binary_search.result c.deref.ensures.value c.self.invariant c.binary_search.ensures.position in
    rw (c.is_ok.ensures.value, ← c.self.view_is) (λ ok. (found.0 ok, c.if-self-lt18446744073709551615.true), λ to_fail. found.1 to_fail.0)
