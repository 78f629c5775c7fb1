-- Prefixes of traces.
use Rattle.std.proofs.Common.{◌≡◌, List, [], ◌++◌, refl, sym, ap, ◌∙◌, subst, append_assoc}
use Rattle.th_world.specs.Event.{Event, Prefix}

pub prefix_refl : (t : List Event) → Prefix t t
prefix_refl t = record { more = []; is = refl }

pub prefix_same : (t u : List Event) → t ≡ u → Prefix t u
prefix_same t u e = subst (λ x. Prefix t x) e (prefix_refl t)

pub prefix_trans : (t u v : List Event) → Prefix t u → Prefix u v → Prefix t v
prefix_trans t u v a b =
    record { more = b.more ++ a.more; is = b.is ∙ ap (λ x. b.more ++ x) a.is ∙ sym (append_assoc b.more a.more t) }
