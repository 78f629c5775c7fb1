-- Lists whose members change one after another.
use Rattle.std.proofs.Common.{◌≡◌, ℕ, zero, suc, ◌+◌, ◌<◌, ◌≤◌, List, [], ◌∷◌, ◌++◌, map, length, take, drop, get_or, set, sym, ap, ◌∙◌, arith, add-one, append-nil}
use Rattle.std.specs.Prelude.{remove}
use Rattle.std.proofs.lemmas.List.{map-set, get_or-map, take_all, drop_all, length-map, map-append, take-map}
use Rattle.std.specs.List.{drop-map}

-- f is applied to the first i members, and now to the one at i
mapped_at : {Y : Type 0} (f : Y → Y) (ws : List Y) (i : ℕ) (w e v : Y) → i < length ws → w ≡ get_or (map f (take i ws) ++ drop i ws) i e → v ≡ f w → set (map f (take i ws) ++ drop i ws) i v ≡ map f (take (suc i) ws) ++ drop (suc i) ws
mapped_at f [] i w e v below read is = absurd (omega arith)
mapped_at f (x ∷ ws) zero w e v below read is = ap (λ y. y ∷ ws) (is ∙ ap f read)
mapped_at f (x ∷ ws) (suc i) w e v below read is = ap (λ l. f x ∷ l) (mapped_at f ws i w e v (omega arith) read is)

-- no member was changed yet
pub mapped-none : {Y : Type 0} (f : Y → Y) (ws vs : List Y) → vs ≡ ws → vs ≡ map f (take 0 ws) ++ drop 0 ws
mapped-none f [] vs is = is
mapped-none f (w ∷ ws) vs is = is

-- the members are seen by `see`, and the one at i is changed by f, as the first i were
pub mapped-more : {X Y : Type 0} (see : X → Y) (f : Y → Y) (ws : List Y) (xs : List X) (i : ℕ) (d x : X) → map see xs ≡ map f (take i ws) ++ drop i ws → i < length xs → length xs ≡ length ws → see x ≡ f (see (get_or xs i d)) → map see (set xs i x) ≡ map f (take (i + 1) ws) ++ drop (i + 1) ws
mapped-more see f ws xs i d x so_far below same is =
    let read : get_or (map see xs) i (see d) ≡ see (get_or xs i d) = get_or-map see xs i d (see d) below in
    rw (map-set, so_far, add-one) (mapped_at f ws i (see (get_or xs i d)) (see d) (see x) (omega arith) (rw so_far at (sym read)) is)

-- each member was changed
mapped_past : {Y : Type 0} (f : Y → Y) (ws : List Y) (i : ℕ) → length ws ≤ i → map f (take i ws) ++ drop i ws ≡ map f ws
mapped_past f ws i past = rw (take_all i ws past, drop_all i ws past) (append-nil (map f ws))

-- each member was changed, and `old`, of the same length, has no further ones
pub mapped-all : {X Y : Type 0} (see : X → Y) (f : Y → Y) (old new : List X) (i n : ℕ) → map see new ≡ map f (take i (map see old)) ++ drop i (map see old) → length old ≤ i → length new ≡ length old → n ≡ length old → map see (take n (new ++ drop (length new) old)) ≡ map f (map see old)
mapped-all see f old new i n is past same count =
    let rest : drop (length new) old ≡ [] = drop_all (length new) old (omega arith) in
    let whole : take n new ≡ new = take_all n new (omega arith) in
    rw (rest, append-nil, whole) (is ∙ mapped_past f (map see old) i (rw length-map past))

-- the others, as they are seen
pub seen_rest : {X Y : Type 0} (see : X → Y) (xs : List X) (k : ℕ) → map see (remove xs k) ≡ remove (map see xs) k
seen_rest see xs k =
    map-append see (take k xs) (drop (suc k) xs) ∙ ap (λ l. l ++ map see (drop (suc k) xs)) (sym (take-map see k xs)) ∙ ap (λ l. take k (map see xs) ++ l) (sym (drop-map see (suc k) xs))
