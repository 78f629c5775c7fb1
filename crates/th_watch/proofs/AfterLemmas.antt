-- For callers that retire one instruction after another: how a watcher's meanings follow on each other.
use Rattle.std.proofs.Common.{◌≡◌, ℕ, zero, suc, ◌+◌, ◌-◌, ◌^◌, min, List, [], ◌∷◌, ◌++◌, length, map, refl, sym, ap, ◌∙◌, arith, length-append, zero-add, add-zero, ◌<◌}
use Rattle.std.specs.Prelude.{Option, slice_get, ◌&&◌, nat_le, nat_lt}
use Rattle.std.specs.Option.{option_or}
use Rattle.std.proofs.lemmas.List.Elements.{filter-append}
use Rattle.th_watch.specs.Watch.{Watch, hits, count_after, after}

-- a watcher of these parts
abbrev watch_of : ℕ → ℕ → ℕ → Option ℕ → Watch
watch_of low high count last = record { low = low; high = high; count = count; last = last }

-- some more hits
count_after-some : (count n : ℕ) → 0 < n → count_after count n ≡ min (count + n) (2 ^ 64 - 1)
count_after-some count zero some = absurd (omega arith)
count_after-some count (suc n) some = refl

-- a sum that is cut off at a limit twice
min-min : (count m n limit : ℕ) → min (min (count + n) limit + m) limit ≡ min (count + (m + n)) limit
min-min count m n limit = omega arith

-- n more hits and then m more are m + n more
count_after-count_after : (count m n : ℕ) → count_after (count_after count n) m ≡ count_after count (m + n)
count_after-count_after count zero n = rw zero-add refl
count_after-count_after count (suc m) zero = rw add-zero refl
count_after-count_after count (suc m) (suc n) =
    min-min count (suc m) (suc n) (2 ^ 64 - 1) ∙ sym (count_after-some count (suc m + suc n) (omega arith))

-- the first of two lists, one after the other
first_of-append : (new old : List ℕ) (last : Option ℕ) → option_or (slice_get new 0) (option_or (slice_get old 0) last) ≡ option_or (slice_get (new ++ old) 0) last
first_of-append [] old last = refl
first_of-append (x ∷ new) old last = refl

-- no instruction retired
pub after-none : (w : Watch) → after w [] ≡ w
after-none w = refl

-- the older instructions retired and then the newer ones
pub after-append : (w : Watch) (newer older : List ℕ) → after (after w older) newer ≡ after w (newer ++ older)
after-append w newer older =
    let new : List ℕ = hits w.low w.high newer in
    let old : List ℕ = hits w.low w.high older in
    let all : hits w.low w.high (newer ++ older) ≡ new ++ old = filter-append (λ pc. nat_le w.low pc && nat_lt pc w.high) newer older in
    let counted : count_after (count_after w.count (length old)) (length new) ≡ count_after w.count (length (new ++ old)) = count_after-count_after w.count (length new) (length old) ∙ ap (count_after w.count) (sym (length-append new old)) in
    let last : option_or (slice_get new 0) (option_or (slice_get old 0) w.last) ≡ option_or (slice_get (new ++ old) 0) w.last = first_of-append new old w.last in
    rw all (ap (λ (count : ℕ). watch_of w.low w.high count (option_or (slice_get new 0) (option_or (slice_get old 0) w.last))) counted ∙ ap (watch_of w.low w.high (count_after w.count (length (new ++ old)))) last)

-- one more instruction retired
pub after-one : (w : Watch) (pc : ℕ) (pcs : List ℕ) → after (after w pcs) (pc ∷ []) ≡ after w (pc ∷ pcs)
after-one w pc pcs = after-append w (pc ∷ []) pcs

-- of a list of watchers, no instruction retired
pub all_after-none : (ws : List Watch) → map (λ w. after w []) ws ≡ ws
all_after-none [] = refl
all_after-none (w ∷ ws) = ap (λ rest. w ∷ rest) (all_after-none ws)

-- of a list of watchers, one more instruction retired
pub all_after-one : (ws : List Watch) (pc : ℕ) (pcs : List ℕ) → map (λ w. after w (pc ∷ [])) (map (λ w. after w pcs) ws) ≡ map (λ w. after w (pc ∷ pcs)) ws
all_after-one [] pc pcs = refl
all_after-one (w ∷ ws) pc pcs =
    ap (λ (first : Watch). first ∷ map (λ v. after v (pc ∷ [])) (map (λ v. after v pcs) ws)) (after-one w pc pcs) ∙ ap (λ (rest : List Watch). after w (pc ∷ pcs) ∷ rest) (all_after-one ws pc pcs)
