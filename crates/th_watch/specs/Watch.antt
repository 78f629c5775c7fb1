-- What a watcher of retired instructions means.
use Rattle.std.specs.Prelude.{ℕ, zero, suc, ◌+◌, ◌-◌, ◌^◌, ◌&&◌, nat_le, nat_lt, min, List, length, filter, Option, None, slice_get, take, ◌++◌}
use Rattle.std.specs.Option.{option_or}

-- the span of a watcher, the count of hits since it was aimed, and the last hit
pub record Watch : Type 0 where
  pub low : ℕ
  pub high : ℕ
  pub count : ℕ
  pub last : Option ℕ

-- a watcher just aimed at a span
abbrev pub aimed : ℕ → ℕ → Watch
aimed low high = record { low = low; high = high; count = 0; last = None }

-- the hits among pcs: those from low up to high, high not among them
abbrev pub hits : ℕ → ℕ → List ℕ → List ℕ
hits low high pcs = filter (λ pc. nat_le low pc && nat_lt pc high) pcs

-- a count after n more hits; it stays at the greatest 64-bit number once there
abbrev pub count_after : ℕ → ℕ → ℕ
count_after count zero = count
count_after count (suc n) = min (count + suc n) (2 ^ 64 - 1)

-- the watcher after the instructions at these pcs retired, the newest first
abbrev pub after : Watch → List ℕ → Watch
after w pcs =
    let new = hits w.low w.high pcs in
    record { low = w.low; high = w.high; count = count_after w.count (length new); last = option_or (slice_get new 0) w.last }

-- a watcher with its last hits, the newest first
pub record Tail : Type 0 where
  pub watch : Watch
  pub tail : List ℕ

-- the last sixteen hits after the instructions at these pcs retired, the newest first
abbrev pub tail_after : Tail → List ℕ → List ℕ
tail_after t pcs = take 16 (hits t.watch.low t.watch.high pcs ++ t.tail)
