-- The value of digits only grows.
use Rattle.std.proofs.Common.{◌≡◌, ℕ, ◌+◌, ◌*◌, ◌-◌, ◌≤◌, ◌<◌, List, [], ◌∷◌, None, refl, sym, subst, arith, le_refl}
use Rattle.std.proofs.lemmas.Bool.{lt-leb}
use Rattle.th_tree.specs.Tokens.{value}
use Rattle.th_lex.specs.Stands.{decimal_of}

grows : (n : ℕ) (bs : List ℕ) → n ≤ value n bs
grows n [] = le_refl n
grows n (b ∷ bs) = let i : n * 10 + (b - 48) ≤ value (n * 10 + (b - 48)) bs = grows (n * 10 + (b - 48)) bs in omega arith

pub too_great : (bs rest : List ℕ) (n d : ℕ) → value 0 bs ≡ value n (d ∷ rest) → 2147483647 < n * 10 + (d - 48) → decimal_of bs ≡ None
too_great bs rest n d e h =
    let i : n * 10 + (d - 48) ≤ value (n * 10 + (d - 48)) rest = grows (n * 10 + (d - 48)) rest in
    let j : 2147483647 < value 0 bs = subst (λ v. 2147483647 < v) (sym e) (omega arith) in
    rw (lt-leb (value 0 bs) 2147483647 j) refl
