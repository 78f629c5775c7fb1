-- Bytes from an address on, one after the other.
use Rattle.std.proofs.Common.{◌≡◌, ℕ, suc, ◌+◌, ◌-◌, ◌<◌, List, [], ◌∷◌, ◌++◌, Option, Some, None, refl, sym, ap, ◌∙◌, append_assoc, arith}
use Rattle.std.specs.Prelude.{option_map}
use Rattle.th_rv.specs.Memory.{Area, byte_at, bytes_at, with_first}

bytes_step : (areas : List Area) (a n i : ℕ) → i < n → bytes_at (n - i) areas (a + i) ≡ with_first (byte_at 4 areas (a + i)) (bytes_at (n - (i + 1)) areas (a + (i + 1)))
bytes_step areas a n i lt =
    let e : n - i ≡ suc (n - (i + 1)) = omega arith in
    let f : (a + i) + 1 ≡ a + (i + 1) = omega arith in
    ap (λ k. bytes_at k areas (a + i)) e ∙ ap (λ b. with_first (byte_at 4 areas (a + i)) (bytes_at (n - (i + 1)) areas b)) f

one_byte : (front : List ℕ) (b : ℕ) (o : Option (List ℕ)) → option_map (λ rest. front ++ rest) (with_first (Some b) o) ≡ option_map (λ rest. (front ++ b ∷ []) ++ rest) o
one_byte front b None = refl
one_byte front b (Some rest) = ap Some (sym (append_assoc front (b ∷ []) rest))

-- a further byte is there
pub bytes_go_on : (areas : List Area) (a n i b : ℕ) (front more : List ℕ) (all : Option (List ℕ)) → i < n → Some b ≡ byte_at 4 areas (a + i) → more ≡ front ++ b ∷ [] → all ≡ option_map (λ rest. front ++ rest) (bytes_at (n - i) areas (a + i)) → all ≡ option_map (λ rest. more ++ rest) (bytes_at (n - (i + 1)) areas (a + (i + 1)))
bytes_go_on areas a n i b front more all lt there is far =
    far ∙ ap (λ o. option_map (λ rest. front ++ rest) o) (bytes_step areas a n i lt ∙ ap (λ o. with_first o (bytes_at (n - (i + 1)) areas (a + (i + 1)))) (sym there))
    ∙ one_byte front b (bytes_at (n - (i + 1)) areas (a + (i + 1)))
    ∙ ap (λ l. option_map (λ rest. l ++ rest) (bytes_at (n - (i + 1)) areas (a + (i + 1)))) (sym is)
