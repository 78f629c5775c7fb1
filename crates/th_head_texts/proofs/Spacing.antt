-- Words with spaces between them, put together.
use Rattle.std.proofs.Common.{◌≡◌, ℕ, Bool, true, false, List, [], ◌∷◌, ◌++◌, Option, None, Some, refl, sym, ◌∙◌, ap, append_assoc}
use Rattle.std.proofs.lemmas.List.{append-nil}
use Rattle.std.specs.List.{join_with_byte}
use Rattle.th_head_texts.specs.Heads.{full_words}
use Rattle.th_head_texts.specs.Spaced.{after_space, spaced}

-- words joined by spaces
pub joined_spaced : (ws : List (List ℕ)) → join_with_byte 32 ws ≡ spaced false ws
joined_spaced [] = refl
joined_spaced (w ∷ []) = sym (append-nil w)
joined_spaced (w ∷ v ∷ vs) =
    let i : join_with_byte 32 (v ∷ vs) ≡ v ++ spaced true vs = joined_spaced (v ∷ vs) in
    ap (λ q. w ++ (32 ∷ q)) i

-- one word
pub spaced_one : (begun : Bool) (w : List ℕ) → spaced begun (w ∷ []) ≡ after_space begun w
spaced_one begun w = append-nil (after_space begun w)

-- words after some others
spaced_after : (begun : Bool) (u : List ℕ) (us ws : List (List ℕ)) → spaced begun ((u ∷ us) ++ ws) ≡ spaced begun (u ∷ us) ++ spaced true ws
spaced_after begun u [] ws = ap (λ q. q ++ spaced true ws) (sym (append-nil (after_space begun u)))
spaced_after begun u (v ∷ vs) ws =
    ap (λ q. after_space begun u ++ q) (spaced_after true v vs ws) ∙ sym (append_assoc (after_space begun u) (spaced true (v ∷ vs)) (spaced true ws))

-- words after those of one token
pub spaced_words : (begun : Bool) (i : Option (List ℕ)) (w : List ℕ) (ws : List (List ℕ)) → spaced begun (full_words i w ++ ws) ≡ spaced begun (full_words i w) ++ spaced true ws
spaced_words begun None w ws = spaced_after begun w [] ws
spaced_words begun (Some i) w ws = spaced_after begun i ((36 ∷ []) ∷ w ∷ []) ws
