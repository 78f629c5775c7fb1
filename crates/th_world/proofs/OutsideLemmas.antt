-- For callers of a source and of files: a call's clauses in the forms that a run uses.
use Rattle.std.proofs.Common.{◌≡◌, ◌≢◌, ℕ, true, false, List, [], ◌∷◌, Option, None, Some, option_map, IfSome, MatchBool, refl, cond}
use Rattle.std.specs.Str.{bytes_eq}
use Rattle.std.specs.Cmp.Lexicographic.{told_text}
use Rattle.th_world.specs.Outside.{first_byte, without_first, with_file}

-- a byte was given: what was left is that byte and then what is left now
pub took_byte : (before after : Option (List ℕ)) (b : ℕ) → IfSome before (λ bytes. Some b ≡ first_byte bytes) → after ≡ option_map without_first before → before ≡ option_map (λ bytes. b ∷ bytes) after
took_byte None after b first rest = rw rest refl
took_byte (Some []) after b first rest = cc
took_byte (Some (x ∷ bytes)) after b first rest = cc

-- the end was found: nothing changed
pub took_end : (before after : Option (List ℕ)) → IfSome before (λ bytes. None ≡ first_byte bytes) → after ≡ option_map without_first before → after ≡ before
took_end None after first rest = rest
took_end (Some []) after first rest = rest
took_end (Some (x ∷ bytes)) after first rest = cc

-- the end was found: no byte was left
pub end_is_empty : (bytes : List ℕ) → None ≡ first_byte bytes → bytes ≡ []
end_is_empty [] first = refl
end_is_empty (x ∷ bytes) first = cc

-- the name that was written has the bytes
pub with_file-same : (name bytes : List ℕ) (files : List ℕ → Option (List ℕ)) → with_file name bytes files name ≡ Some bytes
with_file-same name bytes files =
    let told : MatchBool (bytes_eq name name) (name ≡ name) (name ≢ name) = told_text name name (bytes_eq name name) refl in
    elim (bytes_eq name name) as (λ b. MatchBool b (name ≡ name) (name ≢ name) → cond b (Some bytes) (files name) ≡ Some bytes) [ true ↦ λ t. refl | false ↦ λ t. absurd (t refl) ] told

-- every other name has the bytes that it had
pub with_file-other : (name bytes : List ℕ) (files : List ℕ → Option (List ℕ)) (q : List ℕ) → name ≢ q → with_file name bytes files q ≡ files q
with_file-other name bytes files q other =
    let told : MatchBool (bytes_eq name q) (name ≡ q) (name ≢ q) = told_text name q (bytes_eq name q) refl in
    elim (bytes_eq name q) as (λ b. MatchBool b (name ≡ q) (name ≢ q) → cond b (Some bytes) (files q) ≡ files q) [ true ↦ λ t. absurd (other t) | false ↦ λ t. refl ] told
