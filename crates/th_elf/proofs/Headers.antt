-- The program headers of what is loaded, one after the other.
use Rattle.std.proofs.Common.{◌≡◌, ℕ, suc, ◌+◌, ◌*◌, ◌-◌, ◌<◌, List, [], ◌∷◌, ◌++◌, true, false, sym, ◌∙◌, ap, append_assoc, arith}
use Rattle.std.specs.Prelude.{filter, All}
use Rattle.std.proofs.lemmas.Bool.{cond-true, cond-false, and_parts, ltb-true}
use Rattle.std.proofs.lemmas.List.Elements.{filter_passes}
use Rattle.th_elf.specs.declared.header.Header.{Header}
use Rattle.th_elf.specs.Loadable.{header_at, is_loaded, headers_from, header_count, first_header, loaded_headers}

-- the first of the headers that are left
first_left : (file : List ℕ) (count first i : ℕ) → i < count → headers_from file (count - i) (first + 32 * i) ≡ header_at file (first + 32 * i) ∷ headers_from file (count - (i + 1)) (first + 32 * (i + 1))
first_left file count first i lt =
    let n : count - i ≡ suc (count - (i + 1)) = omega arith in
    let at : first + 32 * i + 32 ≡ first + 32 * (i + 1) = omega arith in
    ap (λ n. headers_from file n (first + 32 * i)) n
    ∙ ap (λ a. header_at file (first + 32 * i) ∷ headers_from file (count - (i + 1)) a) at

pub next_kept : (file : List ℕ) (count first i : ℕ) (before all : List Header) (h : Header) → i < count → h ≡ header_at file (first + 32 * i) → is_loaded h ≡ true → before ++ filter is_loaded (headers_from file (count - i) (first + 32 * i)) ≡ all → (before ++ h ∷ []) ++ filter is_loaded (headers_from file (count - (i + 1)) (first + 32 * (i + 1))) ≡ all
next_kept file count first i before all h lt is kept so_far =
    let rest = headers_from file (count - (i + 1)) (first + 32 * (i + 1)) in
    append_assoc before (h ∷ []) (filter is_loaded rest)
    ∙ ap (λ l. before ++ l) (sym (cond-true (is_loaded h) (h ∷ filter is_loaded rest) (filter is_loaded rest) kept)
    ∙ ap (λ x. filter is_loaded (x ∷ rest)) is ∙ ap (filter is_loaded) (sym (first_left file count first i lt)))
    ∙ so_far

pub next_passed : (file : List ℕ) (count first i : ℕ) (before all : List Header) (h : Header) → i < count → h ≡ header_at file (first + 32 * i) → is_loaded h ≡ false → before ++ filter is_loaded (headers_from file (count - i) (first + 32 * i)) ≡ all → before ++ filter is_loaded (headers_from file (count - (i + 1)) (first + 32 * (i + 1))) ≡ all
next_passed file count first i before all h lt is passed so_far =
    let rest = headers_from file (count - (i + 1)) (first + 32 * (i + 1)) in
    ap (λ l. before ++ l) (sym (cond-false (is_loaded h) (h ∷ filter is_loaded rest) (filter is_loaded rest) passed)
    ∙ ap (λ x. filter is_loaded (x ∷ rest)) is ∙ ap (filter is_loaded) (sym (first_left file count first i lt)))
    ∙ so_far

-- what is loaded has bytes in memory
pub loaded_have_bytes : (file : List ℕ) → All (λ h. 0 < h.memsz) (loaded_headers file)
loaded_have_bytes file k d lt =
    ltb-true _ _ (and_parts _ _ (filter_passes is_loaded (headers_from file (header_count file) (first_header file)) k d lt)).1
