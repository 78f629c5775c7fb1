-- The words of an image are fetched from their places.
use Rattle.std.proofs.Common.{◌≡◌, ℕ, zero, suc, ◌+◌, ◌-◌, ◌*◌, ◌/◌, ◌%◌, ◌<◌, List, [], ◌∷◌, ◌++◌, length, Some, true, nat_lt, nat_le, refl, sym, ap, ◌∙◌, subst, arith}
use Rattle.std.specs.Prelude.{slice_get, replicate}
use Rattle.std.proofs.lemmas.Option.{slice_get_within}
use Rattle.std.proofs.lemmas.Bool.{lt-ltb, le-leb}
use Rattle.std.proofs.lemmas.List.{append-nil}
use Rattle.th_rv.specs.Memory.{Area, has, allows, byte_at, number_at}
use Rattle.th_elf.specs.Written.{words_bytes}
use Rattle.th_elf.specs.Run.{area_of}

record Four (bs : List ℕ) (i w : ℕ) : Type 0 where
  b0 : slice_get bs i ≡ Some (w % 256)
  b1 : slice_get bs (i + 1) ≡ Some (w / 256 % 256)
  b2 : slice_get bs (i + 2) ≡ Some (w / 65536 % 256)
  b3 : slice_get bs (i + 3) ≡ Some (w / 16777216 % 256)

four_at : (ws : List ℕ) (k w : ℕ) → slice_get ws k ≡ Some w → Four (words_bytes ws) (4 * k) w
four_at [] k w e = absurd (cc)
four_at (x ∷ ws) zero w e =
    let q : x ≡ w = cc in
    record { b0 = rw q refl; b1 = rw q refl; b2 = rw q refl; b3 = rw q refl }
four_at (x ∷ ws) (suc k) w e =
    let h = four_at ws k w e in
    let e0 : 4 * suc k ≡ suc (suc (suc (suc (4 * k)))) = omega arith in
    let e1 : 4 * suc k + 1 ≡ suc (suc (suc (suc (4 * k + 1)))) = omega arith in
    let e2 : 4 * suc k + 2 ≡ suc (suc (suc (suc (4 * k + 2)))) = omega arith in
    let e3 : 4 * suc k + 3 ≡ suc (suc (suc (suc (4 * k + 3)))) = omega arith in
    record { b0 = rw e0 h.b0; b1 = rw e1 h.b1; b2 = rw e2 h.b2; b3 = rw e3 h.b3 }

-- a byte of the first area
area_byte : (flag : ℕ) (m : Area) (ms : List Area) (a i x : ℕ) → allows flag m.flags ≡ true → a ≡ m.at + i → slice_get m.bytes i ≡ Some x → byte_at flag (m ∷ ms) a ≡ Some x
unfolding has
area_byte flag m ms a i x ok at e =
    let lt = slice_get_within m.bytes i x e in
    let sub : m.at + i - m.at ≡ i = omega arith in
    let h1 : nat_le m.at (m.at + i) ≡ true = le-leb m.at (m.at + i) (omega arith) in
    let h2 : nat_lt i (length m.bytes) ≡ true = lt-ltb i (length m.bytes) lt in
    let here : byte_at flag (m ∷ ms) (m.at + i) ≡ Some x = rw (h1, sub, h2, ok) e in
    subst (λ n. byte_at flag (m ∷ ms) n ≡ Some x) (sym at) here

four_bytes : (flag : ℕ) (ms : List Area) (a b0 b1 b2 b3 : ℕ) → byte_at flag ms a ≡ Some b0 → byte_at flag ms (a + 1) ≡ Some b1 → byte_at flag ms (a + 1 + 1) ≡ Some b2 → byte_at flag ms (a + 1 + 1 + 1) ≡ Some b3 → number_at 4 flag ms a ≡ Some (b0 + 256 * (b1 + 256 * (b2 + 256 * (b3 + 0))))
four_bytes flag ms a b0 b1 b2 b3 e0 e1 e2 e3 = rw (e0, e1, e2, e3) refl

word_back : (v : ℕ) → v < 4294967296 → v % 256 + 256 * (v / 256 % 256 + 256 * (v / 65536 % 256 + 256 * (v / 16777216 % 256 + 0))) ≡ v
word_back v h = omega arith

-- the k-th word of an area of words
word_of_area : (flag at flags : ℕ) (ws : List ℕ) (ms : List Area) (k w : ℕ) → allows flag flags ≡ true → slice_get ws k ≡ Some w → w < 4294967296 → number_at 4 flag (record { at = at; flags = flags; bytes = words_bytes ws } ∷ ms) (at + 4 * k) ≡ Some w
word_of_area flag at flags ws ms k w ok e lt =
    let f = four_at ws k w e in
    let m : Area = record { at = at; flags = flags; bytes = words_bytes ws } in
    four_bytes flag (m ∷ ms) (at + 4 * k) _ _ _ _
    (area_byte flag m ms (at + 4 * k) (4 * k) _ ok refl f.b0)
    (area_byte flag m ms (at + 4 * k + 1) (4 * k + 1) _ ok (omega arith) f.b1)
    (area_byte flag m ms (at + 4 * k + 1 + 1) (4 * k + 2) _ ok (omega arith) f.b2)
    (area_byte flag m ms (at + 4 * k + 1 + 1 + 1) (4 * k + 3) _ ok (omega arith) f.b3)
    ∙ ap Some (word_back w lt)

-- the memory of a segment that is full of bytes
pub full_area : (at flags : ℕ) (bytes : List ℕ) → area_of (record { at = at; flags = flags; size = length bytes; bytes = bytes }) ≡ record { at = at; flags = flags; bytes = bytes }
unfolding area_of
full_area at flags bytes =
    let none : length bytes - length bytes ≡ 0 = omega arith in
    ap (λ n. record { at = at; flags = flags; bytes = bytes ++ replicate n 0 }) none
    ∙ ap (λ b. record { at = at; flags = flags; bytes = b }) (append-nil bytes)

-- the memory of code that is fetched from and loaded from, from 0x00010000 on
abbrev pub code_area : List ℕ → Area
code_area words = record { at = 0x00010000; flags = 5; bytes = words_bytes words }

-- the k-th word of code is fetched from its place
pub fetched : (words : List ℕ) (ms : List Area) (k w : ℕ) → slice_get words k ≡ Some w → w < 4294967296 → number_at 4 1 (code_area words ∷ ms) (0x00010000 + 4 * k) ≡ Some w
unfolding allows
fetched words ms k w e lt = word_of_area 1 0x00010000 5 words ms k w refl e lt
