-- The image of a program whose one unit puts bytes: what it is loaded as, and that it agrees with the program.
use Rattle.std.proofs.Common.{◌≡◌, ◌≢◌, ℕ, zero, suc, ◌+◌, ◌*◌, ◌<◌, ◌≤◌, List, [], ◌∷◌, length, map, Some, None, true, false, nat_eq, nat_lt, refl, sym, ap, ◌∙◌, subst, inl, arith, lit≤}
use Rattle.std.specs.Prelude.{AllPairs, codes, slice_set, replicate}
use Rattle.std.proofs.Math.ListN.{length-set}
use Rattle.std.proofs.lemmas.Bool.{ne_eqb, lt-ltb, le-ltb}
use Rattle.std.proofs.lemmas.List.{append-nil, length-map}
use Rattle.std.proofs.lemmas.List.Elements.{All-cons, All-nil}
use Rattle.std.proofs.lemmas.List.Sorted.{IsPermutation-refl}
use Rattle.th_runs.specs.Agreement.{Agreement}
use Rattle.th_runs.specs.Stand.{Ended, NoRoom}
use Rattle.th_meaning.specs.Program.{full_name}
use Rattle.th_meaning.specs.Counts.{body_nodes, program_nodes}
use Rattle.th_meaning.specs.Run.{source_run}
use Rattle.th_puts.specs.Form.{AreBytes, PutsBytes, puts_body, puts_program}
use Rattle.th_puts.specs.Runs.{puts_stand, puts_trace, puts_weight}
use Rattle.th_puts.proofs.PutsRun.{runs_as_puts}
use Rattle.th_rv.specs.Table.{encode}
use Rattle.th_rv.specs.Step.{State}
use Rattle.th_elf.specs.declared.image.Image.{Image}
use Rattle.th_elf.specs.declared.image.Map.{Map}
use Rattle.th_elf.specs.Written.{words_bytes, content, written}
use Rattle.th_elf.specs.Loadable.{segments_of}
use Rattle.th_elf.specs.Run.{loaded, region, first_regs, start, names_of, entry_of, Machine, Retired, Retires, running}
use Rattle.th_elf.specs.ReadBack.{one_segment}
use Rattle.th_elf.proofs.Form.{written_segments}
use Rattle.th_link.specs.Agrees.{loaded_image, image_run, IsCodeAddress, Agrees}
use Rattle.th_link.specs.Ends.{EndsInTime}
use Rattle.th_link.specs.Puts.{puts_code, code_words, puts_image, IsLawful}
use Rattle.th_link.proofs.Fetch.{code_area, full_area}
use Rattle.th_link.proofs.Spots.{Before, Stands}
use Rattle.th_link.proofs.Follows as follows
use Rattle.th_link.proofs.InTime as ending

-- how many words the code has
pub length_code : (bytes : List ℕ) → length (code_words (puts_code bytes)) ≡ 3 * length bytes + 2
length_code [] = refl
length_code (b ∷ left) = ap (λ n. suc (suc (suc n))) (length_code left) ∙ omega arith

length_bytes : (words : List ℕ) → length (words_bytes words) ≡ 4 * length words
length_bytes [] = refl
length_bytes (w ∷ words) = ap (λ n. suc (suc (suc (suc n)))) (length_bytes words) ∙ omega arith

-- the machine's state at the start
abbrev first_state : List ℕ → ℕ → State
first_state words room = record { pc = 0x00010000; regs = first_regs room; areas = code_area words ∷ region room ∷ [] }

loaded_one : (c : List ℕ) (room : ℕ) → loaded (one_segment c) room ≡ record { pc = 0x00010000; regs = first_regs room; areas = record { at = 0x00010000; flags = 5; bytes = c } ∷ region room ∷ [] }
unfolding loaded
loaded_one c room = ap (λ a. record { pc = 0x00010000; regs = first_regs room; areas = a ∷ region room ∷ [] }) (full_area 0x00010000 5 c)

-- the image is loaded as its code words
loaded_is : (unit bytes : List ℕ) (room : ℕ) → length bytes ≤ 4999 → loaded_image (puts_image unit bytes) room ≡ first_state (code_words (puts_code bytes)) room
unfolding loaded_image
loaded_is unit bytes room few =
    let words : List ℕ = code_words (puts_code bytes) in
    let inside : content (puts_image unit bytes) ≡ words_bytes words = append-nil (words_bytes words) in
    let size : length (content (puts_image unit bytes)) ≡ 4 * (3 * length bytes + 2) = ap length inside ∙ length_bytes words ∙ ap (λ n. 4 * n) (length_code bytes) in
    let whole : segments_of (written (puts_image unit bytes)) ≡ one_segment (content (puts_image unit bytes)) = written_segments (puts_image unit bytes) refl (omega (arith, size)) (omega (arith, size)) in
    ap (λ s. loaded s room) whole
    ∙ ap (λ c. loaded (one_segment c) room) inside
    ∙ loaded_one (words_bytes words) room

has_32 : (room : ℕ) → length (first_regs room) ≡ 32
unfolding first_regs
has_32 room =
    let zeros : List ℕ = replicate 32 0 in
    let first : ℕ = 0x10000000 in
    length-set (slice_set zeros 10 first) 11 (first + room) ∙ length-set zeros 10 first

-- the machine stands at the first address
starts : (bytes : List ℕ) (room : ℕ) → AreBytes bytes → Stands (puts_code bytes) (region room ∷ []) 0 (Before bytes) (first_state (code_words (puts_code bytes)) room)
starts bytes room all = record {
  done = [];
  split = refl;
  count = refl;
  pc = refl;
  areas = refl;
  regs = has_32 room;
  holds = tt;
  bytes = all;
}

image_starts : (unit bytes : List ℕ) (room : ℕ) → length bytes ≤ 4999 → AreBytes bytes → Stands (puts_code bytes) (region room ∷ []) 0 (Before bytes) (loaded_image (puts_image unit bytes) room)
image_starts unit bytes room few all =
    subst (Stands (puts_code bytes) (region room ∷ []) 0 (Before bytes)) (sym (loaded_is unit bytes room few)) (starts bytes room all)

small : (bytes : List ℕ) → length bytes ≤ 4999 → length (puts_code bytes) ≤ 1000000
small bytes few = omega (arith, length_code bytes, length-map (puts_code bytes) encode)

-- the unit's name is that of the first address alone
named : (unit : List ℕ) (w k : ℕ) → entry_of (names_of (record { at = 0x00010000; unit = unit } ∷ []) (0x00010000 + 4 * k)) ≡ follows.entry_at unit w k
named unit w zero = refl
named unit w (suc k) =
    let other : nat_eq 0x00010000 (0x00010000 + 4 * suc k) ≡ false = ne_eqb 0x00010000 (0x00010000 + 4 * suc k) (omega arith) in
    rw other refl

-- how a program stands that puts bytes, with room for it and with less
with_room : (unit : List ℕ) (w : ℕ) (bytes : List ℕ) (room : ℕ) → w ≤ room → puts_stand unit w bytes (Some room) ≡ record { end = Ended; trace = puts_trace unit bytes }
with_room unit w bytes room le = let there : nat_lt room w ≡ false = le-ltb room w le in rw there refl

without_room : (unit : List ℕ) (w : ℕ) (bytes : List ℕ) (room : ℕ) → room < w → puts_stand unit w bytes (Some room) ≡ record { end = NoRoom; trace = [] }
without_room unit w bytes room lt = let short : nat_lt room w ≡ true = lt-ltb room w lt in rw short refl

-- the program puts the bytes
puts : (m bytes : List ℕ) → AreBytes bytes → length bytes ≤ 4999 → PutsBytes (puts_program m bytes) m bytes
puts m bytes all few = record { is = refl; are_bytes = all; few = few }

-- the source of the program
source_of : (m bytes input : List ℕ) → AreBytes bytes → length bytes ≤ 4999 → follows.Source (full_name m (codes "main")) (puts_weight m bytes) bytes (source_run (puts_program m bytes) input)
source_of m bytes input all few =
    let unit : List ℕ = full_name m (codes "main") in
    let w : ℕ = puts_weight m bytes in
    record {
      unlimited = λ n. runs_as_puts (puts_program m bytes) m bytes (puts m bytes all few) input None n;
      enough = λ room n le. runs_as_puts (puts_program m bytes) m bytes (puts m bytes all few) input (Some room) n ∙ with_room unit w bytes room le;
      short = λ room n lt. runs_as_puts (puts_program m bytes) m bytes (puts m bytes all few) input (Some room) n ∙ without_room unit w bytes room lt;
    }

runs_agree : (m bytes : List ℕ) → AreBytes bytes → length bytes ≤ 4999 → (input : List ℕ) (room : ℕ)
    → Agreement (source_run (puts_program m bytes) input) (image_run (puts_image (full_name m (codes "main")) bytes) room input) room (length (puts_code bytes))
unfolding image_run
runs_agree m bytes all few input room =
    let unit : List ℕ = full_name m (codes "main") in
    follows.agreement unit (puts_weight m bytes) (puts_code bytes) (region room ∷ []) (names_of (puts_image unit bytes).map) (named unit (puts_weight m bytes)) (small bytes few)
    bytes (source_run (puts_program m bytes) input) (start (loaded_image (puts_image unit bytes) room) input) room refl (source_of m bytes input all few)
    ((refl, image_starts unit bytes room few all), refl)

nodes_of : (bytes : List ℕ) → body_nodes (puts_body bytes) ≡ 2 * length bytes
nodes_of [] = refl
nodes_of (b ∷ left) = ap (λ n. 2 + n) (nodes_of left) ∙ omega arith

few_words : (m bytes : List ℕ) → 3 * length bytes + 2 ≤ 64 * program_nodes (puts_program m bytes) + 4096
few_words m bytes = omega (arith, nodes_of bytes)

one_apart : (a : ℕ) → AllPairs (λ x y. x ≢ y) (a ∷ [])
one_apart a i j d lt within = absurd (omega arith)

-- the image agrees with the program
agrees : (m bytes : List ℕ) → AreBytes bytes → length bytes ≤ 4999 → Agrees (puts_image (full_name m (codes "main")) bytes) (puts_program m bytes)
agrees m bytes all few =
    let unit : List ℕ = full_name m (codes "main") in
    let words : ℕ = length (code_words (puts_code bytes)) in
    let InCode : Map → Type 0 = λ u. IsCodeAddress words u.at in
    record {
      few_words = omega (arith, few_words m bytes, length_code bytes);
      each_unit = IsPermutation-refl (unit ∷ []);
      apart = one_apart 0x00010000;
      in_code = All-cons InCode (record { at = 0x00010000; unit = unit }) [] (record { first = lit≤ tt; whole = refl; within = omega (arith, length_code bytes) }) (All-nil InCode);
      runs = λ input room bs size. subst (Agreement (source_run (puts_program m bytes) input) (image_run (puts_image unit bytes) room input) room) (sym (length-map (puts_code bytes) encode)) (runs_agree m bytes all few input room);
    }

pub linked_agrees : (m bytes : List ℕ) (image : Image) → AreBytes bytes → length bytes ≤ 4999 → image ≡ puts_image (full_name m (codes "main")) bytes → Agrees image (puts_program m bytes)
linked_agrees m bytes image all few is = subst (λ x. Agrees x (puts_program m bytes)) (sym is) (agrees m bytes all few)

lawful : (unit bytes : List ℕ) → length bytes ≤ 4999 → IsLawful (puts_image unit bytes)
lawful unit bytes few = record {
  entry = refl;
  some_code = omega (arith, length_code bytes);
  size = omega (arith, length_code bytes);
}

-- it can be written as a file
pub linked_lawful : (unit bytes : List ℕ) (image : Image) → length bytes ≤ 4999 → image ≡ puts_image unit bytes → IsLawful image
linked_lawful unit bytes image few is = subst IsLawful (sym is) (lawful unit bytes few)

-- it has 3 words for each byte, and 2 more
pub linked_few : (unit bytes : List ℕ) (image : Image) → length bytes ≤ 4999 → image ≡ puts_image unit bytes → length image.code ≤ 14999
linked_few unit bytes image few is =
    let words : length image.code ≡ 3 * length bytes + 2 = ap (λ (x : Image). length x.code) is ∙ length_code bytes in
    omega (arith, words, few)

ends : (unit bytes : List ℕ) → AreBytes bytes → length bytes ≤ 4999 → EndsInTime (puts_image unit bytes)
ends unit bytes all few =
    record {
      in_time = λ room size log m retires. ending.in_time (puts_code bytes) (region room ∷ []) (small bytes few) log m (length (code_words (puts_code bytes))) (length-map (puts_code bytes) encode) (after room log m retires);
      never_traps = λ room size log m trapped retires traps. ending.never_traps (puts_code bytes) (region room ∷ []) (small bytes few) (length log) m trapped (after room log m retires) traps;
    }
  where
    after : (room : ℕ) (log : List Retired) (m : Machine) → Retires (running (loaded_image (puts_image unit bytes) room)) log m → ending.Is (puts_code bytes) (region room ∷ []) (small bytes few) (length log) m
    after room log m retires = ending.is_after (puts_code bytes) (region room ∷ []) (small bytes few) (running (loaded_image (puts_image unit bytes) room)) log m (inl (refl, Before bytes, image_starts unit bytes room few all)) retires

-- its run ends by itself
pub linked_ends : (unit bytes : List ℕ) (image : Image) → AreBytes bytes → length bytes ≤ 4999 → image ≡ puts_image unit bytes → EndsInTime image
linked_ends unit bytes image all few is = subst EndsInTime (sym is) (ends unit bytes all few)

-- an image that is entered at its first address
abbrev pub image_with : List ℕ → List ℕ → List Map → Image
image_with words tables units = record { code = words; tables = tables; entry = 0x00010000; map = units }

-- the image that is made of these parts
pub image_of : (unit bytes words tables : List ℕ) (units : List Map) → words ≡ code_words (puts_code bytes) → tables ≡ [] → units ≡ record { at = 0x00010000; unit = unit } ∷ []
    → image_with words tables units ≡ puts_image unit bytes
image_of unit bytes words tables units code none maps = same_image words (code_words (puts_code bytes)) tables [] units (record { at = 0x00010000; unit = unit } ∷ []) code none maps
  where
    same_image : (w x s t : List ℕ) (a b : List Map) → w ≡ x → s ≡ t → a ≡ b → image_with w s a ≡ image_with x t b
    same_image w x s t a b e f g = cc
