-- The segments of a loadable file are lawful.
use Rattle.std.proofs.Common.{◌≡◌, ℕ, ◌+◌, ◌<◌, ◌≤◌, List, [], ◌∷◌, length, get_or, drop, map, Some, None, true, refl, sym, ◌∙◌, subst, ⊎_elim, lit<, arith}
use Rattle.std.specs.List.{list_all}
use Rattle.std.proofs.lemmas.Bool.{and_from, and_parts, cases_Bool, leb-true}
use Rattle.std.proofs.lemmas.List.{length-map, length-take, get_or-map}
use Rattle.std.proofs.lemmas.List.Elements.{All-map}
use Rattle.th_elf.specs.declared.header.Header.{Header}
use Rattle.th_elf.specs.declared.error.Field.{Field}
use Rattle.th_elf.specs.declared.error.Field.TheVariants as field
use Rattle.th_elf.specs.declared.segments.Segment.{Segment}
use Rattle.th_elf.specs.Loadable.{meets, first_of, first_failing, fields, is_placed, are_all_apart, loaded_headers, segment_of, segments_of}
use Rattle.th_elf.specs.Lawful.{HasAddress, NoneInCommon, AreLawful}
use Rattle.th_elf.proofs.Judged.{passed, failed}
use Rattle.th_elf.proofs.Apart.{Apart, all_at, apart_cases, pairs_from}

-- where some fields have no failing one, each is met
all_met : (file : List ℕ) (fs : List Field) → first_of file fs ≡ None → list_all (meets file) fs ≡ true
all_met file [] none = refl
all_met file (f ∷ fs) none =
    ⊎_elim
    (λ met. and_from _ _ met (all_met file fs (sym (passed file f fs met) ∙ none)))
    (λ unmet. let wrong : Some f ≡ None = sym (failed file f fs unmet) ∙ none in absurd (cc))
    (cases_Bool (meets file f))

-- what a loadable file says of its segments
segments_met : (file : List ℕ) → first_failing file ≡ None → meets file field.Segment ≡ true
unfolding first_failing
segments_met file none = all_at (meets file) fields 9 field.Length (all_met file fields none) (lit< tt)

no_header : Header
no_header = record { kind = 0; offset = 0; vaddr = 0; filesz = 0; memsz = 0; flags = 0 }

filled : (file : List ℕ) (h : Header) → is_placed file h ≡ true → length (segment_of file h).bytes ≤ (segment_of file h).size
unfolding segment_of
filled file h placed =
    let fits : h.filesz ≤ h.memsz = leb-true _ _ (and_parts _ _ (and_parts _ _ placed).0).0 in
    omega (arith, length-take h.filesz (drop h.offset file))

placed_low : (file : List ℕ) (h : Header) → is_placed file h ≡ true → h.vaddr + h.memsz ≤ 0x08000000
placed_low file h placed = leb-true _ _ (and_parts _ _ placed).1

low : (file : List ℕ) (h : Header) → is_placed file h ≡ true → (a : ℕ) → HasAddress (segment_of file h) a → a < 0x08000000
unfolding segment_of
low file h placed a has =
    let below = placed_low file h placed in
    omega arith

none_in_common : (file : List ℕ) (h k : Header) → Apart h k → NoneInCommon (segment_of file h) (segment_of file k)
unfolding segment_of
none_in_common file h k apart a in_h in_k = ⊎_elim (λ l. omega arith) (λ r. omega arith) (apart_cases h k apart)

lawful_of : (file : List ℕ) (hs : List Header) → list_all (is_placed file) hs ≡ true → are_all_apart hs ≡ true → AreLawful (map (segment_of file) hs)
lawful_of file hs placed apart = record {
  filled = All-map (λ s. length s.bytes ≤ s.size) (segment_of file) hs (λ k d lt. filled file (get_or hs k d) (all_at (is_placed file) hs k d placed lt));
  low = All-map (λ s. (a : ℕ) → HasAddress s a → a < 0x08000000) (segment_of file) hs (λ k d lt. low file (get_or hs k d) (all_at (is_placed file) hs k d placed lt));
  apart = λ i j d lt below.
      let lj : j < length hs = subst (λ n. j < n) (length-map hs (segment_of file)) below in
      let li : i < length hs = omega arith in
      let h = get_or hs i no_header in
      let k = get_or hs j no_header in
      let two : NoneInCommon (segment_of file h) (segment_of file k) = none_in_common file h k (pairs_from hs apart i j no_header lt lj) in
      let one = subst (λ (s : Segment). NoneInCommon s (segment_of file k)) (sym (get_or-map (segment_of file) hs i no_header d li)) two in
      subst (λ (s : Segment). NoneInCommon (get_or (map (segment_of file) hs) i d) s) (sym (get_or-map (segment_of file) hs j no_header d lj)) one;
}

-- the segments of a loadable file are lawful
pub loadable_lawful : (file : List ℕ) → first_failing file ≡ None → AreLawful (segments_of file).list
unfolding segments_of
loadable_lawful file none =
    let met : meets file field.Segment ≡ true = segments_met file none in
    lawful_of file (loaded_headers file) (and_parts _ _ met).0 (and_parts _ _ met).1
