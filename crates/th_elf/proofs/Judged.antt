-- How the first failing field is found, condition by condition.
use Rattle.std.proofs.Common.{◌≡◌, ℕ, List, [], ◌∷◌, Some, None, true, false, ◌&&◌, ◌++◌, refl, sym, ◌∙◌, ap, ⊎_elim}
use Rattle.std.specs.List.{list_all}
use Rattle.std.proofs.lemmas.Bool.{and_from, and_left, and_right, cases_Bool, cond-true, cond-false, not_from_true, not_from_false}
use Rattle.th_elf.specs.declared.error.Field.{Field}
use Rattle.th_elf.specs.declared.error.Field.TheVariants as field
use Rattle.th_elf.specs.Loadable.{meets, first_of, first_failing, header_fields, fields, is_placed, are_all_apart, loaded_headers}
use Rattle.th_elf.specs.declared.header.Header.{Header}

-- a condition that is met is passed
pub passed : (file : List ℕ) (f : Field) (fs : List Field) → meets file f ≡ true → first_of file (f ∷ fs) ≡ first_of file fs
passed file f fs met = cond-false _ _ _ (not_from_true _ met)

-- a condition that isn't met is the first
pub failed : (file : List ℕ) (f : Field) (fs : List Field) → meets file f ≡ false → first_of file (f ∷ fs) ≡ Some f
failed file f fs unmet = cond-true _ _ _ (not_from_false _ unmet)

-- a file that meets the conditions on some fields has no failing one among them
pub all_passed : (file : List ℕ) (fs : List Field) → ((f : Field) → meets file f ≡ true) → first_of file fs ≡ None
all_passed file [] all = refl
all_passed file (f ∷ fs) all = passed file f fs (all f) ∙ all_passed file fs all

-- a file that meets every condition has no failing field
pub none_failing : (file : List ℕ) → ((f : Field) → meets file f ≡ true) → first_failing file ≡ None
unfolding first_failing
none_failing file all = all_passed file fields all

-- Fields judged before others.

first_of_some : (file : List ℕ) (fs gs : List Field) (f : Field) → first_of file fs ≡ Some f → first_of file (fs ++ gs) ≡ Some f
first_of_some file [] gs f is = absurd (cc)
first_of_some file (x ∷ fs) gs f is =
    ⊎_elim
    (λ met. passed file x (fs ++ gs) met ∙ first_of_some file fs gs f (sym (passed file x fs met) ∙ is))
    (λ unmet. failed file x (fs ++ gs) unmet ∙ sym (failed file x fs unmet) ∙ is)
    (cases_Bool (meets file x))

first_of_none : (file : List ℕ) (fs gs : List Field) → first_of file fs ≡ None → first_of file (fs ++ gs) ≡ first_of file gs
first_of_none file [] gs is = refl
first_of_none file (x ∷ fs) gs is =
    ⊎_elim
    (λ met. passed file x (fs ++ gs) met ∙ first_of_none file fs gs (sym (passed file x fs met) ∙ is))
    (λ unmet. let wrong : Some x ≡ None = sym (failed file x fs unmet) ∙ is in absurd (cc))
    (cases_Bool (meets file x))

-- a fault in the header is the first
pub fault_in_header : (file : List ℕ) (f : Field) → Some f ≡ first_of file header_fields → first_failing file ≡ Some f
unfolding first_failing
fault_in_header file f is = first_of_some file header_fields (field.Segment ∷ []) f (sym is)

-- a fault in the segments is the first where there is none in the header
pub fault_in_segments : (file : List ℕ) → None ≡ first_of file header_fields → meets file field.Segment ≡ false → first_failing file ≡ Some field.Segment
unfolding first_failing
fault_in_segments file is unmet = first_of_none file header_fields (field.Segment ∷ []) (sym is) ∙ failed file field.Segment [] unmet

-- a file with no fault in either is loadable
pub no_fault : (file : List ℕ) → None ≡ first_of file header_fields → meets file field.Segment ≡ true → first_failing file ≡ None
unfolding first_failing
no_fault file is met = first_of_none file header_fields (field.Segment ∷ []) (sym is) ∙ passed file field.Segment [] met

-- The condition on segments, by the list of those that are loaded.

pub segments_unplaced : (file : List ℕ) (hs : List Header) → hs ≡ loaded_headers file → list_all (is_placed file) hs ≡ false → meets file field.Segment ≡ false
segments_unplaced file hs is fails = ap (λ l. list_all (is_placed file) l && are_all_apart l) (sym is) ∙ and_left _ (are_all_apart hs) fails

pub segments_shared : (file : List ℕ) (hs : List Header) → hs ≡ loaded_headers file → are_all_apart hs ≡ false → meets file field.Segment ≡ false
segments_shared file hs is fails = ap (λ l. list_all (is_placed file) l && are_all_apart l) (sym is) ∙ and_right (list_all (is_placed file) hs) _ fails

pub segments_lawful : (file : List ℕ) (hs : List Header) → hs ≡ loaded_headers file → list_all (is_placed file) hs ≡ true → are_all_apart hs ≡ true → meets file field.Segment ≡ true
segments_lawful file hs is placed apart = ap (λ l. list_all (is_placed file) l && are_all_apart l) (sym is) ∙ and_from _ _ placed apart
