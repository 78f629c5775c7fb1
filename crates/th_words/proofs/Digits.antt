-- Numbers as words.
use Rattle.std.proofs.Common.{rules, ◌≡◌, ℕ, ◌%◌, ◌<◌, ◌≤◌, List, length, refl, sym, ◌∙◌, ap, subst, arith}
use Rattle.std.specs.Prelude.{Bool, true, false, ◌&&◌, nat_eq, nat_lt, nat_le, Some, None, Result, if◌then◌else◌}
use Rattle.std.specs.Result.{result_ok}
use Rattle.std.specs.List.{list_all}
use Rattle.std.specs.Char.{is_ascii_digit}
use Rattle.std.specs.Str.Parse.{ParsesUnsigned}
use Rattle.std.proofs.lemmas.Str.Parse.{IsNumeralModel, numerals_by_weight, parse_gives, digits_value_short}
use Rattle.std.proofs.lemmas.Bool.Decides.{nat_tests}
use Rattle.std.proofs.lemmas.Bool.{leb-true, ltb-true, eqb-true}
use Rattle.std.proofs.lemmas.Option.{option_and_then_some}
use Rattle.th_words.specs.Words.{decimal_value, IsNumber, IsRegion, IsSteps}
use Rattle.th_words.specs.Reading.{number_of, region_of, steps_of, lawful_region, lawful_steps}

-- a value that a test lets through
pub let_through : {A : Type 0} (test : Bool) (x y : A) → (if test then Some x else None) ≡ Some y → (test ≡ true) × (x ≡ y)
let_through true x y is = (refl, cc)
let_through false x y is = cc

both_true : (a b : Bool) → a && b ≡ true → (a ≡ true) × (b ≡ true)
both_true true b is = (refl, is)
both_true false b is = cc

own : IsNumeralModel (λ ds. list_all is_ascii_digit ds ≡ true) decimal_value
own = numerals_by_weight _ (search rules) _ (search rules)

-- a word of digits is the number that they write
pub number_written : (word : List ℕ) → 0 < length word → length word ≤ 13 → list_all is_ascii_digit word ≡ true → number_of word ≡ Some (decimal_value word)
number_written word some few digits = rw digits (grind (arith, nat_tests))

-- what `parse` gives for it
pub parsed_number : {E : Type 0} (word : List ℕ) (r : Result ℕ E) → ParsesUnsigned 64 10 word r → 0 < length word → length word ≤ 13 → list_all is_ascii_digit word ≡ true → result_ok r ≡ number_of word
parsed_number word r parsed some few digits =
    let short = digits_value_short own word 13 digits few in
    rw (parse_gives own 64 word r parsed digits some (omega arith)) (sym (number_written word some few digits))

-- a number as a word, both ways
pub number_means : (word : List ℕ) (n : ℕ) → number_of word ≡ Some n → IsNumber word n
number_means word n is =
    let through = let_through (nat_lt 0 (length word) && nat_le (length word) 13 && list_all is_ascii_digit word) (decimal_value word) n is in
    let outer = both_true (nat_lt 0 (length word) && nat_le (length word) 13) (list_all is_ascii_digit word) through.0 in
    let inner = both_true (nat_lt 0 (length word)) (nat_le (length word) 13) outer.0 in
    record { some = ltb-true 0 (length word) inner.0; few = leb-true (length word) 13 inner.1; digits = outer.1; value = sym through.1 }

pub number_read : (word : List ℕ) (n : ℕ) → IsNumber word n → number_of word ≡ Some n
number_read word n is = number_written word is.some is.few is.digits ∙ ap Some (sym is.value)

region_lawful : (n m : ℕ) → lawful_region n ≡ Some m → (n ≡ m) × (4096 ≤ n) × (n ≤ 67108864) × (n % 16 ≡ 0)
region_lawful n m is =
    let through = let_through (nat_le 4096 n && nat_le n 67108864 && nat_eq (n % 16) 0) n m is in
    let outer = both_true (nat_le 4096 n && nat_le n 67108864) (nat_eq (n % 16) 0) through.0 in
    let inner = both_true (nat_le 4096 n) (nat_le n 67108864) outer.0 in
    (through.1, leb-true 4096 n inner.0, leb-true n 67108864 inner.1, eqb-true (n % 16) 0 outer.1)

steps_lawful : (n m : ℕ) → lawful_steps n ≡ Some m → (n ≡ m) × (n ≤ 1099511627776)
steps_lawful n m is =
    let through = let_through (nat_le n 1099511627776) n m is in
    (through.1, leb-true n 1099511627776 through.0)

lawful_size : (n : ℕ) → 4096 ≤ n → n ≤ 67108864 → n % 16 ≡ 0 → lawful_region n ≡ Some n
lawful_size n least most aligned = grind (arith, nat_tests)

lawful_count : (n : ℕ) → n ≤ 1099511627776 → lawful_steps n ≡ Some n
lawful_count n most = grind (arith, nat_tests)

-- a size of the region as a word, both ways
pub region_means : (word : List ℕ) (n : ℕ) → region_of word ≡ Some n → IsRegion word n
region_means word n is =
    option_and_then_some lawful_region (number_of word) n is (λ m number lawful.
    let facts = region_lawful m n lawful in
    subst (λ (k : ℕ). IsRegion word k) facts.0 (record { number = number_means word m number; least = facts.1; most = facts.2; aligned = facts.3 }))

pub region_read : (word : List ℕ) (n : ℕ) → IsRegion word n → region_of word ≡ Some n
region_read word n is = rw (number_read word n is.number) (lawful_size n is.least is.most is.aligned)

-- a number of steps as a word, both ways
pub steps_means : (word : List ℕ) (n : ℕ) → steps_of word ≡ Some n → IsSteps word n
steps_means word n is =
    option_and_then_some lawful_steps (number_of word) n is (λ m number lawful.
    let facts = steps_lawful m n lawful in
    subst (λ (k : ℕ). IsSteps word k) facts.0 (record { number = number_means word m number; most = facts.1 }))

pub steps_read : (word : List ℕ) (n : ℕ) → IsSteps word n → steps_of word ≡ Some n
steps_read word n is = rw (number_read word n is.number) (lawful_count n is.most)
