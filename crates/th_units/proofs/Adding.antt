-- Units that are added to a table.
use Rattle.std.proofs.Common.{◌≡◌, refl, sym, ap, ◌∙◌, subst, ℕ, zero, suc, ◌+◌, ◌<◌, map, take, length, get_or, append_assoc, append-nil, Bool, true, false, cond, List, [], ◌∷◌, ◌++◌, Option, Some, None, option_map, slice_get, bytes_eq, arith}
use Rattle.std.specs.List.{find}
use Rattle.std.specs.HashMap as hash
use Rattle.std.specs.HashMap.{HashMap}
use Rattle.std.proofs.lemmas.Map.Text.{hash_map_updates_str}
use Rattle.std.proofs.lemmas.Slice.Eq.{bytes_eq-Decides}
use denote.Ref.{Bor}
use Rattle.std.proofs.lemmas.List.{map-append, take_more}
use Rattle.std.proofs.lemmas.Grind.{flat_map-append}
use Rattle.th_meaning.specs.declared.declared.CoreUnit.{CoreUnit}
use Rattle.th_meaning.specs.declared.declared.CoreModule.{CoreModule}
use Rattle.th_meaning.specs.View.{unit_of, program_of}
use Rattle.th_meaning.specs.Counts.{unit_locals, call_weight}
use Rattle.th_meaning.specs.Program.{ProgramUnit, Program, units_of, unit_named}
use Rattle.th_units.specs.declared.units.UnitRow.{UnitRow}
use Rattle.th_units.specs.Units.{or_else, number_in, unit_number, IsRow, RowsAre, RowIs, Named, Holds, IsNamed, FindsUnit}

-- rows and one more
pub rows_snoc : (n : ℕ) (rows : List UnitRow) (us : List ProgramUnit) (row : UnitRow) (u : ProgramUnit) → RowsAre n rows us → IsRow (n + length rows) row u → RowsAre n (rows ++ row ∷ []) (us ++ u ∷ [])
rows_snoc n [] [] row u h is = let e : n + 0 ≡ n = omega arith in (subst (λ k. IsRow k row u) e is, tt)
rows_snoc n [] (v ∷ us) row u h is = absurd h
rows_snoc n (r ∷ rows) [] row u h is = absurd h
rows_snoc n (r ∷ rows) (v ∷ us) row u h is = let e : n + suc (length rows) ≡ suc n + length rows = omega arith in (h.0, rows_snoc (suc n) rows us row u h.1 (subst (λ k. IsRow k row u) e is))

-- there are as many rows as units
pub rows_length : (n : ℕ) (rows : List UnitRow) (us : List ProgramUnit) → RowsAre n rows us → length rows ≡ length us
rows_length n [] [] h = refl
rows_length n [] (v ∷ us) h = absurd h
rows_length n (r ∷ rows) [] h = absurd h
rows_length n (r ∷ rows) (v ∷ us) h = ap suc (rows_length (suc n) rows us h.1)

-- the row at a place
pub rows_get : (n : ℕ) (rows : List UnitRow) (us : List ProgramUnit) (i : ℕ) → RowsAre n rows us → RowIs (n + i) (slice_get rows i) (slice_get us i)
rows_get n [] [] i h = tt
rows_get n [] (v ∷ us) i h = absurd h
rows_get n (r ∷ rows) [] i h = absurd h
rows_get n (r ∷ rows) (v ∷ us) zero h = let e : n ≡ n + 0 = omega arith in subst (λ k. IsRow k r v) e h.0
rows_get n (r ∷ rows) (v ∷ us) (suc i) h = let e : suc n + i ≡ n + suc i = omega arith in subst (λ k. RowIs k (slice_get rows i) (slice_get us i)) e (rows_get (suc n) rows us i h.1)

-- the row of a number
pub row_at : (rows : List UnitRow) (us : List ProgramUnit) (i : ℕ) → RowsAre 0 rows us → RowIs i (slice_get rows i) (slice_get us i)
row_at rows us i h = let e : 0 + i ≡ i = omega arith in subst (λ k. RowIs k (slice_get rows i) (slice_get us i)) e (rows_get 0 rows us i h)

number_step : (b c : Bool) (k : ℕ) (l m : Option ℕ) → l ≡ or_else m (cond c (Some k) None)
    → cond b (Some 0) (option_map suc l) ≡ or_else (cond b (Some 0) (option_map suc m)) (cond c (Some (suc k)) None)
number_step true c k l m h = refl
number_step false true k l None h = rw h refl
number_step false false k l None h = rw h refl
number_step false c k l (Some n) h = rw h refl

-- the number of a name among items and one more
pub number_snoc : {A : Type 0} → (named : A → List ℕ) (xs : List A) (x : A) (name : List ℕ) → number_in named (xs ++ x ∷ []) name ≡ or_else (number_in named xs name) (cond (bytes_eq (named x) name) (Some (length xs)) None)
number_snoc named [] x name = refl
number_snoc named (y ∷ xs) x name = number_step (bytes_eq (named y) name) (bytes_eq (named x) name) (length xs) (number_in named (xs ++ x ∷ []) name) (number_in named xs name) (number_snoc named xs x name)

-- a unit is added
pub adds_unit : {S : Type 0} → (rows : List UnitRow) (m n : HashMap (Bor (List ℕ)) ℕ S) (row : UnitRow) (u : ProgramUnit) (done : List ProgramUnit) → IsRow (length rows) row u
    → Named u.name row.number m n → Holds rows m done → Holds (rows ++ row ∷ []) n (done ++ u ∷ [])
adds_unit rows m n row u done is names holds = record {
  rows = rows_snoc 0 rows done row u holds.rows (let e : length rows ≡ 0 + length rows = omega arith in subst (λ k. IsRow k row u) e is);
  numbers = λ name.
      names.names name
      ∙ ap (λ o. or_else o (cond (bytes_eq u.name name) (Some row.number) None)) (holds.numbers name)
      ∙ ap (λ k. or_else (number_in (λ v. v.name) done name) (cond (bytes_eq u.name name) (Some k) None)) (is.number ∙ rows_length 0 rows done holds.rows)
      ∙ sym (number_snoc (λ v. v.name) done u name);
}

-- the same by the values that the code has
pub adds_unit_so : {S : Type 0} → (rows more : List UnitRow) (m n : HashMap (Bor (List ℕ)) ℕ S) (row : UnitRow) (u : ProgramUnit) (done : List ProgramUnit) (count : ℕ) (name : List ℕ)
    → count ≡ length rows → more ≡ rows ++ row ∷ [] → name ≡ u.name → IsRow count row u → Named name row.number m n → Holds rows m done → Holds more n (done ++ u ∷ [])
adds_unit_so rows more m n row u done count name counts is names row_is named holds =
    subst (λ xs. Holds xs n (done ++ u ∷ [])) (sym is)
    (adds_unit rows m n row u done (subst (λ k. IsRow k row u) counts row_is) (subst (λ x. Named x row.number m n) names named) holds)

new_name : {X : Type 0} → (b : Bool) (x : X) (o : Option X) → (b ≡ true → o ≡ None) → cond b (Some x) o ≡ or_else o (cond b (Some x) None)
new_name true x None never = refl
new_name true x (Some k) never = let e : Some k ≡ None = never refl in cc
new_name false x None never = refl
new_name false x (Some k) never = refl

-- a name that isn't there gets an item
pub gets_name : {X S : Type 0} → (name : List ℕ) (x : X) (m n : HashMap (Bor (List ℕ)) X S)
    → hash.UpdatesBy (λ x y. bytes_eq x.now y.now) (λ k. bytes_eq name k.now) m n (Some x)
    → hash.get_by (λ k. bytes_eq name k.now) m ≡ None → Named name x m n
gets_name name x m n updates absent = record {
  names = λ other.
      hash_map_updates_str name m n (Some x) updates other
      ∙ new_name (bytes_eq name other) x (hash.get_by (λ k. bytes_eq other k.now) m)
      (λ e. subst (λ q. hash.get_by (λ k. bytes_eq q k.now) m ≡ None) ((bytes_eq-Decides name other).0 e) absent);
}

old_name : {X : Type 0} → (b : Bool) (x : X) (o : Option X) → (b ≡ true → (k : X) × (o ≡ Some k)) → o ≡ or_else o (cond b (Some x) None)
old_name {X = X} true x None there = let h : (k : X) × (None ≡ Some k) = there refl in let e : None ≡ Some h.0 = h.1 in cc
old_name true x (Some k) there = refl
old_name false x None there = refl
old_name false x (Some k) there = refl

-- a name that is there keeps its item
pub keeps_name : {X S : Type 0} → (name : List ℕ) (x there : X) (m : HashMap (Bor (List ℕ)) X S)
    → hash.get_by (λ k. bytes_eq name k.now) m ≡ Some there → Named name x m m
keeps_name name x there m is = record {
  names = λ other. old_name (bytes_eq name other) x (hash.get_by (λ k. bytes_eq other k.now) m)
      (λ e. (there, subst (λ q. hash.get_by (λ k. bytes_eq q k.now) m ≡ Some there) ((bytes_eq-Decides name other).0 e) is));
}

-- one unit more
pub units_more : (done : List ProgramUnit) (us : List CoreUnit) (i : ℕ) (u : CoreUnit) → i < length us → u ≡ get_or us i u
    → (done ++ map unit_of (take i us)) ++ unit_of u ∷ [] ≡ done ++ map unit_of (take (i + 1) us)
units_more done us i u below is =
    append_assoc done (map unit_of (take i us)) (unit_of u ∷ [])
    ∙ ap (λ x. done ++ x) (sym (map-append unit_of (take i us) (u ∷ [])))
    ∙ ap (λ x. done ++ map unit_of (take i us ++ x ∷ [])) is
    ∙ ap (λ xs. done ++ map unit_of xs) (sym (take_more us i u below))

-- one module's units more
pub modules_more : (ms : List CoreModule) (i : ℕ) (m : CoreModule) → i < length ms → m ≡ get_or ms i m
    → units_of (program_of (take i ms)) ++ map unit_of m.units.items ≡ units_of (program_of (take (i + 1) ms))
modules_more ms i m below is = sym
    (ap (λ xs. units_of (program_of xs)) (take_more ms i m below)
    ∙ ap (λ x. units_of (program_of (take i ms ++ x ∷ []))) (sym is)
    ∙ simp (map-append, flat_map-append, append-nil))

none_step : {A : Type 0} → (b : Bool) (x : A) (l : Option ℕ) (f : Option A) → (l ≡ None → f ≡ None) → cond b (Some 0) (option_map suc l) ≡ None → cond b (Some x) f ≡ None
none_step true x l f ih h = cc
none_step false x None f ih h = ih refl
none_step false x (Some k) f ih h = cc

-- a name without a number has no item
pub none_named : {A : Type 0} → (named : A → List ℕ) (xs : List A) (name : List ℕ) → number_in named xs name ≡ None → find (λ x. bytes_eq (named x) name) xs ≡ None
none_named named [] name h = refl
none_named named (x ∷ xs) name h = none_step (bytes_eq (named x) name) x (number_in named xs name) (find (λ x. bytes_eq (named x) name) xs) (none_named named xs name) h

some_step : {A : Type 0} → (b : Bool) (x : A) (xs : List A) (l : Option ℕ) (f : Option A) (n : ℕ)
    → ((k : ℕ) → l ≡ Some k → (y : A) × (slice_get xs k ≡ Some y) × (f ≡ Some y)) → cond b (Some 0) (option_map suc l) ≡ Some n
    → (y : A) × (slice_get (x ∷ xs) n ≡ Some y) × (cond b (Some x) f ≡ Some y)
some_step true x xs l f zero ih h = (x, refl, refl)
some_step true x xs l f (suc n) ih h = cc
some_step false x xs None f n ih h = cc
some_step false x xs (Some k) f zero ih h = cc
some_step false x xs (Some k) f (suc n) ih h = ih n (let e : Some (suc k) ≡ Some (suc n) = h in cc)

-- the item of a name is that of its number
pub some_named : {A : Type 0} → (named : A → List ℕ) (xs : List A) (name : List ℕ) (n : ℕ) → number_in named xs name ≡ Some n
    → (y : A) × (slice_get xs n ≡ Some y) × (find (λ x. bytes_eq (named x) name) xs ≡ Some y)
some_named named [] name n h = cc
some_named named (x ∷ xs) name n h = some_step (bytes_eq (named x) name) x xs (number_in named xs name) (find (λ x. bytes_eq (named x) name) xs) n (some_named named xs name) h

-- a name without a number has no unit
pub none_unit : (p : Program) (name : List ℕ) → unit_number p name ≡ None → unit_named p name ≡ None
none_unit p name h = none_named (λ u. u.name) (units_of p) name h

found_step : {A : Type 0} → (test : A → Bool) (b : Bool) (x y : A) (o : Option A) → test x ≡ b → (o ≡ Some y → test y ≡ true) → cond b (Some x) o ≡ Some y → test y ≡ true
found_step test true x y o e ih h = let f : Some x ≡ Some y = h in let g : x ≡ y = cc in subst (λ z. test z ≡ true) g e
found_step test false x y o e ih h = ih h

-- what is found passes the test
pub found_test : {A : Type 0} → (test : A → Bool) (xs : List A) (y : A) → find test xs ≡ Some y → test y ≡ true
found_test test [] y h = cc
found_test test (x ∷ xs) y h = found_step test (test x) x y (find test xs) refl (found_test test xs y) h

-- the unit of a name has it
pub unit_has_name : (p : Program) (name : List ℕ) (u : ProgramUnit) → unit_named p name ≡ Some u → u.name ≡ name
unit_has_name p name u h = (bytes_eq-Decides u.name name).0 (found_test (λ v. bytes_eq v.name name) (units_of p) u h)

found_row : (p : Program) (name : List ℕ) (n : ℕ) (o : Option UnitRow) (u : ProgramUnit) → RowIs n o (Some u) → unit_named p name ≡ Some u → unit_number p name ≡ Some n → FindsUnit p name o
found_row p name n None u h is number = absurd h
found_row p name n (Some row) u h is number = record {
  unit = is ∙ ap Some (sym h.unit);
  name = ap (λ v. v.name) h.unit ∙ unit_has_name p name u is;
  number = number ∙ ap Some (sym h.number);
  locals = h.locals ∙ ap unit_locals (sym h.unit);
  weight = h.weight ∙ ap call_weight (sym h.unit);
}

-- the row of a number that a name has
pub finds_unit : (p : Program) (name : List ℕ) (n : ℕ) (o : Option UnitRow) → unit_number p name ≡ Some n → RowIs n o (slice_get (units_of p) n) → FindsUnit p name o
finds_unit p name n o number h =
    let u : (u : ProgramUnit) × (slice_get (units_of p) n ≡ Some u) × (unit_named p name ≡ Some u) = some_named (λ u. u.name) (units_of p) name n number in
    found_row p name n o u.0 (subst (RowIs n o) u.1 h) u.2 number
