-- Rows of classes.
use Rattle.std.proofs.Common.{◌≡◌, refl, sym, ap, ◌∙◌, subst, ℕ, zero, suc, ◌+◌, ◌<◌, map, take, length, get_or, Bool, true, false, cond, List, [], ◌∷◌, ◌++◌, Option, Some, None, option_map, is_some, slice_get, bytes_eq, arith}
use Rattle.std.specs.List.{find}
use Rattle.std.specs.HashMap as hash
use Rattle.std.specs.HashMap.{HashMap}
use Rattle.std.proofs.lemmas.Map.Text.{hash_map_updates_str}
use Rattle.std.proofs.lemmas.Slice.Eq.{bytes_eq-Decides}
use Rattle.std.proofs.lemmas.List.{map-append, take_more}
use denote.Ref.{Bor}
use Rattle.th_meaning.specs.declared.declared.CoreClass.{CoreClass}
use Rattle.th_meaning.specs.View.{class_of}
use Rattle.th_meaning.specs.Program.{ProgramClass, Program, inherited_name, method_name}
use Rattle.th_units.specs.Units.{or_else, unit_number}
use Rattle.th_classes.specs.declared.row.ClassRow.{ClassRow}
use Rattle.th_classes.specs.Numbers.{number_of, above_number}
use Rattle.th_classes.specs.Rows.{Bodies, IsClassRow, RowsAre, RowIs}

find_step : {A : Type 0} → (b : Bool) (x : A) (l m o : Option A) → l ≡ or_else m o → cond b (Some x) l ≡ or_else (cond b (Some x) m) o
find_step true x l m o h = refl
find_step false x l m o h = h

-- what is found among items and one more
pub find_snoc : {A : Type 0} → (test : A → Bool) (xs : List A) (y : A) → find test (xs ++ y ∷ []) ≡ or_else (find test xs) (cond (test y) (Some y) None)
find_snoc test [] y = refl
find_snoc test (x ∷ xs) y = find_step (test x) x (find test (xs ++ y ∷ [])) (find test xs) (cond (test y) (Some y) None) (find_snoc test xs y)

body_step : (b : Bool) (f : Option (List ℕ)) (x : List ℕ) (v w : Option ℕ) (old : Option (Option ℕ)) → old ≡ cond (is_some f) (Some w) None → (b ≡ true → v ≡ w)
    → cond b (Some v) old ≡ cond (is_some (or_else f (cond b (Some x) None))) (Some w) None
body_step true None x v w old h same = ap Some (same refl)
body_step true (Some y) x v w old h same = ap Some (same refl)
body_step false None x v w old h same = h
body_step false (Some y) x v w old h same = h

-- one body more
pub adds_body : {S : Type 0} → (p : Program) (class method name : List ℕ) (unit : Option ℕ) (m n : HashMap (Bor (List ℕ)) (Option ℕ) S) (done : List (List ℕ))
    → name ≡ method_name class method → unit ≡ unit_number p name
    → hash.UpdatesBy (λ x y. bytes_eq x.now y.now) (λ k. bytes_eq method k.now) m n (Some unit) → Bodies p class done m → Bodies p class (done ++ method ∷ []) n
adds_body p class method name unit m n done named is updates bodies q =
    let same : bytes_eq method q ≡ true → unit ≡ unit_number p (method_name class q) =
    λ e. is ∙ ap (unit_number p) named ∙ ap (λ x. unit_number p (method_name class x)) ((bytes_eq-Decides method q).0 e) in
    hash_map_updates_str method m n (Some unit) updates q
    ∙ body_step (bytes_eq method q) (find (λ x. bytes_eq x q) done) method unit (unit_number p (method_name class q)) (hash.get_by (λ k. bytes_eq q k.now) m) (bodies q) same
    ∙ ap (λ o. cond (is_some o) (Some (unit_number p (method_name class q))) None) (sym (find_snoc (λ x. bytes_eq x q) done method))

-- the number of the class that is inherited
pub above_by : (p : Program) (c : ProgramClass) (o : Option (List ℕ)) (r : Option ℕ) → inherited_name c.head.inherits ≡ o → r ≡ number_of p o → r ≡ above_number p c
above_by p c o r h is = is ∙ ap (number_of p) (sym h)

-- one name more
pub names_more : (ms : List (List ℕ)) (i : ℕ) (x name : List ℕ) → i < length ms → x ≡ get_or ms i x → name ≡ x → take i ms ++ name ∷ [] ≡ take (i + 1) ms
names_more ms i x name below is same = ap (λ y. take i ms ++ y ∷ []) (same ∙ is) ∙ sym (take_more ms i x below)

-- one class more
pub classes_more : (cs : List (Bor CoreClass)) (i : ℕ) (x : Bor CoreClass) → i < length cs → x ≡ get_or cs i x
    → map (λ c. class_of c.now) (take i cs) ++ class_of x.now ∷ [] ≡ map (λ c. class_of c.now) (take (i + 1) cs)
classes_more cs i x below is =
    sym (map-append (λ c. class_of c.now) (take i cs) (x ∷ []))
    ∙ ap (λ y. map (λ c. class_of c.now) (take i cs ++ y ∷ [])) is
    ∙ ap (map (λ c. class_of c.now)) (sym (take_more cs i x below))

-- rows and one more
pub rows_snoc : (p : Program) (rows : List ClassRow) (cs : List ProgramClass) (row : ClassRow) (c : ProgramClass) → RowsAre p rows cs → IsClassRow p row c → RowsAre p (rows ++ row ∷ []) (cs ++ c ∷ [])
rows_snoc p [] [] row c h is = (is, tt)
rows_snoc p [] (d ∷ cs) row c h is = absurd h
rows_snoc p (r ∷ rows) [] row c h is = absurd h
rows_snoc p (r ∷ rows) (d ∷ cs) row c h is = (h.0, rows_snoc p rows cs row c h.1 is)

-- there are as many rows as classes
pub rows_length : (p : Program) (rows : List ClassRow) (cs : List ProgramClass) → RowsAre p rows cs → length rows ≡ length cs
rows_length p [] [] h = refl
rows_length p [] (d ∷ cs) h = absurd h
rows_length p (r ∷ rows) [] h = absurd h
rows_length p (r ∷ rows) (d ∷ cs) h = ap suc (rows_length p rows cs h.1)

-- the row at a place
pub rows_get : (p : Program) (rows : List ClassRow) (cs : List ProgramClass) (i : ℕ) → RowsAre p rows cs → RowIs p (slice_get rows i) (slice_get cs i)
rows_get p [] [] i h = tt
rows_get p [] (d ∷ cs) i h = absurd h
rows_get p (r ∷ rows) [] i h = absurd h
rows_get p (r ∷ rows) (d ∷ cs) zero h = h.0
rows_get p (r ∷ rows) (d ∷ cs) (suc i) h = rows_get p rows cs i h.1
