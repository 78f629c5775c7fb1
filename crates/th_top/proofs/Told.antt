-- Files that are told: their texts are the only ones.
use Rattle.std.proofs.Common.{◌≡◌, ℕ, zero, suc, ◌<◌, ◌≤◌, List, [], ◌∷◌, length, map, get_or, slice_get, option_map, Option, Some, None, refl, sym, ap, subst, ◌∙◌, ◌⊎◌, inl, inr, arith}
use Rattle.std.proofs.lemmas.List.{length-map}
use Rattle.std.proofs.lemmas.Option.{slice_get-map, slice_get_past, slice_get_read}
use Rattle.th_words.specs.Words.{AreFiles}
use Rattle.th_files.specs.Reading.{Told, Holds, AreThere, CannotRead}

pub some_one : {A : Type 0} (a b : A) → Some a ≡ Some b → a ≡ b
some_one a b e = ap (λ o. elim o [ Some x ↦ x | None ↦ a ]) e

-- the name at a place
pub name_there : {A : Type 0} (f : A → List ℕ) (xs : List A) (k : ℕ) (x : A) → k < length xs → x ≡ get_or xs k x → slice_get (map f xs) k ≡ Some (f x)
name_there f xs k x within is = slice_get-map f xs k ∙ ap (option_map f) (slice_get_read xs (length xs) k x refl within is)

pub name_past : {A : Type 0} (f : A → List ℕ) (xs : List A) (k : ℕ) → length xs ≤ k → slice_get (map f xs) k ≡ None
name_past f xs k past = slice_get-map f xs k ∙ ap (option_map f) (slice_get_past xs k past)

-- a file that is told has one content
pub same_text : (told : Told) (files : List ℕ → Option (List ℕ)) (file file1 text text1 : List ℕ) → Holds told file text → told ≡ Some files → file ≡ file1 → files file1 ≡ Some text1 → text ≡ text1
same_text told files file file1 text text1 holds is same there =
    let P : Told → Type 0 = λ o. Holds o file text in
    let held : files file ≡ Some text = subst P is holds in
    some_one text text1 (sym held ∙ ap files same ∙ there)

-- a file isn't both there within the limit, and absent or above it
pub not_both : (limit : ℕ) (files : List ℕ → Option (List ℕ)) (file text : List ℕ) → files file ≡ Some text → length text ≤ limit → (files file ≡ None) ⊎ ((t : List ℕ) × (files file ≡ Some t) × (limit < length t)) → ⊥
not_both limit files file text there within (inl none) = cc
not_both limit files file text there within (inr (t, is, long)) =
    let same : length t ≡ length text = ap length (some_one t text (sym is ∙ there)) in
    omega (arith, same, long, within)

-- files that are told have one list of texts
same_told : (limit : ℕ) (files : List ℕ → Option (List ℕ)) (names ts us : List (List ℕ)) → AreThere limit (Some files) names ts → AreThere limit (Some files) names us → ts ≡ us
same_told limit files [] [] [] a b = refl
same_told limit files [] [] (u ∷ us) a b = absurd b
same_told limit files [] (t ∷ ts) us a b = absurd a
same_told limit files (n ∷ ns) [] us a b = absurd a
same_told limit files (n ∷ ns) (t ∷ ts) [] a b = absurd b
same_told limit files (n ∷ ns) (t ∷ ts) (u ∷ us) a b =
    let one : t ≡ u = some_one t u (sym a.0 ∙ b.0) in
    let rest : ts ≡ us = same_told limit files ns ts us a.2 b.2 in
    ap (λ x. x ∷ ts) one ∙ ap (λ xs. u ∷ xs) rest

pub same_texts : (limit : ℕ) (told : Told) (files : List ℕ → Option (List ℕ)) (names more ts us : List (List ℕ)) → told ≡ Some files → more ≡ names → AreThere limit told more ts → AreThere limit told names us → ts ≡ us
same_texts limit told files names more ts us is same a b =
    let first : AreThere limit (Some files) names ts = subst (λ ns. AreThere limit (Some files) ns ts) same (subst (λ o. AreThere limit o more ts) is a) in
    same_told limit files names ts us first (subst (λ o. AreThere limit o names us) is b)

-- a file among those that are there can be read
there_at : (limit : ℕ) (files : List ℕ → Option (List ℕ)) (names ts : List (List ℕ)) (k : ℕ) (name : List ℕ) → AreThere limit (Some files) names ts → slice_get names k ≡ Some name
    → (t : List ℕ) × (files name ≡ Some t) × (length t ≤ limit)
there_at limit files [] ts k name h at = cc
there_at limit files (n ∷ ns) [] k name h at = absurd h
there_at limit files (n ∷ ns) (t ∷ ts) zero name h at = let e : n ≡ name = cc in (t, subst (λ x. files x ≡ Some t) e h.0, h.1)
there_at limit files (n ∷ ns) (t ∷ ts) (suc k) name h at = there_at limit files ns ts k name h.2 at

pub can_read : (limit : ℕ) (told : Told) (files : List ℕ → Option (List ℕ)) (names ts : List (List ℕ)) (k : ℕ) (name : List ℕ) → told ≡ Some files → AreThere limit told names ts → slice_get names k ≡ Some name → CannotRead limit told name → ⊥
can_read limit told files names ts k name is there at cannot =
    let t = there_at limit files names ts k name (subst (λ o. AreThere limit o names ts) is there) at in
    not_both limit files name t.0 t.1 t.2 (subst (λ o. CannotRead limit o name) is cannot)

-- as many texts as files
there_length : (limit : ℕ) (told : Told) (names ts : List (List ℕ)) → AreThere limit told names ts → length ts ≡ length names
there_length limit told [] [] h = refl
there_length limit told [] (t ∷ ts) h = absurd h
there_length limit told (n ∷ ns) [] h = absurd h
there_length limit told (n ∷ ns) (t ∷ ts) h = ap suc (there_length limit told ns ts h.2)

-- none of the texts is above the limit
there_short : (limit : ℕ) (told : Told) (names ts : List (List ℕ)) → AreThere limit told names ts → (k : ℕ) (t : List ℕ) → slice_get ts k ≡ Some t → length t ≤ limit
there_short limit told [] [] h k t at = cc
there_short limit told [] (u ∷ ts) h k t at = absurd h
there_short limit told (n ∷ ns) [] h k t at = absurd h
there_short limit told (n ∷ ns) (u ∷ ts) h zero t at = let e : u ≡ t = cc in subst (λ x. length x ≤ limit) e h.1
there_short limit told (n ∷ ns) (u ∷ ts) h (suc k) t at = there_short limit told ns ts h.2 k t at

-- the files that words name, and their texts, which are few and none of which is above the limit
module _ {A B : Type 0} (f : A → List ℕ) (h : B → List ℕ) (limit : ℕ) (told : Told) (names : List A) (texts items : List B) (there : AreThere limit told (map f names) (map h items)) (same : texts ≡ items) where
  pub there_many : length texts ≡ length names
  there_many = ap length same ∙ sym (length-map items h) ∙ there_length limit told (map f names) (map h items) there ∙ length-map names f

  pub there_few : AreFiles (map f names) → length texts ≤ 64
  there_few are = omega (arith, there_many, length-map names f, are.few)

  pub all_short : (k : ℕ) (t : List ℕ) → slice_get (map h texts) k ≡ Some t → length t ≤ limit
  all_short k t at = there_short limit told (map f names) (map h items) there k t (ap (λ xs. slice_get (map h xs) k) (sym same) ∙ at)

pub some_named : {A : Type 0} (f : A → List ℕ) (names : List A) → AreFiles (map f names) → 0 < length names
some_named f names are = omega (arith, length-map names f, are.some)
