-- Files that are read one after another.
use Rattle.std.proofs.Common.{◌≡◌, ℕ, zero, suc, ◌+◌, ◌<◌, ◌≤◌, List, [], ◌∷◌, ◌++◌, length, take, map, get_or, slice_get, Option, Some, None, refl, sym, ◌∙◌, ap, subst, arith, add-one, IfSome}
use Rattle.th_files.specs.Reading.{Told, Holds, AreThere, IsUnreadAt, IsReadError, MayBeUnread, error_at}
use Rattle.th_files.specs.declared.files.OneError.{OneError}
use Rattle.th_files.specs.declared.files.OneError.TheVariants as one

-- the bytes that a read gives are those of the file
pub holds_of : (told : Told) (name bytes : List ℕ) → IfSome told (λ files. files name ≡ Some bytes) → Holds told name bytes
holds_of None name bytes h = tt
holds_of (Some files) name bytes h = h

-- one more file is there
there_suc : (limit : ℕ) (told : Told) (ns ts : List (List ℕ)) (k : ℕ) (n t : List ℕ) → slice_get ns k ≡ Some n → AreThere limit told (take k ns) ts → Holds told n t → length t ≤ limit
    → AreThere limit told (take (suc k) ns) (ts ++ t ∷ [])
there_suc limit told [] ts k n t at h holds within = cc
there_suc limit told (m ∷ ns) [] zero n t at h holds within = let e : n ≡ m = cc in (subst (λ x. Holds told x t) e holds, within, tt)
there_suc limit told (m ∷ ns) (u ∷ ts) zero n t at h holds within = absurd h
there_suc limit told (m ∷ ns) [] (suc k) n t at h holds within = absurd h
there_suc limit told (m ∷ ns) (u ∷ ts) (suc k) n t at h holds within = (h.0, h.1, there_suc limit told ns ts k n t at h.2 holds within)

-- the name at a place
pub name_at : {A : Type 0} (f : A → List ℕ) (xs : List A) (k : ℕ) (x : A) → k < length xs → x ≡ get_or xs k x → slice_get (map f xs) k ≡ Some (f x)
name_at f [] k x less is = absurd (omega (arith, less))
name_at f (y ∷ xs) zero x less is = rw is refl
name_at {A = A} f (y ∷ xs) (suc k) x less is = name_at f xs k x (omega (arith, less)) is

pub there_more : {A : Type 0} (f : A → List ℕ) (limit : ℕ) (told : Told) (ns : List A) (ts : List (List ℕ)) (k : ℕ) (n : A) (t : List ℕ) → k < length ns → n ≡ get_or ns k n
    → AreThere limit told (take k (map f ns)) ts → Holds told (f n) t → length t ≤ limit → AreThere limit told (take (k + 1) (map f ns)) (ts ++ t ∷ [])
there_more f limit told ns ts k n t less is h holds within =
    subst (λ j. AreThere limit told (take j (map f ns)) (ts ++ t ∷ [])) (sym (add-one k)) (there_suc limit told (map f ns) ts k (f n) t (name_at f ns k n less is) h holds within)

take_all : {A B : Type 0} (f : A → B) (xs : List A) (k : ℕ) → length xs ≤ k → take k (map f xs) ≡ map f xs
take_all f [] zero h = refl
take_all f [] (suc k) h = refl
take_all f (x ∷ xs) zero h = absurd (omega (arith, h))
take_all {A = A} {B = B} f (x ∷ xs) (suc k) h = ap (λ ys. f x ∷ ys) (take_all f xs k (omega (arith, h)))

-- all files are there
pub there_end : {A : Type 0} (f : A → List ℕ) (limit : ℕ) (told : Told) (ns : List A) (ts : List (List ℕ)) (k : ℕ) → length ns ≤ k → AreThere limit told (take k (map f ns)) ts → AreThere limit told (map f ns) ts
there_end f limit told ns ts k h there = subst (λ xs. AreThere limit told xs ts) (take_all f ns k h) there

-- a file wasn't read after those before it were
pub not_read : {A : Type 0} (f : A → List ℕ) (limit : ℕ) (told now : Told) (ns : List A) (ts : List (List ℕ)) (k : ℕ) (n : A) (e : OneError) (before between later : ℕ) → k < length ns → n ≡ get_or ns k n
    → AreThere limit told (take k (map f ns)) ts → now ≡ told → between ≡ before → MayBeUnread e limit now (f n) between later → IsReadError (error_at k e) limit told (map f ns) before later
not_read f limit told now ns ts k n one.Unread before between later less is there same_told same_count unread = record {
  name = f n;
  texts = ts;
  at = name_at f ns k n less is;
  read = there;
  unread = subst (λ c. MayBeUnread one.Unread limit told (f n) c later) same_count (subst (λ o. MayBeUnread one.Unread limit o (f n) between later) same_told unread);
}
not_read f limit told now ns ts k n one.Memory before between later less is there same_told same_count unread = unread ∙ same_count

map_push : {A B : Type 0} (f : A → B) (xs : List A) (x : A) → map f (xs ++ x ∷ []) ≡ map f xs ++ f x ∷ []
map_push f [] x = refl
map_push f (y ∷ xs) x = ap (λ ys. f y ∷ ys) (map_push f xs x)

-- one more file was read
pub there_goes : {A B : Type 0} (f : A → List ℕ) (h : B → List ℕ) (limit : ℕ) (told now : Told) (ns : List A) (ts us : List B) (k : ℕ) (n : A) (name : List ℕ) (t : B) → k < length ns → n ≡ get_or ns k n → name ≡ f n
    → AreThere limit told (take k (map f ns)) (map h ts) → now ≡ told → Holds now name (h t) → length (h t) ≤ limit → us ≡ ts ++ t ∷ [] → AreThere limit told (take (k + 1) (map f ns)) (map h us)
there_goes f h limit told now ns ts us k n name t less is named there same holds within more =
    let held : Holds told (f n) (h t) = subst (λ x. Holds told x (h t)) named (subst (λ o. Holds o name (h t)) same holds) in
    subst (λ xs. AreThere limit told (take (k + 1) (map f ns)) xs) (sym (ap (map h) more ∙ map_push h ts t)) (there_more f limit told ns (map h ts) k n (h t) less is there held within)
