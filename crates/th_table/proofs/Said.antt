-- Texts put at a sink.
use Rattle.std.proofs.Common.{◌≡◌, ℕ, zero, suc, ◌+◌, ◌<◌, ◌≤◌, List, [], ◌∷◌, ◌++◌, map, length, get_or, take, drop, Option, Some, None, refl, sym, ap, ◌∙◌, subst, append-nil, append_assoc, arith, true, drop-cons}
use Rattle.std.proofs.lemmas.List.{take-append-drop}
use Rattle.std.proofs.Math.Seq.{take-length}
use Rattle.std.specs.Prelude.{option_map, Result, Ok, Err, is_err, OnErr, MatchResult}
use Rattle.th_world.specs.Outside.{Rose}
use Rattle.th_table.specs.declared.shown.Table.{Table}
use Rattle.std.specs.Fmt.{decimal}
use Rattle.th_table.specs.Dump.{joined, bridge_mark, table_dump, tables_dump}
use Rattle.th_table.specs.Putting.{Told, told, PutsAll, PutsPart, Putting}

-- what is said of an error holds of one
pub on_err : {A E : Type 0} (r : Result A E) (P : Type 0) → is_err r ≡ true → OnErr r P → P
on_err (Ok x) P e h = cc
on_err (Err x) P e h = h

-- the first bytes of a text were put, and then came a fault
pub said_part : (text : List ℕ) (n : ℕ) (before middle later : Option (List ℕ)) (fb fm fl : ℕ) → middle ≡ option_map (λ bytes. bytes ++ take n text) before
    → later ≡ middle → fm ≡ fb → Rose fm fl → PutsPart text (told before fb) (told later fl)
said_part text n before middle later fb fm fl put same faults rose = record {
  said = take n text;
  unsaid = drop n text;
  split = sym (take-append-drop n text);
  put = same ∙ put;
  rose = subst (λ f. Rose f fl) faults rose;
}

-- all bytes of a text were put
pub said_whole : (text : List ℕ) (n : ℕ) (before later : Option (List ℕ)) (fb fl : ℕ) → n ≤ length text → length text ≤ n → later ≡ option_map (λ bytes. bytes ++ take n text) before
    → fl ≡ fb → PutsAll text (told before fb) (told later fl)
said_whole text n before later fb fl within past put faults =
    let all : n ≡ length text = omega arith in
    record {
      put = put ∙ ap (λ t. option_map (λ bytes. bytes ++ t) before) (ap (λ k. take k text) all ∙ take-length text);
      faults = faults;
    }

nothing : (o : Option (List ℕ)) → o ≡ option_map (λ bytes. bytes ++ []) o
nothing None = refl
nothing (Some bytes) = ap Some (sym (append-nil bytes))

two : (o : Option (List ℕ)) (a b : List ℕ) → option_map (λ bytes. bytes ++ b) (option_map (λ bytes. bytes ++ a) o) ≡ option_map (λ bytes. bytes ++ (a ++ b)) o
two None a b = refl
two (Some bytes) a b = ap Some (append_assoc bytes a b)

-- one text after another
pub all_then : (a b : List ℕ) (r s t : Told) → PutsAll a r s → PutsAll b s t → PutsAll (a ++ b) r t
all_then a b r s t first second = record {
  put = second.put ∙ ap (option_map (λ bytes. bytes ++ b)) first.put ∙ two r.bytes a b;
  faults = second.faults ∙ first.faults;
}

pub part_then : (a b : List ℕ) (r s : Told) → PutsPart a r s → PutsPart (a ++ b) r s
part_then a b r s p = record {
  said = p.said;
  unsaid = p.unsaid ++ b;
  split = ap (λ l. l ++ b) p.split ∙ append_assoc p.said p.unsaid b;
  put = p.put;
  rose = p.rose;
}

pub all_then_part : (a b : List ℕ) (r s t : Told) → PutsAll a r s → PutsPart b s t → PutsPart (a ++ b) r t
all_then_part a b r s t first p = record {
  said = a ++ p.said;
  unsaid = p.unsaid;
  split = ap (λ l. a ++ l) p.split ∙ sym (append_assoc a p.said p.unsaid);
  put = p.put ∙ ap (option_map (λ bytes. bytes ++ p.said)) first.put ∙ two r.bytes a p.said;
  rose = subst (λ f. Rose f t.faults) first.faults p.rose;
}

-- the second text after the first
pub then_all : {A B : Type 0} (result : Result A B) (a b : List ℕ) (r s t : Told) → PutsAll a r s
    → MatchResult result (λ _. PutsAll b s t) (λ _. PutsPart b s t) → MatchResult result (λ _. PutsAll (a ++ b) r t) (λ _. PutsPart (a ++ b) r t)
then_all (Ok x) a b r s t first second = all_then a b r s t first second
then_all (Err e) a b r s t first second = all_then_part a b r s t first second

-- a list's text after another, where the list is known by another name
pub then_list : {A B E : Type 0} (result : Result A B) (f : List E → List ℕ) (xs ys : List E) (a : List ℕ) (r s t : Told) → ys ≡ xs → PutsAll a r s
    → MatchResult result (λ _. PutsAll (f ys) s t) (λ _. PutsPart (f ys) s t) → MatchResult result (λ _. PutsAll (a ++ f xs) r t) (λ _. PutsPart (a ++ f xs) r t)
then_list result f xs ys a r s t e first second = subst (λ l. MatchResult result (λ _. PutsAll (a ++ f l) r t) (λ _. PutsPart (a ++ f l) r t)) e (then_all result a (f ys) r s t first second)

-- a loop over texts
pub put_start : (whole : List ℕ) (r : Told) → Putting whole whole r r
put_start whole r = record { done = []; split = refl; put = record { put = nothing r.bytes; faults = refl } }

pub put_next : (x rest whole : List ℕ) (r s t : Told) → Putting (x ++ rest) whole r s → PutsAll x s t → Putting rest whole r t
put_next x rest whole r s t p a = record {
  done = p.done ++ x;
  split = append_assoc p.done x rest ∙ p.split;
  put = all_then p.done x r s t p.put a;
}

pub put_fault : (x rest whole : List ℕ) (r s t : Told) → Putting (x ++ rest) whole r s → PutsPart x s t → PutsPart whole r t
put_fault x rest whole r s t p a = subst (λ l. PutsPart l r t) p.split (all_then_part p.done (x ++ rest) r s t p.put (part_then x rest s t a))

pub put_end : (rest whole : List ℕ) (r s : Told) → rest ≡ [] → Putting rest whole r s → PutsAll whole r s
put_end rest whole r s e p = subst (λ l. PutsAll l r s) (sym (append-nil p.done) ∙ ap (λ l. p.done ++ l) (sym e) ∙ p.split) p.put

-- what is left of texts
more : (i : ℕ) → suc i ≡ i + 1
more i = omega arith

pub texts_next : {A : Type 0} (f : A → List ℕ) (xs : List A) (i : ℕ) (x d : A) → i < length xs → x ≡ get_or xs i d → joined (map f (drop i xs)) ≡ f x ++ joined (map f (drop (i + 1) xs))
texts_next f xs i x d h e = ap (λ l. joined (map f l)) (drop-cons xs i d h) ∙ ap (λ y. f y ++ joined (map f (drop (suc i) xs))) (sym e) ∙ ap (λ n. f x ++ joined (map f (drop n xs))) (more i)

drop_past : {A : Type 0} (xs : List A) (i : ℕ) → length xs ≤ i → drop i xs ≡ []
drop_past [] zero h = refl
drop_past [] (suc i) h = refl
drop_past (x ∷ xs) zero h = absurd (omega arith)
drop_past (x ∷ xs) (suc i) h = drop_past xs i (omega arith)

pub texts_end : {A : Type 0} (f : A → List ℕ) (xs : List A) (i : ℕ) → length xs ≤ i → joined (map f (drop i xs)) ≡ []
texts_end f xs i h = ap (λ l. joined (map f l)) (drop_past xs i h)

pub tables_next : (names : List (List ℕ)) (ts : List Table) (i : ℕ) (x d : Table) → i < length ts → x ≡ get_or ts i d → tables_dump names i (drop i ts) ≡ table_dump names i x ++ tables_dump names (i + 1) (drop (i + 1) ts)
tables_next names ts i x d h e = ap (tables_dump names i) (drop-cons ts i d h) ∙ ap (λ y. table_dump names i y ++ tables_dump names (i + 1) (drop (suc i) ts)) (sym e) ∙ ap (λ n. table_dump names i x ++ tables_dump names (i + 1) (drop n ts)) (more i)

pub tables_end : (names : List (List ℕ)) (ts : List Table) (k i : ℕ) → length ts ≤ i → tables_dump names k (drop i ts) ≡ []
tables_end names ts k i h = ap (tables_dump names k) (drop_past ts i h)

-- a loop over texts, step by step
pub text_step : {A : Type 0} (f : A → List ℕ) (xs : List A) (i : ℕ) (x d : A) (whole : List ℕ) (r s t : Told) → i < length xs → x ≡ get_or xs i d → Putting (joined (map f (drop i xs))) whole r s → PutsAll (f x) s t → Putting (joined (map f (drop (i + 1) xs))) whole r t
text_step f xs i x d whole r s t h e p a = put_next (f x) (joined (map f (drop (i + 1) xs))) whole r s t (subst (λ l. Putting l whole r s) (texts_next f xs i x d h e) p) a

pub text_fault : {A : Type 0} (f : A → List ℕ) (xs : List A) (i : ℕ) (x d : A) (whole : List ℕ) (r s t : Told) → i < length xs → x ≡ get_or xs i d → Putting (joined (map f (drop i xs))) whole r s → PutsPart (f x) s t → PutsPart whole r t
text_fault f xs i x d whole r s t h e p a = put_fault (f x) (joined (map f (drop (i + 1) xs))) whole r s t (subst (λ l. Putting l whole r s) (texts_next f xs i x d h e) p) a

pub text_end : {A : Type 0} (f : A → List ℕ) (xs : List A) (i : ℕ) (whole : List ℕ) (r s : Told) → length xs ≤ i → Putting (joined (map f (drop i xs))) whole r s → PutsAll whole r s
text_end f xs i whole r s h p = put_end (joined (map f (drop i xs))) whole r s (texts_end f xs i h) p

pub table_step : (names : List (List ℕ)) (ts : List Table) (i : ℕ) (x d : Table) (whole : List ℕ) (r s t : Told) → i < length ts → x ≡ get_or ts i d → Putting (tables_dump names i (drop i ts)) whole r s → PutsAll (table_dump names i x) s t → Putting (tables_dump names (i + 1) (drop (i + 1) ts)) whole r t
table_step names ts i x d whole r s t h e p a = put_next (table_dump names i x) (tables_dump names (i + 1) (drop (i + 1) ts)) whole r s t (subst (λ l. Putting l whole r s) (tables_next names ts i x d h e) p) a

pub table_fault : (names : List (List ℕ)) (ts : List Table) (i : ℕ) (x d : Table) (whole : List ℕ) (r s t : Told) → i < length ts → x ≡ get_or ts i d → Putting (tables_dump names i (drop i ts)) whole r s → PutsPart (table_dump names i x) s t → PutsPart whole r t
table_fault names ts i x d whole r s t h e p a = put_fault (table_dump names i x) (tables_dump names (i + 1) (drop (i + 1) ts)) whole r s t (subst (λ l. Putting l whole r s) (tables_next names ts i x d h e) p) a

pub table_end : (names : List (List ℕ)) (ts : List Table) (i k : ℕ) (whole : List ℕ) (r s : Told) → length ts ≤ i → Putting (tables_dump names k (drop i ts)) whole r s → PutsAll whole r s
table_end names ts i k whole r s h p = put_end (tables_dump names k (drop i ts)) whole r s (tables_end names ts k i h) p

-- the same of a list that is another's slice
pub slice_step : {A : Type 0} (f : A → List ℕ) (xs ys : List A) (i : ℕ) (x d : A) (whole : List ℕ) (r s t : Told) → ys ≡ xs → i < length ys → x ≡ get_or ys i d → Putting (joined (map f (drop i xs))) whole r s → PutsAll (f x) s t → Putting (joined (map f (drop (i + 1) xs))) whole r t
slice_step f xs ys i x d whole r s t q h e p a = text_step f xs i x d whole r s t (subst (λ l. i < length l) q h) (subst (λ l. x ≡ get_or l i d) q e) p a

pub slice_fault : {A : Type 0} (f : A → List ℕ) (xs ys : List A) (i : ℕ) (x d : A) (whole : List ℕ) (r s t : Told) → ys ≡ xs → i < length ys → x ≡ get_or ys i d → Putting (joined (map f (drop i xs))) whole r s → PutsPart (f x) s t → PutsPart whole r t
slice_fault f xs ys i x d whole r s t q h e p a = text_fault f xs i x d whole r s t (subst (λ l. i < length l) q h) (subst (λ l. x ≡ get_or l i d) q e) p a

pub slice_end : {A : Type 0} (f : A → List ℕ) (xs ys : List A) (i : ℕ) (whole : List ℕ) (r s : Told) → ys ≡ xs → length ys ≤ i → Putting (joined (map f (drop i xs))) whole r s → PutsAll whole r s
slice_end f xs ys i whole r s q h p = text_end f xs i whole r s (subst (λ l. length l ≤ i) q h) p

-- the mark of a bridge
bridge_some : (d : ℕ) → (d ≡ 0 → ⊥) → bridge_mark d ≡ 43 ∷ decimal d
bridge_some zero h = absurd (h refl)
bridge_some (suc n) h = refl

pub bridge_puts : {A B : Type 0} (result : Result A B) (d : ℕ) (x : List ℕ) (r s t : Told) → (d ≡ 0 → ⊥) → x ≡ decimal d → PutsAll (43 ∷ []) r s
    → MatchResult result (λ _. PutsAll x s t) (λ _. PutsPart x s t) → MatchResult result (λ _. PutsAll (bridge_mark d) r t) (λ _. PutsPart (bridge_mark d) r t)
bridge_puts result d x r s t h e first second = subst (λ l. MatchResult result (λ _. PutsAll l r t) (λ _. PutsPart l r t)) (ap (λ l. 43 ∷ l) e ∙ sym (bridge_some d h)) (then_all result (43 ∷ []) x r s t first second)

pub bridge_part : (d : ℕ) (r s : Told) → (d ≡ 0 → ⊥) → PutsPart (43 ∷ []) r s → PutsPart (bridge_mark d) r s
bridge_part d r s h p = subst (λ l. PutsPart l r s) (sym (bridge_some d h)) (part_then (43 ∷ []) (decimal d) r s p)
