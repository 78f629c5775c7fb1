-- Names with values that are noted one after the other, and the names of modules with their places.
use Rattle.std.proofs.Common.{◌≡◌, ℕ, zero, suc, ◌+◌, ◌<◌, ◌≤◌, map, List, [], ◌∷◌, ◌++◌, length, get_or, take, Option, Some, None, slice_get, refl, sym, ap, ◌∙◌, subst, inl, inr, append_assoc, append-nil, length-take, arith}
use Rattle.std.specs.Prelude.{flat_map, bytes_eq, codes, true, cond}
use Rattle.std.specs.HashMap.{HashMap}
use Rattle.std.proofs.lemmas.List.{map-append, take_more, take_all, length-map}
use Rattle.std.proofs.lemmas.List.Elements.{filter-append}
use Rattle.std.proofs.lemmas.Grind.{flat_map-append}
use denote.Ref.{Bor}
use Rattle.th_type.specs.Lists.{IsIn}
use Rattle.th_meaning.specs.declared.declared.CoreInterface.{CoreInterface}
use Rattle.th_meaning.specs.declared.declared.CoreClass.{CoreClass}
use Rattle.th_meaning.specs.declared.declared.CoreUnit.{CoreUnit}
use Rattle.th_meaning.specs.declared.declared.CoreModule.{CoreModule}
use Rattle.th_meaning.specs.declared.declared.UnitKind.TheVariants.{Routine as RoutineKind}
use Rattle.th_meaning.specs.View.{interface_of, class_of, sort_of, unit_of, module_of, program_of}
use Rattle.th_meaning.specs.Program.{ProgramInterface, ProgramModule, Program}
use Rattle.th_agree.specs.Names.{IsLeastOf}
use Rattle.th_agree.specs.Agree.{TwiceBy, Differs, kept_interfaces, class_names, routine_name, routine_names, defined}
use Rattle.th_agree.specs.Noted.{Entry, entry, Clashes, Noted, all_with, placed, first_value, with_texts, mains_in, text_seen, place_seen}
use Rattle.th_agree.proofs.LeastNames.{least_alike}
use Rattle.th_agree.proofs.Entries.{in_parts, in_left, in_right, first_never}

-- one item more
pub entries_more : {A V : Type 0} → (f : List A → List (Entry V)) (parts : (xs ys : List A) → f (xs ++ ys) ≡ f xs ++ f ys) (done : List (Entry V)) (xs : List A) (i : ℕ) (x : A)
    → i < length xs → x ≡ get_or xs i x → (done ++ f (take i xs)) ++ f (x ∷ []) ≡ done ++ f (take (i + 1) xs)
entries_more f parts done xs i x below is =
    append_assoc done (f (take i xs)) (f (x ∷ []))
    ∙ ap (λ es. done ++ es) (sym (parts (take i xs) (x ∷ [])) ∙ ap (λ y. f (take i xs ++ y ∷ [])) is ∙ ap f (sym (take_more xs i x below)))

placed_snoc : (names : ProgramModule → List (List ℕ)) (k : ℕ) (ms : List ProgramModule) (m : ProgramModule) → placed names k (ms ++ m ∷ []) ≡ placed names k ms ++ all_with (k + length ms) (names m)
placed_snoc names k [] m = append-nil (all_with k (names m)) ∙ ap (λ n. all_with n (names m)) (let e : k ≡ k + 0 = omega arith in e)
placed_snoc names k (o ∷ ms) m =
    ap (λ es. all_with k (names o) ++ es) (placed_snoc names (suc k) ms m ∙ ap (λ n. placed names (suc k) ms ++ all_with n (names m)) (let e : suc k + length ms ≡ k + suc (length ms) = omega arith in e))
    ∙ sym (append_assoc (all_with k (names o)) (placed names (suc k) ms) (all_with (k + suc (length ms)) (names m)))

in_with : (k : ℕ) (ns : List (List ℕ)) (n : List ℕ) (j : ℕ) → IsIn (entry n j) (all_with k ns) → IsIn n ns × (j ≡ k)
in_with k [] n j h = absurd h
in_with k (x ∷ ns) n j h = elim h [ inl s ↦ (inl (ap (λ e. e.name) s), ap (λ e. e.value) s) | inr i ↦ (inr (in_with k ns n j i).0, (in_with k ns n j i).1) ]

with_in : (k : ℕ) (ns : List (List ℕ)) (n : List ℕ) → IsIn n ns → IsIn (entry n k) (all_with k ns)
with_in k [] n h = h
with_in k (x ∷ ns) n h = elim h [ inl s ↦ inl (ap (λ y. entry y k) s) | inr i ↦ inr (with_in k ns n i) ]

-- where a name with a place comes from
record Stands (names : ProgramModule → List (List ℕ)) (k : ℕ) (ms : List ProgramModule) (n : List ℕ) (j : ℕ) : Type 0 where
  at : ℕ
  home : ProgramModule
  place : j ≡ k + at
  there : slice_get ms at ≡ Some home
  has : IsIn n (names home)

later : (names : ProgramModule → List (List ℕ)) (k : ℕ) (m : ProgramModule) (ms : List ProgramModule) (n : List ℕ) (j : ℕ) → Stands names (suc k) ms n j → Stands names k (m ∷ ms) n j
later names k m ms n j s = record { at = suc s.at; home = s.home; place = (let e : suc k + s.at ≡ k + suc s.at = omega arith in s.place ∙ e); there = s.there; has = s.has }

in_placed : (names : ProgramModule → List (List ℕ)) (k : ℕ) (ms : List ProgramModule) (n : List ℕ) (j : ℕ) → IsIn (entry n j) (placed names k ms) → Stands names k ms n j
in_placed names k [] n j h = absurd h
in_placed names k (m ∷ ms) n j h =
    elim (in_parts (all_with k (names m)) (placed names (suc k) ms) (entry n j) h) [
      | inl i ↦ record { at = 0; home = m; place = (let e : k ≡ k + 0 = omega arith in (in_with k (names m) n j i).1 ∙ e); there = refl; has = (in_with k (names m) n j i).0 }
      | inr i ↦ later names k m ms n j (in_placed names (suc k) ms n j i)
    ]

placed_in : (names : ProgramModule → List (List ℕ)) (k : ℕ) (ms : List ProgramModule) (n : List ℕ) (i : ℕ) (m : ProgramModule) → slice_get ms i ≡ Some m → IsIn n (names m)
    → IsIn (entry n (k + i)) (placed names k ms)
placed_in names k [] n i m h has = cc
placed_in names k (o ∷ ms) n zero m h has =
    let e : k ≡ k + 0 = omega arith in
    let s : m ≡ o = (let f : Some o ≡ Some m = h in cc) in
    in_left (all_with k (names o)) (placed names (suc k) ms) (entry n (k + 0)) (subst (λ j. IsIn (entry n j) (all_with k (names o))) e (with_in k (names o) n (subst (λ x. IsIn n (names x)) s has)))
placed_in names k (o ∷ ms) n (suc i) m h has =
    let e : suc k + i ≡ k + suc i = omega arith in
    in_right (all_with k (names o)) (placed names (suc k) ms) (entry n (k + suc i)) (subst (λ j. IsIn (entry n j) (placed names (suc k) ms)) e (placed_in names (suc k) ms n i m h has))

clash_twice : (names : ProgramModule → List (List ℕ)) (p : Program) (n : List ℕ) → Clashes (placed names 0 p) n → TwiceBy names p n
clash_twice names p n c =
    let a = in_placed names 0 p n c.one c.one_in in
    let b = in_placed names 0 p n c.other c.other_in in
    record {
      k = a.at;
      l = b.at;
      one = a.home;
      other = b.home;
      differ = λ s. c.differ (a.place ∙ ap (λ i. 0 + i) s ∙ sym b.place);
      one_there = a.there;
      other_there = b.there;
      one_has = a.has;
      other_has = b.has;
    }

twice_clash : (names : ProgramModule → List (List ℕ)) (p : Program) (n : List ℕ) → TwiceBy names p n → Clashes (placed names 0 p) n
twice_clash names p n t =
    record {
      one = 0 + t.k;
      other = 0 + t.l;
      one_in = placed_in names 0 p n t.k t.one t.one_there t.one_has;
      other_in = placed_in names 0 p n t.l t.other t.other_there t.other_has;
      differ = λ s. t.differ (let e : t.k ≡ t.l = omega (arith, s) in e);
    }

-- the least name that has two places is the least that two modules have
pub twice_least : (names : ProgramModule → List (List ℕ)) (p : Program) (o : Option (List ℕ)) → IsLeastOf (Clashes (placed names 0 p)) o → IsLeastOf (TwiceBy names p) o
twice_least names p o h = least_alike (Clashes (placed names 0 p)) (TwiceBy names p) o (clash_twice names p) (twice_clash names p) h

-- no name is twice where there is none
pub no_clash : {V : Type 0} → (q : List ℕ) → Clashes {V = V} [] q → ⊥
no_clash q c = c.one_in

-- one item more is noted
pub loop_more : {A V X S : Type 0} → (seen : X → V) (f : List A → List (Entry V)) (parts : (xs ys : List A) → f (xs ++ ys) ≡ f xs ++ f ys) (m : HashMap (Bor (List ℕ)) X S)
    (o : Option (List ℕ)) (done : List (Entry V)) (xs : List A) (i : ℕ) (x : A) (es : List (Entry V)) → i < length xs → x ≡ get_or xs i x → es ≡ f (x ∷ [])
    → Noted seen ((done ++ f (take i xs)) ++ es) m o → Noted seen (done ++ f (take (i + 1) xs)) m o
loop_more seen f parts m o done xs i x es below is e h =
    subst (λ ys. Noted seen ys m o) (entries_more f parts done xs i x below is) (subst (λ ys. Noted seen ((done ++ f (take i xs)) ++ ys) m o) e h)

pub text_parts : (xs ys : List CoreInterface) → with_texts (map interface_of (xs ++ ys)) ≡ with_texts (map interface_of xs) ++ with_texts (map interface_of ys)
text_parts xs ys = simp map-append

pub kept_parts : (xs ys : List CoreModule) → with_texts (kept_interfaces (program_of (xs ++ ys))) ≡ with_texts (kept_interfaces (program_of xs)) ++ with_texts (kept_interfaces (program_of ys))
kept_parts xs ys = simp (map-append, flat_map-append)

pub class_parts : (k : ℕ) (xs ys : List CoreClass) → all_with k (class_names (map class_of (xs ++ ys))) ≡ all_with k (class_names (map class_of xs)) ++ all_with k (class_names (map class_of ys))
class_parts k xs ys = simp map-append

pub unit_parts : (k : ℕ) (xs ys : List CoreUnit) → all_with k (routine_names (map unit_of (xs ++ ys))) ≡ all_with k (routine_names (map unit_of xs)) ++ all_with k (routine_names (map unit_of ys))
unit_parts k xs ys = simp (map-append, flat_map-append)

pub main_parts : (k : ℕ) (full : List ℕ) (xs ys : List CoreUnit) → all_with k (mains_in full (map unit_of (xs ++ ys))) ≡ all_with k (mains_in full (map unit_of xs)) ++ all_with k (mains_in full (map unit_of ys))
main_parts k full xs ys = simp (map-append, filter-append)

-- one module more
pub placed_more : (names : ProgramModule → List (List ℕ)) (ms : List CoreModule) (k : ℕ) (m : CoreModule) → k < length ms → m ≡ get_or ms k m
    → placed names 0 (program_of (take k ms)) ++ all_with k (names (module_of m)) ≡ placed names 0 (program_of (take (k + 1) ms))
placed_more names ms k m below is =
    let count : k ≡ 0 + length (program_of (take k ms)) = simp (length-map, length-take) (omega arith) in
    sym
    (ap (λ xs. placed names 0 (program_of xs)) (take_more ms k m below ∙ ap (λ x. take k ms ++ x ∷ []) (sym is))
    ∙ ap (placed names 0) (map-append module_of (take k ms) (m ∷ []))
    ∙ placed_snoc names 0 (program_of (take k ms)) (module_of m)
    ∙ ap (λ n. placed names 0 (program_of (take k ms)) ++ all_with n (names (module_of m))) (sym count))

-- where a text of an interface comes from
record Kept (is : List ProgramInterface) (n c : List ℕ) : Type 0 where
  one : ProgramInterface
  there : IsIn one is
  named : one.name ≡ n
  text : one.canonical ≡ c

kept_later : (i : ProgramInterface) (is : List ProgramInterface) (n c : List ℕ) → Kept is n c → Kept (i ∷ is) n c
kept_later i is n c k = record { one = k.one; there = inr k.there; named = k.named; text = k.text }

in_texts : (is : List ProgramInterface) (n c : List ℕ) → IsIn (entry n c) (with_texts is) → Kept is n c
in_texts [] n c h = absurd h
in_texts (i ∷ is) n c h =
    elim h [ inl s ↦ record { one = i; there = inl refl; named = sym (ap (λ e. e.name) s); text = sym (ap (λ e. e.value) s) } | inr j ↦ kept_later i is n c (in_texts is n c j) ]

texts_in : (is : List ProgramInterface) (i : ProgramInterface) → IsIn i is → IsIn (entry i.name i.canonical) (with_texts is)
texts_in [] i h = h
texts_in (j ∷ is) i h = elim h [ inl s ↦ inl (ap (λ x. entry x.name x.canonical) s) | inr k ↦ inr (texts_in is i k) ]

clash_differs : (p : Program) (n : List ℕ) → Clashes (with_texts (kept_interfaces p)) n → Differs p n
clash_differs p n c =
    let a = in_texts (kept_interfaces p) n c.one c.one_in in
    let b = in_texts (kept_interfaces p) n c.other c.other_in in
    record { one = a.one; other = b.one; one_kept = a.there; other_kept = b.there; one_named = a.named; other_named = b.named; differ = λ s. c.differ (sym a.text ∙ s ∙ b.text) }

differs_clash : (p : Program) (n : List ℕ) → Differs p n → Clashes (with_texts (kept_interfaces p)) n
differs_clash p n d =
    record {
      one = d.one.canonical;
      other = d.other.canonical;
      one_in = subst (λ x. IsIn (entry x d.one.canonical) (with_texts (kept_interfaces p))) d.one_named (texts_in (kept_interfaces p) d.one d.one_kept);
      other_in = subst (λ x. IsIn (entry x d.other.canonical) (with_texts (kept_interfaces p))) d.other_named (texts_in (kept_interfaces p) d.other d.other_kept);
      differ = d.differ;
    }

-- the least name that has two texts is the least of which modules keep different texts
pub differs_least : (p : Program) (o : Option (List ℕ)) → IsLeastOf (Clashes (with_texts (kept_interfaces p))) o → IsLeastOf (Differs p) o
differs_least p o h = least_alike (Clashes (with_texts (kept_interfaces p))) (Differs p) o (clash_differs p) (differs_clash p) h

-- a name with a place is defined
pub defined_in : (k : ℕ) (ms : Program) (n : List ℕ) (j : ℕ) → IsIn (entry n j) (placed defined k ms) → IsIn n (flat_map defined ms)
defined_in k [] n j h = absurd h
defined_in k (m ∷ ms) n j h =
    elim (in_parts (all_with k (defined m)) (placed defined (suc k) ms) (entry n j) h) [
      | inl i ↦ in_left (defined m) (flat_map defined ms) n (in_with k (defined m) n j i).0
      | inr i ↦ in_right (defined m) (flat_map defined ms) n (defined_in (suc k) ms n j i)
    ]

in_some : (k : ℕ) (ms : Program) (n : List ℕ) → IsIn n (flat_map defined ms) → (j : ℕ) × IsIn (entry n j) (placed defined k ms)
in_some k [] n h = absurd h
in_some k (m ∷ ms) n h =
    elim (in_parts (defined m) (flat_map defined ms) n h) [
      | inl i ↦ (k, in_left (all_with k (defined m)) (placed defined (suc k) ms) (entry n k) (with_in k (defined m) n i))
      | inr i ↦ ((in_some (suc k) ms n i).0, in_right (all_with k (defined m)) (placed defined (suc k) ms) (entry n (in_some (suc k) ms n i).0) (in_some (suc k) ms n i).1)
    ]

-- a name without a place is not defined
pub in_defined : (k : ℕ) (ms : Program) (n : List ℕ) → first_value (placed defined k ms) n ≡ None → IsIn n (flat_map defined ms) → ⊥
in_defined k ms n h i = let s = in_some k ms n i in first_never (placed defined k ms) n s.0 h s.1

-- all interfaces are noted
pub texts_end : {S : Type 0} → (ms : List CoreModule) (i : ℕ) (m : HashMap (Bor (List ℕ)) (Bor (List ℕ)) S) (o : Option (List ℕ)) → length ms ≤ i
    → Noted text_seen (with_texts (kept_interfaces (program_of (take i ms)))) m o → IsLeastOf (Differs (program_of ms)) o
texts_end ms i m o end h = differs_least (program_of ms) o (subst (λ xs. IsLeastOf (Clashes (with_texts (kept_interfaces (program_of xs)))) o) (take_all i ms end) h.least)

-- classes and routines are noted
pub defined_more : {S : Type 0} → (k : ℕ) (home : ProgramModule) (m : HashMap (Bor (List ℕ)) ℕ S) (o : Option (List ℕ)) (done : List (Entry ℕ)) (xs ys : List (List ℕ))
    → xs ≡ class_names home.classes → ys ≡ routine_names home.units → Noted place_seen ((done ++ all_with k xs) ++ all_with k ys) m o → Noted place_seen (done ++ all_with k (defined home)) m o
defined_more k home m o done xs ys e f h =
    subst (λ es. Noted place_seen es m o)
    (append_assoc done (all_with k xs) (all_with k ys)
    ∙ ap (λ es. done ++ es) (sym (map-append (λ n. entry n k) xs ys))
    ∙ ap (λ ns. done ++ all_with k (ns ++ ys)) e
    ∙ ap (λ ns. done ++ all_with k (class_names home.classes ++ ns)) f)
    h

-- all items are noted
pub loop_end : {A V X S : Type 0} → (seen : X → V) (f : List A → List (Entry V)) (m : HashMap (Bor (List ℕ)) X S) (o : Option (List ℕ)) (done : List (Entry V)) (xs : List A) (i : ℕ) → length xs ≤ i
    → Noted seen (done ++ f (take i xs)) m o → Noted seen (done ++ f xs) m o
loop_end seen f m o done xs i end h = subst (λ ys. Noted seen (done ++ f ys) m o) (take_all i xs end) h

-- the name of a routine
pub routine_entries : {S : Type 0} → (k : ℕ) (u : CoreUnit) (n : List ℕ) (m : HashMap (Bor (List ℕ)) ℕ S) (o : Option (List ℕ)) (done : List (Entry ℕ)) → u.kind ≡ RoutineKind → n ≡ (unit_of u).name
    → Noted place_seen (done ++ entry n k ∷ []) m o → Noted place_seen (done ++ all_with k (routine_names (unit_of u ∷ []))) m o
routine_entries k u n m o done h e noted =
    subst (λ es. Noted place_seen (done ++ es) m o) (ap (λ x. entry x k ∷ []) e ∙ ap (λ s. all_with k (routine_name (sort_of s) (unit_of u).name ++ [])) (sym h)) noted

-- the name `main`
pub main_entries : {S : Type 0} → (k : ℕ) (full : List ℕ) (u : CoreUnit) (n : List ℕ) (m : HashMap (Bor (List ℕ)) ℕ S) (o : Option (List ℕ)) (done : List (Entry ℕ)) → bytes_eq (unit_of u).name full ≡ true
    → n ≡ codes "main" → Noted place_seen (done ++ entry n k ∷ []) m o → Noted place_seen (done ++ all_with k (mains_in full (unit_of u ∷ []))) m o
main_entries k full u n m o done h e noted =
    subst (λ es. Noted place_seen (done ++ es) m o) (ap (λ x. entry x k ∷ []) e ∙ ap (λ b. all_with k (map (λ v. codes "main") (cond b (unit_of u ∷ []) []))) (sym h)) noted
