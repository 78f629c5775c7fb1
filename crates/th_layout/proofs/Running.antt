-- The slots that a table is made of, and the table from its map.
use Rattle.std.proofs.Common.{◌≡◌, ◌^◌, ℕ, ℤ, zero, suc, ◌+◌, ◌*◌, ◌<◌, ◌≤◌, List, [], ◌∷◌, ◌++◌, length, get_or, drop, map, Bool, true, false, nat_eq, cond, refl, sym, ap, ◌∙◌, subst, ◌⊎◌, inl, inr, arith, add-one, drop-cons, le_refl, Option, Some, None}
use Rattle.std.specs.Prelude.{slice_get, option_map, unwrap_or}
use Rattle.std.specs.BTreeMap.{is_at}
use Rattle.std.specs.Cmp.{int_cmp_total, eq_by_cmp_equiv}
use Rattle.std.specs.HashMap.{get}
use Rattle.std.specs.List.Sorted.{IsStrictlySortedBy}
use Rattle.std.specs.Map.{lookup}
use Rattle.std.specs.Ordering.{int_cmp, int_eq, eq_by_cmp}
use Rattle.std.proofs.lemmas.Bool.{cases_Bool, eq-eqb}
use Rattle.std.proofs.lemmas.Bool.Decides.{Decides-int_eq, same_from_decides}
use Rattle.std.proofs.lemmas.Map.Entries.{lookup_from_place}
use Rattle.std.proofs.lemmas.Map.Keys.{IsDistinct-from_sorted}
use Rattle.th_views.specs.declared.Slot.{Slot}
use Rattle.th_views.specs.declared.Spot.{Spot}
use Rattle.th_views.specs.Tree.{Tree, own_of, is_up, base, span, place}
use Rattle.th_views.specs.Chain.{hidden}
use Rattle.th_views.specs.Contents.{body_of, own_slots, seen_slots, hidden_slots, first_at, slot_at, table_slots}
use Rattle.th_views.specs.Listed.{spots, first_of}
use Rattle.th_views.specs.Lookups.{offset, to_type, lowering, cast_at}
use Rattle.th_views.specs.Objects.{object_spots, raised}
use Rattle.th_views.specs.Rows.{Program, tree_of, chain_of}
use Rattle.th_offsets.specs.declared.maps.Casts.{Casts}
use Rattle.th_layout.specs.Laid.{Casted, IsClassSide}
use Rattle.th_layout.specs.declared.sides.ClassSide.{ClassSide}
use Rattle.th_offsets.specs.declared.views.Spots.{Spots}
use Rattle.th_offsets.specs.Known.{Few}
use Rattle.th_offsets.specs.Maps.{or_else, placed}
use Rattle.th_layout.specs.Runs.{own_run, spot_slots, IsTable}
use Rattle.th_layout.proofs.Found.{casted_got, first_has}
use Rattle.th_layout.proofs.Judged.{bare_tree, none_past}
use Rattle.th_offsets.proofs.Sited.{same_place}
use Rattle.th_offsets.proofs.Spotting.{spot_below}
use Rattle.th_offsets.proofs.Viewing.{viewed_got}

-- the first of two lists of slots
pub first_append : (a b : List Slot) (o : ℤ) → first_at (a ++ b) o ≡ or_else (first_at a o) (first_at b o)
first_append [] b o = refl
first_append (x ∷ xs) b o = by (int_eq x.offset o) (first_append xs b o)
  where
    by : (t : Bool) → first_at (xs ++ b) o ≡ or_else (first_at xs o) (first_at b o) → cond t (Some x) (first_at (xs ++ b) o) ≡ or_else (cond t (Some x) (first_at xs o)) (first_at b o)
    by true e = refl
    by false e = e

-- a run from the base on has the slots of a type's own methods
run_own : (p : Program) (c t i : ℕ) (l : List ℕ) → own_run p c t (is_up (tree_of p.types t)) (base (tree_of p.types t) + i) l ≡ own_slots p c t i l
run_own p c t i [] = refl
run_own p c t i (m ∷ ms) =
    let z : base (tree_of p.types t) + i + 1 ≡ base (tree_of p.types t) + (i + 1) = omega arith in
    ap (λ q. record { offset = offset q; method = m; body = body_of p c m; bridge = to_type p c m t } ∷ own_run p c t (is_up (tree_of p.types t)) (base (tree_of p.types t) + i + 1) ms)
    (same_place (tree_of p.types t) i (cases_Bool (is_up (tree_of p.types t))))
    ∙ ap (λ k. record { offset = offset (place (tree_of p.types t) i); method = m; body = body_of p c m; bridge = to_type p c m t } ∷ own_run p c t (is_up (tree_of p.types t)) k ms) z
    ∙ ap (λ l. record { offset = offset (place (tree_of p.types t) i); method = m; body = body_of p c m; bridge = to_type p c m t } ∷ l) (run_own p c t (i + 1) ms)

pub own_made : (p : Program) (c t b : ℕ) (u : Bool) (l : List ℕ) (o : ℤ) (x y : Option Slot) → u ≡ is_up (tree_of p.types t) → b ≡ base (tree_of p.types t) → l ≡ own_of (tree_of p.types t)
    → y ≡ or_else x (first_at (own_run p c t u b l) o) → y ≡ or_else x (first_at (own_slots p c t 0 (own_of (tree_of p.types t))) o)
own_made p c t b u l o x y e f g h = h ∙ ap (λ v. or_else x (first_at v o))
    (ap (λ v. own_run p c t v b l) e ∙ ap (λ v. own_run p c t (is_up (tree_of p.types t)) v l) (let z : b ≡ base (tree_of p.types t) + 0 = omega arith in z)
    ∙ ap (own_run p c t (is_up (tree_of p.types t)) (base (tree_of p.types t) + 0)) g ∙ run_own p c t 0 (own_of (tree_of p.types t)))

-- one more type seen
again : (a b d : Option Slot) → or_else (or_else a b) d ≡ or_else a (or_else b d)
again None b d = refl
again (Some a) b d = refl

pub seen_next : (p : Program) (c w i : ℕ) (l : List Spot) (d : Spot) (o : ℤ) (x y z : Option Slot) → i < length l → y ≡ or_else x (first_at (spot_slots p c w (get_or l i d)) o)
    → or_else x (first_at (seen_slots p c w (drop i l)) o) ≡ z → or_else y (first_at (seen_slots p c w (drop (i + 1) l)) o) ≡ z
seen_next p c w i l d o x y z h e g =
    ap (λ v. or_else v (first_at (seen_slots p c w (drop (i + 1) l)) o)) e
    ∙ again x (first_at (spot_slots p c w (get_or l i d)) o) (first_at (seen_slots p c w (drop (i + 1) l)) o)
    ∙ ap (or_else x) (sym (first_append (spot_slots p c w (get_or l i d)) (seen_slots p c w (drop (i + 1) l)) o))
    ∙ ap (λ v. or_else x (first_at (seen_slots p c w v) o)) (sym (next_spot i l d h)) ∙ g
  where
    next_spot : (i : ℕ) (l : List Spot) (d : Spot) → i < length l → drop i l ≡ get_or l i d ∷ drop (i + 1) l
    next_spot i l d h = drop-cons l i d h ∙ rw add-one refl

drop_all : (l : List Spot) (i : ℕ) → length l ≤ i → drop i l ≡ []
drop_all [] zero h = refl
drop_all [] (suc i) h = refl
drop_all (s ∷ ss) zero h = absurd (omega arith)
drop_all (s ∷ ss) (suc i) h = drop_all ss i (omega arith)

none_after : (x : Option Slot) → or_else x None ≡ x
none_after None = refl
none_after (Some x) = refl

pub seen_end : (p : Program) (c w i : ℕ) (l all : List Spot) (o : ℤ) (x first : Option Slot) → l ≡ all → length l ≤ i
    → or_else x (first_at (seen_slots p c w (drop i l)) o) ≡ or_else first (first_at (seen_slots p c w l) o) → x ≡ or_else first (first_at (seen_slots p c w all) o)
seen_end p c w i l all o x first e h g = sym (none_after x) ∙ ap (λ v. or_else x (first_at (seen_slots p c w v) o)) (sym (drop_all l i h)) ∙ g ∙ ap (λ v. or_else first (first_at (seen_slots p c w v) o)) e

pub seen_is : (p : Program) (s : ClassSide) (c : ℕ) (d : Spots) (l : List Spot) → IsClassSide p s → c < length p.classes → l ≡ (get_or s.seen.items c d).list.items → l ≡ object_spots (chain_of p c)
seen_is p s c d l k h e = let i : c < length s.seen.items = omega arith in e ∙ viewed_got s.seen.items c d (chain_of p c) i (k.seen.1 c i)

-- the distance that a cast's map has
pub lowering_found : (p : Program) (casts : List Casts) (a b w : ℕ) (d : Casts) → length casts ≡ length p.types → Casted p.types casts → a < length casts → get nat_eq (get_or casts a d).words b ≡ Some w → 4 * w ≡ lowering p a b
lowering_found p casts a b w d m c h e = let z : first_of b (spots (tree_of p.types a)) ≡ Some w = sym (casted_got casts a d (tree_of p.types a) h (c a h) b) ∙ e in
    sym (ap (λ o. unwrap_or (option_map (λ v. 4 * v) o) 0) z)

pub lowering_none : (p : Program) (casts : List Casts) (a b : ℕ) (d : Casts) → length casts ≡ length p.types → Casted p.types casts → a < length casts → get nat_eq (get_or casts a d).words b ≡ None → 0 ≡ lowering p a b
lowering_none p casts a b d m c h e = let z : first_of b (spots (tree_of p.types a)) ≡ None = sym (casted_got casts a d (tree_of p.types a) h (c a h) b) ∙ e in
    sym (ap (λ o. unwrap_or (option_map (λ v. 4 * v) o) 0) z)

pub lowering_small : (p : Program) (casts : List Casts) (a b w : ℕ) (d : Casts) → Casted p.types casts → a < length casts → Few p.types → get nat_eq (get_or casts a d).words b ≡ Some w → w < 64
lowering_small p casts a b w d c h f e =
    let y : w < span (tree_of p.types a) = spot_below (tree_of p.types a) b w (first_has b w (spots (tree_of p.types a)) (sym (casted_got casts a d (tree_of p.types a) h (c a h) b) ∙ e)) in
    let z : span (tree_of p.types a) ≤ 64 = f a in omega arith

pub lowering_past : (p : Program) (a b : ℕ) → length p.types ≤ a → 0 ≡ lowering p a b
lowering_past p a b h = sym (ap (λ x. unwrap_or (option_map (λ v. 4 * v) (first_of b (spots x))) 0) (bare_tree p.types a (slice_get p.types a) refl (none_past p.types a h)) ∙ alone (nat_eq a b))
  where
    alone : (t : Bool) → unwrap_or (option_map (λ v. 4 * v) (cond t (Some 0) None)) 0 ≡ 0
    alone true = refl
    alone false = refl

-- a table from its map
first_offset : (l : List Slot) (z : ℤ) (s : Slot) → first_at l z ≡ Some s → s.offset ≡ z
first_offset [] z s e = absurd (cc)
first_offset (x ∷ xs) z s e = by (cases_Bool (int_eq x.offset z)) (λ d. first_offset xs z s d)
  where
    by : (int_eq x.offset z ≡ true) ⊎ (int_eq x.offset z ≡ false) → (first_at xs z ≡ Some s → s.offset ≡ z) → s.offset ≡ z
    by (inl t) f = let q : Some x ≡ Some s = (rw t at e) in let r : x ≡ s = cc in ap (λ y. y.offset) (sym r) ∙ (Decides-int_eq x.offset z).0 t
    by (inr t) f = f (rw t at e)

same_eq : (a b : ℤ) → int_eq a b ≡ int_eq b a
same_eq a b = same_from_decides (int_eq a b) (int_eq b a) (Decides-int_eq a b) (λ e. sym ((Decides-int_eq b a).0 e), λ e. (Decides-int_eq b a).1 (sym e))

offsets_are : (es : List (ℤ × Slot)) → ((i : ℕ) (k : ℤ) (v : Slot) → slice_get es i ≡ Some (k, v) → v.offset ≡ k) → map (λ s. s.offset) (map (λ e. e.1) es) ≡ map (λ e. e.0) es
offsets_are [] f = refl
offsets_are (e ∷ es) f = let a : e.1.offset ≡ e.0 = f 0 e.0 e.1 refl in let b : map (λ s. s.offset) (map (λ e. e.1) es) ≡ map (λ e. e.0) es = offsets_are es (λ i k v g. f (suc i) k v g) in cc

first_lookup : (es : List (ℤ × Slot)) (o : ℤ) → ((i : ℕ) (k : ℤ) (v : Slot) → slice_get es i ≡ Some (k, v) → v.offset ≡ k) → first_at (map (λ e. e.1) es) o ≡ lookup (is_at (int_cmp o)) es
first_lookup [] o f = refl
first_lookup (e ∷ es) o f = let a : e.1.offset ≡ e.0 = f 0 e.0 e.1 refl in
    ap (λ b. cond b (Some e.1) (first_at (map (λ e. e.1) es) o)) (ap (λ k. int_eq k o) a ∙ same_eq e.0 o)
    ∙ ap (cond (int_eq o e.0) (Some e.1)) (first_lookup es o (λ i k v g. f (suc i) k v g))

pub table_made : (p : Program) (c w : ℕ) (es : List (ℤ × Slot)) (slots : List Slot) → IsStrictlySortedBy int_cmp (map (λ e. e.0) es)
    → ((o : ℤ) → lookup (is_at (int_cmp o)) es ≡ slot_at p c w o) → slots ≡ map (λ e. e.1) es → IsTable p c w slots
table_made p c w es slots s f e =
    let g : (i : ℕ) (k : ℤ) (v : Slot) → slice_get es i ≡ Some (k, v) → v.offset ≡ k = λ i k v q.
    first_offset (table_slots p c w) k v (sym (f k) ∙ lookup_from_place (eq_by_cmp_equiv int_cmp_total) es i k v (IsDistinct-from_sorted int_cmp (map (λ e. e.0) es) s) q) in
    record {
      ascending = subst (IsStrictlySortedBy int_cmp) (sym (ap (map (λ s. s.offset)) e ∙ offsets_are es g)) s;
      here = λ o. ap (λ l. first_at l o) e ∙ first_lookup es o g ∙ f o;
    }

-- the types seen, and then the hidden methods at the anchor
pub contents_made : (p : Program) (c w k : ℕ) (names : List ℕ) (o : ℤ) (none first last : Option Slot) → none ≡ None
    → first ≡ or_else none (first_at (seen_slots p c w (object_spots (chain_of p c))) o) → k ≡ raised p.types → names ≡ hidden (chain_of p c)
    → last ≡ or_else first (first_at (cond (nat_eq w 0) (hidden_slots p c k names) []) o) → last ≡ slot_at p c w o
contents_made p c w k names o empty first last a b d e f =
    f ∙ ap (λ x. or_else x (first_at (cond (nat_eq w 0) (hidden_slots p c k names) []) o)) (b ∙ ap (λ x. or_else x (first_at (seen_slots p c w (object_spots (chain_of p c))) o)) a)
    ∙ ap (λ x. or_else (first_at (seen_slots p c w (object_spots (chain_of p c))) o) (first_at (cond (nat_eq w 0) (hidden_slots p c x names) []) o)) d
    ∙ ap (λ x. or_else (first_at (seen_slots p c w (object_spots (chain_of p c))) o) (first_at (cond (nat_eq w 0) (hidden_slots p c (raised p.types) x) []) o)) e
    ∙ sym (first_append (seen_slots p c w (object_spots (chain_of p c))) (cond (nat_eq w 0) (hidden_slots p c (raised p.types) (hidden (chain_of p c))) []) o)

-- the bytes that a cast's map has are the distance
pub lowering_is : (p : Program) (casts : List Casts) (a b t : ℕ) (x d : Casts) → length casts ≡ length p.types → Casted p.types casts → a < length casts → x ≡ get_or casts a d
    → t ≡ unwrap_or (option_map (λ w. 4 * w) (get nat_eq x.words b)) 0 → t ≡ lowering p a b
lowering_is p casts a b t x d m c h q e = e ∙ ap (λ o. unwrap_or (option_map (λ w. 4 * w) o) 0) (ap (λ z. get nat_eq z.words b) q ∙ casted_got casts a d (tree_of p.types a) h (c a h) b)
