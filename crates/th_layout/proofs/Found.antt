-- The look-ups of a layout, from what it keeps.
use Rattle.std.proofs.Common.{◌≡◌, ◌^◌, ℕ, zero, suc, ◌+◌, ◌*◌, ◌<◌, ◌≤◌, List, [], ◌∷◌, length, get_or, Bool, true, false, nat_eq, cond, refl, sym, ap, ◌∙◌, subst, ◌⊎◌, inl, inr, arith, Option, Some, None}
use Rattle.std.specs.Prelude.{slice_get, nat_lt, option_map, option_and_then}
use Rattle.std.specs.HashMap.{get}
use Rattle.th_views.specs.declared.ClassRow.{ClassRow}
use Rattle.th_views.specs.Chain.{Link, words, filled, filled_above, size, field_word}
use Rattle.std.proofs.lemmas.Bool.{cases_Bool, eqb-true}
use Rattle.th_views.specs.declared.Spot.{Spot}
use Rattle.th_views.specs.Tree.{Tree, span}
use Rattle.th_views.specs.Listed.{spots, first_of, HasSpot}
use Rattle.th_offsets.specs.declared.maps.Casts.{Casts}
use Rattle.th_offsets.proofs.Spotting.{spot_below}
use Rattle.th_views.specs.Lookups.{index_of, after, type_numbers, class_numbers, class_place, size_of, field_of, field_at, cast_at}
use Rattle.th_views.specs.Rows.{Program, tree_of, chain_of, inherited, Inherited}
use Rattle.th_layout.specs.declared.layout.Layout.TheInside.{Inside}
use Rattle.th_offsets.specs.declared.objects.Object.{Object}
use Rattle.th_layout.specs.declared.sides.ClassSide.{ClassSide}
use Rattle.th_offsets.specs.Known.{IsObject}
use Rattle.th_layout.specs.Inside.{laid, Kept}
use Rattle.th_layout.specs.Held.{IsHeld}
use Rattle.th_layout.specs.Laid.{IsClassSide, IsTypeSide, CastedAt}
use Rattle.th_layout.proofs.Judged.{type_many, class_many}
use Rattle.th_offsets.proofs.Seeing.{object_got}
use Rattle.th_offsets.proofs.Tallies.{chain_at, class_got, link}

after_within : (o : Option ℕ) (k n : ℕ) → ((j : ℕ) → o ≡ Some j → j < n) → after o ≡ Some k → k < suc n
after_within None k n f e = absurd (cc)
after_within (Some j) k n f e = let a : j < n = f j refl in let b : j + 1 ≡ k = cc in omega arith

index_within : (q k : ℕ) (l : List ℕ) → index_of q l ≡ Some k → k < length l
index_within q k [] e = absurd (cc)
index_within q k (x ∷ xs) e = by (nat_eq x q) e (λ j d. index_within q j xs d)
  where
    by : (b : Bool) → cond b (Some 0) (after (index_of q xs)) ≡ Some k → ((j : ℕ) → index_of q xs ≡ Some j → j < length xs) → k < length (x ∷ xs)
    by true d f = let z : 0 ≡ k = cc in omega arith
    by false d f = let z : k < suc (length xs) = after_within (index_of q xs) k (length xs) f d in omega arith

pub type_found : (a : Inside) (p : Program) (q x : ℕ) → laid a ≡ p → Kept (laid a) a → get nat_eq a.places.types q ≡ Some x → x < length p.types
type_found a p q x e k g = let m : Kept p a = subst (λ y. Kept y a) e k in
    let i : x < length (type_numbers p.types) = index_within q x (type_numbers p.types) (sym (m.places.types q) ∙ g) in
    let l : length (type_numbers p.types) ≡ length p.types = type_many p.types in omega arith

pub class_found : (a : Inside) (p : Program) (q x : ℕ) → laid a ≡ p → Kept (laid a) a → get nat_eq a.places.classes q ≡ Some x → x < length p.classes
class_found a p q x e k g = let m : Kept p a = subst (λ y. Kept y a) e k in
    let i : x < length (class_numbers p.classes) = index_within q x (class_numbers p.classes) (sym (m.places.classes q) ∙ g) in
    let l : length (class_numbers p.classes) ≡ length p.classes = class_many p.classes in omega arith

pub object_kept : (p : Program) (s : ClassSide) (k : ℕ) (d : Object) → IsClassSide p s → k < length p.classes → IsObject (get_or s.objects.items k d) (chain_of p k)
object_kept p s k d a h = let i : k < length s.objects.items = omega arith in object_got s.objects.items k d (chain_of p k) i (a.objects.1 k i)

-- an object's bytes are few
pub object_small : (a : Inside) (p : Program) (k : ℕ) (o d : Object) → laid a ≡ p → Kept (laid a) a → k < length p.classes → o ≡ get_or a.class_side.objects.items k d
    → (o.words ≤ 64) × (o.wheres + o.fields ≤ 400)
object_small a p k o d e m h q =
    let s : IsClassSide p a.class_side = (subst (λ y. Kept y a) e m).class_side in
    let i : IsObject o (chain_of p k) = subst (λ x. IsObject x (chain_of p k)) (sym q) (object_kept p a.class_side k d s h) in
    let w : words (chain_of p k) ≤ 64 = s.few_words k in let f : filled (chain_of p k) ≤ 400 = s.few_fields k in
    let iw : o.words ≡ words (chain_of p k) = i.words in let jf : o.wheres + o.fields ≡ filled (chain_of p k) = i.filled in
    (omega arith, omega arith)

pub size_found : (a : Inside) (p : Program) (q k : ℕ) (o d : Object) → laid a ≡ p → Kept (laid a) a → k < length p.classes → Some k ≡ class_place p q → o ≡ get_or a.class_side.objects.items k d
    → Some (4 * (o.words + (o.wheres + o.fields))) ≡ size_of p q
size_found a p q k o d e m h c g =
    let s : IsClassSide p a.class_side = (subst (λ y. Kept y a) e m).class_side in
    let i : IsObject o (chain_of p k) = subst (λ x. IsObject x (chain_of p k)) (sym g) (object_kept p a.class_side k d s h) in
    let iw : o.words ≡ words (chain_of p k) = i.words in let jf : o.wheres + o.fields ≡ filled (chain_of p k) = i.filled in
    let z : 4 * (o.words + (o.wheres + o.fields)) ≡ size (chain_of p k) = omega arith in
    ap Some z ∙ ap (option_map (λ c. size (chain_of p c))) c

class_read : (p : Program) (k : ℕ) (r d : ClassRow) → k < length p.classes → r ≡ get_or p.classes k d → slice_get p.classes k ≡ Some r
class_read p k r d h e = class_got p.classes k d h ∙ ap Some (sym e)

field_link : (p : Program) (o : Inherited p.classes) (k i : ℕ) (d : ClassRow) (x : Object) → k < length p.classes → IsObject x (chain_of p k) → 1 + x.below + i ≡ field_word (chain_of p k) i
field_link p o k i d x h g =
    let e : chain_of p k ≡ link p.types (get_or p.classes k d) ∷ inherited (chain_of p) (get_or p.classes k d).inherits = chain_at p o k d h in
    let b : x.below ≡ filled (inherited (chain_of p) (get_or p.classes k d).inherits) = g.below ∙ ap filled_above e in
    let z : 1 + x.below + i ≡ 1 + filled (inherited (chain_of p) (get_or p.classes k d).inherits) + i = omega arith in
    z ∙ sym (ap (λ l. field_word l i) e)

pub field_found : (a : Inside) (p : Program) (q k i : ℕ) (o d : Object) (r y : ClassRow) → laid a ≡ p → Kept (laid a) a → k < length p.classes → Some k ≡ class_place p q
    → o ≡ get_or a.class_side.objects.items k d → r ≡ get_or a.classes.items k y → nat_lt i (r.wheres + r.fields) ≡ true → Some (4 * (1 + o.below + i)) ≡ field_of p q i
field_found a p q k i o d r y e m h c g f t =
    let n : Kept p a = subst (λ y. Kept y a) e m in
    let u : r ≡ get_or p.classes k y = f ∙ ap (λ z. get_or z.classes k y) e in
    let x : IsObject o (chain_of p k) = subst (λ z. IsObject z (chain_of p k)) (sym g) (object_kept p a.class_side k d n.class_side h) in
    let w : 1 + o.below + i ≡ field_word (chain_of p k) i = field_link p n.sound.classes k i y o h x in
    ap (λ v. Some (4 * v)) w ∙ sym (ap (λ b. cond b (Some (4 * field_word (chain_of p k) i)) None) t)
    ∙ sym (ap (option_and_then (λ z. cond (nat_lt i (z.wheres + z.fields)) (Some (4 * field_word (chain_of p k) i)) None)) (class_read p k r y h u))
    ∙ ap (option_and_then (λ z. field_at p z i)) c

pub no_field : (a : Inside) (p : Program) (q k i : ℕ) (r y : ClassRow) → laid a ≡ p → Kept (laid a) a → k < length p.classes → Some k ≡ class_place p q
    → r ≡ get_or a.classes.items k y → nat_lt i (r.wheres + r.fields) ≡ false → None ≡ field_of p q i
no_field a p q k i r y e m h c f t =
    let u : r ≡ get_or p.classes k y = f ∙ ap (λ z. get_or z.classes k y) e in
    sym (ap (λ b. cond b (Some (4 * field_word (chain_of p k) i)) None) t)
    ∙ sym (ap (option_and_then (λ z. cond (nat_lt i (z.wheres + z.fields)) (Some (4 * field_word (chain_of p k) i)) None)) (class_read p k r y h u))
    ∙ ap (option_and_then (λ z. field_at p z i)) c

pub row_small : (a : Inside) (p : Program) (k : ℕ) (o d : Object) (r y : ClassRow) → laid a ≡ p → Kept (laid a) a → k < length p.classes
    → o ≡ get_or a.class_side.objects.items k d → r ≡ get_or a.classes.items k y → o.below + (r.wheres + r.fields) ≤ 400
row_small a p k o d r y e m h g f =
    let n : Kept p a = subst (λ y. Kept y a) e m in
    let u : r ≡ get_or p.classes k y = f ∙ ap (λ z. get_or z.classes k y) e in
    let x : IsObject o (chain_of p k) = subst (λ z. IsObject z (chain_of p k)) (sym g) (object_kept p a.class_side k d n.class_side h) in
    let c : chain_of p k ≡ link p.types (get_or p.classes k y) ∷ inherited (chain_of p) (get_or p.classes k y).inherits = chain_at p n.sound.classes k y h in
    let b : o.below ≡ filled (inherited (chain_of p) (get_or p.classes k y).inherits) = x.below ∙ ap filled_above c in
    let t : filled (chain_of p k) ≡ filled (link p.types (get_or p.classes k y) ∷ inherited (chain_of p) (get_or p.classes k y).inherits) = ap filled c in
    let v : filled (chain_of p k) ≤ 400 = n.class_side.few_fields k in
    let ww : r.wheres ≡ (get_or p.classes k y).wheres = ap (λ z. z.wheres) u in
    let ff : r.fields ≡ (get_or p.classes k y).fields = ap (λ z. z.fields) u in omega arith

pub first_has : (u w : ℕ) (l : List Spot) → first_of u l ≡ Some w → HasSpot l u w
first_has u w [] e = absurd (cc)
first_has u w (s ∷ ss) e = by (cases_Bool (nat_eq s.name u)) (λ d. first_has u w ss d)
  where
    by : (nat_eq s.name u ≡ true) ⊎ (nat_eq s.name u ≡ false) → (first_of u ss ≡ Some w → HasSpot ss u w) → HasSpot (s ∷ ss) u w
    by (inl t) f = let z : Some s.word ≡ Some w = (rw t at e) in inl (sym (eqb-true s.name u t), cc)
    by (inr t) f = inr (f (rw t at e))

pub casted_got : (l : List Casts) (k : ℕ) (d : Casts) (x : Tree) → k < length l → CastedAt (slice_get l k) x → (q : ℕ) → get nat_eq (get_or l k d).words q ≡ first_of q (spots x)
casted_got [] k d x h g = absurd (omega arith)
casted_got (y ∷ ys) zero d x h g = g
casted_got (y ∷ ys) (suc k) d x h g = casted_got ys k d x (omega arith) g

pub cast_first : (a : Inside) (p : Program) (k u : ℕ) (c d : Casts) → laid a ≡ p → Kept (laid a) a → k < length p.types → c ≡ get_or a.type_side.casts.items k d
    → get nat_eq c.words u ≡ first_of u (spots (tree_of p.types k))
cast_first a p k u c d e m h g =
    let n : IsTypeSide p.types a.type_side = (subst (λ y. Kept y a) e m).type_side in
    let i : k < length a.type_side.casts.items = omega arith in
    ap (λ z. get nat_eq z.words u) g ∙ casted_got a.type_side.casts.items k d (tree_of p.types k) i (n.casts.1 k i) u

pub cast_small : (a : Inside) (p : Program) (k u w : ℕ) (c d : Casts) → laid a ≡ p → Kept (laid a) a → k < length p.types → c ≡ get_or a.type_side.casts.items k d
    → get nat_eq c.words u ≡ Some w → w < 64
cast_small a p k u w c d e m h g f =
    let n : IsTypeSide p.types a.type_side = (subst (λ y. Kept y a) e m).type_side in
    let x : HasSpot (spots (tree_of p.types k)) u w = first_has u w (spots (tree_of p.types k)) (sym (cast_first a p k u c d e m h g) ∙ f) in
    let y : w < span (tree_of p.types k) = spot_below (tree_of p.types k) u w x in
    let z : span (tree_of p.types k) ≤ 64 = n.few k in omega arith

pub cast_found : (a : Inside) (p : Program) (k u w : ℕ) (c d : Casts) → laid a ≡ p → Kept (laid a) a → k < length p.types → c ≡ get_or a.type_side.casts.items k d
    → get nat_eq c.words u ≡ Some w → Some (4 * w) ≡ cast_at p k u
cast_found a p k u w c d e m h g f = ap (option_map (λ v. 4 * v)) (sym f ∙ cast_first a p k u c d e m h g)

-- what the objects of a class hold
pub held_kept : (a : Inside) (p : Program) (k : ℕ) (o d : Object) → laid a ≡ p → Kept (laid a) a → k < length p.classes → o ≡ get_or a.class_side.objects.items k d
    → IsHeld p k (record { words = o.words; wheres = o.wheres; fields = o.fields })
held_kept a p k o d e m h q =
    let s : IsClassSide p a.class_side = (subst (λ y. Kept y a) e m).class_side in
    let i : IsObject o (chain_of p k) = subst (λ x. IsObject x (chain_of p k)) (sym q) (object_kept p a.class_side k d s h) in
    let l : (o.words ≤ 64) × (o.wheres + o.fields ≤ 400) = object_small a p k o d e m h q in
    record { words = i.words; wheres = i.wheres; fields = i.fields; few_words = l.0; few = omega (arith, l.1); few_fields = omega (arith, l.1) }
