-- What the objects of a class see, and the offsets of its hidden methods.
use Rattle.std.proofs.Common.{◌≡◌, ◌^◌, ℕ, ℤ, zero, suc, ◌+◌, ◌<◌, ◌≤◌, List, [], ◌∷◌, ◌++◌, length, get_or, Bool, true, false, cond, nat_eq, refl, sym, ap, ◌∙◌, subst, arith, Option, Some, None}
use Rattle.std.specs.Prelude.{slice_get, option_map}
use Rattle.std.specs.HashMap.{get}
use Rattle.th_views.specs.declared.TypeRow.{TypeRow}
use Rattle.th_views.specs.declared.ClassRow.{ClassRow}
use Rattle.th_views.specs.declared.Spot.{Spot}
use Rattle.th_views.specs.Tree.{Tree, span, Place, Above}
use Rattle.th_views.specs.Listed.{spots, lowered, HasSpot}
use Rattle.th_views.specs.Chain.{Link, start, words, hidden}
use Rattle.th_views.specs.Lookups.{index_of, offset, hidden_place}
use Rattle.th_views.specs.Objects.{object_spots, raised, upward_count, none}
use Rattle.th_views.specs.Rows.{Program, tree_of, chain_of, inherited, inherits_in, Inherited, Before}
use Rattle.th_views.specs.Sums.{class_slots}
use Rattle.th_views.proofs.Views.{span_some}
use Rattle.th_offsets.specs.declared.maps.Offsets.{Offsets}
use Rattle.th_offsets.specs.declared.objects.Object.{Object}
use Rattle.th_offsets.specs.declared.views.Spots.{Spots}
use Rattle.th_offsets.specs.Known.{IsObject, ObjectAt, Formed, FewWords, Few, Spotted, HiddenAts, HiddenAtsOf, HiddenNames, Shallow}
use Rattle.th_offsets.specs.Maps.{placed, offset_from}
use Rattle.th_offsets.proofs.Forming.{chain_by}
use Rattle.th_offsets.proofs.Pushed.{push_each, own_short}
use Rattle.th_offsets.proofs.Sited.{offset_from_is}
use Rattle.th_offsets.proofs.Spotting.{list_at, spot_at, spot_below}
use Rattle.th_offsets.proofs.Tallies.{link, class_got}

pub object_got : (l : List Object) (n : ℕ) (d : Object) (chain : List Link) → n < length l → ObjectAt (slice_get l n) chain → IsObject (get_or l n d) chain
object_got [] n d chain h g = absurd (omega arith)
object_got (x ∷ xs) zero d chain h g = g
object_got (x ∷ xs) (suc n) d chain h g = object_got xs n d chain (omega arith) g

pub before_got : (classes : List ClassRow) (n : ℕ) (c r : ClassRow) (d : ℕ) → Inherited classes → n < length classes → c ≡ get_or classes n r → c.inherits ≡ Some d → d < n
before_got classes n c r d o h e i = subst (Before n) (ap inherits_in (class_got classes n r h) ∙ ap (λ x. x.inherits) (sym e) ∙ i) (o n)

start_few : (l : List Link) (s : ℕ) → words l ≤ 64 → s ≡ start l → s ≤ 64
start_few l s h e = omega arith

pub lower_ok : (p : Program) (o : Inherited p.classes) (objects : List Object) (seen : List Spots) (n : ℕ) (c : ClassRow) (d : Object) (y : Spots) (low : ℕ) (from : List Spot)
    → n < length p.classes → length objects ≡ length p.classes → Formed p objects → FewWords p → c.of < length p.types → length seen ≡ length p.types → Spotted p.types seen → Few p.types
    → low ≡ (get_or objects n d).start → from ≡ (get_or seen c.of y).list.items
    → (k : ℕ) → low + (get_or from k (record { name = 0; word = 0 })).word < 2 ^ 32
lower_ok p o objects seen n c d y low from h m f w b q s few e g k =
    let i : n < length objects = omega arith in
    let z : IsObject (get_or objects n d) (chain_of p n) = object_got objects n d (chain_of p n) i (f n i) in
    let a : low ≤ 64 = start_few (chain_of p n) low (w n) (e ∙ z.start) in
    let j : c.of < length seen = omega arith in
    let l : from ≡ spots (tree_of p.types c.of) = g ∙ list_at seen c.of y (tree_of p.types c.of) j (s c.of j) in
    let v : (get_or from k (record { name = 0; word = 0 })).word < span (tree_of p.types c.of) = spot_at from k (span (tree_of p.types c.of)) (span_some (tree_of p.types c.of))
    (λ t u r. spot_below (tree_of p.types c.of) t u (subst (λ x. HasSpot x t u) l r)) in
    let x : span (tree_of p.types c.of) ≤ 64 = few c.of in omega arith

pub seen_made : (p : Program) (o : Inherited p.classes) (objects : List Object) (seen : List Spots) (n : ℕ) (c r : ClassRow) (d : Object) (y : Spots) (low : ℕ) (from none first all : List Spot)
    → n < length p.classes → c ≡ get_or p.classes n r → length objects ≡ length p.classes → Formed p objects → c.of < length p.types → length seen ≡ length p.types → Spotted p.types seen
    → low ≡ (get_or objects n d).start → from ≡ (get_or seen c.of y).list.items → none ≡ [] → first ≡ none ++ lowered low from → all ≡ first ++ object_spots (inherited (chain_of p) c.inherits)
    → all ≡ object_spots (chain_of p n)
seen_made p o objects seen n c r d y low from none first all h q m f b u s e g a v w =
    let i : n < length objects = omega arith in
    let z : IsObject (get_or objects n d) (chain_of p n) = object_got objects n d (chain_of p n) i (f n i) in
    let j : c.of < length seen = omega arith in
    let l : from ≡ spots (tree_of p.types c.of) = g ∙ list_at seen c.of y (tree_of p.types c.of) j (s c.of j) in
    let k : chain_of p n ≡ link p.types c ∷ inherited (chain_of p) c.inherits = chain_by p o n c r h q in
    let x : low ≡ start (link p.types c ∷ inherited (chain_of p) c.inherits) = e ∙ z.start ∙ ap start k in
    w ∙ ap (λ t. t ++ object_spots (inherited (chain_of p) c.inherits)) (v ∙ ap (λ t. t ++ lowered low from) a ∙ ap (λ t. lowered t from) x ∙ ap (lowered (start (link p.types c ∷ inherited (chain_of p) c.inherits))) l)
    ∙ sym (ap object_spots k)

map_above : (k : ℕ) (o : Option ℕ) → option_map (λ i. offset (placed true (k + i))) o ≡ option_map offset (option_map (λ i. Above (k + i)) o)
map_above k None = refl
map_above k (Some i) = refl

pub hidden_at : (p : Program) (c q : ℕ) (names : List ℕ) → names ≡ hidden (chain_of p c) → offset_from true (raised p.types) names q ≡ option_map offset (hidden_place p c q)
hidden_at p c q names e = offset_from_is true (raised p.types) names q ∙ map_above (raised p.types) (index_of q names) ∙ ap (λ l. option_map offset (option_map (λ i. Above (raised p.types + i)) (index_of q l))) e

picked : (b : Bool) (x : ℕ) → x ≤ 250 → cond b x 0 ≤ 250
picked true x h = h
picked false x h = omega arith

raised_few : (types : List TypeRow) → ((r : TypeRow) (n : ℕ) → n < length types → length (get_or types n r).own ≤ 250) → raised types ≤ 250
raised_few [] f = omega arith
raised_few (r ∷ rest) f =
    let a : upward_count r ≤ 250 = count_few r (f r 0 (omega arith)) in
    let b : raised rest ≤ 250 = raised_few rest (λ x n h. f x (suc n) (omega arith)) in omega arith
  where
    count_few : (r : TypeRow) → length r.own ≤ 250 → upward_count r ≤ 250
    count_few r h = picked (cond r.marked (none r.supers) false) (length r.own) h

names_got : (l : List (List ℕ)) (n : ℕ) (d x : List ℕ) → n < length l → slice_get l n ≡ Some x → get_or l n d ≡ x
names_got [] n d x h e = absurd (omega arith)
names_got (y ∷ ys) zero d x h e = cc
names_got (y ∷ ys) (suc n) d x h e = names_got ys n d x (omega arith) e

pub hidden_names : (p : Program) (names : List (List ℕ)) (n : ℕ) (d list : List ℕ) → length names ≡ length p.classes → n < length p.classes → HiddenNames p names → list ≡ get_or names n d → list ≡ hidden (chain_of p n)
hidden_names p names n d list m h f e = let i : n < length names = omega arith in e ∙ names_got names n d (hidden (chain_of p n)) i (f n i)

pub hidden_fits : (p : Program) (k n : ℕ) (list : List ℕ) → k ≡ raised p.types → Shallow p.types → ((c : ℕ) → class_slots (chain_of p c) ≤ 250) → list ≡ hidden (chain_of p n) → k + length list ≤ 1000
hidden_fits p k n list e s f q =
    let a : raised p.types ≤ 250 = raised_few p.types (λ r m h. own_short p.types m r h s) in
    let b : class_slots (chain_of p n) ≤ 250 = f n in
    let l : length list ≡ length (hidden (chain_of p n)) = ap length q in omega arith

pub hidden_push : (p : Program) (done all : List Offsets) (x : Offsets) (n k : ℕ) (list : List ℕ) → length done ≡ n → HiddenAts p done → k ≡ raised p.types → list ≡ hidden (chain_of p n)
    → ((q : ℕ) → get nat_eq x.bytes q ≡ offset_from true k list q) → all ≡ done ++ x ∷ [] → HiddenAts p all
hidden_push p done all x n k list l d e g f a =
    let z : HiddenAtsOf (Some x) p n = λ q. f q ∙ ap (λ j. offset_from true j list q) e ∙ hidden_at p n q list g in
    subst (HiddenAts p) (sym a) (push_each (λ j v. HiddenAtsOf v p j) done x d (subst (HiddenAtsOf (Some x) p) (sym l) z))
