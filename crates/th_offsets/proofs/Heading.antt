-- What methods give, and the bodies that walks find.
use Rattle.std.proofs.Common.{◌≡◌, ℕ, zero, suc, ◌+◌, ◌<◌, List, [], ◌∷◌, ◌++◌, length, get_or, Bool, true, false, nat_eq, cond, refl, sym, ap, ◌∙◌, subst, arith, Option, Some, None}
use Rattle.std.specs.Prelude.{slice_get}
use Rattle.std.specs.HashMap.{get}
use Rattle.th_views.specs.declared.ClassRow.{ClassRow}
use Rattle.th_views.specs.declared.Gives.{Gives}
use Rattle.th_views.specs.declared.TypeRow.{TypeRow}
use Rattle.th_views.specs.Chain.{Link, among, lookup}
use Rattle.th_views.specs.Lookups.{given_in, type_gives, class_gives, class_arrives}
use Rattle.th_views.specs.Rows.{Program, chain_of, inherited, Inherited}
use Rattle.th_offsets.specs.declared.heads_of.Heads.{Heads}
use Rattle.th_offsets.specs.declared.heads_of.Bodies.{Bodies}
use Rattle.th_offsets.specs.Given.{bodies_from, body_list, HeadsAt, GivenTypes, GivenClasses, Arriving, BodiesAt, BodyLists, BodiedAt, Bodied}
use Rattle.th_offsets.proofs.Forming.{chain_by}
use Rattle.th_offsets.proofs.Pushed.{push_each}
use Rattle.th_offsets.proofs.Tallies.{link, class_got}

pub type_got : (l : List TypeRow) (n : ℕ) (r : TypeRow) → n < length l → slice_get l n ≡ Some (get_or l n r)
type_got [] n r h = absurd (omega arith)
type_got (x ∷ xs) zero r h = refl
type_got (x ∷ xs) (suc n) r h = type_got xs n r (omega arith)

-- one more entry of a column of look-ups
heads_push : (lists : ℕ → List Gives) (done all : List Heads) (x : Heads) (n : ℕ) (l : List Gives) → length done ≡ n → ((k : ℕ) → k < length done → HeadsAt (slice_get done k) (lists k))
    → l ≡ lists n → ((q : ℕ) → get nat_eq x.of q ≡ given_in l q) → all ≡ done ++ x ∷ [] → (k : ℕ) → k < length all → HeadsAt (slice_get all k) (lists k)
heads_push lists done all x n l m d e g a =
    let z : HeadsAt (Some x) (lists n) = λ q. g q ∙ ap (λ y. given_in y q) e in
    subst (λ v. (k : ℕ) → k < length v → HeadsAt (slice_get v k) (lists k)) (sym a) (push_each (λ k o. HeadsAt o (lists k)) done x d (subst (λ k. HeadsAt (Some x) (lists k)) (sym m) z))

pub types_push : (rows : List TypeRow) (done all : List Heads) (x : Heads) (n : ℕ) (y r : TypeRow) (l : List Gives) → length done ≡ n → n < length rows → GivenTypes rows done → y ≡ get_or rows n r → l ≡ y.gives
    → ((q : ℕ) → get nat_eq x.of q ≡ given_in l q) → all ≡ done ++ x ∷ [] → GivenTypes rows all
types_push rows done all x n y r l m h d e f g a = heads_push (λ k. type_gives (slice_get rows k)) done all x n l m d (f ∙ ap (λ z. z.gives) e ∙ sym (ap type_gives (type_got rows n r h))) g a

pub classes_push : (rows : List ClassRow) (done all : List Heads) (x : Heads) (n : ℕ) (y r : ClassRow) (l : List Gives) → length done ≡ n → n < length rows → GivenClasses rows done → y ≡ get_or rows n r → l ≡ y.gives
    → ((q : ℕ) → get nat_eq x.of q ≡ given_in l q) → all ≡ done ++ x ∷ [] → GivenClasses rows all
classes_push rows done all x n y r l m h d e f g a = heads_push (λ k. class_gives (slice_get rows k)) done all x n l m d (f ∙ ap (λ z. z.gives) e ∙ sym (ap class_gives (class_got rows n r h))) g a

pub arrives_push : (rows : List ClassRow) (done all : List Heads) (x : Heads) (n : ℕ) (y r : ClassRow) (l : List Gives) → length done ≡ n → n < length rows → Arriving rows done → y ≡ get_or rows n r → l ≡ y.arrives
    → ((q : ℕ) → get nat_eq x.of q ≡ given_in l q) → all ≡ done ++ x ∷ [] → Arriving rows all
arrives_push rows done all x n y r l m h d e f g a = heads_push (λ k. class_arrives (slice_get rows k)) done all x n l m d (f ∙ ap (λ z. z.arrives) e ∙ sym (ap class_arrives (class_got rows n r h))) g a

-- the first body of a method is the one that the walk finds
given_bodies : (n : ℕ) (ms : List ℕ) (rest : List Gives) (m : ℕ) → given_in (bodies_from n ms ++ rest) m ≡ cond (among ms m) (Some n) (given_in rest m)
given_bodies n [] rest m = refl
given_bodies n (x ∷ xs) rest m = by (nat_eq x m) (given_bodies n xs rest m)
  where
    by : (b : Bool) → given_in (bodies_from n xs ++ rest) m ≡ cond (among xs m) (Some n) (given_in rest m)
        → cond b (Some n) (given_in (bodies_from n xs ++ rest) m) ≡ cond (cond b true (among xs m)) (Some n) (given_in rest m)
    by true e = refl
    by false e = e

pub given_lookup : (chain : List Link) (m : ℕ) → given_in (body_list chain) m ≡ lookup chain m
given_lookup [] m = refl
given_lookup (c ∷ rest) m = given_bodies c.class c.bodies (body_list rest) m ∙ ap (cond (among c.bodies m) (Some c.class)) (given_lookup rest m)

pub bodies_made : (p : Program) (o : Inherited p.classes) (n : ℕ) (c r : ClassRow) (ms : List ℕ) (none first all : List Gives) → n < length p.classes → c ≡ get_or p.classes n r → ms ≡ c.bodies
    → none ≡ [] → first ≡ none ++ bodies_from c.name ms → all ≡ first ++ body_list (inherited (chain_of p) c.inherits) → all ≡ body_list (chain_of p n)
bodies_made p o n c r ms none first all h q e a v w =
    w ∙ ap (λ t. t ++ body_list (inherited (chain_of p) c.inherits)) (v ∙ ap (λ t. t ++ bodies_from c.name ms) a ∙ ap (bodies_from c.name) e) ∙ sym (ap body_list (chain_by p o n c r h q))

bodies_got : (l : List Bodies) (n : ℕ) (d : Bodies) (chain : List Link) → n < length l → BodiesAt (slice_get l n) chain → (get_or l n d).list.items ≡ body_list chain
bodies_got [] n d chain h g = absurd (omega arith)
bodies_got (x ∷ xs) zero d chain h g = g
bodies_got (x ∷ xs) (suc n) d chain h g = bodies_got xs n d chain (omega arith) g

pub bodied_push : (p : Program) (lists : List Bodies) (done all : List Heads) (x : Heads) (n : ℕ) (d : Bodies) (l : List Gives) → length done ≡ n → n < length lists → BodyLists p lists → Bodied p done
    → l ≡ (get_or lists n d).list.items → ((q : ℕ) → get nat_eq x.of q ≡ given_in l q) → all ≡ done ++ x ∷ [] → Bodied p all
bodied_push p lists done all x n d l m h b e f g a =
    let z : BodiedAt (Some x) (chain_of p n) = λ q. g q ∙ ap (λ y. given_in y q) (f ∙ bodies_got lists n d (chain_of p n) h (b n h)) ∙ given_lookup (chain_of p n) q in
    subst (Bodied p) (sym a) (push_each (λ k o. BodiedAt o (chain_of p k)) done x e (subst (λ k. BodiedAt (Some x) (chain_of p k)) (sym m) z))
