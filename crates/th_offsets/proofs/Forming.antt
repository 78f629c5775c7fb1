-- The objects of a class, from those of the class that it inherits.
use Rattle.std.proofs.Common.{◌≡◌, ℕ, zero, suc, ◌+◌, ◌<◌, ◌≤◌, List, [], ◌∷◌, ◌++◌, length, get_or, Bool, true, false, cond, refl, sym, ap, ◌∙◌, subst, arith, Option, Some, None}
use Rattle.std.specs.Prelude.{slice_get}
use Rattle.th_views.specs.declared.TypeRow.{TypeRow}
use Rattle.th_views.specs.declared.ClassRow.{ClassRow}
use Rattle.th_views.specs.Tree.{span}
use Rattle.th_views.specs.Chain.{Link, start, words, low_span, hidden, filled, filled_above, wheres_in, fields_in}
use Rattle.th_views.specs.Rows.{Program, tree_of, chain_of, inherited, Inherited}
use Rattle.th_offsets.specs.declared.heads.Facts.{Facts}
use Rattle.th_offsets.specs.declared.objects.Object.{Object}
use Rattle.th_offsets.specs.Known.{object_on, IsObject, FewWords, FewFields, Typed, Done, IsFacts}
use Rattle.th_offsets.proofs.Tallies.{chain_at, link, of_within}
use Rattle.th_offsets.proofs.Walked.{facts_at}

pub few_inherited : (p : Program) → FewWords p → (d : Option ℕ) → words (inherited (chain_of p) d) ≤ 64
few_inherited p f None = omega arith
few_inherited p f (Some d) = f d

pub filled_inherited : (p : Program) → FewFields p → (d : Option ℕ) → filled (inherited (chain_of p) d) ≤ 400
filled_inherited p f None = omega arith
filled_inherited p f (Some d) = f d

pub span_at : (types : List TypeRow) (facts : List Facts) (t : ℕ) (f : Facts) → length facts ≡ length types → t < length types → Done types facts → (get_or facts t f).span ≡ span (tree_of types t)
span_at types facts t f l h d = let k : t < length facts = omega arith in let g : IsFacts (get_or facts t f) (tree_of types t) = facts_at facts t f (tree_of types t) k (d t k) in g.span

pick : (b : Bool) (x y z w : ℕ) → x ≡ z → y ≡ w → cond b x y ≡ cond b z w
pick true x y z w a b = a
pick false x y z w a b = b

object_link : (l : Link) (c : ClassRow) (rest : List Link) (up : Object) (s : ℕ) → l.extends ≡ c.extends → l.wheres ≡ c.wheres → l.fields ≡ c.fields → IsObject up rest → s ≡ span l.of
    → IsObject (object_on c up s) (l ∷ rest)
object_link l c rest up s a w f t e =
    let x : cond c.extends up.start up.words ≡ cond l.extends (start rest) (start rest + low_span rest) =
    pick c.extends up.start up.words (start rest) (words rest) t.start t.words ∙ ap (λ y. cond y (start rest) (words rest)) (sym a) in
    let tw : up.wheres ≡ wheres_in rest = t.wheres in let tf : up.fields ≡ fields_in rest = t.fields in let tt' : up.wheres + up.fields ≡ filled rest = t.filled in
    record {
      start = x;
      words = sum_at (cond c.extends up.start up.words) (cond l.extends (start rest) (start rest + low_span rest)) s (span l.of) x e;
      wheres = omega arith;
      fields = omega arith;
      below = tt';
      filled = omega arith;
    }
  where
    sum_at : (y z s q : ℕ) → y ≡ z → s ≡ q → y + s ≡ z + q
    sum_at y z s q a b = omega arith

pub chain_by : (p : Program) (o : Inherited p.classes) (n : ℕ) (c r : ClassRow) → n < length p.classes → c ≡ get_or p.classes n r → chain_of p n ≡ link p.types c ∷ inherited (chain_of p) c.inherits
chain_by p o n c r h q = chain_at p o n r h ∙ ap (λ x. link p.types x ∷ inherited (chain_of p) x.inherits) (sym q)

pub object_made : (p : Program) (o : Inherited p.classes) (n : ℕ) (c r : ClassRow) (up z : Object) (s : ℕ) → n < length p.classes → c ≡ get_or p.classes n r
    → IsObject up (inherited (chain_of p) c.inherits) → s ≡ span (tree_of p.types c.of) → z ≡ object_on c up s → IsObject z (chain_of p n)
object_made p o n c r up z s h q t a e =
    subst (λ l. IsObject z l) (sym (chain_by p o n c r h q))
    (subst (λ y. IsObject y (link p.types c ∷ inherited (chain_of p) c.inherits)) (sym e)
    (object_link (link p.types c) c (inherited (chain_of p) c.inherits) up s refl refl refl t a))

-- the sums fit
pub span_few : (p : Program) (o : Inherited p.classes) (n : ℕ) (c r : ClassRow) → n < length p.classes → c ≡ get_or p.classes n r → FewWords p → span (tree_of p.types c.of) ≤ 64
span_few p o n c r h q f =
    let k : words (chain_of p n) ≡ words (link p.types c ∷ inherited (chain_of p) c.inherits) = ap words (chain_by p o n c r h q) in
    let m : words (chain_of p n) ≤ 64 = f n in omega arith

pub filled_few : (p : Program) (o : Inherited p.classes) (n : ℕ) (c r : ClassRow) (up : Object) → n < length p.classes → c ≡ get_or p.classes n r → FewFields p
    → IsObject up (inherited (chain_of p) c.inherits) → up.wheres + up.fields + c.wheres + c.fields < 1000
filled_few p o n c r up h q f t =
    let k : filled (chain_of p n) ≡ filled (link p.types c ∷ inherited (chain_of p) c.inherits) = ap filled (chain_by p o n c r h q) in
    let m : filled (chain_of p n) ≤ 400 = f n in let g : up.wheres + up.fields ≡ filled (inherited (chain_of p) c.inherits) = t.filled in omega arith

pub words_few : (p : Program) (o : Inherited p.classes) (n : ℕ) (c r : ClassRow) (up : Object) (s : ℕ) → n < length p.classes → c ≡ get_or p.classes n r → FewWords p
    → IsObject up (inherited (chain_of p) c.inherits) → s ≡ span (tree_of p.types c.of) → (up.words + s < 1000) × (up.start + s < 1000)
words_few p o n c r up s h q f t e =
    let k : span (tree_of p.types c.of) ≤ 64 = span_few p o n c r h q f in
    let m : words (inherited (chain_of p) c.inherits) ≤ 64 = few_inherited p f c.inherits in
    let a : up.words ≡ words (inherited (chain_of p) c.inherits) = t.words in let b : up.start ≡ start (inherited (chain_of p) c.inherits) = t.start in
    (omega arith, omega arith)

pub hidden_made : (p : Program) (o : Inherited p.classes) (n : ℕ) (c r : ClassRow) (up list own : List ℕ) → n < length p.classes → c ≡ get_or p.classes n r
    → up ≡ hidden (inherited (chain_of p) c.inherits) → own ≡ c.hidden → list ≡ up ++ own → list ≡ hidden (chain_of p n)
hidden_made p o n c r up list own h q e w f = f ∙ ap (λ x. x ++ own) e ∙ ap (λ x. hidden (inherited (chain_of p) c.inherits) ++ x) w ∙ sym (ap hidden (chain_by p o n c r h q))
