-- The declared types of interfaces fit together.
use Rattle.std.proofs.Common.{◌≡◌, ℕ, ◌+◌, ◌≤◌, Bool, true, false, nat_eq, List, [], ◌∷◌, ◌++◌, map, length, Option, Some, None, refl, sym, ap, ◌∙◌, inl, inr, if◌then◌else◌, true≢false, subst, arith}
use Rattle.std.proofs.lemmas.Bool.{eqb-true}
use Rattle.std.proofs.lemmas.List.{length-append, length-map}
use borrow.Author.Tests.{eq-eqb}
use Rattle.th_tree.specs.declared.tree.Ident.{Ident}
use Rattle.th_tree.specs.Trees.{TypeSyn, NamedSyn, SigSyn, TypeDeclSyn, InterfaceItemSyn, exception_item, type_item, class_item, routine_item, InterfaceSyn}
use Rattle.th_type.specs.declared.place.Place.{Place}
use Rattle.th_type.specs.Lists.{IsIn}
use Rattle.th_type.specs.Types.{TypeExpr, TypeExprs, list_of, AllParamsBelow}
use Rattle.th_type.specs.Signatures.{Signature}
use Rattle.th_type.specs.Declarations.{SuperRef, WrittenSig, Declaration}
use Rattle.th_type.specs.Failures.{place}
use Rattle.th_type.specs.Rules.{MemberFits, GivesBelow, SigBelow, WellFormed}
use Rattle.th_type.proofs.Members.{from_map, from_append, in_left, in_right}
use Rattle.th_hier.specs.declared.item.ItemName.{ItemName}
use Rattle.th_hier.specs.declared.item.Entry.{Entry}
use Rattle.th_hier.specs.declared.item.Sort.{Sort}
use Rattle.th_hier.specs.declared.item.Sort.TheVariants.{Exception, Declared, Class, Routine, Iterator}
use Rattle.th_hier.specs.declared.item.Referent.{Referent}
use Rattle.th_hier.specs.declared.item.Referent.TheVariants as referents
use Rattle.th_hier.specs.Naming.{Items, Visible, has, with_number, with_numbers, item_at, item_in, meaning}
use Rattle.th_hier.specs.Resolve.{count, resolved_type, resolved_types}
use Rattle.th_hier.specs.Heads.{Parts, parts, parts_of, gives_type, given, signal_numbers, formal_types, with_parts, signature_of}
use Rattle.th_hier.specs.Spots.{item_name}
use Rattle.th_hier.specs.Numbering.{item_sort, routine_sort, numbered_items}
use Rattle.th_hier.specs.Texts.{within, visible, whole_meant, sort_meant, super_meant, super_ref, written_at, written_sigs, declared_sort, declared_number, numbered, type_declared, item_declared, items_declared, interfaces_declared, declarations}
use Rattle.th_hier.proofs.Below.{MeansSeen, seen, type_below, types_below, types_count, more_below, all_more_below}
use Rattle.th_hier.proofs.Keeping.{firsts_differ, firsts_in, firsts_named}
use Rattle.th_hier.proofs.Founded.{Founded, found_at, same_by_full, numbered_founded}

-- a declared type is that of a type's tree, under the number that the items have for it
pub record FromTree (items : Items) (d : Declaration) : Type 0 where
  pub v : Visible
  pub tree : TypeDeclSyn
  pub entry : Entry
  pub key : ItemName
  pub found : item_at items key ≡ Some entry
  pub sort : entry.sort ≡ Declared (length tree.params)
  pub name : d.name ≡ entry.full
  pub params : d.params ≡ length tree.params
  pub supers : d.supertypes ≡ map (super_ref items (within v tree.params)) tree.supertypes
  pub methods : d.methods ≡ written_sigs items (within v tree.params) tree.methods

tree_if : (items : Items) (v : Visible) (t : TypeDeclSyn) (i k full : ℕ) (p : Place) (d : Declaration) (b : Bool) → nat_eq k (length t.params) ≡ b
    → item_at items (record { interface = i; name = t.name.name }) ≡ Some (record { full = full; sort = Declared k })
    → IsIn d (numbered (if b then Some full else None) (length t.params) p (map (super_ref items (within v t.params)) t.supertypes) (written_sigs items (within v t.params) t.methods))
    → FromTree items d
tree_if items v t i k full p d true e f (inl s) = record {
  v = v;
  tree = t;
  entry = record { full = full; sort = Declared k };
  key = record { interface = i; name = t.name.name };
  found = f;
  sort = ap Declared (eqb-true k (length t.params) e);
  name = ap (λ (x : Declaration). x.name) s;
  params = ap (λ (x : Declaration). x.params) s;
  supers = ap (λ (x : Declaration). x.supertypes) s;
  methods = ap (λ (x : Declaration). x.methods) s;
}
tree_if items v t i k full p d true e f (inr n) = absurd n
tree_if items v t i k full p d false e f m = absurd m

tree_sort : (items : Items) (v : Visible) (t : TypeDeclSyn) (i full : ℕ) (s : Sort) (p : Place) (d : Declaration)
    → item_at items (record { interface = i; name = t.name.name }) ≡ Some (record { full = full; sort = s })
    → IsIn d (numbered (declared_sort s full (length t.params)) (length t.params) p (map (super_ref items (within v t.params)) t.supertypes) (written_sigs items (within v t.params) t.methods))
    → FromTree items d
tree_sort items v t i full Exception p d f m = absurd m
tree_sort items v t i full (Declared k) p d f m = tree_if items v t i k full p d (nat_eq k (length t.params)) refl f m
tree_sort items v t i full (Class k) p d f m = absurd m
tree_sort items v t i full (Routine k) p d f m = absurd m
tree_sort items v t i full (Iterator k) p d f m = absurd m

tree_entry : (items : Items) (v : Visible) (t : TypeDeclSyn) (i : ℕ) (o : Option Entry) (p : Place) (d : Declaration)
    → item_at items (record { interface = i; name = t.name.name }) ≡ o
    → IsIn d (numbered (declared_number o (length t.params)) (length t.params) p (map (super_ref items (within v t.params)) t.supertypes) (written_sigs items (within v t.params) t.methods))
    → FromTree items d
tree_entry items v t i None p d f m = absurd m
tree_entry items v t i (Some e) p d f m = tree_sort items v t i e.full e.sort p d f m

tree_text : (items : Items) (v : Visible) (text : ℕ) (t : TypeDeclSyn) (o : Option ℕ) (d : Declaration)
    → IsIn d (numbered (declared_number (item_in items o t.name.name) (length t.params)) (length t.params) (place text t.name.at) (map (super_ref items (within v t.params)) t.supertypes) (written_sigs items (within v t.params) t.methods))
    → FromTree items d
tree_text items v text t None d m = absurd m
tree_text items v text t (Some i) d m = tree_entry items v t i (item_at items (record { interface = i; name = t.name.name })) (place text t.name.at) d refl m

tree_item : (items : Items) (v : Visible) (text : ℕ) (x : InterfaceItemSyn) (d : Declaration) → IsIn d (item_declared items v text x) → FromTree items d
tree_item items v text (exception_item e) d m = absurd m
tree_item items v text (type_item t) d m = tree_text items v text t v.text d m
tree_item items v text (class_item c) d m = absurd m
tree_item items v text (routine_item r) d m = absurd m

tree_items : (items : Items) (v : Visible) (text : ℕ) (xs : List InterfaceItemSyn) (d : Declaration) → IsIn d (items_declared items v text xs) → FromTree items d
tree_items items v text [] d m = absurd m
tree_items items v text (x ∷ xs) d m = elim (from_append d (item_declared items v text x) (items_declared items v text xs) m) [ inl a ↦ tree_item items v text x d a | inr b ↦ tree_items items v text xs d b ]

-- each declared type of interfaces is that of a tree
tree_of : (items : Items) (text : ℕ) (fs : List InterfaceSyn) (d : Declaration) → IsIn d (interfaces_declared items text fs) → FromTree items d
tree_of items text [] d m = absurd m
tree_of items text (f ∷ fs) d m =
    elim (from_append d (items_declared items (visible f) text f.items) (interfaces_declared items (text + 1) fs) m) [ inl a ↦ tree_items items (visible f) text f.items d a | inr b ↦ tree_of items (text + 1) fs d b ]

-- one of the types has the number and so many parameters
pub record DeclaredWith (ds : List Declaration) (full n : ℕ) : Type 0 where
  pub type : Declaration
  pub there : IsIn type ds
  pub name : type.name ≡ full
  pub params : type.params ≡ n

with_if : (full n : ℕ) (p : Place) (ss : List SuperRef) (ws : List WrittenSig) (b : Bool) → b ≡ true → DeclaredWith (numbered (if b then Some full else None) n p ss ws) full n
with_if full n p ss ws true e = record { type = record { name = full; params = n; place = p; supertypes = ss; methods = ws }; there = inl refl; name = refl; params = refl }
with_if full n p ss ws false e = absurd (true≢false (sym e))

with_sort : (s : Sort) (full q n : ℕ) (p : Place) (ss : List SuperRef) (ws : List WrittenSig) → s ≡ Declared q → q ≡ n → DeclaredWith (numbered (declared_sort s full n) n p ss ws) full n
with_sort s full q n p ss ws e h =
    subst (λ (x : Sort). DeclaredWith (numbered (declared_sort x full n) n p ss ws) full n) (sym e) (with_if full n p ss ws (nat_eq q n) (eq-eqb q n h))

with_entry : (o : Option Entry) (e : Entry) (q n : ℕ) (p : Place) (ss : List SuperRef) (ws : List WrittenSig) → o ≡ Some e → e.sort ≡ Declared q → q ≡ n
    → DeclaredWith (numbered (declared_number o n) n p ss ws) e.full n
with_entry o e q n p ss ws h s k =
    subst (λ (x : Option Entry). DeclaredWith (numbered (declared_number x n) n p ss ws) e.full n) (sym h) (with_sort e.sort e.full q n p ss ws s k)

-- a wider list has it, too
wider : (ds es : List Declaration) (full n : ℕ) → ((d : Declaration) → IsIn d ds → IsIn d es) → DeclaredWith ds full n → DeclaredWith es full n
wider ds es full n in_es w = record { type = w.type; there = in_es w.type w.there; name = w.name; params = w.params }

routine_no : (b : Bool) (n q : ℕ) → routine_sort b n ≡ Declared q → ⊥
routine_no true n q e = cc
routine_no false n q e = cc

with_item : (items : Items) (f : InterfaceSyn) (text : ℕ) (x : InterfaceItemSyn) (e : Entry) (q : ℕ) → item_at items (record { interface = f.name.name; name = (item_name x).name }) ≡ Some e
    → e.sort ≡ Declared q → e.sort ≡ item_sort x → DeclaredWith (item_declared items (visible f) text x) e.full q
with_item items f text (exception_item y) e q h s t = absurd (cc)
with_item items f text (type_item y) e q h s t =
    let k : q ≡ length y.params = cc in
    let w = with_entry (item_at items (record { interface = f.name.name; name = y.name.name })) e q (length y.params) (place text y.name.at)
    (map (super_ref items (within (visible f) y.params)) y.supertypes) (written_sigs items (within (visible f) y.params) y.methods) h s k in
    subst (DeclaredWith (type_declared items (visible f) text y) e.full) (sym k) w
with_item items f text (class_item y) e q h s t = absurd (cc)
with_item items f text (routine_item y) e q h s t = absurd (routine_no y.iterator (length y.params) q (sym t ∙ s))

with_items : (items : Items) (f : InterfaceSyn) (text : ℕ) (xs : List InterfaceItemSyn) (x : InterfaceItemSyn) (full q : ℕ) → IsIn x xs
    → DeclaredWith (item_declared items (visible f) text x) full q → DeclaredWith (items_declared items (visible f) text xs) full q
with_items items f text [] x full q m w = absurd m
with_items items f text (y ∷ xs) x full q (inl s) w =
    wider (item_declared items (visible f) text y) (items_declared items (visible f) text (y ∷ xs)) full q (λ d m. in_left d (item_declared items (visible f) text y) (items_declared items (visible f) text xs) m)
    (subst (λ (z : InterfaceItemSyn). DeclaredWith (item_declared items (visible f) text z) full q) s w)
with_items items f text (y ∷ xs) x full q (inr m) w =
    wider (items_declared items (visible f) text xs) (items_declared items (visible f) text (y ∷ xs)) full q (λ d n. in_right d (item_declared items (visible f) text y) (items_declared items (visible f) text xs) n)
    (with_items items f text xs x full q m w)

with_interfaces : (items : Items) (text : ℕ) (fs : List InterfaceSyn) (f : InterfaceSyn) (full q : ℕ) → IsIn f fs
    → ((k : ℕ) → DeclaredWith (items_declared items (visible f) k f.items) full q) → DeclaredWith (interfaces_declared items text fs) full q
with_interfaces items text [] f full q m w = absurd m
with_interfaces items text (g ∷ fs) f full q (inl s) w =
    wider (items_declared items (visible g) text g.items) (interfaces_declared items text (g ∷ fs)) full q (λ d m. in_left d (items_declared items (visible g) text g.items) (interfaces_declared items (text + 1) fs) m)
    (subst (λ (z : InterfaceSyn). DeclaredWith (items_declared items (visible z) text z.items) full q) s (w text))
with_interfaces items text (g ∷ fs) f full q (inr m) w =
    wider (interfaces_declared items (text + 1) fs) (interfaces_declared items text (g ∷ fs)) full q (λ d n. in_right d (items_declared items (visible g) text g.items) (interfaces_declared items (text + 1) fs) n)
    (with_interfaces items (text + 1) fs f full q m w)

-- a type that a look-up finds is declared with as many parameters
declared_with : (items : Items) (fs : List InterfaceSyn) (key : ItemName) (e : Entry) (q : ℕ) → Founded fs items → item_at items key ≡ Some e → e.sort ≡ Declared q
    → DeclaredWith (interfaces_declared items 0 fs) e.full q
declared_with items fs key e q founded h s =
    let at = found_at items key e h in
    let from = founded.come at.found at.there in
    let k : key ≡ record { interface = from.home.name.name; name = (item_name from.item).name } = λ j. record { interface = (at.interface ∙ from.interface) j; name = (at.name ∙ from.name) j } in
    let here : item_at items (record { interface = from.home.name.name; name = (item_name from.item).name }) ≡ Some e = ap (item_at items) (sym k) ∙ h in
    with_interfaces items 0 fs from.home e.full q from.there
    (λ text. with_items items from.home text from.home.items from.item e.full q from.within
    (with_item items from.home text from.item e q here s (ap (λ (x : Entry). x.sort) (sym at.is) ∙ from.sort)))

-- and it is so where each type is kept once
kept_with : (items : Items) (fs : List InterfaceSyn) (key : ItemName) (e : Entry) (q : ℕ) → Founded fs items → item_at items key ≡ Some e → e.sort ≡ Declared q
    → DeclaredWith (declarations items fs) e.full q
kept_with items fs key e q founded h s =
    let w = declared_with items fs key e q founded h s in
    let k = firsts_named [] (interfaces_declared items 0 fs) w.type w.there refl in
    let t = tree_of items 0 fs k.0 (firsts_in [] (interfaces_declared items 0 fs) k.0 k.1) in
    let one : t.entry ≡ e = same_by_full items t.key key t.entry e founded.differ t.found h (sym t.name ∙ k.2 ∙ w.name) in
    let sorts : Declared (length t.tree.params) ≡ Declared q = sym t.sort ∙ ap (λ (x : Entry). x.sort) one ∙ s in
    let n : length t.tree.params ≡ q = cc in
    record { type = k.0; there = k.1; name = k.2 ∙ w.name; params = t.params ∙ n }

one_more : (ns : List ℕ) (n : ℕ) (b : Bool) → length (if b then ns else ns ++ n ∷ []) ≤ length ns + 1
one_more ns n true = omega arith
one_more ns n false = simp length-append (omega arith)

few : (ns ms : List ℕ) → length (with_numbers ns ms) ≤ length ns + length ms
few ns [] = omega arith
few ns (m ∷ ms) = let a = few (with_number ns m) ms in let b = one_more ns m (has ns m) in omega arith

-- an item sees at most its own type parameters
few_params : (v : Visible) (ps : List Ident) → length (within v ps).params ≤ length ps
few_params v ps = let a = few [] (map (λ (p : Ident). p.name) ps) in let b : length (map (λ (p : Ident). p.name) ps) ≡ length ps = length-map ps (λ (p : Ident). p.name) in omega arith

whole_fits : (ds : List Declaration) (n full k c : ℕ) (b : Bool) (o : Option TypeExprs) → nat_eq c k ≡ b → DeclaredWith ds full k
    → ((ts : TypeExprs) → o ≡ Some ts → (length (list_of ts) ≡ c) × AllParamsBelow n ts) → MemberFits ds n (whole_meant full b o)
whole_fits ds n full k c true None e w args = (w.type, w.there, w.name)
whole_fits ds n full k c true (Some ts) e w args =
    let a = args ts refl in
    ((w.type, w.there, w.name, a.0 ∙ eqb-true c k e ∙ sym w.params), a.1)
whole_fits ds n full k c false o e w args = (w.type, w.there, w.name)

sort_fits : (ds : List Declaration) (n full c : ℕ) (s : Sort) (o : Option TypeExprs) → ((k : ℕ) → s ≡ Declared k → DeclaredWith ds full k)
    → ((ts : TypeExprs) → o ≡ Some ts → (length (list_of ts) ≡ c) × AllParamsBelow n ts) → MemberFits ds n (sort_meant s full c o)
sort_fits ds n full c Exception o w args = tt
sort_fits ds n full c (Declared k) o w args = whole_fits ds n full k c (nat_eq c k) o refl (w k refl) args
sort_fits ds n full c (Class k) o w args = tt
sort_fits ds n full c (Routine k) o w args = tt
sort_fits ds n full c (Iterator k) o w args = tt

referent_fits : (items : Items) (fs : List InterfaceSyn) (m n c : ℕ) (r : Referent) (o : Option TypeExprs) → Founded fs items → MeansSeen items m r
    → ((ts : TypeExprs) → o ≡ Some ts → (length (list_of ts) ≡ c) × AllParamsBelow n ts) → MemberFits (declarations items fs) n (super_meant r c o)
referent_fits items fs m n c referents.Nothing o founded s args = tt
referent_fits items fs m n c (referents.Param k) o founded s args = tt
referent_fits items fs m n c (referents.Item e) o founded s args =
    let i = s.item e refl in
    sort_fits (declarations items fs) n e.full c e.sort o (λ k h. kept_with items fs i.0 e k founded i.1 h) args

-- a member of a list of supertypes fits
super_fits : (items : Items) (fs : List InterfaceSyn) (v : Visible) (n : ℕ) (x : NamedSyn) → Founded fs items → length v.params ≤ n
    → MemberFits (declarations items fs) n (super_ref items v x).meaning
super_fits items fs v n x founded le =
    referent_fits items fs (length v.params) n (count x.args) (meaning items v x.item) (resolved_types items v x.args) founded (seen items v x.item)
    (λ ts h. (types_count items v x.args ts h, all_more_below (length v.params) n ts le (types_below items v x.args ts h)))

gives_below : (items : Items) (v : Visible) (n : ℕ) (g : Option TypeSyn) (o : Option TypeExpr) → length v.params ≤ n → gives_type items v g ≡ Some o → GivesBelow n o
gives_below items v n None o le h = let e : None ≡ o = cc in subst (GivesBelow n) e tt
gives_below items v n (Some t) o le h = by (resolved_type items v t) refl h
  where
    by : (r : Option TypeExpr) → resolved_type items v t ≡ r → given r ≡ Some o → GivesBelow n o
    by None e h = absurd (cc)
    by (Some u) e h = let s : Some u ≡ o = cc in subst (GivesBelow n) s (more_below (length v.params) n u le (type_below items v t u e))

-- the parts of a signature have only parameters that can be seen
pub record PartsBelow (n : ℕ) (p : Parts) : Type 0 where
  pub formals : AllParamsBelow n p.formals
  pub gives : GivesBelow n p.gives

parts_below : (n : ℕ) (o : Option TypeExprs) (g : Option (Option TypeExpr)) (ns : Option (List ℕ)) (p : Parts) → ((ts : TypeExprs) → o ≡ Some ts → AllParamsBelow n ts)
    → ((r : Option TypeExpr) → g ≡ Some r → GivesBelow n r) → parts o g ns ≡ Some p → PartsBelow n p
parts_below n None g ns p a b h = absurd (cc)
parts_below n (Some ts) None ns p a b h = absurd (cc)
parts_below n (Some ts) (Some r) None p a b h = absurd (cc)
parts_below n (Some ts) (Some r) (Some ms) p a b h =
    let e : record { formals = ts; gives = r; signals = ms } ≡ p = cc in
    subst (PartsBelow n) e (record { formals = a ts refl; gives = b r refl })

with_below : (n m : ℕ) (i : Bool) (o : Option Parts) (s : Signature) → ((p : Parts) → o ≡ Some p → PartsBelow n p) → with_parts m i o ≡ Some s → SigBelow n s
with_below n m i None s p h = absurd (cc)
with_below n m i (Some x) s p h =
    let e : record { method = m; iterator = i; formals = x.formals; gives = x.gives; signals = x.signals } ≡ s = cc in
    let b = p x refl in
    subst (SigBelow n) e (b.formals, b.gives)

sig_below : (items : Items) (v : Visible) (n : ℕ) (x : SigSyn) (s : Signature) → length v.params ≤ n → signature_of items v x ≡ Some s → SigBelow n s
sig_below items v n x s le h =
    with_below n x.name.name x.iterator (parts_of items v (formal_types x.formals) x.gives x.signals) s
    (λ p e. parts_below n (resolved_types items v (formal_types x.formals)) (gives_type items v x.gives) (signal_numbers items v x.signals) p
    (λ ts q. all_more_below (length v.params) n ts le (types_below items v (formal_types x.formals) ts q)) (λ r q. gives_below items v n x.gives r le q) e) h

written_below : (n at : ℕ) (o : Option Signature) (w : WrittenSig) → ((s : Signature) → o ≡ Some s → SigBelow n s) → IsIn w (written_at o at) → SigBelow n w.sig
written_below n at None w p m = absurd m
written_below n at (Some s) w p (inl e) = subst (λ (x : WrittenSig). SigBelow n x.sig) (sym e) (p s refl)
written_below n at (Some s) w p (inr m) = absurd m

-- the signatures of a list have only parameters that can be seen
sigs_below : (items : Items) (v : Visible) (n : ℕ) (xs : List SigSyn) (w : WrittenSig) → length v.params ≤ n → IsIn w (written_sigs items v xs) → SigBelow n w.sig
sigs_below items v n [] w le m = absurd m
sigs_below items v n (x ∷ xs) w le m =
    elim (from_append w (written_at (signature_of items v x) x.name.at) (written_sigs items v xs) m) [
      | inl a ↦ written_below n x.name.at (signature_of items v x) w (λ s e. sig_below items v n x s le e) a
      | inr b ↦ sigs_below items v n xs w le b
    ]

member_fits : (items : Items) (fs : List InterfaceSyn) (d : Declaration) (s : SuperRef) → Founded fs items → FromTree items d → IsIn s d.supertypes
    → MemberFits (declarations items fs) d.params s.meaning
member_fits items fs d s founded t m =
    let w = within t.v t.tree.params in
    let r = from_map (super_ref items w) s t.tree.supertypes (subst (IsIn s) t.supers m) in
    let le : length w.params ≤ d.params = let a = few_params t.v t.tree.params in let b = t.params in omega arith in
    subst (λ (x : SuperRef). MemberFits (declarations items fs) d.params x.meaning) (sym r.2) (super_fits items fs w d.params r.0 founded le)

method_fits : (items : Items) (d : Declaration) (w : WrittenSig) → FromTree items d → IsIn w d.methods → SigBelow d.params w.sig
method_fits items d w t m =
    let v = within t.v t.tree.params in
    let le : length v.params ≤ d.params = let a = few_params t.v t.tree.params in let b = t.params in omega arith in
    sigs_below items v d.params t.tree.methods w le (subst (IsIn w) t.methods m)

-- the declared types of interfaces are well-formed
pub declared_fit : (table : List (List ℕ)) (fs : List InterfaceSyn) (items : Items) → items ≡ (numbered_items table fs).items → WellFormed (declarations items fs)
declared_fit table fs items same =
    let founded : Founded fs items = subst (Founded fs) (sym same) (numbered_founded table fs) in
    record {
      differ = firsts_differ [] (interfaces_declared items 0 fs);
      members = λ d m s n. member_fits items fs d s founded (tree_of items 0 fs d (firsts_in [] (interfaces_declared items 0 fs) d m)) n;
      methods = λ d m w n. method_fits items d w (tree_of items 0 fs d (firsts_in [] (interfaces_declared items 0 fs) d m)) n;
    }
