-- Modules that are made one after another.
use Rattle.std.proofs.Common.{◌≡◌, ℕ, ◌+◌, ◌<◌, ◌≤◌, List, [], ◌∷◌, ◌++◌, length, map, drop, get_or, refl, sym, ap, ◌∙◌, subst, arith, append_assoc, append-nil}
use Rattle.std.specs.Global.{Vec}
use Rattle.std.proofs.Math.ListN.{drop_of_length-le}
use Rattle.th_tree.specs.declared.decl.Module.{Module}
use Rattle.th_tree.specs.DeclView.{module_of}
use Rattle.th_tree.specs.Spans.{Tokenized}
use Rattle.th_tree.specs.Trees.{InterfaceSyn, ModuleSyn}
use Rattle.th_hier.specs.Hierarchies.{TypeHierarchy}
use Rattle.th_hier.proofs.Failing.{next_item}
use Rattle.th_meaning.specs.declared.declared.CoreUnit.{CoreUnit}
use Rattle.th_meaning.specs.View.{unit_of}
use Rattle.th_meaning.specs.Program.{ProgramModule, ProgramUnit}
use Rattle.th_rules.specs.Context.{Item}
use Rattle.th_module_rules.specs.Stages.{Numbered, numbered}
use Rattle.th_program.specs.Programs.{with_texts}
use Rattle.th_scope.specs.View.{items_of}
use Rattle.th_contexts.specs.declared.known.Known.{Known}
use Rattle.th_checked.specs.Made.{AllMade, IsMade}
use Rattle.th_checked.specs.Noting.{Places}
use Rattle.th_checked.proofs.Pairing.{end_at, next_at}

empty : {A : Type 0} (xs : List A) → length xs ≡ 0 → xs ≡ []
empty [] e = refl
empty (x ∷ xs) e = absurd (omega (arith, e))

module _ (table : List (List ℕ)) (h : TypeHierarchy) (xs hs : List Tokenized) (is : List (Numbered InterfaceSyn)) (fs : List InterfaceSyn) (places : Places) where
  -- with the modules that are left to be made, those that are done are all
  abbrev pub LeadsTo : List (Numbered ModuleSyn) → List (List Item) → List (List ProgramUnit) → List (Numbered ModuleSyn) → List (List Item) → List (List ProgramUnit) → List ProgramModule → Type 0
  LeadsTo ms ks uss ns all units done = (cs : List ProgramModule) → AllMade table h xs hs is fs places ms ks uss cs → AllMade table h xs hs is fs places ns all units (done ++ cs)

  pub one_more : (n : ℕ) (m : ModuleSyn) (ms : List (Numbered ModuleSyn)) (k : List Item) (ks : List (List Item)) (us : List ProgramUnit) (uss : List (List ProgramUnit))
      (ns : List (Numbered ModuleSyn)) (all : List (List Item)) (units : List (List ProgramUnit)) (done new : List ProgramModule) (c : ProgramModule)
      → LeadsTo (numbered n m ∷ ms) (k ∷ ks) (us ∷ uss) ns all units done → IsMade table h xs hs is fs places n m k us c → new ≡ done ++ c ∷ [] → LeadsTo ms ks uss ns all units new
  one_more n m ms k ks us uss ns all units done new c before made e cs rest =
      subst (AllMade table h xs hs is fs places ns all units) (sym (ap (λ (l : List ProgramModule). l ++ cs) e ∙ append_assoc done (c ∷ []) cs)) (before (c ∷ cs) (made, rest))

  pub no_more : (ns : List (Numbered ModuleSyn)) (all : List (List Item)) (units : List (List ProgramUnit)) (done : List ProgramModule)
      → LeadsTo [] [] [] ns all units done → AllMade table h xs hs is fs places ns all units done
  no_more ns all units done before = subst (AllMade table h xs hs is fs places ns all units) (append-nil done) (before [] tt)

  abbrev known_items : List Known → List (List Item)
  known_items ks = map (λ k. items_of k.items) ks

  abbrev known_units : List (Vec CoreUnit) → List (List ProgramUnit)
  known_units uss = map (λ u. map unit_of u.items) uss

  -- the module at a place
  pub one_more_at : (mts : List ℕ) (ms : List Module) (known : List Known) (rest left : List (Vec CoreUnit)) (us : Vec CoreUnit) (at : ℕ) (m : Module) (k : Known)
      (ns : List (Numbered ModuleSyn)) (all : List (List Item)) (units : List (List ProgramUnit)) (done new : List ProgramModule) (c : ProgramModule)
      → length mts ≡ length ms → length known ≡ length ms → at < length ms → m ≡ get_or ms at m → k ≡ get_or known at k → rest ≡ us ∷ left
      → LeadsTo (with_texts (drop at mts) (map module_of (drop at ms))) (known_items (drop at known)) (known_units rest) ns all units done
      → IsMade table h xs hs is fs places (get_or mts at 0) (module_of m) (items_of k.items) (map unit_of us.items) c → new ≡ done ++ c ∷ []
      → LeadsTo (with_texts (drop (at + 1) mts) (map module_of (drop (at + 1) ms))) (known_items (drop (at + 1) known)) (known_units left) ns all units new
  one_more_at mts ms known rest left us at m k ns all units done new c paired same below em ek er before made e =
      one_more (get_or mts at 0) (module_of m) (with_texts (drop (at + 1) mts) (map module_of (drop (at + 1) ms))) (items_of k.items) (known_items (drop (at + 1) known)) (map unit_of us.items) (known_units left) ns all units done new c
      (subst (λ (l : List (Numbered ModuleSyn)). LeadsTo l (items_of k.items ∷ known_items (drop (at + 1) known)) (map unit_of us.items ∷ known_units left) ns all units done) (next_at module_of mts ms at m paired below em)
      (subst (λ (l : List Known). LeadsTo (with_texts (drop at mts) (map module_of (drop at ms))) (known_items l) (map unit_of us.items ∷ known_units left) ns all units done) (next_item known at k (omega (arith, same, below)) ek)
      (subst (λ (l : List (Vec CoreUnit)). LeadsTo (with_texts (drop at mts) (map module_of (drop at ms))) (known_items (drop at known)) (known_units l) ns all units done) er before)))
      made e

  -- where no module is left
  pub no_more_at : (mts : List ℕ) (ms : List Module) (known : List Known) (rest : List (Vec CoreUnit)) (at : ℕ)
      (ns : List (Numbered ModuleSyn)) (all : List (List Item)) (units : List (List ProgramUnit)) (done : List ProgramModule)
      → length known ≡ length ms → at + length rest ≡ length ms → length rest ≡ 0
      → LeadsTo (with_texts (drop at mts) (map module_of (drop at ms))) (known_items (drop at known)) (known_units rest) ns all units done
      → AllMade table h xs hs is fs places ns all units done
  no_more_at mts ms known rest at ns all units done same count none before =
      let past : length ms ≤ at = omega (arith, count, none) in
      no_more ns all units done
      (subst (λ (l : List (Numbered ModuleSyn)). LeadsTo l [] [] ns all units done) (end_at module_of mts ms at past)
      (subst (λ (l : List Known). LeadsTo (with_texts (drop at mts) (map module_of (drop at ms))) (known_items l) [] ns all units done) (drop_of_length-le known (omega (arith, same, past)))
      (subst (λ (l : List (Vec CoreUnit)). LeadsTo (with_texts (drop at mts) (map module_of (drop at ms))) (known_items (drop at known)) (known_units l) ns all units done) (empty rest none) before)))
