-- One step along the modules of texts.
use Rattle.std.proofs.Common.{◌≡◌, ℕ, ◌<◌, ◌≤◌, ◌+◌, List, ◌∷◌, length, map, drop, get_or, Option, None, sym, ap, ◌∙◌, subst}
use Rattle.std.specs.Global.{Vec}
use Rattle.std.proofs.Math.ListN.{drop_of_length-le}
use Rattle.th_tree.specs.declared.decl.Module.{Module}
use Rattle.th_tree.specs.DeclView.{module_of}
use Rattle.th_tree.specs.Trees.{InterfaceSyn, ModuleSyn}
use Rattle.th_type.specs.declared.place.Failure.{Failure}
use Rattle.th_hier.specs.Hierarchies.{TypeHierarchy}
use Rattle.th_meaning.specs.declared.declared.CoreUnit.{CoreUnit}
use Rattle.th_module_rules.specs.Modules.{judged, ModuleFails}
use Rattle.th_module_rules.specs.Stages.{Numbered, numbered}
use Rattle.th_module_rules.specs.Texts.{HasOwnNames}
use Rattle.th_contexts.specs.declared.known.Known.{Known}
use Rattle.th_modules.specs.Lowering.{Lowers}
use Rattle.th_program.specs.Programs.{with_texts}
use Rattle.th_bodies.specs.declared.bodies.Bodies.{Bodies}
use Rattle.th_bodies.specs.Judging.{judged_at, AllNamed, ModulesFail, Pushed, UnitsHere}
use Rattle.th_bodies.proofs.Along.{Along, along_end, along_next}
use Rattle.th_bodies.proofs.Paired.{next_with, none_with}

module _ (table : List (List ℕ)) (h : TypeHierarchy) (fs : List InterfaceSyn) (start : Option Failure) (texts : List ℕ) (modules : List Module) where
  abbrev all : List (Numbered ModuleSyn)
  all = with_texts texts (map module_of modules)

  abbrev rest : ℕ → List (Numbered ModuleSyn)
  rest k = with_texts (drop k texts) (map module_of (drop k modules))

  abbrev pub AlongTexts : ℕ → Option Failure → List (Vec CoreUnit) → List Known → Type 0
  AlongTexts k kept us ks = Along (judged_at table h fs) table start all (rest k) kept us ks

  -- the names of the next module are there
  pub next_named : (k n : ℕ) (x : Module) (kept : Option Failure) (us : List (Vec CoreUnit)) (ks : List Known) (later : List (List ℕ)) → later ≡ table → k < length texts → k < length modules → n ≡ get_or texts k n → x ≡ get_or modules k x → AlongTexts k kept us ks
      → HasOwnNames later (module_of x)
  next_named k n x kept us ks later same bn bx en ex a =
      let named : AllNamed table (numbered n (module_of x) ∷ rest (k + 1)) = subst (λ (ms : List (Numbered ModuleSyn)). AllNamed table ms) (next_with module_of texts modules k n x bn bx en ex) a.named in
      subst (λ (t : List (List ℕ)). HasOwnNames t (module_of x)) (sym same) named.0

  -- after the next module
  pub next_along : (k n : ℕ) (x : Module) (kept mid : Option Failure) (old new : Bodies) (later : List (List ℕ)) → later ≡ table → k < length texts → k < length modules → n ≡ get_or texts k n → x ≡ get_or modules k x → AlongTexts k kept old.units.items old.known.items
      → Lowers (ModuleFails (judged n later h fs (module_of x))) kept mid → Pushed (judged n later h fs (module_of x)) mid old new → AlongTexts (k + 1) mid new.units.items new.known.items
  next_along k n x kept mid old new later same bn bx en ex a l p =
      along_next (judged_at table h fs) table start all (numbered n (module_of x)) (rest k) (rest (k + 1)) kept mid old new (next_with module_of texts modules k n x bn bx en ex) a
      (subst (λ (t : List (List ℕ)). Lowers (ModuleFails (judged n t h fs (module_of x))) kept mid) same l)
      (subst (λ (t : List (List ℕ)). Pushed (judged n t h fs (module_of x)) mid old new) same p)

  -- where no text or no module is left
  pub texts_end : (k : ℕ) (kept : Option Failure) (us : List (Vec CoreUnit)) (ks : List Known) → length texts ≤ k → AlongTexts k kept us ks → Lowers (ModulesFail (judged_at table h fs) all) start kept × (kept ≡ None → UnitsHere (judged_at table h fs) all us ks)
  texts_end k kept us ks long a =
      along_end (judged_at table h fs) table start all (rest k) kept us ks (ap (λ (ns : List ℕ). with_texts ns (map module_of (drop k modules))) (drop_of_length-le texts long)) a

  pub modules_end : (k : ℕ) (kept : Option Failure) (us : List (Vec CoreUnit)) (ks : List Known) → length modules ≤ k → AlongTexts k kept us ks → Lowers (ModulesFail (judged_at table h fs) all) start kept × (kept ≡ None → UnitsHere (judged_at table h fs) all us ks)
  modules_end k kept us ks long a =
      along_end (judged_at table h fs) table start all (rest k) kept us ks
      (ap (λ (xs : List Module). with_texts (drop k texts) (map module_of xs)) (drop_of_length-le modules long) ∙ none_with (drop k texts)) a
