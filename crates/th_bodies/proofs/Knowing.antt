-- A module, judged by what is known of it, is judged as the rules say.
use Rattle.std.proofs.Common.{◌≡◌, ℕ, List, Option, None, ap, ◌∙◌, subst}
use Rattle.th_tree.specs.Trees.{InterfaceSyn, ModuleSyn}
use Rattle.th_type.specs.declared.place.Failure.{Failure}
use Rattle.th_hier.specs.Hierarchies.{TypeHierarchy}
use Rattle.th_rules.specs.Context.{Item}
use Rattle.th_meaning.specs.Program.{ProgramUnit}
use Rattle.th_module_rules.specs.Contexts.{Base}
use Rattle.th_module_rules.specs.Modules.{Judged, judged, ModuleFails}
use Rattle.th_module_rules.specs.Units.{module_units}
use Rattle.th_contexts.specs.declared.known.Known.{Known}
use Rattle.th_contexts.specs.Bases.{bases_of}
use Rattle.th_contexts.specs.Known.{Knows}
use Rattle.th_modules.specs.Lowering.{Lowers}
use Rattle.th_modules.specs.Own.{AreOwn}
use Rattle.th_modules.proofs.SameOwn.{lowers_as, own_as, units_as, with_own}
use Rattle.th_bodies.specs.Judging.{known_judged}

module _ (text : ℕ) (table later : List (List ℕ)) (h : TypeHierarchy) (fs : List InterfaceSyn) (m : ModuleSyn) (k : Known) (same : later ≡ table) (knows : Knows k (judged text table h fs m)) where
  abbrev J : Judged
  J = known_judged text table h k m

  abbrev K : Judged
  K = judged text table h fs m

  judged_same : J ≡ with_own K k.own
  judged_same =
      ap (λ (is : List Item). let L : Judged = record { text = text; table = table; hierarchy = h; items = is; bases = bases_of k.bases; own = k.own; tree = m } in L) knows.items
      ∙ ap (λ (bs : List Base). let L : Judged = record { text = text; table = table; hierarchy = h; items = K.items; bases = bs; own = k.own; tree = m } in L) knows.bases

  -- the least failure
  pub judged_least : (old new : Option Failure) → Lowers (ModuleFails (known_judged text later h k m)) old new → Lowers (ModuleFails K) old new
  judged_least old new l = lowers_as J K old new judged_same knows.own (subst (λ (t : List (List ℕ)). Lowers (ModuleFails (known_judged text t h k m)) old new) same l)

  -- the units, where nothing fails
  pub judged_units : (new : Option Failure) (r : Option (List ProgramUnit)) → (AreOwn (known_judged text later h k m) → new ≡ None → r ≡ module_units (known_judged text later h k m)) → AreOwn K → new ≡ None → r ≡ module_units K
  judged_units new r u own none =
      let moved = subst (λ (t : List (List ℕ)). AreOwn (known_judged text t h k m) → new ≡ None → r ≡ module_units (known_judged text t h k m)) same u in
      moved (own_as J K judged_same own) none ∙ units_as J K judged_same
