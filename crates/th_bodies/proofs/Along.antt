-- Modules that are judged one after another.
use Rattle.std.proofs.Common.{◌≡◌, ℕ, List, [], ◌∷◌, ◌++◌, Option, None, sym, ap, ◌∙◌, subst, append_assoc, append-nil}
use Rattle.std.specs.Global.{Vec}
use Rattle.th_tree.specs.Trees.{ModuleSyn}
use Rattle.th_type.specs.declared.place.Failure.{Failure}
use Rattle.th_meaning.specs.declared.declared.CoreUnit.{CoreUnit}
use Rattle.th_module_rules.specs.Modules.{Judged, ModuleFails}
use Rattle.th_module_rules.specs.Stages.{Numbered}
use Rattle.th_contexts.specs.declared.known.Known.{Known}
use Rattle.th_modules.specs.Lowering.{Lowers}
use Rattle.th_modules.proofs.Lowering.{lowered_none}
use Rattle.th_bodies.specs.declared.bodies.Bodies.{Bodies}
use Rattle.th_bodies.specs.Judging.{AllNamed, ModulesFail, Pushed, UnitsAre, UnitsHere}
use Rattle.th_bodies.proofs.Joining.{next_lowers, none_left}

-- where this failure is kept, and these units were made, of all modules but the rest
pub record Along (g : Numbered ModuleSyn → Judged) (table : List (List ℕ)) (start : Option Failure) (all rest : List (Numbered ModuleSyn)) (kept : Option Failure) (us : List (Vec CoreUnit)) (ks : List Known) : Type 0 where
  pub least : (new : Option Failure) → Lowers (ModulesFail g rest) kept new → Lowers (ModulesFail g all) start new
  pub units : kept ≡ None → (vs : List (Vec CoreUnit)) (ls : List Known) → UnitsHere g rest vs ls → UnitsHere g all (us ++ vs) (ks ++ ls)
  pub named : AllNamed table rest

module _ (g : Numbered ModuleSyn → Judged) (table : List (List ℕ)) (start : Option Failure) (all : List (Numbered ModuleSyn)) where
  pub along_start : (us : List (Vec CoreUnit)) (ks : List Known) → us ≡ [] → ks ≡ [] → AllNamed table all → Along g table start all all start us ks
  along_start us ks a b n = record {
    least = λ new h. h;
    units = λ none vs ls u. subst (λ (xs : List (Vec CoreUnit)). UnitsHere g all (xs ++ vs) (ks ++ ls)) (sym a) (subst (λ (ys : List Known). UnitsHere g all vs (ys ++ ls)) (sym b) u);
    named = n;
  }

  next_units : (m : Numbered ModuleSyn) (later : List (Numbered ModuleSyn)) (kept mid : Option Failure) (us us2 : List (Vec CoreUnit)) (ks ks2 : List Known) (u : Vec CoreUnit) (k : Known) → Along g table start all (m ∷ later) kept us ks → Lowers (ModuleFails (g m)) kept mid
      → us2 ≡ us ++ u ∷ [] → ks2 ≡ ks ++ k ∷ [] → (mid ≡ None → UnitsAre (g m) u k) → mid ≡ None → (vs : List (Vec CoreUnit)) (ls : List Known) → UnitsHere g later vs ls → UnitsHere g all (us2 ++ vs) (ks2 ++ ls)
  next_units m later kept mid us us2 ks ks2 u k a l e f made none vs ls h =
      let first : kept ≡ None = lowered_none (ModuleFails (g m)) kept (subst (λ (o : Option Failure). Lowers (ModuleFails (g m)) kept o) none l) in
      subst (λ (xs : List (Vec CoreUnit)). UnitsHere g all xs (ks2 ++ ls)) (sym (ap (λ (xs : List (Vec CoreUnit)). xs ++ vs) e ∙ append_assoc us (u ∷ []) vs))
      (subst (λ (ys : List Known). UnitsHere g all (us ++ u ∷ vs) ys) (sym (ap (λ (ys : List Known). ys ++ ls) f ∙ append_assoc ks (k ∷ []) ls)) (a.units first (u ∷ vs) (k ∷ ls) (made none, h)))

  -- after one more module
  pub along_next : (m : Numbered ModuleSyn) (rest later : List (Numbered ModuleSyn)) (kept mid : Option Failure) (old new : Bodies) → rest ≡ m ∷ later → Along g table start all rest kept old.units.items old.known.items → Lowers (ModuleFails (g m)) kept mid
      → Pushed (g m) mid old new → Along g table start all later mid new.units.items new.known.items
  along_next m rest later kept mid old new e a l (u, k, x, y, made) =
      let b : Along g table start all (m ∷ later) kept old.units.items old.known.items = subst (λ (ms : List (Numbered ModuleSyn)). Along g table start all ms kept old.units.items old.known.items) e a in
      record {
        least = λ o h. b.least o (next_lowers g m later kept mid o l h);
        units = next_units m later kept mid old.units.items new.units.items old.known.items new.known.items u k b l x y made;
        named = b.named.1;
      }

  -- where no module is left
  pub along_end : (rest : List (Numbered ModuleSyn)) (kept : Option Failure) (us : List (Vec CoreUnit)) (ks : List Known) → rest ≡ [] → Along g table start all rest kept us ks
      → Lowers (ModulesFail g all) start kept × (kept ≡ None → UnitsHere g all us ks)
  along_end rest kept us ks e a =
      let b : Along g table start all [] kept us ks = subst (λ (ms : List (Numbered ModuleSyn)). Along g table start all ms kept us ks) e a in (
        b.least kept (none_left g kept),
        λ none. subst (λ (xs : List (Vec CoreUnit)). UnitsHere g all xs ks) (append-nil us) (subst (λ (ys : List Known). UnitsHere g all (us ++ []) ys) (append-nil ks) (b.units none [] [] tt)),
      )
