-- What lies below an activation stays where words above it change.
use Rattle.std.proofs.Common.{◌≡◌, ℕ, zero, suc, ◌+◌, ◌<◌, ◌≤◌, List, [], ◌∷◌, length, Option, Some, refl, sym, ap, ◌∙◌, subst, arith}
use Rattle.std.specs.Prelude.{slice_get, set}
use Rattle.std.proofs.lemmas.Option.{slice_get_within}
use Rattle.th_flat.specs.declared.module.FlatUnit.{FlatUnit}
use Rattle.th_flat.specs.Values.{FlatValue}
use Rattle.th_flat.specs.Configs.{Loop, NoLoop, Upto, ByUnit, Stack, Bottom, Call, Paused, home_unit}
use Rattle.th_stands.specs.Stands.{Places, Heap, Means, StackIs, LocalsAre, FrameIs, HeaderIs, LoopIs, Held, Below}

-- the words of a stack stay where its places do
pub stack_keep : (p : Places) (q : Heap) (c d : ℕ → ℕ) (st : List FlatValue) → ((j : ℕ) → j < length st → d j ≡ c j) → StackIs p q c st → StackIs p q d st
stack_keep p q c d [] same h = h
stack_keep p q c d (v ∷ st) same h = (subst (Means p q v) (sym (same (length st) (omega arith))) h.0, stack_keep p q c d st (λ j l. same j (omega arith)) h.1)

pub slice_get-set_other : {X : Type 0} (l : List X) (i j : ℕ) (v : X) → (j ≡ i → ⊥) → slice_get (set l i v) j ≡ slice_get l j
slice_get-set_other [] i j v ne = refl
slice_get-set_other (x ∷ l) zero zero v ne = absurd (ne refl)
slice_get-set_other (x ∷ l) zero (suc j) v ne = refl
slice_get-set_other (x ∷ l) (suc i) zero v ne = refl
slice_get-set_other (x ∷ l) (suc i) (suc j) v ne = slice_get-set_other l i j v (λ e. ne (ap suc e))

pub slice_get-set_same : {X : Type 0} (l : List X) (i : ℕ) (v : X) → i < length l → slice_get (set l i v) i ≡ Some v
slice_get-set_same [] i v lt = absurd (omega arith)
slice_get-set_same (x ∷ l) zero v lt = refl
slice_get-set_same (x ∷ l) (suc i) v lt = slice_get-set_same l i v (omega arith)

-- a local word that is set is one of them
pub local_within : {A : Type 0} (locals : List A) (k : ℕ) (v : A) → slice_get locals k ≡ Some v → k < length locals
local_within locals k v e = slice_get_within locals k v e

pub locals_keep : (p : Places) (q : Heap) (wf wg : ℕ → ℕ) (fp : ℕ) (locals : List (Option FlatValue)) → ((k : ℕ) → k < length locals → wg (fp + k) ≡ wf (fp + k)) → LocalsAre p q wf fp locals → LocalsAre p q wg fp locals
locals_keep p q wf wg fp locals same h k v e = subst (Means p q v) (sym (same k (local_within locals k (Some v) e))) (h k v e)

header_low : (wf wg : ℕ → ℕ) (n hp back fp sb below : ℕ) → ((i : ℕ) → i < n → wg i ≡ wf i) → hp + 4 ≤ n → HeaderIs wf hp back fp sb below → HeaderIs wg hp back fp sb below
header_low wf wg n hp back fp sb below same le h = record {
  back_is = same hp (omega arith) ∙ h.back_is;
  locals_is = same (hp + 1) (omega arith) ∙ h.locals_is;
  stack_is = same (hp + 2) (omega arith) ∙ h.stack_is;
  header_is = same (hp + 3) (omega arith) ∙ h.header_is;
}

module _ (p : Places) (q : Heap) (wf wg : ℕ → ℕ) (n : ℕ) (same : (i : ℕ) → i < n → wg i ≡ wf i) where
  frame_low : (u : FlatUnit) (fp sb : ℕ) (st : List FlatValue) (ls : List (Option FlatValue)) → sb + u.depth ≤ n → FrameIs p q wf u fp sb st ls → FrameIs p q wg u fp sb st ls
  frame_low u fp sb st ls le h =
      let at = h.stack_at in
      let count = h.count in
      let high = h.height in
      record {
        stack_at = at;
        count = count;
        height = high;
        locals_are = locals_keep p q wf wg fp ls (λ k l. same (fp + k) (omega arith)) h.locals_are;
        stack_is = stack_keep p q (λ j. wf (sb + j)) (λ j. wg (sb + j)) st (λ j l. same (sb + j) (omega arith)) h.stack_is;
      }

  loop_low : (hp fp : ℕ) (loop : Loop) → hp + 6 ≤ n → LoopIs p q wf hp fp loop → LoopIs p q wg hp fp loop
  loop_low hp fp NoLoop le h = h
  loop_low hp fp (Upto first last) le h = absurd h
  loop_low hp fp (ByUnit home body) le h = (same (hp + 4) (omega arith) ∙ h.0, same (hp + 5) (omega arith) ∙ h.1)

  held_low : (hp : ℕ) (u : FlatUnit) (fp sb : ℕ) (held : Stack) (Un Um : ℕ → Type 0) → hp + 4 ≤ n → sb ≤ n → fp ≤ sb → ((h : ℕ) → h + 6 ≤ n → Un h → Um h) → Held p q wf hp u fp sb held Un → Held p q wg hp u fp sb held Um
  held_low hp u fp sb Bottom Un Um l1 l2 l3 f h = (h.0, f hp (let e = h.0 in omega arith) h.1)
  held_low hp u fp sb (Call u1 at st ls held loop below) Un Um l1 l2 l3 f h = absurd h
  held_low hp u fp sb (Paused it at st ls holds home loop rest) Un Um l1 l2 l3 f (ifp, isb, ihp, (hd, fr, deep, order, inner)) = (
    ifp,
    isb,
    ihp,
    (
      header_low wf wg n hp (p.back_at it.name at) ifp isb ihp same l1 hd,
      frame_low it ifp isb st ls (omega arith) fr,
      deep,
      order,
      held_low ihp it ifp isb holds _ _ (omega arith) (omega arith) (let e = fr.stack_at in omega arith)
          (λ h lh k. (
            k.0,
            (
              header_low wf wg n h (p.back_at (home_unit loop u).name home) fp sb k.0 same (omega arith) k.1.0,
              k.1.1,
              k.1.2,
              loop_low h fp loop lh k.1.3,
              held_low k.0 (home_unit loop u) fp sb rest Un Um (let e = k.1.2 in omega arith) l2 l3 f k.1.4,
            ),
          ))
          inner,
    ),
  )

  pub below_low : (below : Stack) (hp : ℕ) → hp + 6 ≤ n → Below p q wf below hp → Below p q wg below hp
  below_low Bottom hp le h = same hp (omega arith) ∙ h
  below_low (Call u at st ls held loop below) hp le (fp, sb, hp2, (hd, fr, deep, order, fits, lp, inner)) = (
    fp,
    sb,
    hp2,
    (
      header_low wf wg n hp (p.back_at u.name at) fp sb hp2 same (omega arith) hd,
      frame_low u fp sb st ls (omega arith) fr,
      deep,
      order,
      fits,
      loop_low hp fp loop le lp,
      held_low hp2 u fp sb held (λ h. Below p q wf below h) (λ h. Below p q wg below h) (omega arith) (omega arith) (let e = fr.stack_at in omega arith) (λ h lh b. below_low below h lh b) inner,
    ),
  )
  below_low (Paused it at st ls holds home loop rest) hp le h = absurd h
