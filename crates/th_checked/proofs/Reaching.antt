-- The numbers that are found from the first ones, each with those that a step leads to from it, are those that are reached.
use Rattle.std.proofs.Common.{◌≡◌, ◌↔◌, ℕ, zero, suc, ◌+◌, ◌<◌, ◌≤◌, Bool, true, false, ◌⊎◌, inl, inr, List, [], ◌∷◌, ◌++◌, length, get_or, refl, sym, ap, ◌∙◌, subst, arith, below_more, append_assoc, append-nil, length-append, if◌then◌else◌}
use Rattle.std.proofs.Math.ListN.{get_or-append}
use Rattle.std.proofs.lemmas.Option.{get_or_from_slice_get, slice_get-get_or}
use Rattle.th_type.specs.Lists.{IsIn, AllIn}
use Rattle.th_type.proofs.Members.{in_left, in_right, from_append, in_at, at_in, is_in_true, in_is_true}
use Rattle.th_hier.specs.Naming.{has, with_number, with_numbers}
use Rattle.th_contexts.proofs.Different.{has_in}
use Rattle.th_checked.specs.Reaching.{ReachedIn, Reached}

pub member : (ns : List ℕ) (n : ℕ) → has ns n ≡ true → IsIn n ns
member ns n h = is_in_true n ns (sym (has_in ns n) ∙ h)

pub has_member : (ns : List ℕ) (n : ℕ) → IsIn n ns → has ns n ≡ true
has_member ns n h = has_in ns n ∙ in_is_true n ns h

grows_by : (ns : List ℕ) (m : ℕ) (b : Bool) → (xs : List ℕ) × ((if b then ns else ns ++ m ∷ []) ≡ ns ++ xs)
grows_by ns m true = ([], sym (append-nil ns))
grows_by ns m false = (m ∷ [], refl)

-- numbers that are added go last
grows : (ns ms : List ℕ) → (xs : List ℕ) × (with_numbers ns ms ≡ ns ++ xs)
grows ns [] = ([], sym (append-nil ns))
grows ns (m ∷ ms) =
    let a = grows_by ns m (has ns m) in
    let r = grows (with_number ns m) ms in
    (a.0 ++ r.0, r.1 ∙ ap (λ (l : List ℕ). l ++ r.0) a.1 ∙ append_assoc ns a.0 r.0)

kept : (ns ms : List ℕ) (n : ℕ) → IsIn n ns → IsIn n (with_numbers ns ms)
kept ns ms n h = let r = grows ns ms in subst (λ (l : List ℕ). IsIn n l) (sym r.1) (in_left n ns r.0 h)

with_in : (ns : List ℕ) (m : ℕ) (b : Bool) → has ns m ≡ b → IsIn m (if b then ns else ns ++ m ∷ [])
with_in ns m true h = member ns m h
with_in ns m false h = in_right m ns (m ∷ []) (inl refl)

added : (ns ms : List ℕ) (n : ℕ) → IsIn n ms → IsIn n (with_numbers ns ms)
added ns [] n h = absurd h
added ns (m ∷ ms) n (inl e) = kept (with_number ns m) ms n (subst (λ (k : ℕ). IsIn k (with_number ns m)) (sym e) (with_in ns m (has ns m) refl))
added ns (m ∷ ms) n (inr h) = added (with_number ns m) ms n h

pub from_one : (n m : ℕ) → IsIn n (m ∷ []) → n ≡ m
from_one n m (inl e) = e
from_one n m (inr h) = absurd h

pub from_by : (ns : List ℕ) (m n : ℕ) (b : Bool) → IsIn n (if b then ns else ns ++ m ∷ []) → IsIn n ns ⊎ (n ≡ m)
from_by ns m n true h = inl h
from_by ns m n false h = elim (from_append n ns (m ∷ []) h) [ inl a ↦ inl a | inr b ↦ inr (from_one n m b) ]

from_with : (ns ms : List ℕ) (n : ℕ) → IsIn n (with_numbers ns ms) → IsIn n ns ⊎ IsIn n ms
from_with ns [] n h = inl h
from_with ns (m ∷ ms) n h =
    elim (from_with (with_number ns m) ms n h) [
      | inl a ↦ elim (from_by ns m n (has ns m) a) [ inl b ↦ inl b | inr e ↦ inr (inl e) ]
      | inr b ↦ inr (inr b)
    ]

module _ (next : ℕ → List ℕ) (first : List ℕ) where
  -- all that is found is reached; the first numbers are found, and all that a step leads to from those before place `at`
  pub record IsReaching (at : ℕ) (found : List ℕ) : Type 0 where
    pub within : at ≤ length found
    pub all_first : AllIn first found
    pub closed : (k : ℕ) → k < at → AllIn (next (get_or found k 0)) found
    pub sound : (n : ℕ) → IsIn n found → Reached next first n

  first_sound : (n : ℕ) → IsIn n (with_numbers [] first) → Reached next first n
  first_sound n h = elim (from_with [] first n h) [ inl a ↦ absurd a | inr b ↦ (zero, b) ]

  pub reaching_first : (found : List ℕ) → found ≡ with_numbers [] first → IsReaching 0 found
  reaching_first found e = subst (IsReaching 0) (sym e) (record {
    within = omega arith;
    all_first = λ n h. added [] first n h;
    closed = λ k h. absurd (omega (arith, h));
    sound = first_sound;
  })

  -- the numbers that a step leads to from one more
  pub reaching_more : (at : ℕ) (found new : List ℕ) → IsReaching at found → at < length found → new ≡ with_numbers found (next (get_or found at 0)) → IsReaching (at + 1) new
  reaching_more at found new r below e = subst (IsReaching (at + 1)) (sym e) (record {
    within = within;
    all_first = λ n h. kept found more n (r.all_first n h);
    closed = below_more (λ (k : ℕ). AllIn (next (get_or grown k 0)) grown) at before here;
    sound = λ n h. elim (from_with found more n h) [ inl a ↦ r.sound n a | inr b ↦ led n b ];
  })
    where
      more : List ℕ
      more = next (get_or found at 0)

      grown : List ℕ
      grown = with_numbers found more

      longer : (xs : List ℕ) × (with_numbers found more ≡ found ++ xs)
      longer = grows found more

      within : at + 1 ≤ length (with_numbers found more)
      within = rw (longer.1, length-append) (omega arith)

      same : (k : ℕ) → k < length found → get_or grown k 0 ≡ get_or found k 0
      same k h = ap (λ (l : List ℕ). get_or l k 0) longer.1 ∙ get_or-append found longer.0 0 k h

      before : (k : ℕ) → k < at → AllIn (next (get_or grown k 0)) grown
      before k h n i = kept found more n (r.closed k h n (subst (λ (m : ℕ). IsIn n (next m)) (same k (omega (arith, h, below))) i))

      here : AllIn (next (get_or grown at 0)) grown
      here n i = added found more n (subst (λ (m : ℕ). IsIn n (next m)) (same at below) i)

      led : (n : ℕ) → IsIn n more → Reached next first n
      led n b = let m = r.sound (get_or found at 0) (at_in (get_or found at 0) found at (slice_get-get_or found at 0 below)) in (suc m.0, (get_or found at 0, m.1, b))

  complete : (at : ℕ) (found : List ℕ) → IsReaching at found → length found ≤ at → (k n : ℕ) → ReachedIn k next first n → IsIn n found
  complete at found r past zero n h = r.all_first n h
  complete at found r past (suc k) n (m, h, i) =
      let j = in_at m found (complete at found r past k m h) in
      r.closed j.0 (omega (arith, j.1)) n (subst (λ (q : ℕ). IsIn n (next q)) (sym (get_or_from_slice_get found j.0 m 0 j.2)) i)

  -- where there is nothing more to look at, the numbers that are found are those that are reached
  pub all_reached : (at : ℕ) (found : List ℕ) → IsReaching at found → length found ≤ at → (n : ℕ) → (has found n ≡ true) ↔ Reached next first n
  all_reached at found r past n = (λ h. r.sound n (member found n h), λ h. has_member found n (complete at found r past h.0 n h.1))
