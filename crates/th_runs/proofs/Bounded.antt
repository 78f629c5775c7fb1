-- Bounded runs: a run that is over stays so with more operations, and its trace grows with the operations.
use Rattle.std.proofs.Common.{◌≡◌, ◌≢◌, ℕ, zero, suc, ◌+◌, ◌-◌, List, Option, Bool, true, false, nat_lt, refl, sym, ap, ◌∙◌, subst, ◌⊎◌, inl, inr, ⊎_elim, arith}
use Rattle.th_world.specs.Event.{Event, Prefix}
use Rattle.th_runs.specs.Stand.{End, GoesOn, Ended, Raised, NoTurns, NoRoom, Trapped, Stand}
use Rattle.th_runs.specs.Runs.{Program, bounded_run, exceeds, while_on}
use Rattle.th_runs.proofs.Prefixes.{prefix_refl, prefix_trans}

abbrev pub stand : End → List Event → Stand
stand e t = record { end = e; trace = t }

pub end_goes : (e : End) → (e ≡ GoesOn) ⊎ (e ≢ GoesOn)
end_goes GoesOn = inl refl
end_goes Ended = inr (λ e. cc)
end_goes (Raised x) = inr (λ e. cc)
end_goes NoTurns = inr (λ e. cc)
end_goes NoRoom = inr (λ e. cc)
end_goes Trapped = inr (λ e. cc)

while_over : (e : End) (on over : Stand) → e ≢ GoesOn → while_on e on over ≡ over
while_over GoesOn on over h = absurd (h refl)
while_over Ended on over h = refl
while_over (Raised x) on over h = refl
while_over NoTurns on over h = refl
while_over NoRoom on over h = refl
while_over Trapped on over h = refl

module _ (G : Type 0) (p : Program G) (longer : (g : G) → p.end g ≡ GoesOn → Prefix (p.trace g) (p.trace (p.next g))) where
  abbrev fl : Option ℕ → ℕ → ℕ → G → Stand
  fl r j n g = bounded_run p r j n g

  -- one operation, or the end
  abbrev Step : Option ℕ → ℕ → G → Type 0
  Step r n g = ((j : ℕ) → fl r (suc j) n g ≡ fl r j (n - p.cost g) (p.next g)) ⊎ ((x : Stand) × (x.trace ≡ p.trace g) × ((j : ℕ) → fl r (suc j) n g ≡ x))

  step_of : (r : Option ℕ) (n : ℕ) (g : G) → (p.end g ≡ GoesOn) × Step r n g ⊎ ((j : ℕ) → fl r j n g ≡ stand (p.end g) (p.trace g))
  step_of r n g = ⊎_elim (λ e. inl (e, by_turns e (nat_lt n (p.cost g)) refl)) (λ h. inr (over h)) (end_goes (p.end g))
    where
      by_room : p.end g ≡ GoesOn → nat_lt n (p.cost g) ≡ false → (b : Bool) → exceeds (p.used g + p.need g) r ≡ b → Step r n g
      by_room e t true q = inr (stand NoRoom (p.trace g), refl, λ j. rw (e, t, q))
      by_room e t false q = inl (λ j. rw (e, t, q))

      by_turns : p.end g ≡ GoesOn → (b : Bool) → nat_lt n (p.cost g) ≡ b → Step r n g
      by_turns e true t = inr (stand NoTurns (p.trace g), refl, λ j. rw (e, t))
      by_turns e false t = by_room e t (exceeds (p.used g + p.need g) r) refl

      over : p.end g ≢ GoesOn → (j : ℕ) → fl r j n g ≡ stand (p.end g) (p.trace g)
      over h zero = refl
      over h (suc j) = while_over (p.end g) _ _ h

  grows_from : (k n : ℕ) (r : Option ℕ) (g : G) → Prefix (p.trace g) (fl r k n g).trace
  grows_from zero n r g = prefix_refl (p.trace g)
  grows_from (suc k) n r g = ⊎_elim (λ q. ⊎_elim (λ t. by_step q.0 t (grows_from k (n - p.cost g) r (p.next g))) (λ t. same t.0 t.1 (t.2 k)) q.1) (λ o. same _ refl (o (suc k))) (step_of r n g)
    where
      by_step : p.end g ≡ GoesOn → ((m : ℕ) → fl r (suc m) n g ≡ fl r m (n - p.cost g) (p.next g)) → Prefix (p.trace (p.next g)) (fl r k (n - p.cost g) (p.next g)).trace → Prefix (p.trace g) (fl r (suc k) n g).trace
      by_step e t q = subst (λ x. Prefix (p.trace g) x.trace) (sym (t k)) (prefix_trans _ _ _ (longer g e) q)

      same : (x : Stand) → x.trace ≡ p.trace g → fl r (suc k) n g ≡ x → Prefix (p.trace g) (fl r (suc k) n g).trace
      same x e h = subst (λ t. Prefix (p.trace g) t) (sym e ∙ sym (ap (λ y. y.trace) h)) (prefix_refl (p.trace g))

  -- the traces of longer runs
  pub bounded_grows : (j k n : ℕ) (r : Option ℕ) (g : G) → Prefix (fl r j n g).trace (fl r (j + k) n g).trace
  bounded_grows zero k n r g = grows_from (0 + k) n r g
  bounded_grows (suc j) k n r g =
      let e : suc j + k ≡ suc (j + k) = omega arith in
      subst (λ m. Prefix (fl r (suc j) n g).trace (fl r m n g).trace) (sym e) (⊎_elim (λ q. ⊎_elim (λ t. by_step t (bounded_grows j k (n - p.cost g) r (p.next g))) stops q.1) over (step_of r n g))
    where
      by_step : ((m : ℕ) → fl r (suc m) n g ≡ fl r m (n - p.cost g) (p.next g)) → Prefix (fl r j (n - p.cost g) (p.next g)).trace (fl r (j + k) (n - p.cost g) (p.next g)).trace → Prefix (fl r (suc j) n g).trace (fl r (suc (j + k)) n g).trace
      by_step t q = subst (λ x. Prefix x.trace (fl r (suc (j + k)) n g).trace) (sym (t j)) (subst (λ x. Prefix (fl r j (n - p.cost g) (p.next g)).trace x.trace) (sym (t (j + k))) q)

      same : (a b : Stand) → a ≡ b → Prefix a.trace b.trace
      same a b e = subst (λ x. Prefix a.trace x.trace) e (prefix_refl a.trace)

      stops : ((x : Stand) × (x.trace ≡ p.trace g) × ((m : ℕ) → fl r (suc m) n g ≡ x)) → Prefix (fl r (suc j) n g).trace (fl r (suc (j + k)) n g).trace
      stops (x, t, h) = same _ _ (h j ∙ sym (h (j + k)))

      over : ((m : ℕ) → fl r m n g ≡ stand (p.end g) (p.trace g)) → Prefix (fl r (suc j) n g).trace (fl r (suc (j + k)) n g).trace
      over h = same _ _ (h (suc j) ∙ sym (h (suc (j + k))))

  -- a run that is over is the same with more operations
  pub bounded_stays : (j k n : ℕ) (r : Option ℕ) (g : G) → (fl r j n g).end ≢ GoesOn → fl r (j + k) n g ≡ fl r j n g
  bounded_stays zero k n r g h = ⊎_elim (λ q. absurd (h q.0)) (λ o. o (0 + k)) (step_of r n g)
  bounded_stays (suc j) k n r g h =
      let e : suc j + k ≡ suc (j + k) = omega arith in
      ap (λ m. fl r m n g) e ∙ ⊎_elim (λ q. ⊎_elim (λ t. t (j + k) ∙ bounded_stays j k (n - p.cost g) r (p.next g) (λ x. h (ap (λ y. y.end) (t j) ∙ x)) ∙ sym (t j)) (λ t. t.2 (j + k) ∙ sym (t.2 j)) q.1) (λ o. o (suc (j + k)) ∙ sym (o (suc j))) (step_of r n g)

  -- two runs that are over, with the same turns and room, are the same
  pub bounded_once : (i j n : ℕ) (r : Option ℕ) (g : G) → (fl r i n g).end ≢ GoesOn → (fl r j n g).end ≢ GoesOn → fl r i n g ≡ fl r j n g
  bounded_once i j n r g hi hj =
      let e : j + i ≡ i + j = omega arith in
      sym (bounded_stays i j n r g hi) ∙ ap (λ m. fl r m n g) (sym e) ∙ bounded_stays j i n r g hj

  -- the trace of a run is a prefix of that of the run that is over
  pub bounded_within : (i j n : ℕ) (r : Option ℕ) (g : G) → (fl r i n g).end ≢ GoesOn → Prefix (fl r j n g).trace (fl r i n g).trace
  bounded_within i j n r g h =
      let e : j + i ≡ i + j = omega arith in
      subst (λ x. Prefix (fl r j n g).trace x.trace) (ap (λ m. fl r m n g) e ∙ bounded_stays i j n r g h) (bounded_grows j i n r g)
