-- Whole runs of a machine that does a program operation by operation.
use Rattle.std.proofs.Common.{◌≡◌, ◌≢◌, ℕ, zero, suc, ◌+◌, ◌-◌, ◌<◌, ◌≤◌, List, Option, Some, None, true, false, nat_lt, refl, sym, ap, ◌∙◌, subst, ◌⊎◌, inl, inr, ⊎_elim, arith}
use Rattle.std.proofs.lemmas.Bool.{cases_lt, lt-ltb, le-ltb}
use Rattle.th_world.specs.Event.{Event, Prefix}
use Rattle.th_runs.specs.Stand.{End, GoesOn, Ended, Raised, NoTurns, NoRoom, Trapped, Stand}
use Rattle.th_runs.specs.Runs.{Program, Machine, IsOwn, bounded_run, steps}
use Rattle.th_runs.specs.Simulation.{Moves, Stops}
use Rattle.th_runs.proofs.Prefixes.{prefix_refl, prefix_trans}
use Rattle.th_runs.proofs.Bounded.{stand, end_goes}
use Rattle.th_runs.proofs.Steps as St

-- what the machine's end and trace say of the program's stand
abbrev pub Tells : End → List Event → Stand → Type 0
Tells GoesOn t st = Prefix t st.trace
Tells Ended t st = st ≡ stand Ended t
Tells (Raised x) t st = st ≡ stand (Raised x) t
Tells NoRoom t st = Prefix t st.trace
Tells NoTurns t st = ⊥
Tells Trapped t st = ⊥

-- a program that is over by itself
tells_over : (e : End) (t : List Event) → IsOwn e → Tells e t (stand e t)
tells_over GoesOn t o = prefix_refl t
tells_over Ended t o = refl
tells_over (Raised x) t o = refl
tells_over NoTurns t o = absurd o
tells_over NoRoom t o = absurd o
tells_over Trapped t o = absurd o

own_room : (e : End) → IsOwn e → e ≢ NoRoom
own_room GoesOn o h = cc
own_room Ended o h = cc
own_room (Raised x) o h = cc
own_room NoTurns o h = o
own_room NoRoom o h = o
own_room Trapped o h = o

-- the program's stand is done by a machine that stands so
abbrev pub Did : End → List Event → End → List Event → Type 0
Did GoesOn t e u = ⊥
Did Ended t e u = (e ≡ Ended) × (u ≡ t)
Did (Raised x) t e u = (e ≡ Raised x) × (u ≡ t)
Did NoTurns t e u = Prefix t u
Did NoRoom t e u = ⊥
Did Trapped t e u = ⊥

did_over : (e : End) (t : List Event) (h : End) (u : List Event) → IsOwn e → e ≢ GoesOn → h ≡ e → u ≡ t → Did e t h u
did_over GoesOn t h u o over e1 e2 = absurd (over refl)
did_over Ended t h u o over e1 e2 = (e1, e2)
did_over (Raised x) t h u o over e1 e2 = (e1, e2)
did_over NoTurns t h u o over e1 e2 = absurd o
did_over NoRoom t h u o over e1 e2 = absurd o
did_over Trapped t h u o over e1 e2 = absurd o

-- one operation of a bounded run
module _ (G : Type 0) (p : Program G) where
  pub run_step : (j n : ℕ) (g : G) → p.end g ≡ GoesOn → p.cost g ≤ n → bounded_run p None (suc j) n g ≡ bounded_run p None j (n - p.cost g) (p.next g)
  run_step j n g e le = let e2 : nat_lt n (p.cost g) ≡ false = le-ltb n (p.cost g) le in rw (e, e2)

  -- out of turns
  pub run_spent : (j n : ℕ) (r : Option ℕ) (g : G) → p.end g ≡ GoesOn → n < p.cost g → bounded_run p r (suc j) n g ≡ stand NoTurns (p.trace g)
  run_spent j n r g e lt = let e2 : nat_lt n (p.cost g) ≡ true = lt-ltb n (p.cost g) lt in rw (e, e2)

  -- out of room
  pub run_full : (room j n : ℕ) (g : G) → p.end g ≡ GoesOn → p.cost g ≤ n → room < p.used g + p.need g → bounded_run p (Some room) (suc j) n g ≡ stand NoRoom (p.trace g)
  run_full room j n g e le lt =
      let e2 : nat_lt n (p.cost g) ≡ false = le-ltb n (p.cost g) le in
      let e3 : nat_lt room (p.used g + p.need g) ≡ true = lt-ltb room (p.used g + p.need g) lt in rw (e, e2, e3)

  pub run_fits : (room j n : ℕ) (g : G) → p.end g ≡ GoesOn → p.cost g ≤ n → p.used g + p.need g ≤ room → bounded_run p (Some room) (suc j) n g ≡ bounded_run p (Some room) j (n - p.cost g) (p.next g)
  run_fits room j n g e le fits =
      let e2 : nat_lt n (p.cost g) ≡ false = le-ltb n (p.cost g) le in
      let e3 : nat_lt room (p.used g + p.need g) ≡ false = le-ltb room (p.used g + p.need g) fits in rw (e, e2, e3)

module _ (G S : Type 0) (p : Program G) (m : Machine S) (Meets : G → S → Type 0) (size : G → ℕ) (region : ℕ) (stays : (s : S) → m.end s ≢ GoesOn → m.step s ≡ s) (grows : (s : S) → Prefix (m.trace s) (m.trace (m.step s))) (own : (g : G) (s : S) → Meets g s → IsOwn (p.end g)) (same_end : (g : G) (s : S) → Meets g s → m.end s ≡ p.end g) (same_trace : (g : G) (s : S) → Meets g s → m.trace s ≡ p.trace g) (law : (g : G) (s : S) → Meets g s → p.end g ≡ GoesOn → Moves p m Meets size g s ⊎ Stops p m size region g s) where
  abbrev pub run : ℕ → S → S
  run k s = steps m k s

  abbrev pub fr : Option ℕ → ℕ → ℕ → G → Stand
  fr r j n g = bounded_run p r j n g

  run_split : (a b : ℕ) (s : S) → a ≤ b → run b s ≡ run (b - a) (run a s)
  run_split a b s le = St.steps_split m a b s le

  later_stays : (a b : ℕ) (s : S) → a ≤ b → m.end (run a s) ≢ GoesOn → run b s ≡ run a s
  later_stays a b s le h = St.later_stays S m stays a b s le h

  goes_before : (a b : ℕ) (s : S) → a ≤ b → m.end (run b s) ≡ GoesOn → m.end (run a s) ≡ GoesOn
  goes_before a b s le e = St.goes_before S m stays a b s le e

  part_grows : (a b : ℕ) (s : S) → a ≤ b → Prefix (m.trace (run a s)) (m.trace (run b s))
  part_grows a b s le = St.part_grows S m grows a b s le

  -- where the program is over, the machine stays
  over_stays : (k : ℕ) (g : G) (s : S) → Meets g s → p.end g ≢ GoesOn → run k s ≡ s
  over_stays k g s me h = St.steps_stay S m stays k s (λ e. h (sym (same_end g s me) ∙ e))

  -- the machine goes on before the last instruction of an operation
  goes_last : (g : G) (s : S) (v : Moves p m Meets size g s) → m.end (run v.last s) ≡ GoesOn
  goes_last g s v = ⊎_elim (λ e. goes_before v.last (suc v.last) s (omega arith) (same_end (p.next g) (run (suc v.last) s) v.lands ∙ e)) v.goes (end_goes (p.end (p.next g)))

  abbrev pub Fate : ℕ → ℕ → G → S → Type 0
  Fate k n g s = (j : ℕ) × Tells (m.end (run k s)) (m.trace (run k s)) (fr None j n g)

  -- the machine goes on after k instructions, and its trace is a prefix of that of a bounded run
  fate_goes : (k n j : ℕ) (g : G) (s : S) (e : End) (u : List Event) → m.end (run k s) ≡ GoesOn → Prefix (m.trace (run k s)) u → fr None j n g ≡ stand e u → Fate k n g s
  fate_goes k n j g s e u at q f = (j, subst (λ x. Tells (m.end (run k s)) (m.trace (run k s)) x) (sym f) (goes (m.end (run k s)) at))
    where
      goes : (h : End) → h ≡ GoesOn → Tells h (m.trace (run k s)) (stand e u)
      goes h eq = rw eq q

  -- before the turns are paid, or the program does the operation
  fate_part : (k n c : ℕ) (g : G) (s : S) → k ≤ n → Meets g s → p.end g ≡ GoesOn → k ≤ c → m.end (run k s) ≡ GoesOn → m.trace (run (p.cost g) s) ≡ m.trace s → Prefix (m.trace (run c s)) (p.trace (p.next g)) → Fate k n g s
  fate_part k n c g s le me e lt goes quiet ahead = ⊎_elim spent pays (cases_lt n (p.cost g))
    where
      spent : n < p.cost g → Fate k n g s
      spent h =
          let q = part_grows k (p.cost g) s (omega arith) in
          let q2 = subst (λ t. Prefix (m.trace (run k s)) t) (quiet ∙ same_trace g s me) q in
          fate_goes k n 1 g s NoTurns (p.trace g) goes q2 (run_spent G p 0 n None g e h)

      pays : p.cost g ≤ n → Fate k n g s
      pays h =
          let q = prefix_trans _ _ _ (part_grows k c s lt) ahead in
          fate_goes k n 1 g s (p.end (p.next g)) (p.trace (p.next g)) goes q (run_step G p 0 n g e h)

  -- after an operation
  fate_after : (k n c : ℕ) (g : G) (s : S) → c ≤ k → p.cost g ≤ n → p.end g ≡ GoesOn → Fate (k - c) (n - p.cost g) (p.next g) (run c s) → Fate k n g s
  fate_after k n c g s le pays e f =
      let e1 = run_split c k s le in
      (suc f.0, subst (λ x. Tells (m.end (run k s)) (m.trace (run k s)) x) (sym (run_step G p f.0 n g e pays)) (subst (λ x. Tells (m.end x) (m.trace x) (fr None f.0 (n - p.cost g) (p.next g))) (sym e1) f.1))

  full_goes : NoRoom ≢ GoesOn
  full_goes h = cc

  -- where the operation stops for room
  fate_stops : (k n : ℕ) (g : G) (s : S) → k ≤ n → Meets g s → p.end g ≡ GoesOn → Stops p m size region g s → Fate k n g s
  fate_stops k n g s fits me e t = ⊎_elim before after (cases_lt t.last k)
    where
      before : t.last < k → Fate k n g s
      before lt =
          let e1 = later_stays (suc t.last) k s lt (λ h. full_goes (sym t.halts ∙ h)) in
          (1, subst (λ x. Tells (m.end x) (m.trace x) (fr None 1 n g)) (sym e1) (subst (λ st. Tells (m.end (run (suc t.last) s)) (m.trace (run (suc t.last) s)) st) (sym (run_step G p 0 n g e (omega (arith, t.paid)))) (rw (t.halts) t.ahead)))

      after : k ≤ t.last → Fate k n g s
      after le = fate_part k n (suc t.last) g s fits me e (omega arith) (goes_before k t.last s le t.goes) t.quiet t.ahead

  -- where the program is over
  fate_over : (k n : ℕ) (g : G) (s : S) → Meets g s → run k s ≡ s → Fate k n g s
  fate_over k n g s me e =
      (0, subst (λ x. Tells (m.end x) (m.trace x) (fr None 0 n g)) (sym e) (rw (same_end g s me, same_trace g s me) (tells_over (p.end g) (p.trace g) (own g s me))))

  follow_row : (b k n : ℕ) (g : G) (s : S) → k ≤ suc b → k ≤ n → Meets g s → ((k2 n2 : ℕ) (g2 : G) (s2 : S) → k2 ≤ b → k2 ≤ n2 → Meets g2 s2 → Fate k2 n2 g2 s2) → p.end g ≡ GoesOn → Fate k n g s
  follow_row b k n g s le1 le2 me ih e = ⊎_elim moves (fate_stops k n g s le2 me e) (law g s me e)
    where
      moves : Moves p m Meets size g s → Fate k n g s
      moves v = ⊎_elim within after (cases_lt k (suc v.last))
        where
          within : k < suc v.last → Fate k n g s
          within lt =
              let at : m.trace (run (suc v.last) s) ≡ p.trace (p.next g) = same_trace (p.next g) (run (suc v.last) s) v.lands in
              fate_part k n (suc v.last) g s le2 me e (omega arith) (goes_before k v.last s (omega arith) (goes_last g s v)) v.quiet (subst (λ t. Prefix (m.trace (run (suc v.last) s)) t) at (prefix_refl _))

          after : suc v.last ≤ k → Fate k n g s
          after le = fate_after k n (suc v.last) g s le (omega (arith, v.paid)) e (ih (k - suc v.last) (n - p.cost g) (p.next g) (run (suc v.last) s) (omega arith) (omega (arith, v.paid)) v.lands)

  -- what the machine did after k instructions, the program does with as many turns
  pub follow : (b k n : ℕ) (g : G) (s : S) → k ≤ b → k ≤ n → Meets g s → Fate k n g s
  follow zero k n g s le1 le2 me =
      let e : k ≡ 0 = omega arith in fate_over k n g s me (ap (λ x. run x s) e)
  follow (suc b) k n g s le1 le2 me = ⊎_elim (follow_row b k n g s le1 le2 me (λ k2 n2 g2 s2 a1 a2 me2. follow b k2 n2 g2 s2 a1 a2 me2)) (λ h. fate_over k n g s me (over_stays k g s me h)) (end_goes (p.end g))

  -- where the machine stopped for room, the program with the region as its room is out of room
  abbrev pub Short : ℕ → ℕ → G → S → Type 0
  Short k n g s = (j : ℕ) × (t : List Event) × (fr (Some region) j n g ≡ stand NoRoom t) × Prefix t (m.trace (run k s))

  room_full : (k n : ℕ) (g : G) (s : S) → Meets g s → p.end g ≡ GoesOn → p.cost g ≤ n → region < p.used g + p.need g → Short k n g s
  room_full k n g s me e pays lt =
      (1, p.trace g, run_full G p region 0 n g e pays lt, subst (λ t. Prefix t (m.trace (run k s))) (same_trace g s me) (St.steps_grow S m grows k s))

  room_after : (k n c : ℕ) (g : G) (s : S) → Meets g s → c ≤ k → p.end g ≡ GoesOn → p.cost g ≤ n → Short (k - c) (n - p.cost g) (p.next g) (run c s) → Short k n g s
  room_after k n c g s me le e pays f = ⊎_elim (λ lt. room_full k n g s me e pays lt) fits (cases_lt region (p.used g + p.need g))
    where
      fits : p.used g + p.need g ≤ region → Short k n g s
      fits h = (suc f.0, f.1, run_fits G p region f.0 n g e pays h ∙ f.2, subst (λ x. Prefix f.1 (m.trace x)) (sym (run_split c k s le)) f.3)

  full_not_goes : (s : S) (a b : ℕ) → a ≤ b → m.end (run a s) ≡ NoRoom → m.end (run b s) ≢ GoesOn
  full_not_goes s a b le h goes = let e = goes_before a b s le goes in full_goes (sym h ∙ e)

  full_not_over : (g : G) (s : S) (k : ℕ) → Meets g s → run k s ≡ s → m.end (run k s) ≢ NoRoom
  full_not_over g s k me e h = own_room (p.end g) (own g s me) (sym (same_end g s me) ∙ sym (ap m.end e) ∙ h)

  no_room_row : (b k n : ℕ) (g : G) (s : S) → k ≤ suc b → k ≤ n → Meets g s → m.end (run k s) ≡ NoRoom → ((k2 n2 : ℕ) (g2 : G) (s2 : S) → k2 ≤ b → k2 ≤ n2 → Meets g2 s2 → m.end (run k2 s2) ≡ NoRoom → Short k2 n2 g2 s2) → p.end g ≡ GoesOn → Short k n g s
  no_room_row b k n g s le1 le2 me h ih e = ⊎_elim moves stops (law g s me e)
    where
      moves : Moves p m Meets size g s → Short k n g s
      moves v = ⊎_elim (λ le. room_after k n (suc v.last) g s me le e (omega (arith, v.paid)) (ih (k - suc v.last) (n - p.cost g) (p.next g) (run (suc v.last) s) (omega arith) (omega (arith, v.paid)) v.lands (ap m.end (sym (run_split (suc v.last) k s le)) ∙ h))) (λ le. absurd (full_not_goes s k v.last le h (goes_last g s v))) (cases_lt v.last k)

      stops : Stops p m size region g s → Short k n g s
      stops t = ⊎_elim (λ lt. room_full k n g s me e (omega (arith, t.paid)) t.short) (λ le. absurd (full_not_goes s k t.last le h t.goes)) (cases_lt t.last k)

  pub no_room : (b k n : ℕ) (g : G) (s : S) → k ≤ b → k ≤ n → Meets g s → m.end (run k s) ≡ NoRoom → Short k n g s
  no_room zero k n g s le1 le2 me h =
      let e : k ≡ 0 = omega arith in absurd (full_not_over g s k me (ap (λ x. run x s) e) h)
  no_room (suc b) k n g s le1 le2 me h =
      ⊎_elim (no_room_row b k n g s le1 le2 me h (λ k2 n2 g2 s2 a1 a2 me2 h2. no_room b k2 n2 g2 s2 a1 a2 me2 h2)) (λ over. absurd (full_not_over g s k me (over_stays k g s me over) h)) (end_goes (p.end g))

  -- after as many instructions as the potential, the machine stopped for room or did all
  abbrev pub DidAll : Stand → S → Type 0
  DidAll st x = Did st.end st.trace (m.end x) (m.trace x)

  module _ (pot : ℕ → G → ℕ) (falls : (n : ℕ) (g : G) (s : S) → Meets g s → p.end g ≡ GoesOn → p.cost g ≤ n → size g + pot (n - p.cost g) (p.next g) ≤ pot n g) where
    abbrev pub Reach : ℕ → ℕ → G → S → Type 0
    Reach b n g s = (m.end (run b s) ≡ NoRoom) ⊎ ((j : ℕ) × DidAll (fr None j n g) (run b s))

    reach_after : (b n c : ℕ) (g : G) (s : S) → c ≤ b → p.end g ≡ GoesOn → p.cost g ≤ n → Reach (b - c) (n - p.cost g) (p.next g) (run c s) → Reach b n g s
    reach_after b n c g s le e pays r =
        let e1 = run_split c b s le in
        ⊎_elim (λ f. inl (ap m.end e1 ∙ f)) (λ (j, d). inr (suc j, subst (λ st. DidAll st (run b s)) (sym (run_step G p j n g e pays)) (subst (λ x. DidAll (fr None j (n - p.cost g) (p.next g)) x) (sym e1) d))) r

    reach_over : (b n : ℕ) (g : G) (s : S) → Meets g s → p.end g ≢ GoesOn → Reach b n g s
    reach_over b n g s me over =
        inr (0, subst (λ x. DidAll (fr None 0 n g) x) (sym (over_stays b g s me over)) (did_over (p.end g) (p.trace g) (m.end s) (m.trace s) (own g s me) over (same_end g s me) (same_trace g s me)))

    reach_spent : (b n : ℕ) (g : G) (s : S) → Meets g s → p.end g ≡ GoesOn → n < p.cost g → Reach b n g s
    reach_spent b n g s me e lt =
        inr (1, subst (λ st. DidAll st (run b s)) (sym (run_spent G p 0 n None g e lt)) (subst (λ t. Prefix t (m.trace (run b s))) (same_trace g s me) (St.steps_grow S m grows b s)))

    reach_row : (c b n : ℕ) (g : G) (s : S) → b < suc c → Meets g s → pot n g ≤ b → p.end g ≡ GoesOn → p.cost g ≤ n → ((b2 n2 : ℕ) (g2 : G) (s2 : S) → b2 < c → Meets g2 s2 → pot n2 g2 ≤ b2 → Reach b2 n2 g2 s2) → Reach b n g s
    reach_row c b n g s le me fits e pays ih = ⊎_elim moves stops (law g s me e)
      where
        down : size g + pot (n - p.cost g) (p.next g) ≤ pot n g
        down = falls n g s me e pays

        moves : Moves p m Meets size g s → Reach b n g s
        moves v = reach_after b n (suc v.last) g s (omega (arith, v.within, down)) e pays (ih (b - suc v.last) (n - p.cost g) (p.next g) (run (suc v.last) s) (omega (arith, v.within, down)) v.lands (omega (arith, v.within, down)))

        stops : Stops p m size region g s → Reach b n g s
        stops t =
            let e1 = later_stays (suc t.last) b s (omega (arith, t.within, down)) (λ h. full_goes (sym t.halts ∙ h)) in
            inl (ap m.end e1 ∙ t.halts)

    pub reach : (c b n : ℕ) (g : G) (s : S) → b < c → Meets g s → pot n g ≤ b → Reach b n g s
    reach zero b n g s le me fits = absurd (omega arith)
    reach (suc c) b n g s le me fits = ⊎_elim (λ e. ⊎_elim (reach_spent b n g s me e) (λ pays. reach_row c b n g s le me fits e pays (λ b2 n2 g2 s2 a me2 f2. reach c b2 n2 g2 s2 a me2 f2)) (cases_lt n (p.cost g))) (reach_over b n g s me) (end_goes (p.end g))
