-- A Flat run follows an outcome on words.
use Rattle.std.proofs.Common.{◌≡◌, ℕ, zero, suc, List, Option, refl, sym, subst}
use Rattle.th_meaning.specs.World.{Halt, Unset, Stuck, Deep, OutOfTurns, OutOfRoom, Effect, Did, Fails, Stops}
use Rattle.th_flat.specs.Values.{FlatValue, FlatWorld}
use Rattle.th_flat.specs.Program.{FlatProgram}
use Rattle.th_flat.specs.Configs.{Config, Over, Halts, step, steps, on_charge, paid}
use Rattle.th_flat.specs.Deeds.{Charge, no_charge, takes_turns, takes_room, takes_both}
use Rattle.th_meaning.specs.World.{spend, reserve, and_then}
use Rattle.th_viewed.specs.Evaluation.{State, Outcome, Gives, Throws, Halted, then_do, with_world, taken, pay}

-- what is known of a result
abbrev pub Holds : {A : Type 0} → (A → Type 0) → Outcome A → Type 0
Holds P (Gives a st) = P a
Holds P (Throws x v st) = Unit {0}
Holds P (Halted h w) = Unit {0}

pub holds_any : {A : Type 0} (r : Outcome A) → Holds (λ a. Unit {0}) r
holds_any (Gives a st) = tt
holds_any (Throws x v st) = tt
holds_any (Halted h w) = tt

pub holds_then : {A B : Type 0} (P : A → Type 0) (Q : B → Type 0) (r : Outcome A) (f : A → State → Outcome B) → Holds P r → ((a : A) (st : State) → P a → Holds Q (f a st)) → Holds Q (then_do r f)
holds_then P Q (Gives a st) f h k = k a st h
holds_then P Q (Throws x v st) f h k = tt
holds_then P Q (Halted h w) f k l = tt

holds_taken : {A : Type 0} (P : A → Type 0) (e : Effect FlatValue (Unit {0})) (st : State) (f : State → Outcome A) → ((st1 : State) → Holds P (f st1)) → Holds P (taken e st f)
holds_taken P (Did t w) st f h = h (with_world st w)
holds_taken P (Fails x w) st f h = tt
holds_taken P (Stops x w) st f h = tt

pub holds_turns : {A : Type 0} (P : A → Type 0) (k : ℕ) (st : State) (f : State → Outcome A) → ((st1 : State) → Holds P (f st1)) → Holds P (pay (takes_turns k) st f)
holds_turns P k st f h = holds_taken P (spend k st.world) st f h

module _ (p : FlatProgram) where
  -- Flat comes from one configuration to another
  pub record Comes (c d : Config) : Type 0 where
    pub count : ℕ
    pub is : steps p count c ≡ d

  pub here : (c : Config) → Comes c c
  here c = record { count = 0; is = refl }

  pub first : (c d : Config) → Comes (step p c) d → Comes c d
  first c d h = record { count = suc h.count; is = h.is }

  comes_from : (s : ℕ) (c d e : Config) → steps p s c ≡ d → Comes d e → Comes c e
  comes_from zero c d e q h = subst (λ c. Comes c e) (sym q) h
  comes_from (suc s) c d e q h = first c e (comes_from s (step p c) d e q h)

  pub comes_on : (c d e : Config) → Comes c d → Comes d e → Comes c e
  comes_on c d e g h = comes_from g.count c d e g.is h

  -- one step, by an equation
  pub one : (c d : Config) → step p c ≡ d → Comes c d
  one c d q = record { count = 1; is = q }

  abbrev pub Halting : Config → Halt → FlatWorld → Type 0
  Halting c OutOfTurns w = Comes c (Over (Halts OutOfTurns) w)
  Halting c OutOfRoom w = Comes c (Over (Halts OutOfRoom) w)
  Halting c Unset w = Comes c (Over (Halts Unset) w)
  Halting c Stuck w = Unit {0}
  Halting c Deep w = Unit {0}

  -- Flat does what the outcome on words says; nothing is said where that is stuck
  abbrev pub Goes : {A : Type 0} → Config → Outcome A → (A → State → Config) → (List ℕ → Option FlatValue → State → Config) → Type 0
  Goes c (Gives a st) good bad = Comes c (good a st)
  Goes c (Throws x v st) good bad = Comes c (bad x v st)
  Goes c (Halted h w) good bad = Halting c h w

  pub halting_after : (c d : Config) (h : Halt) (w : FlatWorld) → Comes c d → Halting d h w → Halting c h w
  halting_after c d OutOfTurns w g k = comes_on c d _ g k
  halting_after c d OutOfRoom w g k = comes_on c d _ g k
  halting_after c d Unset w g k = comes_on c d _ g k
  halting_after c d Stuck w g k = tt
  halting_after c d Deep w g k = tt

  pub goes_after : {A : Type 0} (c d : Config) (r : Outcome A) (good : A → State → Config) (bad : List ℕ → Option FlatValue → State → Config) → Comes c d → Goes d r good bad → Goes c r good bad
  goes_after c d (Gives a st) good bad g h = comes_on c d _ g h
  goes_after c d (Throws x v st) good bad g h = comes_on c d _ g h
  goes_after c d (Halted x w) good bad g h = halting_after c d x w g h

  -- one thing after another
  pub goes_then : {A B : Type 0} (c : Config) (r : Outcome A) (f : A → State → Outcome B) (mid : A → State → Config) (good : B → State → Config) (bad : List ℕ → Option FlatValue → State → Config)
      → Goes c r mid bad → ((a : A) (st : State) → Goes (mid a st) (f a st) good bad) → Goes c (then_do r f) good bad
  goes_then c (Gives a st) f mid good bad g h = goes_after c (mid a st) (f a st) good bad g (h a st)
  goes_then c (Throws x v st) f mid good bad g h = g
  goes_then c (Halted x w) f mid good bad g h = g

  -- the same where something is known of the first result
  pub goes_with : {A B : Type 0} (P : A → Type 0) (c : Config) (r : Outcome A) (f : A → State → Outcome B) (mid : A → State → Config) (good : B → State → Config) (bad : List ℕ → Option FlatValue → State → Config)
      → Holds P r → Goes c r mid bad → ((a : A) (st : State) → P a → Goes (mid a st) (f a st) good bad) → Goes c (then_do r f) good bad
  goes_with P c (Gives a st) f mid good bad k g h = goes_after c (mid a st) (f a st) good bad g (h a st k)
  goes_with P c (Throws x v st) f mid good bad k g h = g
  goes_with P c (Halted x w) f mid good bad k g h = g

  -- the end of an evaluation goes on
  pub goes_end : {A : Type 0} (c : Config) (r : Outcome A) (mid good : A → State → Config) (bad : List ℕ → Option FlatValue → State → Config) → Goes c r mid bad → ((a : A) (st : State) → Comes (mid a st) (good a st)) → Goes c r good bad
  goes_end c (Gives a st) mid good bad g h = comes_on c (mid a st) (good a st) g (h a st)
  goes_end c (Throws x v st) mid good bad g h = g
  goes_end c (Halted x w) mid good bad g h = g

  -- a run that stops so
  pub halts_at : (c : Config) (h : Halt) (w : FlatWorld) → Comes c (Over (Halts h) w) → Halting c h w
  halts_at c OutOfTurns w g = g
  halts_at c OutOfRoom w g = g
  halts_at c Unset w g = g
  halts_at c Stuck w g = tt
  halts_at c Deep w g = tt

  -- a charge
  charged : {A : Type 0} (e : Effect FlatValue (Unit {0})) (st : State) (go : FlatWorld → Config) (f : State → Outcome A) (good : A → State → Config) (bad : List ℕ → Option FlatValue → State → Config)
      → ((w : FlatWorld) → Goes (go w) (f (with_world st w)) good bad) → Goes (on_charge p e go) (taken e st f) good bad
  charged (Did t w) st go f good bad h = h w
  charged (Fails x w) st go f good bad h = tt
  charged (Stops x w) st go f good bad h = halts_at (Over (Halts x) w) x w (here (Over (Halts x) w))

  pub goes_paid : {A : Type 0} (k : Charge) (st : State) (go : FlatWorld → Config) (f : State → Outcome A) (good : A → State → Config) (bad : List ℕ → Option FlatValue → State → Config)
      → ((w : FlatWorld) → Goes (go w) (f (with_world st w)) good bad) → Goes (paid p k st.world go) (pay k st f) good bad
  goes_paid no_charge st go f good bad h = h st.world
  goes_paid (takes_turns k) st go f good bad h = charged (spend k st.world) st go f good bad h
  goes_paid (takes_room r) st go f good bad h = charged (reserve r st.world) st go f good bad h
  goes_paid (takes_both k r) st go f good bad h = charged (and_then (spend k st.world) (λ _ w1. reserve r w1)) st go f good bad h
