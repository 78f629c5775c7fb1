-- Units that are entered.
use Rattle.std.proofs.Common.{◌≡◌, refl, sym, ap, ◌∙◌, subst, ℕ, List, [], ◌∷◌, ◌++◌, map, Option, Some, None}
use Rattle.std.proofs.lemmas.List.{map-append}
use Rattle.th_world.specs.Event.{Entered, entries}
use Rattle.th_meaning.specs.World.{World, note}
use Rattle.th_meaning.specs.Meaning.{Value}
use Rattle.th_store.specs.Charges.{with_left}
use Rattle.th_store.proofs.Charges.{left_alike}
use Rattle.th_units.specs.Units.{unit_number}
use Rattle.th_acts.specs.declared.runner.Runner.{Runner}
use Rattle.th_acts.specs.Stands.{Told, AreTables, Stands, number_at}

number_there : (o : Option ℕ) (n : ℕ) → o ≡ Some n → elim o [ None ↦ 0 | Some k ↦ k ] ≡ n
number_there o n h = ap (λ x. elim x [ None ↦ 0 | Some k ↦ k ]) h

-- the run after a unit was entered
pub stands_entered : (e : Told) (old new : Runner) (left now : Option (List ℕ)) (w : World Value) (name : List ℕ) (number : ℕ) → Stands e old left now w → new.tables ≡ old.tables
    → new.store.objects ≡ old.store.objects → new.entered.items ≡ old.entered.items ++ number ∷ [] → unit_number e.program name ≡ Some number
    → Stands e new left now (note (Entered name) (with_left new.store w))
stands_entered e old new left now w name number h tables objects more named =
    let a : number_at e.program name ≡ number = number_there (unit_number e.program name) number named in
    let kept = left_alike w old.store new.store h.alike objects in
    record {
      tables = subst (λ t. AreTables e.program t.now) (sym tables) h.tables;
      alike = record { turns = kept.turns; room = kept.room; objects = kept.objects };
      shows = record { left = h.shows.left; taken = h.shows.taken; put = h.shows.put };
      units =
          more
          ∙ ap (λ xs. xs ++ number ∷ []) h.units
          ∙ ap (λ n. map (number_at e.program) (entries w.trace) ++ n ∷ []) (sym a)
          ∙ sym (map-append (number_at e.program) (entries w.trace) (name ∷ []));
    }
