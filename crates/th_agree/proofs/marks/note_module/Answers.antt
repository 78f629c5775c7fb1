use Rattle.std.proofs.Common.{ℕ, List, [], ◌∷◌, ◌++◌, subst, sym, ap, ◌∙◌}
use Rattle.std.specs.Prelude.{OnOk}
use Rattle.th_meaning.specs.View.{module_of}
use Rattle.th_agree.specs.Names.{kept}
use Rattle.th_agree.specs.Noted.{Entry, entry, Noted, place_seen, all_with, names_by}
use Rattle.th_agree.proofs.marks.note_module.Goals as goal

pub returns-in-Own : goal.returns-in-Own
returns-in-Own c =
    subst (λ es. OnOk c.note_place.result ((done : List (Entry ℕ)) → Noted place_seen done c.args.places.now (kept c.args.least.now) → Noted place_seen (done ++ es) c.note_place.new.places (kept c.note_place.new.least)))
    (ap (λ n. entry n c.args.place ∷ []) c.as_bytes.ensures ∙ ap (λ kind. all_with c.args.place (names_by kind (module_of c.args.home.now))) (sym c.in-Own.is)) c.note_place.ensures

pub returns-in-Defined : goal.returns-in-Defined
returns-in-Defined c =
    subst (λ es. OnOk c.note_defined.result ((done : List (Entry ℕ)) → Noted place_seen done c.args.places.now (kept c.args.least.now) → Noted place_seen (done ++ es) c.note_defined.new.places (kept c.note_defined.new.least)))
    (ap (λ kind. all_with c.args.place (names_by kind (module_of c.args.home.now))) (sym c.in-Defined.is)) c.note_defined.ensures

pub returns-in-Main : goal.returns-in-Main
returns-in-Main c =
    subst (λ es. OnOk c.note_own_main.result ((done : List (Entry ℕ)) → Noted place_seen done c.args.places.now (kept c.args.least.now) → Noted place_seen (done ++ es) c.note_own_main.new.places (kept c.note_own_main.new.least)))
    (ap (λ kind. all_with c.args.place (names_by kind (module_of c.args.home.now))) (sym c.in-Main.is)) c.note_own_main.ensures
