use Rattle.std.proofs.Common.{◌≡◌, sym, ◌∙◌, rules}
use Rattle.std.specs.Prelude.{codes}
use Rattle.th_agree.specs.Names.{kept}
use Rattle.th_agree.proofs.Placed.{main_entries}
use Rattle.th_agree.proofs.marks.note_main.Goals as goal

pub returns-in_ok-note_place : goal.returns-in_ok-note_place
returns-in_ok-note_place c = λ done h.
    let e : c.as_slice.result.now ≡ codes "main" = search rules in
    main_entries c.args.place c.args.full.now c.args.unit.now c.as_slice.result.now c.note_place.new.places (kept c.note_place.new.least) done (sym c.is_named.ensures ∙ c.if-is_named.true) e
    (c.in_ok-note_place.ensures done h)
