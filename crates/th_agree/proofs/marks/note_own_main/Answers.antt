use Rattle.std.proofs.Common.{◌++◌, map, subst, ap, ◌∙◌}
use Rattle.std.specs.Prelude.{codes}
use Rattle.th_meaning.specs.Program.{full_name}
use Rattle.th_meaning.specs.View.{unit_of}
use Rattle.th_agree.specs.Names.{kept}
use Rattle.th_agree.specs.Noted.{Noted, place_seen, all_with, mains_in}
use Rattle.th_agree.proofs.marks.note_own_main.Goals as goal

pub returns : goal.returns
returns c = λ done h.
    subst (λ es. Noted place_seen (done ++ es) c.note_mains.new.places (kept c.note_mains.new.least))
    (ap (λ xs. all_with c.args.place (mains_in c.as_slice-2.result.now (map unit_of xs))) c.as_slice.ensures.value
    ∙ ap (λ full. all_with c.args.place (mains_in full (map unit_of c.args.home.now.units.items))) (c.as_slice-2.ensures.value ∙ c.in_ok-full.ensures ∙ ap (λ n. full_name n (codes "main")) c.as_bytes.ensures))
    (c.in_ok-note_mains.ensures done h)
