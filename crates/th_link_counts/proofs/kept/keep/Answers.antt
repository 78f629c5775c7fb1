use Rattle.std.proofs.Common.{◌≡◌, ◌++◌, [], ◌∷◌, map, ap, ◌∙◌, is_some, bytes_eq}
use Rattle.std.specs.HashMap.{get_by}
use Rattle.std.proofs.lemmas.List.{map-append}
use Rattle.th_tree.specs.Names.{is_there}
use Rattle.th_meaning.specs.View.{interface_of}
use Rattle.th_link_counts.specs.Kept.{firsts}
use Rattle.th_link_counts.proofs.Keeping.{known_kept, new_kept}
use Rattle.th_link_counts.proofs.kept.keep.Goals as goal

pub returns-then-known-clause-kept : goal.returns-then-known-clause-kept
returns-then-known-clause-kept c = λ names seen.
    let i = interface_of c.args.interface.now in
    let known : c.is_seen-known.result ≡ is_there names i.name = c.is_seen-known.ensures ∙ ap (λ n. is_some (get_by (λ k. bytes_eq n k.now) c.args.seen.now)) c.as_bytes-name.ensures ∙ seen i.name in
    known_kept names i (map (λ j. interface_of j.now) c.args.kept.now.items) c.is_seen-known.result known c.if-known.true

pub returns-clause-kept : goal.returns-clause-kept
returns-clause-kept c = λ names seen.
    let i = interface_of c.args.interface.now in
    let known : c.is_seen-known.result ≡ is_there names i.name = c.is_seen-known.ensures ∙ ap (λ n. is_some (get_by (λ k. bytes_eq n k.now) c.args.seen.now)) c.as_bytes-name.ensures ∙ seen i.name in
    ap (map (λ j. interface_of j.now)) c.in_ok-push.ensures.items
    ∙ map-append (λ j. interface_of j.now) c.args.kept.now.items (c.args.interface ∷ [])
    ∙ new_kept names i (map (λ j. interface_of j.now) c.args.kept.now.items) c.is_seen-known.result known c.if-known.false
