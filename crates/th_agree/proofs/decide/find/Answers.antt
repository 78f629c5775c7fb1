use Rattle.std.proofs.Common.{◌≡◌, ap, sym, ◌∙◌, subst, bytes_eq, rules}
use Rattle.std.specs.Prelude.{codes}
use Rattle.std.specs.HashMap.{get_by}
use Rattle.th_meaning.specs.View.{program_of}
use Rattle.th_agree.specs.Names.{IsLeastOf, kept, lesser_of}
use Rattle.th_agree.specs.Agree.{Twice}
use Rattle.th_agree.proofs.Finding.{twice_found, missing_found, main_found}
use Rattle.th_agree.proofs.decide.find.Goals as goal

pub returns : goal.returns
returns c =
    let e : c.as_slice.result.now ≡ codes "main" = search rules in
    record {
      differs = c.in_ok-differs.ensures;
      twice = subst (IsLeastOf (Twice (program_of c.args.modules.now))) (sym (c.lesser_of-twice.ensures ∙ ap (λ o. lesser_of o (kept c.in_ok-mains.mains.least)) c.lesser_of-pair.ensures))
          (twice_found (program_of c.args.modules.now) (kept c.in_ok-own.own.least) (kept c.in_ok-defined.defined.least) (kept c.in_ok-mains.mains.least)
          c.in_ok-own.ensures.least c.in_ok-defined.ensures.least c.in_ok-mains.ensures.least);
      missing = missing_found (program_of c.args.modules.now) c.in_ok-defined.defined.places (kept c.in_ok-defined.defined.least) (kept c.lacking-missing.result) c.in_ok-defined.ensures c.lacking-missing.ensures;
      main = main_found (program_of c.args.modules.now) c.in_ok-mains.mains.places (kept c.in_ok-mains.mains.least) c.place_of-place.result c.is_some-main.result c.in_ok-mains.ensures
          (c.place_of-place.ensures ∙ ap (λ n. get_by (λ k. bytes_eq n k.now) c.in_ok-mains.mains.places) e) c.is_some-main.ensures;
    }
