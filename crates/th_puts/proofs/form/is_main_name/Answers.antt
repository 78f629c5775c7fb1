use Rattle.std.proofs.Common.{rules, ◌≡◌, ◌∷◌, bytes_eq}
use Rattle.std.specs.Prelude.{codes}
use Rattle.th_puts.proofs.Forms.{main_tested}
use Rattle.th_puts.proofs.form.is_main_name.Goals as goal

pub returns-in-Some : goal.returns-in-Some
returns-in-Some c =
    let tested : c.eq.result ≡ bytes_eq c.in-Some.rest.now (47 ∷ codes "main") = search rules in
    main_tested c.args.module_name.now c.args.name.now c.in-Some.rest.now c.eq.result c.in-Some.ensures tested
