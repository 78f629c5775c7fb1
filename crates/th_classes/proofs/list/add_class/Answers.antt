use Rattle.std.proofs.Common.{◌∙◌, subst}
use Rattle.th_units.specs.Units.{Named}
use Rattle.th_classes.proofs.Listing.{adds_class}
use Rattle.th_classes.proofs.list.add_class.Goals as goal

pub returns : goal.returns
returns c = λ done h.
    adds_class c.args.list.now _ c.args.class c.len-number.result done c.in_ok-push.ensures.items (c.len-number.ensures ∙ c.args.list.now.classes.ok.0)
    (subst (λ n. Named n c.len-number.result c.args.list.now.numbers c.name_class.new.numbers) c.as_bytes.ensures c.in_ok-name_class.ensures) h
