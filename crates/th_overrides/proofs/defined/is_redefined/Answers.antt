use Rattle.th_scope.specs.ItemView.{item_head_of, item_of}
use Rattle.th_scope.specs.View.{items_of}
use Rattle.th_overrides.proofs.Equals.{redefined}
use Rattle.th_overrides.proofs.defined.is_redefined.Goals as goal

pub returns-in-Some-find : goal.returns-in-Some-find
returns-in-Some-find c = λ J items impl.
    redefined J (items_of c.args.items.now) c.args.implements c.in-Some.interface c.args.name (item_head_of c.args.head.now) (item_of c.in-Some-find.declared.now) c.same_head.result items impl c.in-Some.is c.in-Some-find.ensures c.same_head.ensures
