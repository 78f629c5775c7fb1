use Rattle.std.proofs.Common.{◌∙◌, ap, sym}
use Rattle.std.specs.Prelude.{nat_eq, cond}
use Rattle.std.specs.HashMap.{get}
use Rattle.th_type.specs.Types.{ty_of}
use Rattle.th_shape.specs.Marks.{noted}
use Rattle.th_shape.proofs.Marking.{head_some, head_none}
use Rattle.th_shape.proofs.marks.note_type.Goals as goal

pub returns-in_ok-note-in-Some : goal.returns-in_ok-note-in-Some
returns-in_ok-note-in-Some c = λ q. c.in_ok-note-in-Some.ensures q ∙ ap (λ b. cond b (noted (get nat_eq c.args.named.now q) c.args.second) (get nat_eq c.args.named.now q)) (sym (head_some q (ty_of c.args.ty.now) c.in-Some.name (sym c.in-Some.ensures)))

pub returns-in-None : goal.returns-in-None
returns-in-None c = λ q. sym (ap (λ b. cond b (noted (get nat_eq c.args.named.now q) c.args.second) (get nat_eq c.args.named.now q)) (head_none q (ty_of c.args.ty.now) (sym c.in-None.ensures)))
