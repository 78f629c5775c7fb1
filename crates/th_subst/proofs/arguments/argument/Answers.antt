use Rattle.th_meaning.specs.View.{types_of}
use Rattle.th_meaning.specs.Weights.{type_list}
use Rattle.th_subst.proofs.Args.{arg_of_list}
use Rattle.th_subst.proofs.arguments.argument.Goals as goal

pub returns : goal.returns
returns c = arg_of_list (type_list (types_of c.args.args.now)) c.args.place c.type_at.result c.type_at.ensures
