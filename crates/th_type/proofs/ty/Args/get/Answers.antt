use Rattle.th_type.specs.Types.{tys_of, list_of}
use Rattle.th_type.proofs.Args.{arg_of_slice, arg_of_list}
use Rattle.th_type.proofs.ty.Args.get.Goals as goal

pub returns-in-Slice : goal.returns-in-Slice
returns-in-Slice c = rw c.in-Slice.is (arg_of_slice c.in-Slice.items.now c.args.place c.item.result c.item.ensures)

pub returns-in-List : goal.returns-in-List
returns-in-List c = rw c.in-List.is (arg_of_list (list_of (tys_of c.in-List.list.now)) c.args.place c.get.result c.get.ensures)
