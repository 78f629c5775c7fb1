use Rattle.std.proofs.Common.{◌∙◌, ℕ, List, length, sym, ap}
use Rattle.th_tree.proofs.Numbers.{all_length}
use Rattle.th_tree.proofs.name_table.NameTable.len.Goals as goal

pub returns : goal.returns
returns c = c.len.ensures.len ∙ sym (all_length c.self.inside.names.keys) ∙ ap (λ (x : List (List ℕ)). length x) c.self.view_is
