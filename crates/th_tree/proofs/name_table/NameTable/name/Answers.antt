use Rattle.std.proofs.Common.{◌≡◌, ◌∙◌, ◌≤◌, ℕ, List, Some, length, slice_get, sym, ap, subst, arith}
use Rattle.th_tree.specs.Names.{all_bytes}
use Rattle.th_tree.proofs.Numbers.{all_length, get_bytes, get_none}
use Rattle.th_tree.proofs.name_table.NameTable.name.Goals as goal

pub returns-in-Some : goal.returns-in-Some
returns-in-Some c =
    let g = get_bytes c.self.inside.names.keys c.args.number c.in-Some.name.now (sym c.in-Some.ensures.key) in
    subst (λ (q : List (List ℕ)). slice_get q c.args.number ≡ Some c.as_slice.result.now) c.self.view_is (g ∙ ap (λ (x : List ℕ). Some x) (sym c.as_slice.ensures.value))

pub returns-in-None : goal.returns-in-None
returns-in-None c =
    let g : length c.self.inside.names.keys ≤ c.args.number = get_none c.self.inside.names.keys c.args.number c.in-None.ensures.key in
    let l : length (all_bytes c.self.inside.names.keys) ≡ length c.self.inside.names.keys = all_length c.self.inside.names.keys in
    let v : length (all_bytes c.self.inside.names.keys) ≡ length c.args.self.now = ap (λ (x : List (List ℕ)). length x) c.self.view_is in omega arith
