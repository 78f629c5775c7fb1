use Rattle.std.proofs.Common.{◌≡◌, ◌∙◌, ◌<◌, ℕ, List, Some, length, slice_get, sym, ap, subst, rules}
use Rattle.th_tree.specs.Names.{all_bytes, place_of, with_name}
use Rattle.th_tree.proofs.Numbers.{all_length, found, appended}
use Rattle.th_tree.proofs.name_table.NameTable.number.Goals as goal

pub overflow_cast-result : goal.overflow_cast-result
overflow_cast-result c =
    let w : c.in-Some.place < length c.self.inside.names.keys = c.in-Some.ensures.within in
    let l : length (all_bytes c.self.inside.names.keys) ≡ length c.self.inside.names.keys = all_length c.self.inside.names.keys in
    let v : length (all_bytes c.self.inside.names.keys) ≡ length c.args.self.now = ap (λ (x : List (List ℕ)). length x) c.self.view_is in search rules

pub returns-in-Some-clause-number : goal.returns-in-Some-clause-number
returns-in-Some-clause-number c =
    let f = found c.args.name.now c.self.inside.names.keys c.in-Some.place c.in-Some.ensures.index in
    subst (λ (q : List (List ℕ)). c.in-Some.place ≡ place_of q c.args.name.now) c.self.view_is f.number

pub returns-in-Some-clause-names : goal.returns-in-Some-clause-names
returns-in-Some-clause-names c =
    let f = found c.args.name.now c.self.inside.names.keys c.in-Some.place c.in-Some.ensures.index in
    subst (λ (q : List (List ℕ)). q ≡ with_name q c.args.name.now) c.self.view_is f.names

pub returns-in-Some-clause-there : goal.returns-in-Some-clause-there
returns-in-Some-clause-there c =
    let f = found c.args.name.now c.self.inside.names.keys c.in-Some.place c.in-Some.ensures.index in
    subst (λ (q : List (List ℕ)). slice_get q c.in-Some.place ≡ Some c.args.name.now) c.self.view_is f.there

pub overflow_cast-result-in-None : goal.overflow_cast-result-in-None
overflow_cast-result-in-None c =
    let w : c.len-place.result ≡ length c.self.inside.names.keys = c.len-place.ensures.len in
    let l : length (all_bytes c.self.inside.names.keys) ≡ length c.self.inside.names.keys = all_length c.self.inside.names.keys in
    let v : length (all_bytes c.self.inside.names.keys) ≡ length c.args.self.now = ap (λ (x : List (List ℕ)). length x) c.self.view_is in search rules

pub returns-in_ok-map_err-in-None-clause-number : goal.returns-in_ok-map_err-in-None-clause-number
returns-in_ok-map_err-in-None-clause-number c =
    let a = appended c.args.name.now c.self.inside.names.keys c.insert.new.self.keys c.in_ok-owned-in-None.owned c.in-None.ensures.index c.in_ok-owned-in-None.ensures.items (search rules) in
    let n : c.len-place.result ≡ length c.self.inside.names.keys = c.len-place.ensures.len in
    n ∙ subst (λ (q : List (List ℕ)). length c.self.inside.names.keys ≡ place_of q c.args.name.now) c.self.view_is a.number

pub returns-in_ok-map_err-in-None-clause-names : goal.returns-in_ok-map_err-in-None-clause-names
returns-in_ok-map_err-in-None-clause-names c =
    let a = appended c.args.name.now c.self.inside.names.keys c.insert.new.self.keys c.in_ok-owned-in-None.owned c.in-None.ensures.index c.in_ok-owned-in-None.ensures.items (search rules) in
    subst (λ (q : List (List ℕ)). all_bytes c.insert.new.self.keys ≡ with_name q c.args.name.now) c.self.view_is a.names

pub returns-in_ok-map_err-in-None-clause-there : goal.returns-in_ok-map_err-in-None-clause-there
returns-in_ok-map_err-in-None-clause-there c =
    let a = appended c.args.name.now c.self.inside.names.keys c.insert.new.self.keys c.in_ok-owned-in-None.owned c.in-None.ensures.index c.in_ok-owned-in-None.ensures.items (search rules) in
    let n : c.len-place.result ≡ length c.self.inside.names.keys = c.len-place.ensures.len in
    subst (λ (q : ℕ). slice_get (all_bytes c.insert.new.self.keys) q ≡ Some c.args.name.now) (sym n) a.there
