-- The counts of texts, one after another.
use Rattle.std.proofs.Common.{◌≡◌, ◌∙◌, ◌+◌, ◌<◌, ℕ, List, [], ◌∷◌, ◌++◌, Option, Some, None, length, map, drop, get_or, refl, sym, ap, add-one}
use Rattle.std.proofs.Math.Seq.{drop-cons}
use Rattle.th_tree.specs.Spans.{Tokenized}
use Rattle.th_limits.specs.Words.{tokens_counts}
use Rattle.th_limits.proofs.Counting.{earliest_append, next_item}
use Rattle.th_limits.specs.declared.excess.Excess.{Excess}
use Rattle.th_limits.specs.Earliest.{earliest}
use Rattle.th_limits.proofs.Firsts.{first_is_kept, none_is_kept}
use Rattle.th_meaning.specs.Program.{ProgramModule}
use Rattle.th_module_rules.specs.Limits.{Counted, KeepsLimits, items_counts, module_counts}
use Rattle.th_module_rules.specs.Stages.{Numbered}
use Rattle.th_tree.specs.Trees.{InterfaceSyn, ModuleSyn}
use Rattle.th_program.specs.Programs.{with_texts}
use Rattle.th_accept.specs.Counts.{interfaces_counts, modules_counts, words_counts}
use Rattle.th_accept.specs.Stages.{Exceeds}
use Rattle.th_accept.specs.declared.refusal.Refusal.TheVariants.{TooLarge}

-- without trees there is none with the number of its text
pub no_trees : {A : Type 0} (ns : List ℕ) → with_texts {A = A} ns [] ≡ []
no_trees [] = refl
no_trees (n ∷ ns) = refl

-- without checked modules nothing is counted
pub no_checked : (ms : List (Numbered ModuleSyn)) → modules_counts ms [] ≡ []
no_checked [] = refl
no_checked (m ∷ ms) = refl

-- nothing that is kept is too large
pub limits_kept : (cs : List Counted) → None ≡ earliest None cs → KeepsLimits cs
limits_kept cs h = (none_is_kept cs).0 (sym h)

-- what is kept is the first that is too large
pub limits_exceeded : (cs : List Counted) (e : Excess) → Some e ≡ earliest None cs → Exceeds cs (TooLarge e.what e.count e.place)
limits_exceeded cs e h = let f = first_is_kept cs e (sym h) in (f.0, f.1, ap (λ (x : Excess). x.what) f.2, ap (λ (x : Excess). x.count) f.2, ap (λ (x : Excess). x.place) f.2)

-- the counts that are left after those of a part
after_part : (first new whole : Option Excess) (xs ys zs : List Counted) → zs ≡ xs ++ ys → new ≡ earliest first xs → earliest first zs ≡ whole → earliest new ys ≡ whole
after_part first new whole xs ys zs split here left =
    ap (λ (o : Option Excess). earliest o ys) here ∙ sym (earliest_append first xs ys) ∙ sym (ap (earliest first) split) ∙ left

-- what is left of numbers before the next one
next_number : (ns : List ℕ) (k : ℕ) → k < length ns → drop k ns ≡ get_or ns k 0 ∷ drop (k + 1) ns
next_number ns k below = drop-cons ns k 0 below ∙ ap (λ j. get_or ns k 0 ∷ drop j ns) (sym (add-one k))

pub next_words : (xs : List Tokenized) (k n : ℕ) (x : Tokenized) (first new whole : Option Excess) → k < length xs → x ≡ get_or xs k x → n ≡ k → new ≡ earliest first (tokens_counts n x.text x.list)
    → earliest first (words_counts k (drop k xs)) ≡ whole → earliest new (words_counts (k + 1) (drop (k + 1) xs)) ≡ whole
next_words xs k n x first new whole below is same here left =
    after_part first new whole (tokens_counts k x.text x.list) (words_counts (k + 1) (drop (k + 1) xs)) (words_counts k (drop k xs)) (ap (words_counts k) (next_item xs k x below is))
    (here ∙ ap (λ m. earliest first (tokens_counts m x.text x.list)) same) left

pub next_interfaces : {A : Type 0} (v : A → InterfaceSyn) (ns : List ℕ) (fs : List A) (k : ℕ) (f : A) (first new whole : Option Excess) → k < length ns → k < length fs → f ≡ get_or fs k f
    → new ≡ earliest first (items_counts (get_or ns k 0) (v f).items) → earliest first (interfaces_counts (with_texts (drop k ns) (map v (drop k fs)))) ≡ whole
    → earliest new (interfaces_counts (with_texts (drop (k + 1) ns) (map v (drop (k + 1) fs)))) ≡ whole
next_interfaces {A} v ns fs k f first new whole below within is here left =
    after_part first new whole (items_counts (get_or ns k 0) (v f).items) (interfaces_counts (with_texts (drop (k + 1) ns) (map v (drop (k + 1) fs))))
    (interfaces_counts (with_texts (drop k ns) (map v (drop k fs))))
    (ap (λ (ms : List ℕ). interfaces_counts (with_texts ms (map v (drop k fs)))) (next_number ns k below)
    ∙ ap (λ (gs : List A). interfaces_counts (with_texts (get_or ns k 0 ∷ drop (k + 1) ns) (map v gs))) (next_item fs k f within is))
    here left

pub next_modules : {A B : Type 0} (v : A → ModuleSyn) (w : B → ProgramModule) (ns : List ℕ) (fs : List A) (cs : List B) (k : ℕ) (f : A) (c : B) (first new whole : Option Excess)
    → k < length ns → k < length fs → k < length cs → f ≡ get_or fs k f → c ≡ get_or cs k c
    → new ≡ earliest first (module_counts (get_or ns k 0) (v f) (w c)) → earliest first (modules_counts (with_texts (drop k ns) (map v (drop k fs))) (map w (drop k cs))) ≡ whole
    → earliest new (modules_counts (with_texts (drop (k + 1) ns) (map v (drop (k + 1) fs))) (map w (drop (k + 1) cs))) ≡ whole
next_modules {A} {B} v w ns fs cs k f c first new whole below within there is at here left =
    after_part first new whole (module_counts (get_or ns k 0) (v f) (w c)) (modules_counts (with_texts (drop (k + 1) ns) (map v (drop (k + 1) fs))) (map w (drop (k + 1) cs)))
    (modules_counts (with_texts (drop k ns) (map v (drop k fs))) (map w (drop k cs)))
    (ap (λ (ms : List ℕ). modules_counts (with_texts ms (map v (drop k fs))) (map w (drop k cs))) (next_number ns k below)
    ∙ ap (λ (gs : List A). modules_counts (with_texts (get_or ns k 0 ∷ drop (k + 1) ns) (map v gs)) (map w (drop k cs))) (next_item fs k f within is)
    ∙ ap (λ (ds : List B). modules_counts (with_texts (get_or ns k 0 ∷ drop (k + 1) ns) (v f ∷ map v (drop (k + 1) fs))) (map w ds)) (next_item cs k c there at))
    here left
