-- Texts put at the report.
use Rattle.std.proofs.Common.{◌≡◌, ℕ, ◌≤◌, List, [], ◌++◌, length, take, drop, Option, Some, None, refl, sym, ap, ◌∙◌, subst, append-nil, append_assoc, arith, true, inl, inr}
use Rattle.std.proofs.lemmas.List.{take-append-drop}
use Rattle.std.proofs.Math.Seq.{take-length}
use Rattle.std.specs.Prelude.{option_map, Result, Ok, Err, is_err, OnErr, MatchResult}
use Rattle.th_world.specs.Outside.{Rose}
use Rattle.th_top.specs.Report.{Report, ReportsAll, ReportsPart, Reports, reported}

-- what is said of an error holds of one
pub on_err : {A E : Type 0} (r : Result A E) (P : Type 0) → is_err r ≡ true → OnErr r P → P
on_err (Ok x) P e h = cc
on_err (Err x) P e h = h

-- the first bytes of a text were put, and then came a fault
pub said_part : (text : List ℕ) (n : ℕ) (before middle later : Option (List ℕ)) (fb fm fl : ℕ) → middle ≡ option_map (λ bytes. bytes ++ take n text) before
    → later ≡ middle → fm ≡ fb → Rose fm fl → fm ≤ fl → ReportsPart text (reported before fb) (reported later fl)
said_part text n before middle later fb fm fl put same faults rose less = record {
  said = take n text;
  unsaid = drop n text;
  split = sym (take-append-drop n text);
  put = same ∙ put;
  rose = subst (λ f. Rose f fl) faults rose;
  never_falls = subst (λ f. f ≤ fl) faults less;
}

-- all bytes of a text were put
pub said_whole : (text : List ℕ) (n : ℕ) (before later : Option (List ℕ)) (fb fl : ℕ) → n ≤ length text → length text ≤ n → later ≡ option_map (λ bytes. bytes ++ take n text) before
    → fl ≡ fb → ReportsAll text (reported before fb) (reported later fl)
said_whole text n before later fb fl within past put faults =
    let all : n ≡ length text = omega arith in
    record {
      put = put ∙ ap (λ t. option_map (λ bytes. bytes ++ t) before) (ap (λ k. take k text) all ∙ take-length text);
      faults = faults;
    }

nothing : (o : Option (List ℕ)) → o ≡ option_map (λ bytes. bytes ++ []) o
nothing None = refl
nothing (Some bytes) = ap Some (sym (append-nil bytes))

-- nothing was put
pub said_nothing : (r : Report) → ReportsAll [] r r
said_nothing r = record { put = nothing r.bytes; faults = refl }

two : (o : Option (List ℕ)) (a b : List ℕ) → option_map (λ bytes. bytes ++ b) (option_map (λ bytes. bytes ++ a) o) ≡ option_map (λ bytes. bytes ++ (a ++ b)) o
two None a b = refl
two (Some bytes) a b = ap Some (append_assoc bytes a b)

-- one text after another
pub all_then : (a b : List ℕ) (r s t : Report) → ReportsAll a r s → ReportsAll b s t → ReportsAll (a ++ b) r t
all_then a b r s t first second = record {
  put = second.put ∙ ap (option_map (λ bytes. bytes ++ b)) first.put ∙ two r.bytes a b;
  faults = second.faults ∙ first.faults;
}

pub part_then : (a b : List ℕ) (r s : Report) → ReportsPart a r s → ReportsPart (a ++ b) r s
part_then a b r s p = record {
  said = p.said;
  unsaid = p.unsaid ++ b;
  split = ap (λ l. l ++ b) p.split ∙ append_assoc p.said p.unsaid b;
  put = p.put;
  rose = p.rose;
  never_falls = p.never_falls;
}

pub all_then_part : (a b : List ℕ) (r s t : Report) → ReportsAll a r s → ReportsPart b s t → ReportsPart (a ++ b) r t
all_then_part a b r s t first p = record {
  said = a ++ p.said;
  unsaid = p.unsaid;
  split = ap (λ l. a ++ l) p.split ∙ sym (append_assoc a p.said p.unsaid);
  put = p.put ∙ ap (option_map (λ bytes. bytes ++ p.said)) first.put ∙ two r.bytes a p.said;
  rose = subst (λ f. Rose f t.faults) first.faults p.rose;
  never_falls = subst (λ f. f ≤ t.faults) first.faults p.never_falls;
}

-- the second text after the first
pub then_all : {A B : Type 0} (result : Result A B) (a b : List ℕ) (r s t : Report) → ReportsAll a r s
    → MatchResult result (λ _. ReportsAll b s t) (λ _. ReportsPart b s t) → MatchResult result (λ _. ReportsAll (a ++ b) r t) (λ _. ReportsPart (a ++ b) r t)
then_all (Ok x) a b r s t first second = all_then a b r s t first second
then_all (Err e) a b r s t first second = all_then_part a b r s t first second

-- texts by equal ones
pub then_all-by : {A B : Type 0} (result : Result A B) (a x b : List ℕ) (r s t : Report) → x ≡ a → ReportsAll x r s
    → MatchResult result (λ _. ReportsAll b s t) (λ _. ReportsPart b s t) → MatchResult result (λ _. ReportsAll (a ++ b) r t) (λ _. ReportsPart (a ++ b) r t)
then_all-by result a x b r s t same first second = then_all result a b r s t (subst (λ y. ReportsAll y r s) same first) second

pub part_then-by : (a x b : List ℕ) (r s : Report) → x ≡ a → ReportsPart x r s → ReportsPart (a ++ b) r s
part_then-by a x b r s same p = part_then a b r s (subst (λ y. ReportsPart y r s) same p)

-- a text that is two texts
pub then_all-as : {A B : Type 0} (result : Result A B) (a b whole : List ℕ) (r s t : Report) → a ++ b ≡ whole → ReportsAll a r s
    → MatchResult result (λ _. ReportsAll b s t) (λ _. ReportsPart b s t) → MatchResult result (λ _. ReportsAll whole r t) (λ _. ReportsPart whole r t)
then_all-as result a b whole r s t same first second =
    subst (λ w. MatchResult result (λ _. ReportsAll w r t) (λ _. ReportsPart w r t)) same (then_all result a b r s t first second)

pub part_then-as : (a b whole : List ℕ) (r s : Report) → a ++ b ≡ whole → ReportsPart a r s → ReportsPart whole r s
part_then-as a b whole r s same p = subst (λ w. ReportsPart w r s) same (part_then a b r s p)

-- a text before two numbers
pub two_behind : (p x y : List ℕ) → p ++ (x ++ y) ≡ p ++ x ++ y
two_behind p x y = sym (append_assoc p x y)

pub four_behind : (p x y z w : List ℕ) → p ++ (x ++ y ++ z ++ w) ≡ p ++ x ++ y ++ z ++ w
four_behind p x y z w = two_behind p (x ++ y ++ z) w ∙ ap (λ l. l ++ w) (two_behind p (x ++ y) z ∙ ap (λ l. l ++ z) (two_behind p x y))

-- an equal text
pub said_as : {A B : Type 0} (result : Result A B) (a b : List ℕ) (r s : Report) → a ≡ b → MatchResult result (λ _. ReportsAll a r s) (λ _. ReportsPart a r s) → MatchResult result (λ _. ReportsAll b r s) (λ _. ReportsPart b r s)
said_as result a b r s same said = subst (λ w. MatchResult result (λ _. ReportsAll w r s) (λ _. ReportsPart w r s)) same said

-- a text that was put, or up to a fault a prefix of it
pub reports_of : {A B : Type 0} (result : Result A B) (text : List ℕ) (r s : Report) → MatchResult result (λ _. ReportsAll text r s) (λ _. ReportsPart text r s) → Reports text r s
reports_of (Ok x) text r s said = inl said
reports_of (Err e) text r s said = inr said
