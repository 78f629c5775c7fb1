-- From the stages to the answer.
use Rattle.std.proofs.Common.{◌≡◌, ◌∙◌, ℕ, suc, List, [], ◌∷◌, ◌++◌, map, length, refl, sym, ap, subst, arith}
use Rattle.th_tree.specs.DeclView.{interface_of, module_of}
use Rattle.th_tree.specs.Spans.{Tokenized}
use Rattle.th_tree.specs.Trees.{InterfaceSyn, ModuleSyn}
use Rattle.th_type.specs.Lists.{IsIn}
use Rattle.th_hier.specs.Numbering.{Grown}
use Rattle.th_hier.proofs.Growing.{grown_self}
use Rattle.th_meaning.specs.Program.{ProgramModule}
use Rattle.th_module_rules.specs.Stages.{Numbered, numbered, Program, RulesHold}
use Rattle.th_module_rules.specs.Texts.{AllGiven, AreRead, HasNames, interface_names, used_by_interfaces, used_by_modules}
use Rattle.th_program.specs.Programs.{IsPaired, program_of, with_texts}
use Rattle.th_program.specs.declared.trees.Trees.{Trees}
use Rattle.th_texts.specs.Reading.{with_all_tokens}
use Rattle.th_full_names.specs.Numbering.{with_full_names}
use Rattle.th_checked.specs.Checked.{AreChecked}
use Rattle.th_accept.specs.Answers.{AreLawful, IsModuleFirst, IsRead, Refused, RefusedWith, all_names}
use Rattle.th_accept.specs.Counts.{all_counts}
use Rattle.th_accept.specs.Stages.{Exceeds, FailsIn, HasRead, LacksInterface, RefusedLate}
use Rattle.th_accept.specs.declared.refusal.Refusal.{Refusal}
use Rattle.th_accept.specs.declared.refusal.Refusal.TheVariants.{BadByte, WideNumber, Syntax, MissingInterface, Rule, TooLarge, Memory}
use Rattle.th_accept.proofs.Reading.{first_module}

map_length : {A B : Type 0} (f : A → B) (rs : List A) → length (map f rs) ≡ length rs
map_length f [] = refl
map_length f (a ∷ rs) = ap suc (map_length f rs)

-- the trees without the numbers of their texts
trees_back : {A : Type 0} (ns : List ℕ) (ts : List A) → length ns ≡ length ts → map (λ (i : Numbered A). i.tree) (with_texts ns ts) ≡ ts
trees_back [] [] e = refl
trees_back [] (t ∷ ts) e = absurd (cc)
trees_back (n ∷ ns) [] e = absurd (cc)
trees_back {A} (n ∷ ns) (t ∷ ts) e = let i : length ns ≡ length ts = omega (arith, e) in ap (λ (us : List A). t ∷ us) (trees_back ns ts i)

-- the trees were put into the table of their texts, which now has the full names of their items
pub record IsPut (t : Trees) (p : Program) : Type 0 where
  pub table : p.table ≡ with_full_names t.names (map interface_of t.interfaces.items) (map module_of t.modules.items)
  pub interfaces : p.interfaces ≡ (program_of t).interfaces
  pub modules : p.modules ≡ (program_of t).modules

abbrev in_program : List (List ℕ) → List (Numbered InterfaceSyn) → List (Numbered ModuleSyn) → List (List ℕ)
in_program ws is ms = with_full_names ws (map (λ (i : Numbered InterfaceSyn). i.tree) is) (map (λ (m : Numbered ModuleSyn). m.tree) ms)

names_put : (texts : List (List ℕ)) (xs : List Tokenized) (t : Trees) (p : Program) → HasRead texts xs t → IsPaired t → IsPut t p → p.table ≡ all_names xs p
names_put texts xs t p h d put =
    let fs : List InterfaceSyn = map interface_of t.interfaces.items in
    let ms : List ModuleSyn = map module_of t.modules.items in
    let ws : List (List ℕ) = with_all_tokens [] xs in
    let is : map (λ (i : Numbered InterfaceSyn). i.tree) (program_of t).interfaces ≡ fs = trees_back t.interface_texts.items fs (d.interfaces ∙ sym (map_length interface_of t.interfaces.items)) in
    let ps : map (λ (m : Numbered ModuleSyn). m.tree) (program_of t).modules ≡ ms = trees_back t.module_texts.items ms (d.modules ∙ sym (map_length module_of t.modules.items)) in
    put.table ∙ ap (λ (ns : List (List ℕ)). with_full_names ns fs ms) h.words ∙ ap (λ (gs : List InterfaceSyn). with_full_names ws gs ms) (sym is)
    ∙ ap (λ (qs : List ModuleSyn). with_full_names ws (map (λ (i : Numbered InterfaceSyn). i.tree) (program_of t).interfaces) qs) (sym ps)
    ∙ ap (λ (js : List (Numbered InterfaceSyn)). in_program ws js (program_of t).modules) (sym put.interfaces)
    ∙ ap (λ (ns : List (Numbered ModuleSyn)). in_program ws p.interfaces ns) (sym put.modules)

-- texts that were read are those of the program over the table with the full names
pub read_on : (texts : List (List ℕ)) (xs : List Tokenized) (t : Trees) (p : Program) → HasRead texts xs t → IsPaired t → Grown t.names p.table → IsPut t p → IsRead texts xs (all_names xs p) p
read_on texts xs t p h d g put = record {
  tokens = h.tokens;
  table = names_put texts xs t p h d put;
  read = subst (λ (is : List (Numbered InterfaceSyn)). AreRead p.table 0 texts is p.modules) (sym put.interfaces)
      (subst (λ (ms : List (Numbered ModuleSyn)). AreRead p.table 0 texts (program_of t).interfaces ms) (sym put.modules) (h.read p.table g));
}

-- and over that of the texts alone
pub read_now : (texts : List (List ℕ)) (xs : List Tokenized) (t : Trees) → HasRead texts xs t → IsRead texts xs (with_all_tokens [] xs) (program_of t)
read_now texts xs t h = record { tokens = h.tokens; table = h.words; read = h.read t.names (grown_self t.names) }

-- names are given in the same interfaces and modules
pub given_on : (p q : Program) → q.interfaces ≡ p.interfaces → q.modules ≡ p.modules → AllGiven p → AllGiven q
given_on p q i m h = λ u n.
    subst (λ (is : List (Numbered InterfaceSyn)). IsIn u.name.name (interface_names is)) (sym i)
    (h u (subst (λ (is : List (Numbered InterfaceSyn)). IsIn u (used_by_interfaces is ++ used_by_modules p.modules)) i
    (subst (λ (ms : List (Numbered ModuleSyn)). IsIn u (used_by_interfaces q.interfaces ++ used_by_modules ms)) m n)))

-- an interface is missing
pub lacks_refused : (texts : List (List ℕ)) (xs : List Tokenized) (t : Trees) (e : Refusal) → HasRead texts xs t → LacksInterface (program_of t) e → RefusedLate texts e
lacks_refused texts xs t (BadByte at) h k = k
lacks_refused texts xs t (WideNumber at) h k = k
lacks_refused texts xs t (Syntax at) h k = k
lacks_refused texts xs t (MissingInterface at name) h k = (xs, program_of t, k.0, read_now texts xs t h, k.1, k.2, k.3)
lacks_refused texts xs t (Rule number at) h k = absurd k
lacks_refused texts xs t (TooLarge what count at) h k = absurd k
lacks_refused texts xs t Memory h k = tt

-- a rule fails
pub fails_refused : (texts : List (List ℕ)) (xs : List Tokenized) (p : Program) (e : Refusal) → IsRead texts xs (all_names xs p) p → HasNames p → AllGiven p → FailsIn p e → RefusedLate texts e
fails_refused texts xs p (BadByte at) r n g k = k
fails_refused texts xs p (WideNumber at) r n g k = k
fails_refused texts xs p (Syntax at) r n g k = k
fails_refused texts xs p (MissingInterface at name) r n g k = absurd k
fails_refused texts xs p (Rule number at) r n g k = (xs, p, r, n, g, k)
fails_refused texts xs p (TooLarge what count at) r n g k = absurd k
fails_refused texts xs p Memory r n g k = tt

-- something is too large
pub exceeds_refused : (texts : List (List ℕ)) (xs : List Tokenized) (p : Program) (ms : List ProgramModule) (e : Refusal) → AreLawful texts xs p ms → Exceeds (all_counts xs p ms) e → RefusedLate texts e
exceeds_refused texts xs p ms (BadByte at) l k = k
exceeds_refused texts xs p ms (WideNumber at) l k = k
exceeds_refused texts xs p ms (Syntax at) l k = k
exceeds_refused texts xs p ms (MissingInterface at name) l k = absurd k
exceeds_refused texts xs p ms (Rule number at) l k = absurd k
exceeds_refused texts xs p ms (TooLarge what count at) l k = (xs, p, ms, k.0, l, k.1, k.2, k.3, k.4)
exceeds_refused texts xs p ms Memory l k = tt

-- every rule holds
pub are_lawful : (texts : List (List ℕ)) (xs : List Tokenized) (p : Program) (ms : List ProgramModule) → IsRead texts xs (all_names xs p) p → HasNames p → AllGiven p → RulesHold p → AreChecked p xs p.modules ms → AreLawful texts xs p ms
are_lawful texts xs p ms r n g h c = record { read = r; lawful = record { read = r.read; named = n; given = g; rules = h }; checked = c }

-- there are as many checked modules as modules
same_many : (p : Program) (xs : List Tokenized) (ms : List (Numbered ModuleSyn)) (cs : List ProgramModule) → AreChecked p xs ms cs → length cs ≡ length ms
same_many p xs [] [] h = refl
same_many p xs [] (c ∷ cs) h = absurd h
same_many p xs (m ∷ ms) [] h = absurd h
same_many p xs (m ∷ ms) (c ∷ cs) h = ap suc (same_many p xs ms cs h.1)

many_with : {A : Type 0} (ns : List ℕ) (rs : List A) → length ns ≡ length rs → length (with_texts ns rs) ≡ length ns
many_with [] rs e = refl
many_with (n ∷ ns) [] e = absurd (cc)
many_with (n ∷ ns) (r ∷ rs) e = let i : length ns ≡ length rs = omega (arith, e) in ap suc (many_with ns rs i)

-- there are as many checked modules as texts that are modules
pub many_checked : {A : Type 0} (v : A → ProgramModule) (t : Trees) (p : Program) (xs : List Tokenized) (rs : List A) → IsPaired t → p.modules ≡ (program_of t).modules → AreChecked p xs p.modules (map v rs)
    → length rs ≡ length t.module_texts.items
many_checked v t p xs rs d m h =
    sym (map_length v rs) ∙ same_many p xs p.modules (map v rs) h ∙ ap length m
    ∙ many_with t.module_texts.items (map module_of t.modules.items) (d.modules ∙ sym (map_length module_of t.modules.items))

-- texts that were refused after they were read
pub late_refused : (texts : List (List ℕ)) (e : Refusal) → RefusedLate texts e → Refused texts e
late_refused texts (BadByte at) h = absurd h
late_refused texts (WideNumber at) h = absurd h
late_refused texts (Syntax at) h = absurd h
late_refused texts (MissingInterface at name) h = h
late_refused texts (Rule number at) h = h
late_refused texts (TooLarge what count at) h = h
late_refused texts Memory h = tt

pub late_refused_with : (texts : List (List ℕ)) (e : Refusal) → IsModuleFirst texts → RefusedLate texts e → RefusedWith texts e
late_refused_with texts (BadByte at) f h = absurd h
late_refused_with texts (WideNumber at) f h = absurd h
late_refused_with texts (Syntax at) f h = absurd h
late_refused_with texts (MissingInterface at name) f h = (f, h)
late_refused_with texts (Rule number at) f h = (f, h)
late_refused_with texts (TooLarge what count at) f h = (f, h)
late_refused_with texts Memory f h = tt

-- where one module was read and that is the first text
one_tree : (table : List (List ℕ)) (texts : List (List ℕ)) (is : List (Numbered InterfaceSyn)) (ns : List ℕ) (ms : List ModuleSyn) → ns ≡ 0 ∷ [] → length ns ≡ length ms
    → AreRead table 0 texts is (with_texts ns ms) → IsModuleFirst texts
one_tree table texts is [] ms e l h = absurd (cc)
one_tree table texts is (n ∷ ns) [] e l h = absurd (cc)
one_tree table texts is (n ∷ ns) (m ∷ ms) e l h =
    let z : n ≡ 0 = cc in let none : ns ≡ [] = cc in
    first_module table texts is m
    (subst (λ (k : ℕ). AreRead table 0 texts is (numbered k m ∷ [])) z (subst (λ (ks : List ℕ). AreRead table 0 texts is (numbered n m ∷ with_texts ks ms)) none h))

pub module_first : (texts : List (List ℕ)) (xs : List Tokenized) (t : Trees) → HasRead texts xs t → IsPaired t → t.module_texts.items ≡ 0 ∷ [] → IsModuleFirst texts
module_first texts xs t h p e =
    one_tree t.names texts (program_of t).interfaces t.module_texts.items (map module_of t.modules.items) e (p.modules ∙ sym (map_length module_of t.modules.items)) (h.read t.names (grown_self t.names))
