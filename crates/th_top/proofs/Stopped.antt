-- Why the files of a command give no executable.
use Rattle.std.proofs.Common.{◌≡◌, ℕ, zero, suc, ◌<◌, ◌≤◌, Bool, true, false, List, [], ◌∷◌, length, map, take, get_or, slice_get, Some, None, refl, sym, ap, subst, ◌∙◌, inl, inr, arith}
use Rattle.std.specs.Prelude.{◌↔◌, IsTrue, Result, Ok, Err, IfOk, IfErr, OnOk}
use Rattle.th_files.specs.Reading.{Told, AreThere, IsUnreadAt}
use Rattle.th_meaning.specs.declared.declared.CoreModule.{CoreModule}
use Rattle.th_meaning.specs.Program.{Program}
use Rattle.th_meaning.specs.View.{module_of}
use Rattle.th_puts.specs.declared.form.Puts.{Puts}
use Rattle.th_puts.specs.Form.{AreBytes, IsPuts, PutsBytes, puts_program}
use Rattle.th_accept.specs.Answers.{Accepted, Refused as RefusedFor}
use Rattle.th_accept.specs.declared.refusal.Refusal.{Refusal}
use Rattle.th_accept.specs.declared.refusal.Refusal.TheVariants.{Memory}
use Rattle.th_accept.proofs.Never.{one_answer}
use Rattle.th_top.specs.Answers as answers
use Rattle.th_top.specs.Answers.{Verdict, Done, BadFile, NotBuilt, BadElf, RunRaised, NoRoom, NoSteps, Trapped, NoMemory, StreamFailed, text_limit, text_of, UnreadAmong, IsUnbuilt}
use Rattle.th_top.specs.declared.build.Product.{Product}
use Rattle.th_top.specs.Built.{IsProductOf, IsProduct, MeansAlone}
use Rattle.th_top.specs.Meant.{AreOfForm}
use Rattle.th_top.specs.Texts.{Stops, StopsAlone, StopsUnbuilt}
use Rattle.th_top.proofs.Told.{some_one, name_there}

-- a file that wasn't read has a name
pub unread_named : (files : List (List ℕ)) (k : ℕ) (told : Told) (name : List ℕ) (before later : ℕ) → slice_get files k ≡ Some name → IsUnreadAt text_limit told files k before later
    → Stops told files before later (BadFile name)
unread_named files k told name before later is u = record { place = k; at = u; named = some_one name u.name (sym is ∙ u.at) }

pub unread_nowhere : (files : List (List ℕ)) (k : ℕ) (told : Told) (before later : ℕ) → slice_get files k ≡ None → IsUnreadAt text_limit told files k before later
    → Stops told files before later NoMemory
unread_nowhere files k told before later is u = let no : None ≡ Some u.name = sym is ∙ u.at in absurd cc

-- a refusal that has a place isn't want of memory
not_memory : (refusal : Refusal) (text : ℕ) → text_of refusal ≡ Some text → refusal ≡ Memory → ⊥
not_memory refusal text at is = let no : None ≡ Some text = ap text_of (sym is) ∙ at in cc

-- texts are refused, and not accepted
pub refused_text : (files texts : List (List ℕ)) (told : Told) (faults : ℕ) (refusal : Refusal) (text : ℕ) (name : List ℕ) → text_of refusal ≡ Some text → slice_get files text ≡ Some name
    → AreThere text_limit told files texts → RefusedFor texts refusal → ((modules : Program) → Accepted texts modules → refusal ≡ Memory) → Stops told files faults faults (answers.Refused name refusal)
refused_text files texts told faults refusal text name at named there refused memory = (
  refl,
  (
    texts,
    there,
    record {
      refused = refused;
      unaccepted = λ modules accepted. not_memory refusal text at (memory modules accepted);
      names = record { text = text; at = at; named = named };
    },
  ),
)

-- texts that are accepted aren't built
pub stops_unbuilt : (told : Told) (files texts : List (List ℕ)) (modules : Program) (before later : ℕ) (v : Verdict) → later ≡ before → AreThere text_limit told files texts → Accepted texts modules → StopsUnbuilt files texts v
    → Stops told files before later v
stops_unbuilt told files texts modules before later NoMemory same there accepted stops = same
stops_unbuilt told files texts modules before later (NotBuilt name) same there accepted stops = (same, (texts, there, record { modules = modules; accepted = accepted; unbuilt = stops }))
stops_unbuilt told files texts modules before later (BadFile name) same there accepted stops = absurd stops
stops_unbuilt told files texts modules before later (answers.Refused name refusal) same there accepted stops = absurd stops
stops_unbuilt told files texts modules before later Done same there accepted stops = absurd stops
stops_unbuilt told files texts modules before later (BadElf name field) same there accepted stops = absurd stops
stops_unbuilt told files texts modules before later (RunRaised name) same there accepted stops = absurd stops
stops_unbuilt told files texts modules before later NoRoom same there accepted stops = absurd stops
stops_unbuilt told files texts modules before later NoSteps same there accepted stops = absurd stops
stops_unbuilt told files texts modules before later (Trapped cause pc) same there accepted stops = absurd stops
stops_unbuilt told files texts modules before later StreamFailed same there accepted stops = absurd stops

-- accepted texts are of the form where their checked modules put bytes
pub form_of : (texts : List (List ℕ)) (modules : Program) (is : Bool) → Accepted texts modules → (IsTrue is ↔ IsPuts modules) → (IsTrue is ↔ AreOfForm texts)
form_of texts modules is accepted puts = (
  λ holds. (modules, record { accepted = accepted; puts = puts.0 holds }),
  λ form. puts.1 (subst IsPuts (one_answer texts form.0 modules form.1.accepted accepted) form.1.puts),
)

pub form_if : {E : Type 0} (texts : List (List ℕ)) (modules : Program) (r : Result Bool E) → Accepted texts modules → IfOk r (λ is. IsTrue is ↔ IsPuts modules) → IfOk r (λ is. IsTrue is ↔ AreOfForm texts)
form_if texts modules (Ok is) accepted puts = form_of texts modules is accepted puts
form_if texts modules (Err e) accepted puts = tt

-- texts that are refused, not for want of memory, aren't of the form
no_form : (texts : List (List ℕ)) (refusal : Refusal) (text : ℕ) → text_of refusal ≡ Some text → ((modules : Program) → Accepted texts modules → refusal ≡ Memory) → AreOfForm texts → ⊥
no_form texts refusal text at memory form = not_memory refusal text at (memory form.0 form.1.accepted)

pub formless : (texts : List (List ℕ)) (refusal : Refusal) (text : ℕ) → text_of refusal ≡ Some text → ((modules : Program) → Accepted texts modules → refusal ≡ Memory) → IsTrue false ↔ AreOfForm texts
formless texts refusal text at memory = (λ holds. absurd cc, λ form. absurd (no_form texts refusal text at memory form))

-- the first text alone
module _ {B : Type 0} (h : B → List ℕ) where
  pub firsts_are : (texts : List B) → map h (take 1 texts) ≡ take 1 (map h texts)
  firsts_are [] = refl
  firsts_are (u ∷ []) = refl
  firsts_are (u ∷ v ∷ texts) = refl

  pub one_short : (texts firsts : List B) → firsts ≡ take 1 texts → ((k : ℕ) (x : List ℕ) → slice_get (map h texts) k ≡ Some x → length x ≤ 2097152)
      → (k : ℕ) (x : List ℕ) → slice_get (map h firsts) k ≡ Some x → length x ≤ 2097152
  one_short texts firsts are short k x at = by_place texts short k (ap (λ l. slice_get (map h l) k) (sym are) ∙ at)
    where
      by_place : (us : List B) → ((k : ℕ) (x : List ℕ) → slice_get (map h us) k ≡ Some x → length x ≤ 2097152) → (k : ℕ) → slice_get (map h (take 1 us)) k ≡ Some x → length x ≤ 2097152
      by_place [] short k at = short k x at
      by_place (u ∷ []) short k at = short k x at
      by_place (u ∷ v ∷ us) short zero at = short 0 x at
      by_place (u ∷ v ∷ us) short (suc k) at = absurd cc

-- the file that isn't built among several, by whether the first text is of the form
module _ {A B : Type 0} (f : A → List ℕ) (h : B → List ℕ) (names : List A) (texts firsts : List B) (is : Bool) (n : A) (name : List ℕ) (first : firsts ≡ take 1 texts) (form : IsTrue is ↔ AreOfForm (map h firsts)) (named : name ≡ f n) where
  form_first : IsTrue is ↔ AreOfForm (take 1 (map h texts))
  form_first = subst (λ l. IsTrue is ↔ AreOfForm l) (ap (map h) first ∙ firsts_are h texts) form

  pub first_unbuilt : is ≡ false → 0 < length names → n ≡ get_or names 0 n → IsUnbuilt (map f names) (map h texts) name
  first_unbuilt fails some at = inl (
    name_there f names 0 n some at ∙ ap Some (sym named),
    λ of.
        let both : false ≡ true = sym fails ∙ form_first.1 of in
        cc,
  )

  pub second_unbuilt : is ≡ true → 1 < length names → n ≡ get_or names 1 n → IsUnbuilt (map f names) (map h texts) name
  second_unbuilt holds some at = inr (name_there f names 1 n some at ∙ ap Some (sym named), form_first.0 holds)

-- the program of one file
one_means : {B : Type 0} (h : B → List ℕ) (texts : List B) (modules : Program) (m bytes : List ℕ) → length texts ≡ 1 → Accepted (map h texts) modules → PutsBytes modules m bytes → MeansAlone (map h texts) (puts_program m bytes)
one_means h [] modules m bytes one accepted puts = absurd (omega (arith, one))
one_means h (u ∷ v ∷ texts) modules m bytes one accepted puts = absurd (omega (arith, one))
one_means h (u ∷ []) modules m bytes one accepted puts = record {
  text = h u;
  one = refl;
  means = record { accepted = subst (Accepted (h u ∷ [])) puts.is accepted; puts = (m, bytes, record { is = refl; are_bytes = puts.are_bytes; few = puts.few }) };
}

-- the program of one file isn't built
one_unbuilt : {A B : Type 0} (f : A → List ℕ) (h : B → List ℕ) (names : List A) (texts : List B) (n : A) (modules : Program) → length names ≡ 1 → length texts ≡ length names → n ≡ get_or names 0 n → Accepted (map h texts) modules
    → (IsPuts modules → ⊥) → IsUnbuilt (map f names) (map h texts) (f n)
one_unbuilt f h names [] n modules one same at accepted other = absurd (omega (arith, one, same))
one_unbuilt f h names (u ∷ v ∷ texts) n modules one same at accepted other = absurd (omega (arith, one, same))
one_unbuilt f h names (u ∷ []) n modules one same at accepted other = inl (
  name_there f names 0 n (omega (arith, one)) at,
  λ of. other (subst IsPuts (one_answer (h u ∷ []) of.0 modules of.1.accepted accepted) of.1.puts),
)

-- what the call says of the one file, said of the files and their texts
module _ {B : Type 0} (h : B → List ℕ) (texts : List B) (ms items : List CoreModule) (same : ms ≡ items) (accepted : Accepted (map h texts) (map module_of items)) where
  taken : Accepted (map h texts) (map module_of ms)
  taken = subst (λ l. Accepted (map h texts) (map module_of l)) (sym same) accepted

  pub alone_means : {E : Type 0} (r : Result Puts E) → length texts ≡ 1 → IfOk r (λ puts. PutsBytes (map module_of ms) puts.name puts.bytes.items) → IfOk r (λ puts. MeansAlone (map h texts) (puts_program puts.name puts.bytes.items))
  alone_means (Ok puts) one is = one_means h texts (map module_of ms) puts.name puts.bytes.items one taken is
  alone_means (Err e) one is = tt

  module _ {A : Type 0} (f : A → List ℕ) (names : List A) (n : A) (one : length names ≡ 1) (many : length texts ≡ length names) (at : n ≡ get_or names 0 n) where
    alone_stop : (v : Verdict) → StopsAlone (f n) (map module_of ms) v → StopsUnbuilt (map f names) (map h texts) v
    alone_stop NoMemory stops = tt
    alone_stop (NotBuilt name) stops = subst (IsUnbuilt (map f names) (map h texts)) (sym stops.0) (one_unbuilt f h names texts n (map module_of ms) one many at taken stops.1)
    alone_stop (BadFile name) stops = absurd stops
    alone_stop (answers.Refused name refusal) stops = absurd stops
    alone_stop Done stops = absurd stops
    alone_stop (BadElf name field) stops = absurd stops
    alone_stop (RunRaised name) stops = absurd stops
    alone_stop NoRoom stops = absurd stops
    alone_stop NoSteps stops = absurd stops
    alone_stop (Trapped cause pc) stops = absurd stops
    alone_stop StreamFailed stops = absurd stops

    pub alone_stops : {V E : Type 0} (verdict : E → Verdict) (name : List ℕ) (r : Result V E) → name ≡ f n → IfErr r (λ v. StopsAlone name (map module_of ms) (verdict v)) → IfErr r (λ v. StopsUnbuilt (map f names) (map h texts) (verdict v))
    alone_stops verdict name (Ok x) is stops = tt
    alone_stops verdict name (Err e) is stops = alone_stop (verdict e) (subst (λ x. StopsAlone x (map module_of ms) (verdict e)) is stops)

pub alone_bytes : {E : Type 0} (modules : Program) (r : Result Puts E) → IfOk r (λ puts. PutsBytes modules puts.name puts.bytes.items) → IfOk r (λ puts. AreBytes puts.bytes.items)
alone_bytes modules (Ok puts) is = is.are_bytes
alone_bytes modules (Err e) is = tt

pub alone_few : {E : Type 0} (modules : Program) (r : Result Puts E) → IfOk r (λ puts. PutsBytes modules puts.name puts.bytes.items) → IfOk r (λ puts. length puts.bytes.items ≤ 4999)
alone_few modules (Ok puts) is = is.few
alone_few modules (Err e) is = tt

-- what holds in any case holds on a success
pub on_any : {V E : Type 0} (r : Result V E) (P : Type 0) → P → OnOk r P
on_any (Ok x) P h = h
on_any (Err e) P h = tt

-- what is said of the texts that a call was given, said of the files
module _ (told : Told) (files texts : List (List ℕ)) (there : AreThere text_limit told files texts) where
  pub product_of : {E : Type 0} (r : Result Product E) → IfOk r (λ p. (modules : Program) × MeansAlone texts modules × IsProductOf modules p) → IfOk r (IsProduct told files)
  product_of (Err e) is = tt
  product_of (Ok p) is = record { texts = texts; there = there; modules = is.0; alone = is.1; product = is.2 }

  pub unbuilt_of : {V E : Type 0} (modules : Program) (accepted : Accepted texts modules) (verdict : E → Verdict) (before later : ℕ) (r : Result V E) → later ≡ before → IfErr r (λ v. StopsUnbuilt files texts (verdict v)) → IfErr r (λ v. Stops told files before later (verdict v))
  unbuilt_of modules accepted verdict before later (Ok x) still stops = tt
  unbuilt_of modules accepted verdict before later (Err e) still stops = stops_unbuilt told files texts modules before later (verdict e) still there accepted stops
