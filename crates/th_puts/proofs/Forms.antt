-- Trees of programs that put bytes.
use Rattle.std.proofs.Common.{◌≡◌, ℕ, suc, ◌<◌, ◌≤◌, Bool, List, [], ◌∷◌, ◌++◌, length, true, false, refl, sym, ap, subst, ◌∙◌, arith}
use Rattle.std.specs.Prelude.{◌↔◌, IsTrue, bytes_eq, codes}
use Rattle.std.proofs.lemmas.List.{append_cancel_left}
use Rattle.std.proofs.lemmas.List.Elements.{All-head, All-tail, All-push}
use Rattle.std.proofs.lemmas.Slice.Eq.{bytes_eq-Decides}
use Rattle.th_meaning.specs.Trees.{StmtTree, BodyTree, no_stmt, more_stmts}
use Rattle.th_meaning.specs.Program.{ProgramUnit, ProgramModule, full_name}
use Rattle.th_puts.specs.Form.{AreBytes, put_stmt, puts_body, main_unit, lone_module, puts_module, IsPuts}

-- statements that put these bytes, before others
abbrev pub puts_then : List ℕ → BodyTree → BodyTree
puts_then [] rest = rest
puts_then (b ∷ bs) rest = more_stmts (put_stmt b) (puts_then bs rest)

pub then_one : (bs : List ℕ) (b : ℕ) (rest : BodyTree) → puts_then (bs ++ b ∷ []) rest ≡ puts_then bs (more_stmts (put_stmt b) rest)
then_one [] b rest = refl
then_one (c ∷ bs) b rest = ap (more_stmts (put_stmt c)) (then_one bs b rest)

-- all statements are gone through
then_none : (bs : List ℕ) → puts_then bs no_stmt ≡ puts_body bs
then_none [] = refl
then_none (b ∷ bs) = ap (more_stmts (put_stmt b)) (then_none bs)

pub ended : (body rest : BodyTree) (bs : List ℕ) → body ≡ puts_then bs rest → rest ≡ no_stmt → body ≡ puts_body bs
ended body rest bs is none = is ∙ ap (puts_then bs) none ∙ then_none bs

-- one more statement
pub grows : (body rest next : BodyTree) (s : StmtTree) (bs more : List ℕ) (b : ℕ) → body ≡ puts_then bs rest → rest ≡ more_stmts s next → s ≡ put_stmt b → more ≡ bs ++ b ∷ [] → body ≡ puts_then more next
grows body rest next s bs more b is first puts now =
    is ∙ ap (puts_then bs) (first ∙ ap (λ x. more_stmts x next) puts) ∙ sym (then_one bs b next) ∙ ap (λ l. puts_then l next) (sym now)

pub bytes_grow : (bs more : List ℕ) (b : ℕ) → AreBytes bs → b < 256 → more ≡ bs ++ b ∷ [] → AreBytes more
bytes_grow bs more b all small now = subst AreBytes (sym now) (All-push (λ c. c < 256) bs b all small)

-- a statement that puts no byte isn't among those of a body of puts
no_put : (bs ds : List ℕ) (s : StmtTree) (next : BodyTree) → ((b : ℕ) → b < 256 → s ≡ put_stmt b → ⊥) → AreBytes ds → puts_then bs (more_stmts s next) ≡ puts_body ds → ⊥
no_put [] [] s next other all is = cc
no_put [] (d ∷ ds) s next other all is = other d (All-head (λ c. c < 256) d ds all) (let e : s ≡ put_stmt d = cc in e)
no_put (b ∷ bs) [] s next other all is = cc
no_put (b ∷ bs) (d ∷ ds) s next other all is =
    let rest : puts_then bs (more_stmts s next) ≡ puts_body ds = cc in
    no_put bs ds s next other (All-tail (λ c. c < 256) d ds all) rest

pub no_bytes : (body rest next : BodyTree) (s : StmtTree) (bs : List ℕ) → body ≡ puts_then bs rest → rest ≡ more_stmts s next → ((b : ℕ) → b < 256 → s ≡ put_stmt b → ⊥)
    → (ds : List ℕ) → AreBytes ds → body ≡ puts_body ds → ⊥
no_bytes body rest next s bs is first other ds all puts = no_put bs ds s next other all (ap (puts_then bs) (sym first) ∙ sym is ∙ puts)

-- whether a name is that of the item `main`
pub main_tested : (m name rest : List ℕ) (r : Bool) → name ≡ m ++ rest → r ≡ bytes_eq rest (47 ∷ codes "main") → IsTrue r ↔ (name ≡ full_name m (codes "main"))
main_tested m name rest r named tested =
    let main : List ℕ = 47 ∷ codes "main" in (
      λ yes. named ∙ ap (λ l. m ++ l) ((bytes_eq-Decides rest main).0 (subst IsTrue tested yes)),
      λ is. subst IsTrue (sym tested) ((bytes_eq-Decides rest main).1 (append_cancel_left m rest main (sym named ∙ is))),
    )

-- a module with another unit has no such `main`
pub not_main : (p : ProgramModule) (m : List ℕ) (u : ProgramUnit) (r : Bool) → p ≡ lone_module m u → (IsTrue r ↔ (u ≡ main_unit m u.body)) → r ≡ false → (body : BodyTree) → p ≡ lone_module m (main_unit m body) → ⊥
not_main p m u r one tested fails body is =
    let units : u ∷ [] ≡ main_unit m body ∷ [] = ap (λ (q : ProgramModule). q.units) (sym one ∙ is) in
    let same : u ≡ main_unit m body = cc in
    let there : r ≡ true = tested.1 (same ∙ ap (main_unit m) (ap (λ (v : ProgramUnit). v.body) (sym same))) in
    let both : false ≡ true = sym fails ∙ there in
    cc

-- the module of a program that puts bytes
only_module : (p q : ProgramModule) → p ∷ [] ≡ q ∷ [] → p ≡ q
only_module p q e = cc

-- a module without such a `main` puts no bytes
pub no_main : (p : ProgramModule) → ((body : BodyTree) → p ≡ lone_module p.name (main_unit p.name body) → ⊥) → IsPuts (p ∷ []) → ⊥
no_main p other (m, bytes, puts) =
    let same : p ≡ puts_module m bytes = only_module p (puts_module m bytes) puts.is in
    let name : p.name ≡ m = ap (λ (q : ProgramModule). q.name) same in
    other (puts_body bytes) (same ∙ ap (λ n. lone_module n (main_unit n (puts_body bytes))) (sym name))

one_unit : (u v : ProgramUnit) → u ∷ [] ≡ v ∷ [] → u ≡ v
one_unit u v e = cc

-- the statements of `main` are those that put the bytes
same_body : (p : ProgramModule) (m : List ℕ) (body other : BodyTree) → p ≡ lone_module p.name (main_unit p.name body) → p ≡ lone_module m (main_unit m other) → body ≡ other
same_body p m body other is put =
    let units : main_unit p.name body ∷ [] ≡ main_unit m other ∷ [] = sym (ap (λ (q : ProgramModule). q.units) is) ∙ ap (λ (q : ProgramModule). q.units) put in
    ap (λ (u : ProgramUnit). u.body) (one_unit (main_unit p.name body) (main_unit m other) units)

pub no_puts : (p : ProgramModule) (body : BodyTree) → p ≡ lone_module p.name (main_unit p.name body) → ((bs : List ℕ) → AreBytes bs → body ≡ puts_body bs → ⊥) → IsPuts (p ∷ []) → ⊥
no_puts p body is other (m, bytes, puts) = other bytes puts.are_bytes (same_body p m body (puts_body bytes) is (only_module p (puts_module m bytes) puts.is))

same_bytes : (bs ds : List ℕ) → puts_body bs ≡ puts_body ds → length bs ≡ length ds
same_bytes [] [] e = refl
same_bytes [] (d ∷ ds) e = absurd cc
same_bytes (b ∷ bs) [] e = absurd cc
same_bytes (b ∷ bs) (d ∷ ds) e = let rest : puts_body bs ≡ puts_body ds = cc in ap suc (same_bytes bs ds rest)

pub too_many : (p : ProgramModule) (body : BodyTree) (bs : List ℕ) → p ≡ lone_module p.name (main_unit p.name body) → body ≡ puts_body bs → 4999 < length bs → IsPuts (p ∷ []) → ⊥
too_many p body bs is put many (m, bytes, puts) =
    let same : body ≡ puts_body bytes = same_body p m body (puts_body bytes) is (only_module p (puts_module m bytes) puts.is) in
    omega (arith, many, puts.few, same_bytes bs bytes (sym put ∙ same))
