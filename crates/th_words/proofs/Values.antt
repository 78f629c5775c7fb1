-- The values that are given to an option, as they are read one after another.
use Rattle.std.proofs.Common.{◌≡◌, ℕ, List, [], ◌∷◌, refl, sym, subst}
use Rattle.std.specs.Prelude.{Option, Some, None, unwrap_or, option_and_then}
use Rattle.th_words.specs.Words.{Says}

-- what an option is set to after further values: there is one at most
abbrev pub set_all : (List ℕ → Option ℕ) → Option ℕ → List (List ℕ) → Option (Option ℕ)
set_all parse old [] = Some old
set_all parse None (value ∷ values) = option_and_then (λ n. set_all parse (Some n) values) (parse value)
set_all parse (Some m) (value ∷ values) = None

-- a value that is read is the first, and says a number
pub record IsSet (parse : List ℕ → Option ℕ) (old : Option ℕ) (value : List ℕ) (values : List (List ℕ)) (new : Option ℕ) : Type 0 where
  pub first : old ≡ None
  pub number : ℕ
  pub is : parse value ≡ Some number
  pub rest : set_all parse (Some number) values ≡ Some new

is_set_by : (parse : List ℕ → Option ℕ) (value : List ℕ) (values : List (List ℕ)) (new : Option ℕ) (got : Option ℕ) → parse value ≡ got → option_and_then (λ n. set_all parse (Some n) values) got ≡ Some new → IsSet parse None value values new
is_set_by parse value values new None is done = cc
is_set_by parse value values new (Some n) is done = record { first = refl; number = n; is = is; rest = done }

pub is_set : (parse : List ℕ → Option ℕ) (old : Option ℕ) (value : List ℕ) (values : List (List ℕ)) (new : Option ℕ) → set_all parse old (value ∷ values) ≡ Some new → IsSet parse old value values new
is_set parse None value values new done = is_set_by parse value values new (parse value) refl done
is_set parse (Some m) value values new done = cc

-- what was read is what the values say
pub says : (parse : List ℕ → Option ℕ) (Rule : List ℕ → ℕ → Type 0) (default : ℕ) → ((word : List ℕ) (n : ℕ) → parse word ≡ Some n → Rule word n) → (values : List (List ℕ)) (new : Option ℕ) → set_all parse None values ≡ Some new → Says Rule default values (unwrap_or new default)
says parse Rule default rule [] None done = refl
says parse Rule default rule [] (Some n) done = cc
says parse Rule default rule (value ∷ []) new done =
    let set = is_set parse None value [] new done in
    let same : Some set.number ≡ new = cc in
    subst (λ (o : Option ℕ). Rule value (unwrap_or o default)) same (rule value set.number set.is)
says parse Rule default rule (value ∷ again ∷ more) new done =
    let set = is_set parse None value (again ∷ more) new done in
    let rest = set.rest in cc

-- what values say is read
pub said : (parse : List ℕ → Option ℕ) (Rule : List ℕ → ℕ → Type 0) (default : ℕ) → ((word : List ℕ) (n : ℕ) → Rule word n → parse word ≡ Some n) → (values : List (List ℕ)) (n : ℕ) → Says Rule default values n → (new : Option ℕ) × (set_all parse None values ≡ Some new) × (unwrap_or new default ≡ n)
said parse Rule default rule [] n is = (None, refl, sym is)
said parse Rule default rule (value ∷ []) n is = (Some n, rw (rule value n is) refl, refl)
said parse Rule default rule (value ∷ again ∷ more) n is = absurd is
