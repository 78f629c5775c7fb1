-- What is known of classes that reach themselves.
use Rattle.std.specs.Prelude.{◌≡◌, ℕ, zero, suc, Bool, true, false, ◌||◌, ◌⊎◌, List, Option, Some, None}
use Rattle.th_type.specs.Lists.{is_in}
use Rattle.th_hier.specs.Naming.{has}
use Rattle.th_module_rules.specs.Inheriting.{ClassRow, row_at, next_class, classes_up, reaches_itself}

-- the class m is k steps above the class n
abbrev pub IsUp : List ClassRow → ℕ → ℕ → ℕ → Type 0
IsUp rows zero n m = n ≡ m
IsUp rows (suc k) n m = (x : ℕ) × (next_class (row_at rows n) ≡ Some x) × IsUp rows k x m

-- none of the classes reaches itself
abbrev pub AreFree : List ClassRow → List ℕ → Type 0
AreFree rows free = (n : ℕ) → has free n ≡ true → reaches_itself rows n ≡ false

-- each of the classes reaches itself, and what it inherits is among them
pub record AreLooped (rows : List ClassRow) (looped : List ℕ) : Type 0 where
  pub all : (n : ℕ) → has looped n ≡ true → reaches_itself rows n ≡ true
  pub closed : (n m : ℕ) → has looped n ≡ true → next_class (row_at rows n) ≡ Some m → has looped m ≡ true

-- whether there is no next class, or one of which it is known whether it reaches itself
abbrev pub is_free_by : List ℕ → List ℕ → Option ℕ → Bool
is_free_by free looped None = true
is_free_by free looped (Some n) = has free n || has looped n

-- the classes up to `at`, from `full` on, are noted as such that reach themselves; at most j steps above `at` stands `full` again
pub record IsNoting (rows : List ClassRow) (full at j : ℕ) (looped : List ℕ) : Type 0 where
  pub all : (n : ℕ) → has looped n ≡ true → reaches_itself rows n ≡ true
  pub itself : reaches_itself rows at ≡ true
  pub closed : (n m : ℕ) → has looped n ≡ true → next_class (row_at rows n) ≡ Some m → (has looped m ≡ true) ⊎ (m ≡ at)
  pub begun : (at ≡ full) ⊎ (has looped full ≡ true)
  pub left : is_in full (classes_up j rows at) ≡ true
