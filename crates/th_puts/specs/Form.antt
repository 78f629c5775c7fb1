-- Programs that put bytes: one module that declares nothing but its routine `main`, whose statements put given bytes, one after another.
use Rattle.std.specs.Prelude.{◌≡◌, ℕ, ◌<◌, ◌≤◌, false, List, [], ◌∷◌, length, All, None, codes}
use Rattle.th_meaning.specs.Trees.{Signature, ExprTree, number_expr, StmtTree, put_byte_stmt, BodyTree, no_stmt, more_stmts}
use Rattle.th_meaning.specs.Program.{of_routine, ProgramUnit, ProgramModule, Program, full_name}

-- each number of a list is a byte
abbrev pub AreBytes : List ℕ → Type 0
AreBytes = All (λ b. b < 256)

-- the statement that puts a byte
abbrev pub put_stmt : ℕ → StmtTree
put_stmt b = put_byte_stmt (number_expr b)

-- the statements that put these bytes in order
abbrev pub puts_body : List ℕ → BodyTree
puts_body [] = no_stmt
puts_body (b ∷ bs) = more_stmts (put_stmt b) (puts_body bs)

-- the signature of a routine that takes nothing, gives nothing and signals nothing
abbrev pub plain_signature : Signature
plain_signature = record { iterator = false; formals = []; gives = None; signals = [] }

-- the routine `main` of the module m with these statements
abbrev pub main_unit : (m : List ℕ) → BodyTree → ProgramUnit
main_unit m body = record {
  name = full_name m (codes "main");
  sort = of_routine;
  params = 0;
  clauses = [];
  sig = plain_signature;
  body = body;
}

-- the module m that declares nothing but one unit
abbrev pub lone_module : (m : List ℕ) → ProgramUnit → ProgramModule
lone_module m unit = record { name = m; interfaces = []; classes = []; units = unit ∷ [] }

-- the module m that declares nothing but the routine `main`, which puts these bytes
abbrev pub puts_module : (m bytes : List ℕ) → ProgramModule
puts_module m bytes = lone_module m (main_unit m (puts_body bytes))

-- the program of that module alone
abbrev pub puts_program : (m bytes : List ℕ) → Program
puts_program m bytes = puts_module m bytes ∷ []

-- the program is the module m alone, which puts these bytes, at most 4,999
pub record PutsBytes (p : Program) (m bytes : List ℕ) : Type 0 where
  pub is : p ≡ puts_program m bytes
  pub are_bytes : AreBytes bytes
  pub few : length bytes ≤ 4999

-- the program puts bytes
abbrev pub IsPuts : Program → Type 0
IsPuts p = (m : List ℕ) × (bytes : List ℕ) × PutsBytes p m bytes
