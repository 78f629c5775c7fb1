-- What the code looks up of declared types.
use Rattle.std.specs.Prelude.{ℕ, List, map}
use Rattle.th_type.specs.declared.rows.Row.{Row}
use Rattle.th_type.specs.Types.{ty_of}
use Rattle.th_type.specs.Signatures.{sig_of}
use Rattle.th_type.specs.Declarations.{DeclaredType}

-- a declared type under its number
abbrev pub row_of : ℕ × Row → DeclaredType
row_of e = record { name = e.0; params = e.1.params; supertypes = map ty_of e.1.supertypes.items; written = map sig_of e.1.written.items }

-- declared types under their numbers
abbrev pub rows_of : List (ℕ × Row) → List DeclaredType
rows_of es = map row_of es
