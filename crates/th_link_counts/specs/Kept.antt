-- The interfaces of a program, and what they declare.
use Rattle.std.specs.Prelude.{ℕ, List, [], ◌∷◌, flat_map, length, sum_by, if◌then◌else◌}
use Rattle.th_tree.specs.Names.{is_there}
use Rattle.th_meaning.specs.Program.{ProgramInterface, Program}

-- the names, and before them those of the interfaces, the last one first
abbrev pub names_onto : List (List ℕ) → List ProgramInterface → List (List ℕ)
names_onto names [] = names
names_onto names (i ∷ is) = names_onto (i.name ∷ names) is

-- the interfaces that are the first of their name, and whose name is none of these
abbrev pub firsts : List (List ℕ) → List ProgramInterface → List ProgramInterface
firsts names [] = []
firsts names (i ∷ is) = if is_there names i.name then firsts (i.name ∷ names) is else i ∷ firsts (i.name ∷ names) is

-- the interfaces of a program: those that its modules keep, each name once
abbrev pub interfaces_of : Program → List ProgramInterface
interfaces_of p = firsts [] (flat_map (λ m. m.interfaces) p)

-- how many exceptions the interfaces of a program declare
abbrev pub exception_count : Program → ℕ
exception_count p = sum_by (λ i. length i.exceptions) (interfaces_of p)
