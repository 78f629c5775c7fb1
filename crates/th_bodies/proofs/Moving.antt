-- The program of trees that are passed in parts.
use Rattle.std.proofs.Common.{◌≡◌, ℕ, List, map, ap, ◌∙◌}
use Rattle.th_tree.specs.declared.decl.Interface.{Interface}
use Rattle.th_tree.specs.declared.decl.Module.{Module}
use Rattle.th_tree.specs.DeclView.{interface_of, module_of}
use Rattle.th_program.specs.Programs.{program}

pub program_moved : (table : List (List ℕ)) (is is2 : List ℕ) (fs fs2 : List Interface) (ns ns2 : List ℕ) (ms ms2 : List Module) → is2 ≡ is → fs2 ≡ fs → ns2 ≡ ns → ms2 ≡ ms
    → program table is2 (map interface_of fs2) ns2 (map module_of ms2) ≡ program table is (map interface_of fs) ns (map module_of ms)
program_moved table is is2 fs fs2 ns ns2 ms ms2 a b c d =
    ap (λ (xs : List ℕ). program table xs (map interface_of fs2) ns2 (map module_of ms2)) a
    ∙ ap (λ (xs : List Interface). program table is (map interface_of xs) ns2 (map module_of ms2)) b
    ∙ ap (λ (xs : List ℕ). program table is (map interface_of fs) xs (map module_of ms2)) c
    ∙ ap (λ (xs : List Module). program table is (map interface_of fs) ns (map module_of xs)) d
