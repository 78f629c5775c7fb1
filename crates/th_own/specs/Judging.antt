-- The failures in the signatures of a class's methods and of its initializer.
use Rattle.std.specs.Prelude.{ℕ, List, [], ◌++◌, None, map}
use Rattle.th_tree.specs.Trees.{ClassSyn}
use Rattle.th_type.specs.declared.place.Failure.{Failure}
use Rattle.th_hier.specs.Naming.{Items, Visible}
use Rattle.th_hier.specs.Spots.{repeats, sig_spots}
use Rattle.th_hier.specs.Heads.{head_fails}
use Rattle.th_hier.specs.Texts.{sigs_fail}

-- methods have different names, and in their signatures and that of the initializer no rule on names fails
abbrev pub class_signatures_fail : Items → Visible → ℕ → ClassSyn → List Failure
class_signatures_fail items v text c =
    repeats 3 [] (sig_spots text (map (λ m. m.sig) c.methods))
    ++ (sigs_fail items v text (map (λ m. m.sig) c.methods) ++ head_fails items v text c.init.head.formals None c.init.head.signals)
