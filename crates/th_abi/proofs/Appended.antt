-- Lists that grew by one part after another.
use Rattle.std.proofs.Common.{◌≡◌, List, ◌++◌, append_assoc, refl}
use Rattle.th_abi.specs.declared.word.PatternWord.{PatternWord}

-- six parts were appended, one after another
pub six : (l0 l1 l2 l3 l4 l5 l6 p1 p2 p3 p4 p5 p6 : List PatternWord) → l1 ≡ l0 ++ p1 → l2 ≡ l1 ++ p2 → l3 ≡ l2 ++ p3 → l4 ≡ l3 ++ p4 → l5 ≡ l4 ++ p5 → l6 ≡ l5 ++ p6 → l6 ≡ l0 ++ (p1 ++ (p2 ++ (p3 ++ (p4 ++ (p5 ++ p6)))))
six l0 l1 l2 l3 l4 l5 l6 p1 p2 p3 p4 p5 p6 e1 e2 e3 e4 e5 e6 = rw (e6, e5, e4, e3, e2, e1) (simp append_assoc)
