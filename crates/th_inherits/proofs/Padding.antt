-- Lists of heights that are made longer.
use Rattle.std.proofs.Common.{◌≡◌, ℕ, zero, suc, ◌<◌, ◌≤◌, max, List, [], ◌∷◌, ◌++◌, length, get_or, refl, ap, arith}
use Rattle.std.proofs.Math.ListN.{set}
use Rattle.th_inherits.specs.Heights.{padded, lifted}

-- a further zero changes nothing where the place is not there
pub pad_step : (k : ℕ) (hs : List ℕ) → length hs ≤ k → padded k (hs ++ 0 ∷ []) ≡ padded k hs
pad_step zero [] h = refl
pad_step zero (x ∷ hs) h = absurd (omega (arith, h))
pad_step (suc k) [] h = refl
pad_step (suc k) (x ∷ hs) h = ap (λ ys. x ∷ ys) (pad_step k hs (omega (arith, h)))

-- nothing is put where the place is there
pub pad_done : (k : ℕ) (hs : List ℕ) → k < length hs → padded k hs ≡ hs
pad_done zero [] h = absurd (omega (arith, h))
pad_done zero (x ∷ hs) h = refl
pad_done (suc k) [] h = absurd (omega (arith, h))
pad_done (suc k) (x ∷ hs) h = ap (λ ys. x ∷ ys) (pad_done k hs (omega (arith, h)))

pub pad_long : (k : ℕ) (hs : List ℕ) → k < length (padded k hs)
pad_long zero [] = omega arith
pad_long zero (x ∷ hs) = omega arith
pad_long (suc k) [] = let h = pad_long k [] in omega (arith, h)
pad_long (suc k) (x ∷ hs) = let h = pad_long k hs in omega (arith, h)

max_less : (x h : ℕ) → x < h → h ≡ max x h
max_less x h e = omega (arith, e)

max_more : (x h : ℕ) → h ≤ x → x ≡ max x h
max_more x h e = omega (arith, e)

-- the height is set where what stands there is lower
pub lift_low : (k h x d : ℕ) (hs : List ℕ) → x ≡ get_or (padded k hs) k d → x < h → set (padded k hs) k h ≡ lifted k h hs
lift_low zero h x d [] s e = refl
lift_low zero h x d (y ∷ hs) s e = ap (λ z. z ∷ hs) (max_less y h (omega (arith, s, e)))
lift_low (suc k) h x d [] s e = ap (λ ys. 0 ∷ ys) (lift_low k h x d [] s e)
lift_low (suc k) h x d (y ∷ hs) s e = ap (λ ys. y ∷ ys) (lift_low k h x d hs s e)

-- nothing changes where it is as high
pub lift_high : (k h x d : ℕ) (hs : List ℕ) → x ≡ get_or (padded k hs) k d → h ≤ x → padded k hs ≡ lifted k h hs
lift_high zero h x d [] s e = let z : 0 ≡ h = omega (arith, s, e) in ap (λ y. y ∷ []) z
lift_high zero h x d (y ∷ hs) s e = ap (λ z. z ∷ hs) (max_more y h (omega (arith, s, e)))
lift_high (suc k) h x d [] s e = ap (λ ys. 0 ∷ ys) (lift_high k h x d [] s e)
lift_high (suc k) h x d (y ∷ hs) s e = ap (λ ys. y ∷ ys) (lift_high k h x d hs s e)
