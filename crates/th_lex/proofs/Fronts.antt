-- The longest front of bytes of one class.
use Rattle.std.proofs.Common.{◌≡◌, ℕ, ◌+◌, ◌≤◌, Bool, true, false, if◌then◌else◌, ◌&&◌, List, [], ◌∷◌, ◌++◌, length, take, drop, refl, sym, ap, arith}
use Rattle.std.proofs.Math.Seq.{take-append_seam, drop-append_seam}
use Rattle.std.specs.List.{prefix_len}
use Rattle.th_tree.specs.Tokens.{all, begins}

pub and_left : (a b : Bool) → (a && b) ≡ true → a ≡ true
and_left true b e = refl
and_left false b e = e

pub and_right : (a b : Bool) → (a && b) ≡ true → b ≡ true
and_right true b e = e
and_right false b e = absurd (cc)

-- the longest front whose bytes pass, and what follows it
abbrev pub front : (ℕ → Bool) → List ℕ → List ℕ
front p [] = []
front p (b ∷ bs) = if p b then b ∷ front p bs else []

abbrev pub back : (ℕ → Bool) → List ℕ → List ℕ
back p [] = []
back p (b ∷ bs) = if p b then back p bs else b ∷ bs

pub take_here : (text cs more : List ℕ) (n : ℕ) → text ≡ cs ++ more → n ≡ length cs → cs ≡ take n text
take_here text cs more n s e = rw (s, e) (sym (take-append_seam cs more))

pub drop_here : (text cs more : List ℕ) (n : ℕ) → text ≡ cs ++ more → n ≡ length cs → more ≡ drop n text
drop_here text cs more n s e = rw (s, e) (sym (drop-append_seam cs more))

module _ (p : ℕ → Bool) where
  front_all_if : (b : ℕ) (bs : List ℕ) (v : Bool) → p b ≡ v → all p (front p bs) ≡ true → all p (if v then b ∷ front p bs else []) ≡ true
  front_all_if b bs true e h = rw (e, h) refl
  front_all_if b bs false e h = refl

  pub front_all : (bs : List ℕ) → all p (front p bs) ≡ true
  front_all [] = refl
  front_all (b ∷ bs) = front_all_if b bs (p b) refl (front_all bs)

  split_if : (b : ℕ) (bs : List ℕ) (v : Bool) → bs ≡ front p bs ++ back p bs → b ∷ bs ≡ (if v then b ∷ front p bs else []) ++ (if v then back p bs else b ∷ bs)
  split_if b bs true h = ap (λ l. b ∷ l) h
  split_if b bs false h = refl

  pub front_back : (bs : List ℕ) → bs ≡ front p bs ++ back p bs
  front_back [] = refl
  front_back (b ∷ bs) = split_if b bs (p b) (front_back bs)

  back_if : (b : ℕ) (bs : List ℕ) (v : Bool) → p b ≡ v → begins p (back p bs) ≡ false → begins p (if v then back p bs else b ∷ bs) ≡ false
  back_if b bs true e h = h
  back_if b bs false e h = e

  pub back_ends : (bs : List ℕ) → begins p (back p bs) ≡ false
  back_ends [] = refl
  back_ends (b ∷ bs) = back_if b bs (p b) refl (back_ends bs)

  pub front_max : (ds rest : List ℕ) → all p ds ≡ true → length ds ≤ length (front p (ds ++ rest))
  front_max [] rest h = omega arith
  front_max (d ∷ ds) rest h =
      let i : length ds ≤ length (front p (ds ++ rest)) = front_max ds rest (and_right (p d) (all p ds) h) in
      rw (and_left (p d) (all p ds) h) (omega arith)

  stops : (rest : List ℕ) → begins p rest ≡ false → front p rest ≡ []
  stops [] h = refl
  stops (b ∷ bs) h = rw h refl

  pub front_exact : (ds rest : List ℕ) → all p ds ≡ true → begins p rest ≡ false → front p (ds ++ rest) ≡ ds
  front_exact [] rest h e = stops rest e
  front_exact (d ∷ ds) rest h e = rw (and_left (p d) (all p ds) h) (ap (λ l. d ∷ l) (front_exact ds rest (and_right (p d) (all p ds) h) e))

  back_stops : (rest : List ℕ) → begins p rest ≡ false → back p rest ≡ rest
  back_stops [] h = refl
  back_stops (b ∷ bs) h = rw h refl

  pub back_exact : (ds rest : List ℕ) → all p ds ≡ true → begins p rest ≡ false → back p (ds ++ rest) ≡ rest
  back_exact [] rest h e = back_stops rest e
  back_exact (d ∷ ds) rest h e = rw (and_left (p d) (all p ds) h) (back_exact ds rest (and_right (p d) (all p ds) h) e)

  len_if : (b n : ℕ) (bs : List ℕ) (v : Bool) → n ≡ length (front p bs) → (if v then 1 + n else 0) ≡ length (if v then b ∷ front p bs else [])
  len_if b n bs true h = omega arith
  len_if b n bs false h = refl

  -- std's count is the front's length
  pub prefix_front : (bs : List ℕ) → prefix_len p bs ≡ length (front p bs)
  prefix_front [] = refl
  prefix_front (b ∷ bs) = len_if b (prefix_len p bs) bs (p b) (prefix_front bs)
