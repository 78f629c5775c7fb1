-- Loops that are left, counted.
use Rattle.std.proofs.Common.{◌≡◌, refl, ap, ◌∙◌, ℕ, suc, ◌+◌, [], arith}
use Rattle.th_meaning.specs.Meaning.{Leave, by_leave, Frame, State, Gives, Cut as IsCut, yielded, again_in}
use Rattle.th_control.specs.declared.control.How.{How}
use Rattle.th_control.specs.declared.control.How.TheVariants.{Cut}
use Rattle.th_control.specs.declared.control.Leave.{Leave as CodeLeave}
use Rattle.th_control.specs.Config.{leave_within, leave_of, how_of}

-- one loop more
pub cut_more : (n m : ℕ) (l : Leave) → m ≡ n + 1 → by_leave (leave_within n l) ≡ leave_within m l
cut_more n m l e = let k : m ≡ suc n = omega arith in rw k refl

-- a yield whose loop's body left further loops
pub yields_cut : (how : How) (l : CodeLeave) (n m : ℕ) → how ≡ Cut l n → m ≡ n + 1 → (frame : Frame) (st : State)
    → yielded (record { frame = frame; homes = []; world = st.world }) (Gives (how_of how) st) ≡ Gives (how_of (Cut l m)) (again_in (record { frame = frame; homes = []; world = st.world }) st)
yields_cut how l n m h e frame st =
    ap (λ x. yielded (record { frame = frame; homes = []; world = st.world }) (Gives (how_of x) st)) h
    ∙ ap (λ x. Gives (IsCut x) (again_in (record { frame = frame; homes = []; world = st.world }) st)) (cut_more n m (leave_of l) e)
