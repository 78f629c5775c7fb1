use Rattle.std.proofs.Common.{◌∙◌, ◌≤◌, ◌<◌, ℕ, List, Some, length, ap, sym, arith, refl}
use Rattle.std.proofs.lemmas.Option.{slice_get_read}
use Rattle.th_type.specs.Declarations.{supers_of}
use Rattle.th_overrides.specs.Reached.{with_heads}
use Rattle.th_overrides.proofs.Reaching.{reaching_all, reaching_more}
use Rattle.th_overrides.proofs.reached.reached.Goals as goal

pub returns-then-k-len : goal.returns-then-k-len
returns-then-k-len c =
    let size = c.len.ensures in
    let most = c.if-k-len.true in
    let h : length c.loop-k.names.items ≤ c.loop-k.k = omega (arith, size, most) in
    reaching_all c.args.hierarchy.now.types c.args.name c.loop-k.k c.loop-k.names.items c.loop-k.invariant.0 h

pub loop-k-preserved : goal.loop-k-preserved
loop-k-preserved c =
    let size = c.len.ensures in
    let least = c.if-k-len.false in
    let h : c.loop-k.k < length c.loop-k.names.items = omega (arith, size, least) in
    let D = c.args.hierarchy.now.types in
    let b = c.index.result.now in (
      reaching_more D c.args.name c.loop-k.k b c.loop-k.names.items c.add_heads.new.names.items c.loop-k.invariant.0
          (slice_get_read c.loop-k.names.items (length c.loop-k.names.items) c.loop-k.k b refl h c.index.ensures)
          (ap (λ (ns : List ℕ). with_heads ns (supers_of D b)) c.loop-k.invariant.1 ∙ ap (with_heads c.loop-k.seen) (sym c.supertypes_of-supertypes.ensures) ∙ c.in_ok-add_heads.ensures.seen ∙ ap Some (sym c.in_ok-add_heads.ensures.names)),
      c.in_ok-add_heads.ensures.names,
    )
