use Rattle.std.proofs.Common.{sym, subst, take, ◌∙◌, ◌++◌, ◌∷◌, []}
use Rattle.th_type.specs.declared.methods.Methods.{Methods}
use Rattle.th_type.specs.Declarations.{declared_types, named_decl}
use Rattle.th_type.specs.MethodTables.{Filling}
use Rattle.th_type.specs.Tables.{defs_of, up_of}
use Rattle.th_type.proofs.Members.{at_in}
use Rattle.th_type.proofs.Judging.{take_next}
use Rattle.th_type.proofs.Filling.{filling_more, filling_skip}
use Rattle.th_type.proofs.methods.fill.Goals as goal
use Rattle.th_type.proofs.methods.fill.Goals.{then-rank+in_ok-fill_one, else-rank}

pub loop-k-preserved : goal.loop-k-preserved
loop-k-preserved c =
    let ds = defs_of c.args.defs.now in
    let up = up_of c.args.ancestors.now in
    let d = named_decl c.at-name.result.0 c.at-name.result.1.now in
    subst (λ ps. Filling (declared_types ds) up c.if-rank.table.map.entries c.args.rank ps) (sym (take_next ds c.loop-k.k d c.at-name.ensures))
    (elim c.if-rank.branch [
      | then-rank+in_ok-fill_one w ↦ subst (λ (t : Methods). Filling (declared_types ds) up t.map.entries c.args.rank (take c.loop-k.k ds ++ d ∷ [])) (sym w.table-is)
          (filling_more ds c.requires.formed up c.requires.ascended c.loop-k.table.map.entries w.fill_one.new.table.map.entries (take c.loop-k.k ds) c.args.rank d c.loop-k.invariant (at_in d ds c.loop-k.k c.at-name.ensures) (sym c.rank.ensures ∙ w.if-rank.true) w.in_ok-fill_one.ensures)
      | else-rank w ↦ subst (λ (t : Methods). Filling (declared_types ds) up t.map.entries c.args.rank (take c.loop-k.k ds ++ d ∷ [])) (sym w.table-is)
          (filling_skip ds c.requires.formed up c.requires.ascended c.loop-k.table.map.entries (take c.loop-k.k ds) c.args.rank d c.loop-k.invariant (λ e. w.if-rank.false (c.rank.ensures ∙ e)))
    ])
