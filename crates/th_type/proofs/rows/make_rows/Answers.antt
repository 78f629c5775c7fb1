use Rattle.th_type.specs.Declarations.{named_decl}
use Rattle.th_type.specs.Tables.{defs_of}
use Rattle.th_type.proofs.RowLists.{row_absent, rows_more}
use Rattle.th_type.proofs.rows.make_rows.Goals as goal

pub put-requires : goal.put-requires
put-requires c = row_absent (defs_of c.args.defs.now) c.loop-k.k (named_decl c.at-name.result.0 c.at-name.result.1.now) c.loop-k.rows.entries c.requires c.at-name.ensures c.loop-k.invariant

pub loop-k-preserved : goal.loop-k-preserved
loop-k-preserved c = rows_more (defs_of c.args.defs.now) c.loop-k.k (named_decl c.at-name.result.0 c.at-name.result.1.now) c.loop-k.rows.entries c.put.new.rows.entries (c.at-name.result.0, c.in_ok-row.row) c.at-name.ensures c.loop-k.invariant c.in_ok-put.ensures c.in_ok-row.ensures
