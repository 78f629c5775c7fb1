use Rattle.std.proofs.Common.{◌≡◌, map, string_bytes, subst, sym, ◌∙◌}
use Rattle.th_files.specs.Reading.{IsReadError, MayBeUnread}
use Rattle.th_files.proofs.There.{not_read, there_goes}
use Rattle.th_files.proofs.files.read_files.Goals as goal

pub returns-in-Err-clause-unread : goal.returns-in-Err-clause-unread
returns-in-Err-clause-unread g c =
    let unread = subst (λ x. MayBeUnread c.in-Err.error c.args.limit (g.F.Files.map c.loop-k.files) x (g.F.Files.faults c.loop-k.files) (g.F.Files.faults c.read_one.new.files)) c.as_str.ensures.value c.in-Err.ensures.unread in
    subst (λ e. IsReadError e c.args.limit (g.F.Files.map c.args.files.now) (map string_bytes c.args.names.now) (g.F.Files.faults c.args.files.now) (g.F.Files.faults c.read_one.new.files)) (sym c.error_at.ensures)
    (not_read string_bytes c.args.limit (g.F.Files.map c.args.files.now) (g.F.Files.map c.loop-k.files) c.args.names.now (map (λ t. t.items) c.loop-k.done.items) c.loop-k.k c.index-names-k.result c.in-Err.error
    (g.F.Files.faults c.args.files.now) (g.F.Files.faults c.loop-k.files) (g.F.Files.faults c.read_one.new.files) c.loop-k-test.true c.index-names-k.is c.loop-k.invariant.0 c.loop-k.invariant.2 c.loop-k.invariant.1 unread)

pub loop-k-preserved : goal.loop-k-preserved
loop-k-preserved g c = (
  there_goes string_bytes (λ t. t.items) c.args.limit (g.F.Files.map c.args.files.now) (g.F.Files.map c.loop-k.files) c.args.names.now c.loop-k.done.items c.keep.new.done.items c.loop-k.k c.index-names-k.result c.as_str.result.now c.in-Ok.bytes
      c.loop-k-test.true c.index-names-k.is c.as_str.ensures.value c.loop-k.invariant.0 c.loop-k.invariant.2 c.in-Ok.ensures.holds c.in-Ok.ensures.within c.in_ok-keep-in-Ok.ensures.kept,
  c.in-Ok.ensures.no_fault ∙ c.loop-k.invariant.1,
  c.read_one.ensures.same_files ∙ c.loop-k.invariant.2,
  c.read_one.ensures.same_written ∙ c.loop-k.invariant.3,
)
