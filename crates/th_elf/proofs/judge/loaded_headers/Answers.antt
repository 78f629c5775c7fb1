use Rattle.std.proofs.Common.{◌+◌, ◌-◌, ◌*◌, ◌++◌, sym, ◌∙◌, ap}
use Rattle.std.specs.Prelude.{filter}
use Rattle.th_elf.specs.Loadable.{is_loaded, headers_from, loaded_headers}
use Rattle.th_elf.proofs.Headers.{next_kept, next_passed}
use Rattle.th_elf.proofs.judge.loaded_headers.Goals as goal
use Rattle.th_elf.proofs.judge.loaded_headers.Goals.{then-is_loaded+in_ok-push, else-is_loaded}

pub loop-i-preserved : goal.loop-i-preserved
loop-i-preserved c =
    let rest = headers_from c.args.file.now (c.half_of-count.result - (c.loop-i.i + 1)) (c.word_of-first.result + 32 * (c.loop-i.i + 1)) in
    elim c.if-is_loaded.branch [
      | then-is_loaded+in_ok-push w ↦
          ap (λ v. v.items ++ filter is_loaded rest) w.headers-is
          ∙ ap (λ l. l ++ filter is_loaded rest) w.in_ok-push.ensures.items
          ∙ next_kept c.args.file.now c.half_of-count.result c.word_of-first.result c.loop-i.i c.loop-i.headers.items (loaded_headers c.args.file.now) c.header_at-header.result
          c.loop-i-test.true c.header_at-header.ensures (sym c.is_loaded.ensures ∙ w.if-is_loaded.true) c.loop-i.invariant
      | else-is_loaded w ↦
          ap (λ v. v.items ++ filter is_loaded rest) w.headers-is
          ∙ next_passed c.args.file.now c.half_of-count.result c.word_of-first.result c.loop-i.i c.loop-i.headers.items (loaded_headers c.args.file.now) c.header_at-header.result
          c.loop-i-test.true c.header_at-header.ensures (sym c.is_loaded.ensures ∙ w.if-is_loaded.false) c.loop-i.invariant
    ]
