use Rattle.std.proofs.Common.{ℕ, List, [], map, ◌∙◌, Bor}
use Rattle.th_texts.proofs.LexLaws.{cut_goes, cut_fails, cut_ends, text_at}
use Rattle.th_texts.proofs.source.lex_all.Goals as goal

pub lex-requires : goal.lex-requires
lex-requires c = c.requires.short c.loop-text.text-index _ (text_at (λ (x : Bor (List ℕ)). x.now) c.args.texts.now c.loop-text.text-index (record { ref_ptr = (0, 0); now = [] }) c.loop-text-test.true)

pub returns-in-Err-clause-refused : goal.returns-in-Err-clause-refused
returns-in-Err-clause-refused c =
    cut_fails (map (λ (x : Bor (List ℕ)). x.now) c.args.texts.now) c.loop-text.text-index c.in_ok-text_number-in-Err.field-0 c.loop-text.done.items _ c.in-Err.error c.error_of.result c.loop-text.invariant
    (text_at (λ (x : Bor (List ℕ)). x.now) c.args.texts.now c.loop-text.text-index (record { ref_ptr = (0, 0); now = [] }) c.loop-text-test.true)
    (c.in_ok-text_number-in-Err.ensures.number ∙ c.len.ensures ∙ c.loop-text.done.ok.0) c.error_of.ensures c.in-Err.ensures.verdict

pub loop-text-preserved : goal.loop-text-preserved
loop-text-preserved c =
    cut_goes (map (λ (x : Bor (List ℕ)). x.now) c.args.texts.now) c.loop-text.text-index c.loop-text.done.items c.keep.new.done.items _ c.in-Ok.tokens c.loop-text.invariant
    (text_at (λ (x : Bor (List ℕ)). x.now) c.args.texts.now c.loop-text.text-index (record { ref_ptr = (0, 0); now = [] }) c.loop-text-test.true)
    c.in-Ok.ensures.text (record { cut = c.in-Ok.ensures.cut; kinds = c.in-Ok.ensures.kinds }) c.in_ok-keep-in-Ok.ensures.kept

pub returns-clause-tokens : goal.returns-clause-tokens
returns-clause-tokens c = cut_ends (λ (x : Bor (List ℕ)). x.now) c.args.texts.now c.loop-text.text-index c.loop-text.done.items c.loop-text.invariant c.loop-text-test.false
