use Rattle.std.proofs.Common.{sym}
use Rattle.th_head_texts.proofs.Heads.{spelled_last, spelled_more}
use Rattle.th_head_texts.proofs.head_text.spelled_from.Goals as goal

pub returns-then-is_semicolon : goal.returns-then-is_semicolon
returns-then-is_semicolon c =
    spelled_last c.args.tokens.now.text c.args.tokens.now.list c.loop-k.k c.token_at-token.result c.token_at-token.ensures c.loop-k.text.items
    c.append_token.new.text.items _ c.loop-k.begun c.slice.result.now (c.slice.ensures _ c.token_at-token.ensures) c.in_ok-append_token.ensures
    c.loop-k.invariant (sym c.if-is_semicolon.ensures)

pub loop-k-preserved : goal.loop-k-preserved
loop-k-preserved c =
    spelled_more c.args.tokens.now.text c.args.tokens.now.list c.loop-k.k c.token_at-token.result c.token_at-token.ensures c.loop-k.text.items
    c.append_token.new.text.items _ c.loop-k.begun c.slice.result.now (c.slice.ensures _ c.token_at-token.ensures) c.in_ok-append_token.ensures
    c.loop-k.invariant (sym c.if-is_semicolon.ensures)
