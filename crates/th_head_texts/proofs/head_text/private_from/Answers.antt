use Rattle.std.proofs.Common.{◌++◌, Bool, List, ℕ, is_some, sym, ap, ◌∙◌}
use Rattle.std.specs.Prelude.{◌&&◌}
use Rattle.th_lex.specs.Canonical.{written}
use Rattle.th_head_texts.specs.Heads.{is_bare, words_of}
use Rattle.th_head_texts.specs.Spaced.{read_by, spaced}
use Rattle.th_head_texts.proofs.Heads.{private_last, private_more}
use Rattle.th_head_texts.proofs.head_text.private_from.Goals as goal

pub returns-then-is_semicolon-clause-text : goal.returns-then-is_semicolon-clause-text
returns-then-is_semicolon-clause-text c =
    private_last (read_by c.args.names.now c.args.reading) c.args.tokens.now.text c.args.tokens.now.list c.loop-k.k c.token_at-token.result
    c.token_at-token.ensures c.loop-k.text.items c.append_words.new.text.items _ c.slice.result.now c.loop-k.after_for c.loop-k.before
    c.may_mean_item-bare.result (c.slice.ensures _ c.token_at-token.ensures)
    (c.may_mean_item-bare.ensures ∙ ap (λ q. c.loop-k.after_for && is_bare c.loop-k.before c.token_at-token.result.kind q) c.kind_at.ensures)
    (c.in_ok-append_words.ensures.text
    ∙ ap (λ (b : Bool). c.loop-k.text.items ++ spaced b (words_of (read_by c.loop-k.names c.args.reading) c.may_mean_item-bare.result c.slice.result.now (written c.token_at-token.result.kind c.slice.result.now))) c.is_some.ensures
    ∙ ap (λ (ns : List (List ℕ)). c.loop-k.text.items ++ spaced (is_some c.loop-k.before) (words_of (read_by ns c.args.reading) c.may_mean_item-bare.result c.slice.result.now (written c.token_at-token.result.kind c.slice.result.now))) c.loop-k.invariant.names)
    c.loop-k.invariant.text (sym c.if-is_semicolon.ensures)

pub loop-k-preserved : goal.loop-k-preserved
loop-k-preserved c = record {
  names = c.in_ok-append_words.ensures.names ∙ c.loop-k.invariant.names;
  text =
      private_more (read_by c.args.names.now c.args.reading) c.args.tokens.now.text c.args.tokens.now.list c.loop-k.k c.token_at-token.result
      c.token_at-token.ensures c.loop-k.text.items c.append_words.new.text.items _ c.slice.result.now c.loop-k.after_for c.loop-k.before
      c.may_mean_item-bare.result (c.slice.ensures _ c.token_at-token.ensures)
      (c.may_mean_item-bare.ensures ∙ ap (λ q. c.loop-k.after_for && is_bare c.loop-k.before c.token_at-token.result.kind q) c.kind_at.ensures)
      (c.in_ok-append_words.ensures.text
      ∙ ap (λ (b : Bool). c.loop-k.text.items ++ spaced b (words_of (read_by c.loop-k.names c.args.reading) c.may_mean_item-bare.result c.slice.result.now (written c.token_at-token.result.kind c.slice.result.now))) c.is_some.ensures
      ∙ ap (λ (ns : List (List ℕ)). c.loop-k.text.items ++ spaced (is_some c.loop-k.before) (words_of (read_by ns c.args.reading) c.may_mean_item-bare.result c.slice.result.now (written c.token_at-token.result.kind c.slice.result.now))) c.loop-k.invariant.names)
      c.loop-k.invariant.text c.is_for_or-after_for.result c.is_for_or-after_for.ensures (sym c.if-is_semicolon.ensures);
}
