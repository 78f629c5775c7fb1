use Rattle.std.proofs.Common.{◌≡◌, ◌≤◌, ◌+◌, ◌-◌, List, length, drop, sym, ◌∙◌, ap, subst, arith}
use Rattle.std.proofs.lemmas.Bool.{lt-ltb}
use Rattle.th_tree.specs.View.{body_of}
use Rattle.th_tree.specs.Numbered.{lexemes_of}
use Rattle.th_tree.specs.declared.lexeme.Lexeme.{Lexeme}
use Rattle.th_tree.specs.Trees.{BodySyn}
use Rattle.th_tree.specs.Grammar.{BodyAt}
use Rattle.th_tree.specs.Verdict.{FirstWrong, place}
use Rattle.th_parse.specs.Answer.{IsBodyAnswer, BodyFront}
use Rattle.th_parse.proofs.Bodies.{body_front, body_wrong, body_none, left_short, same_length}
use Rattle.th_parse.proofs.body.body_at.Goals as goal

pub returns-in_default-clause-answer : goal.returns-in_default-clause-answer
unfolding IsBodyAnswer
returns-in_default-clause-answer c = tt

pub returns-clause-answer : goal.returns-clause-answer
unfolding IsBodyAnswer
returns-clause-answer c = tt

-- the lexemes that were read from, and how many
pub overflow_sub-result : goal.overflow_sub-result
overflow_sub-result c =
    left_short c.args.room c.len.result c.lexemes.new.names c.args.tokens.now.text c.args.from c.args.tokens.now.list c.in-Ok.found.items c.deref.result.now c.in-Ok-body_tree.rest.now (body_of c.in-Ok-body_tree.body)
    c.in-Ok.ensures.lexemes c.deref.ensures.value (c.len.ensures ∙ c.in-Ok.found.ok.0) c.in-Ok-body_tree.ensures c.len-in-Ok-body_tree.result c.len-in-Ok-body_tree.ensures

pub returns-in-Ok-body_tree-clause-answer : goal.returns-in-Ok-body_tree-clause-answer
unfolding IsBodyAnswer
returns-in-Ok-body_tree-clause-answer c =
    let short = left_short c.args.room c.len.result c.lexemes.new.names c.args.tokens.now.text c.args.from c.args.tokens.now.list c.in-Ok.found.items c.deref.result.now c.in-Ok-body_tree.rest.now (body_of c.in-Ok-body_tree.body)
    c.in-Ok.ensures.lexemes c.deref.ensures.value (c.len.ensures ∙ c.in-Ok.found.ok.0) c.in-Ok-body_tree.ensures c.len-in-Ok-body_tree.result c.len-in-Ok-body_tree.ensures in (
      c.in-Ok-body_tree.rest.now,
      subst (λ ts. BodyFront c.args.room (body_of c.in-Ok-body_tree.body) ts c.in-Ok-body_tree.rest.now) (c.deref.ensures.value ∙ c.in-Ok.ensures.lexemes)
          (body_front c.args.room c.len.result c.deref.result.now c.in-Ok-body_tree.rest.now (body_of c.in-Ok-body_tree.body) (lt-ltb 0 c.args.room c.requires.some) (same_length c.in-Ok.found.items c.deref.result.now c.len.result c.deref.ensures.value (c.len.ensures ∙ c.in-Ok.found.ok.0)) c.in-Ok-body_tree.ensures),
      omega (arith, short, c.len-in-Ok-body_tree.ensures),
    )

pub returns-in-Err-Wrong-clause-answer : goal.returns-in-Err-Wrong-clause-answer
unfolding IsBodyAnswer
returns-in-Err-Wrong-clause-answer c =
    let z = same_length c.in-Ok.found.items c.deref.result.now c.len.result c.deref.ensures.value (c.len.ensures ∙ c.in-Ok.found.ok.0) in
    let ts = c.deref.ensures.value ∙ c.in-Ok.ensures.lexemes in
    let bad = rw c.in-Err-Wrong.field-0-is at c.in-Err-Wrong.ensures in (
      c.in-Err-Wrong.rest.now,
      subst (λ y. FirstWrong (BodyAt c.args.room) y c.in-Err-Wrong.rest.now) ts (body_wrong c.args.room c.len.result c.deref.result.now c.in-Err-Wrong.rest.now z bad),
      c.place_of.ensures ∙ ap (λ y. place (length y) c.in-Err-Wrong.rest.now) c.text.ensures,
      subst (λ y. (b : BodySyn) (other : List Lexeme) → BodyFront c.args.room b y other → ⊥) ts (body_none c.args.room c.len.result c.deref.result.now c.in-Err-Wrong.rest.now z bad),
    )
