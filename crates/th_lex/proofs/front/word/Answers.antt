use Rattle.std.proofs.Common.{◌≤◌, length, take, drop, Option, sym, subst}
use Rattle.th_tree.specs.declared.tokens.Reserved.{Reserved}
use Rattle.th_tree.specs.Tokens.{word_kind}
use Rattle.th_tree.specs.Cut.{Longest}
use Rattle.th_lex.proofs.Right.{word_stands}
use Rattle.th_lex.proofs.front.word.Goals as goal

pub returns-in-Some : goal.returns-in-Some
returns-in-Some c =
    let w = word_stands c.args.text.now _ c.requires.some c.requires.letter c.inner_len-len.ensures in
    subst (λ (o : Option Reserved). (c.inner_len-len.result ≤ length c.args.text.now) × Longest c.args.text.now (take c.inner_len-len.result c.args.text.now) (drop c.inner_len-len.result c.args.text.now) (word_kind o)) (sym c.in-Some.ensures) w

pub returns-in-None : goal.returns-in-None
returns-in-None c =
    let w = word_stands c.args.text.now _ c.requires.some c.requires.letter c.inner_len-len.ensures in
    subst (λ (o : Option Reserved). (c.inner_len-len.result ≤ length c.args.text.now) × Longest c.args.text.now (take c.inner_len-len.result c.args.text.now) (drop c.inner_len-len.result c.args.text.now) (word_kind o)) (sym c.in-None.ensures) w
