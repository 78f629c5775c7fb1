use Rattle.std.proofs.Common.{◌≡◌, refl, sym, ◌∙◌, ap, arith}
use Rattle.std.proofs.lemmas.Str.Pattern.{split_parts}
use Rattle.std.specs.Prelude.{Some, None}
use Rattle.th_words.specs.Reading.{option_of, before_sign}
use Rattle.th_words.proofs.Names.{split_word, no_sign}
use Rattle.th_words.proofs.options.Reading.with_option.Goals as goal

pub returns-in_err-name : goal.returns-in_err-name
returns-in_err-name c =
    let parts = split_parts 61 c.args.word.now (Some (c.in-Some.name, c.in-Some.value)) c.in-Some.ensures.cases (omega arith) in
    let split = split_word c.args.word.now c.in-Some.name.now c.in-Some.value.now parts.0 parts.1 in
    let name : option_of (before_sign c.args.word.now) ≡ None = ap option_of split.0 ∙ (sym c.named.ensures ∙ c.in_err-name.was) in
    rw name c.from_residual.ensures

pub returns-in-Some : goal.returns-in-Some
returns-in-Some c =
    let parts = split_parts 61 c.args.word.now (Some (c.in-Some.name, c.in-Some.value)) c.in-Some.ensures.cases (omega arith) in
    let split = split_word c.args.word.now c.in-Some.name.now c.in-Some.value.now parts.0 parts.1 in
    let name : option_of (before_sign c.args.word.now) ≡ Some c.in_ok-name.name = ap option_of split.0 ∙ (sym c.named.ensures ∙ c.in_ok-name.was) in
    rw (name, split.1) c.with_value.ensures

pub returns-in_err-name-2 : goal.returns-in_err-name-2
returns-in_err-name-2 c =
    let none = split_parts 61 c.args.word.now None c.in_default.ensures.cases (omega arith) in
    let split = no_sign c.args.word.now none in
    let name : option_of (before_sign c.args.word.now) ≡ None = ap option_of split.0 ∙ (sym c.named-2.ensures ∙ c.in_err-name-2.was) in
    rw name c.from_residual-in_err-name-2.ensures

pub returns : goal.returns
returns c =
    let none = split_parts 61 c.args.word.now None c.in_default.ensures.cases (omega arith) in
    let split = no_sign c.args.word.now none in
    let name : option_of (before_sign c.args.word.now) ≡ Some c.in_ok-name-2.name = ap option_of split.0 ∙ (sym c.named-2.ensures ∙ c.in_ok-name-2.was) in
    rw (name, split.1) refl
