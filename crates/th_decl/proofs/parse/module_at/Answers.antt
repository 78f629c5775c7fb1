use Rattle.std.proofs.Common.{length, refl, ◌∙◌, ap}
use Rattle.std.proofs.lemmas.Bool.{lt-ltb}
use Rattle.th_tree.specs.DeclView.{module_of}
use Rattle.th_tree.specs.Numbered.{lexemes_of}
use Rattle.th_tree.specs.Verdict.{place}
use Rattle.th_decl.proofs.DeclLaws.{law_module}
use Rattle.th_decl.proofs.Whole.{text_done, text_surplus, text_refused}
use Rattle.th_decl.proofs.parse.module_at.Goals as goal

pub returns-then-rest-eq0-clause-answer : goal.returns-then-rest-eq0-clause-answer
returns-then-rest-eq0-clause-answer c =
    text_done (law_module c.args.room (lt-ltb 0 c.args.room c.requires.some)) refl c.len.result c.in-Ok.found.items c.deref.result.now (lexemes_of c.lexemes.new.names c.args.tokens.now.text c.args.tokens.now.list)
    c.in-Ok-module_tree.rest.now (module_of c.in-Ok-module_tree.tree) c.deref.ensures.value c.in-Ok.ensures.lexemes c.in-Ok-module_tree.ensures c.if-rest-eq0.true

pub returns-in-Ok-module_tree-clause-answer : goal.returns-in-Ok-module_tree-clause-answer
returns-in-Ok-module_tree-clause-answer c = (
  c.in-Ok-module_tree.rest.now,
  text_surplus (law_module c.args.room (lt-ltb 0 c.args.room c.requires.some)) refl c.len.result c.in-Ok.found.items c.deref.result.now (lexemes_of c.lexemes.new.names c.args.tokens.now.text c.args.tokens.now.list)
      c.in-Ok-module_tree.rest.now (module_of c.in-Ok-module_tree.tree) c.deref.ensures.value c.in-Ok.ensures.lexemes (c.len.ensures ∙ c.in-Ok.found.ok.0) c.in-Ok-module_tree.ensures c.if-rest-eq0.false,
  c.place_of.ensures ∙ ap (λ y. place (length y) c.in-Ok-module_tree.rest.now) c.text.ensures,
)

pub returns-in-Err-Wrong-clause-answer : goal.returns-in-Err-Wrong-clause-answer
returns-in-Err-Wrong-clause-answer c = (
  c.in-Err-Wrong.rest.now,
  text_refused (law_module c.args.room (lt-ltb 0 c.args.room c.requires.some)) refl c.len.result c.in-Ok.found.items c.deref.result.now (lexemes_of c.lexemes.new.names c.args.tokens.now.text c.args.tokens.now.list)
      c.in-Err-Wrong.rest.now c.deref.ensures.value c.in-Ok.ensures.lexemes (c.len.ensures ∙ c.in-Ok.found.ok.0) (rw c.in-Err-Wrong.field-0-is at c.in-Err-Wrong.ensures),
  c.place_of-in-Err-Wrong.ensures ∙ ap (λ y. place (length y) c.in-Err-Wrong.rest.now) c.text.ensures,
)
