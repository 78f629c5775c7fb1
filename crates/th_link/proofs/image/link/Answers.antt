-- The image is that of the program.
use Rattle.std.proofs.Common.{◌≡◌, ◌∷◌, [], ◌∙◌, ap}
use Rattle.std.specs.Prelude.{codes}
use Rattle.th_meaning.specs.Program.{full_name}
use Rattle.th_link.specs.Puts.{code_words, puts_code, puts_image}
use Rattle.th_link.proofs.image.link.Goals as goal
use Rattle.th_link.proofs.Linked.{image_of, linked_agrees, linked_ends, linked_few, linked_lawful}

linked : (c : goal.After-of-tables) → record { code = c.of-code.result; tables = c.of-tables.result; entry = 0x00010000; map = c.in_ok-map.map } ≡ puts_image (full_name c.args.program.now.name (codes "main")) c.args.program.now.bytes.items
linked c = image_of (full_name c.args.program.now.name (codes "main")) c.args.program.now.bytes.items _ _ _ (c.of-code.ensures ∙ c.in_ok-code_of.ensures ∙ ap (λ bs. code_words (puts_code bs)) c.deref.ensures.value) (c.of-tables.ensures ∙ c.new.ensures.items) (c.in_ok-map.ensures ∙ ap (λ n. record { at = 0x00010000; unit = full_name n (codes "main") } ∷ []) c.as_bytes.ensures)

pub returns-clause-agrees : goal.returns-clause-agrees
returns-clause-agrees c = linked_agrees c.args.program.now.name c.args.program.now.bytes.items _ c.requires.bytes c.requires.few (linked c)

pub returns-clause-lawful : goal.returns-clause-lawful
returns-clause-lawful c = linked_lawful _ c.args.program.now.bytes.items _ c.requires.few (linked c)

pub returns-clause-ends : goal.returns-clause-ends
returns-clause-ends c = linked_ends _ c.args.program.now.bytes.items _ c.requires.bytes c.requires.few (linked c)

pub returns-clause-few_words : goal.returns-clause-few_words
returns-clause-few_words c = linked_few _ c.args.program.now.bytes.items _ c.requires.few (linked c)

pub returns-clause-made : goal.returns-clause-made
returns-clause-made c = linked c
