use Rattle.std.proofs.Common.{map, string_bytes, refl}
use Rattle.th_meaning.specs.View.{module_of}
use Rattle.th_top.specs.Answers.{text_limit}
use Rattle.th_top.specs.Verdict.{verdict_of}
use Rattle.th_top.proofs.Told.{there_many, all_short, some_named}
use Rattle.th_top.proofs.Stopped.{on_any, product_of, unbuilt_of}
use Rattle.th_top.proofs.build.build.Goals as goal

pub build_texts-requires-clause-some : goal.build_texts-requires-clause-some
build_texts-requires-clause-some g c = some_named string_bytes c.args.names.now c.requires

pub build_texts-requires-clause-many : goal.build_texts-requires-clause-many
build_texts-requires-clause-many g c = there_many string_bytes (λ x. x.items) text_limit (g.F.Files.map c.args.files.now) c.args.names.now c.in-Ok.judged.texts.items c.in-Ok.judged.texts.items c.in-Ok.ensures.there refl

pub build_texts-requires-clause-short : goal.build_texts-requires-clause-short
build_texts-requires-clause-short g c = all_short string_bytes (λ x. x.items) text_limit (g.F.Files.map c.args.files.now) c.args.names.now c.in-Ok.judged.texts.items c.in-Ok.judged.texts.items c.in-Ok.ensures.there refl

pub returns-in-Ok-clause-built : goal.returns-in-Ok-clause-built
returns-in-Ok-clause-built g c =
    product_of (g.F.Files.map c.args.files.now) (map string_bytes c.args.names.now) (map (λ x. x.items) c.in-Ok.judged.texts.items) c.in-Ok.ensures.there c.build_texts.result c.build_texts.ensures.built

pub returns-in-Ok-clause-no_fault : goal.returns-in-Ok-clause-no_fault
returns-in-Ok-clause-no_fault g c = on_any c.build_texts.result _ c.in-Ok.ensures.no_fault

pub returns-in-Ok-clause-stops : goal.returns-in-Ok-clause-stops
returns-in-Ok-clause-stops g c =
    unbuilt_of (g.F.Files.map c.args.files.now) (map string_bytes c.args.names.now) (map (λ x. x.items) c.in-Ok.judged.texts.items) c.in-Ok.ensures.there (map module_of c.in-Ok.judged.modules.items) c.in-Ok.ensures.accepted verdict_of _ _ c.build_texts.result c.in-Ok.ensures.no_fault c.build_texts.ensures.stops
