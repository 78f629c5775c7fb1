use Rattle.std.proofs.Common.{◌≡◌, ◌∙◌, ap, subst, map}
use Rattle.th_tree.specs.DeclView.{interface_of}
use Rattle.th_type.specs.declared.lattice.LatticeError.{LatticeError}
use Rattle.th_type.specs.Declarations.{declared_types, decls_of}
use Rattle.th_type.specs.Refusals.{RefusedBy}
use Rattle.th_hier.specs.Naming.{Items}
use Rattle.th_hier.specs.Numbering.{Numbering}
use Rattle.th_hier.specs.Hierarchies.{items_of, IsRefusal, NoRuleFails}
use Rattle.th_hier.specs.Texts.{declarations}
use Rattle.th_hier.proofs.Refusing.{refusal, acceptance}
use Rattle.th_hier.proofs.hierarchy.Hierarchy.of.Goals as goal

pub returns-in-Rule-clause-answer : goal.returns-in-Rule-clause-answer
returns-in-Rule-clause-answer c =
    let fs = map interface_of c.args.interfaces.now in
    let f = c.in-Rule.failure in
    let same : c.in-Ok.index ≡ items_of c.args.names.now fs = ap (λ (s : Numbering). s.items) c.in-Ok.ensures.items in
    subst (λ (is : Items). IsRefusal is fs f.rule f.place) same
    (refusal c.in-Ok.index fs (decls_of c.in-Ok.types.items) c.declared.new.least f c.in-Ok.ensures.types c.in-Ok.ensures.least
    (subst (λ (e : LatticeError). RefusedBy (decls_of c.in-Ok.types.items) c.declared.new.least e) c.in-Rule.is c.in-Err.ensures.answer))

pub returns-in-Ok-of-clause-answer : goal.returns-in-Ok-of-clause-answer
returns-in-Ok-of-clause-answer c =
    let fs = map interface_of c.args.interfaces.now in
    let same : c.in-Ok.index ≡ items_of c.args.names.now fs = ap (λ (s : Numbering). s.items) c.in-Ok.ensures.items in
    let types : c.in-Ok-of.lattice ≡ declared_types (declarations (items_of c.args.names.now fs) fs) =
    c.in-Ok-of.ensures.answer.0 ∙ ap declared_types (c.in-Ok.ensures.types ∙ ap (λ (is : Items). declarations is fs) same) in (
      λ j. record { items = same j; types = types j },
      subst (λ (is : Items). NoRuleFails is fs) same
          (acceptance c.in-Ok.index fs (decls_of c.in-Ok.types.items) c.declared.new.least c.in-Ok.ensures.types c.in-Ok.ensures.least c.in-Ok-of.ensures.answer.1),
    )
