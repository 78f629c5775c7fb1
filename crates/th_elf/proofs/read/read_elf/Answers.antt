use Rattle.std.proofs.Common.{◌<◌, map, sym, ◌∙◌, ap, subst}
use Rattle.std.specs.Prelude.{All}
use Rattle.std.specs.List.{list_all}
use Rattle.th_elf.specs.Loadable.{is_placed, segment_of, segments_of}
use Rattle.th_elf.proofs.Judged.{fault_in_header, fault_in_segments, no_fault, segments_unplaced, segments_shared, segments_lawful}
use Rattle.th_elf.specs.declared.segments.Segments.{Segments}
use Rattle.th_elf.specs.Lawful.{AreLawful}
use Rattle.th_elf.proofs.Lawfully.{loadable_lawful}
use Rattle.th_elf.proofs.Headers.{loaded_have_bytes}
use Rattle.th_elf.proofs.read.read_elf.Goals as goal

pub returns-in-Some-clause-refused : goal.returns-in-Some-clause-refused
returns-in-Some-clause-refused c = fault_in_header c.args.bytes.now c.in-Some.field c.in-Some.ensures

pub returns-then-not-are_placed-clause-refused : goal.returns-then-not-are_placed-clause-refused
returns-then-not-are_placed-clause-refused c =
    fault_in_segments c.args.bytes.now (sym c.in_default.is ∙ c.header_fault.ensures)
    (segments_unplaced c.args.bytes.now c.deref.result.now (c.deref.ensures.value ∙ c.in_ok-headers.ensures)
    (sym c.are_placed.ensures ∙ c.if-not-are_placed.true))

pub are_apart-requires : goal.are_apart-requires
are_apart-requires c =
    subst (All (λ h. 0 < h.memsz)) (sym (c.deref-2.ensures.value ∙ c.in_ok-headers.ensures)) (loaded_have_bytes c.args.bytes.now)

pub returns-then-not-branch-clause-refused : goal.returns-then-not-branch-clause-refused
returns-then-not-branch-clause-refused c =
    fault_in_segments c.args.bytes.now (sym c.in_default.is ∙ c.header_fault.ensures)
    (segments_shared c.args.bytes.now c.deref-2.result.now (c.deref-2.ensures.value ∙ c.in_ok-headers.ensures)
    (sym c.in_ok-are_apart.ensures ∙ c.if-not-branch.true))

-- the file has no failing field
pub returns-clause-loadable : goal.returns-clause-loadable
returns-clause-loadable c =
    no_fault c.args.bytes.now (sym c.in_default.is ∙ c.header_fault.ensures)
    (segments_lawful c.args.bytes.now c.deref-2.result.now (c.deref-2.ensures.value ∙ c.in_ok-headers.ensures)
    (ap (list_all (is_placed c.args.bytes.now)) (c.deref-2.ensures.value ∙ sym c.deref.ensures.value)
    ∙ sym c.are_placed.ensures ∙ c.if-not-are_placed.false)
    (sym c.in_ok-are_apart.ensures ∙ c.if-not-branch.false))

pub returns-clause-ok : goal.returns-clause-ok
unfolding segments_of
returns-clause-ok c =
    let list = c.of.ensures ∙ c.in_ok-list.ensures ∙ ap (map (segment_of c.args.bytes.now)) (c.deref-3.ensures.value ∙ c.in_ok-headers.ensures) in
    ap (λ e. record { entry = e; list = c.of.result }) c.word_of.ensures
    ∙ ap (λ l. record { entry = (segments_of c.args.bytes.now).entry; list = l }) list

pub returns-clause-lawful : goal.returns-clause-lawful
returns-clause-lawful c =
    let is = returns-clause-ok c in
    subst (λ (s : Segments). AreLawful s.list) (sym is) (loadable_lawful c.args.bytes.now (returns-clause-loadable c))
