use Rattle.std.proofs.Common.{◌≤◌, ℕ, length, map, subst, sym}
use Rattle.std.proofs.lemmas.List.{length-map}
use Rattle.th_type.specs.Signatures.{sig_of}
use Rattle.th_scope.specs.View.{class_of, context_of, items_of}
use Rattle.th_overrides.specs.AncestorView.{ancestor_of}
use Rattle.th_overrides.proofs.Lackings.{exact_always, exact_unless_hidden}
use Rattle.th_overrides.proofs.lacking.is_exact_where_hidden.Goals as goal

pub returns-then-conforms_exactly : goal.returns-then-conforms_exactly
returns-then-conforms_exactly c =
    exact_always (context_of c.args.env.now) (class_of c.args.class.now) (sig_of c.args.sig.now) (sig_of c.args.of.now) c.conforms_exactly.result c.conforms_exactly.ensures c.if-conforms_exactly.true

pub returns-else-conforms_exactly : goal.returns-else-conforms_exactly
returns-else-conforms_exactly c =
    exact_unless_hidden (context_of c.args.env.now) (class_of c.args.class.now) (sig_of c.args.sig.now) (sig_of c.args.of.now) (map ancestor_of c.args.chain.now) c.is_hidden.result c.conforms_exactly.result c.requires.chain
    (subst (λ (n : ℕ). n ≤ length (items_of c.args.env.now.items.now)) (sym (length-map c.args.chain.now ancestor_of)) c.requires.short) c.conforms_exactly.ensures c.if-conforms_exactly.false c.is_hidden.ensures
