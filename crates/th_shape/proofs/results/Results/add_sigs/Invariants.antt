use Rattle.std.proofs.Common.{◌≡◌, ℕ, map, drop, option_map}
use Rattle.std.specs.Prelude.{nat_eq}
use Rattle.std.specs.Map.{lookup}
use Rattle.th_type.specs.Lists.{or_else}
use Rattle.th_type.specs.Types.{tys_of, list_of}
use Rattle.th_type.specs.Signatures.{find_sig, sig_of}
use Rattle.th_shape.specs.Heads.{apply_kind, result_kind}
use Rattle.th_shape.specs.Lines.{result_of}
use Rattle.th_shape.proofs.results.Results.add_sigs.Given as goal

abbrev pub invariant-loop-sig : goal.invariant-loop-sig
invariant-loop-sig l = (q : ℕ) → or_else (lookup (nat_eq q) l.self.of.entries) (option_map (λ s. apply_kind (list_of (tys_of l.args)) (result_kind (result_of s))) (find_sig (map sig_of (drop l.sig-index l.sigs)) q))
    ≡ or_else (lookup (nat_eq q) l.fn.self.of.entries) (option_map (λ s. apply_kind (list_of (tys_of l.args)) (result_kind (result_of s))) (find_sig (map sig_of l.sigs) q))
