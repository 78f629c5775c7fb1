-- The judgement as a whole.
use Rattle.std.proofs.Common.{◌≡◌, ◌∙◌, ℕ, List, map, Option, Some, None, ap, sym, subst, refl, inl, inr}
use Rattle.std.specs.Global.{Vec}
use Rattle.std.specs.Ordering.{nat_cmp}
use Rattle.std.specs.List.Sorted.{IsSorted, IsPermutation}
use Rattle.th_type.specs.declared.above.Ancestors.{Ancestors}
use Rattle.th_type.specs.declared.sig.Sig.{Sig}
use Rattle.th_type.specs.declared.rows.Row.{Row}
use Rattle.th_type.specs.declared.place.Failure.{Failure}
use Rattle.th_type.specs.declared.typedef.TypeDef.{TypeDef}
use Rattle.th_type.specs.Types.{TypeExpr, ty_of}
use Rattle.th_type.specs.Signatures.{Signature, sig_of}
use Rattle.th_type.specs.Declarations.{Declaration, DeclaredType, declared_type, declared_types, named_decl, super_of, resolved}
use Rattle.th_type.specs.Failures.{lowest, IsLeastOf}
use Rattle.th_type.specs.Rules.{WellFormed, FailsFirst, MethodsFail, IsNamed, NoneFails}
use Rattle.th_type.specs.Judged.{Judging, Ascended}
use Rattle.th_type.specs.Tables.{up_of}
use Rattle.th_type.specs.Tests.{all_failures}
use Rattle.th_type.specs.MethodTables.{MethodsRight, written_sigs}
use Rattle.th_type.specs.LatticeRight.{LatticeRight}
use Rattle.th_type.specs.Rows.{row_of}
use Rattle.th_type.proofs.Ascent.{ascends, untangled}
use Rattle.th_type.proofs.Resolved.{well_formed_fits}
use Rattle.th_type.proofs.Inherit.{methods_least}
use Rattle.th_type.proofs.Filling.{written_same, names_to}
use Rattle.th_type.proofs.Ranks.{rank_less}
use Rattle.th_type.specs.Types.{TypeExprs, named_ty}
use Rattle.th_type.specs.Declarations.{supers_of}
use Rattle.th_type.specs.Lists.{IsIn}

pub named_first : (ds : List Declaration) (old new : Option Failure) (es : Ancestors) (f : Failure) → Judging ds ds old new es → new ≡ Some f → IsNamed ds old f
named_first ds old new es f j e = inl (subst (λ o. IsLeastOf (FailsFirst ds old) o) e j.least)

pub ascended_of : (ds : List Declaration) (old new : Option Failure) (es : Ancestors) → Judging ds ds old new es → new ≡ None → Ascended ds (up_of es)
ascended_of ds old new es j e = let k : Judging ds ds old None es = subst (λ o. Judging ds ds old o es) e j in record { climbed = ascends ds old es k; free = untangled ds old es k }

pub named_second : (ds : List Declaration) → WellFormed ds → (old new least : Option Failure) (es : Ancestors) (fs : List (ℕ × Vec Sig)) (f : Failure) → Judging ds ds old new es → new ≡ None → MethodsRight (declared_types ds) (up_of es) fs → least ≡ lowest None (all_failures (up_of es) fs ds) → least ≡ Some f → IsNamed ds old f
named_second ds w old new least es fs f j e r l h =
    inr (subst (λ o. IsLeastOf (FailsFirst ds old) o) e j.least, subst (λ o. IsLeastOf (MethodsFail ds) o) h (methods_least ds w (up_of es) (ascended_of ds old new es j e) fs r least l))

pub none_fails : (ds : List Declaration) → WellFormed ds → (old new least : Option Failure) (es : Ancestors) (fs : List (ℕ × Vec Sig)) → Judging ds ds old new es → new ≡ None → MethodsRight (declared_types ds) (up_of es) fs → least ≡ lowest None (all_failures (up_of es) fs ds) → least ≡ None → NoneFails ds old
none_fails ds w old new least es fs j e r l h =
    (subst (λ o. IsLeastOf (FailsFirst ds old) o) e j.least, subst (λ o. IsLeastOf (MethodsFail ds) o) h (methods_least ds w (up_of es) (ascended_of ds old new es j e) fs r least l))

super_named : (ds : List Declaration) (up : ℕ → List TypeExpr) → Ascended ds up → (n s : ℕ) (args : TypeExprs) → IsIn (named_ty s args) (supers_of (declared_types ds) n) → IsIn s (map (λ d. d.name) ds)
super_named ds up a n s args i =
    let h = (a.climbed n).heads (named_ty s args) ((a.climbed n).all (named_ty s args) (named_ty s args, i, (0, refl))) in
    let e : h.0 ≡ s = cc in
    names_to ds s (subst (λ m. IsIn m (map (λ d. d.name) (declared_types ds))) e h.3)

pub lattice_right : (ds : List Declaration) → WellFormed ds → (old new : Option Failure) (es : Ancestors) (fs : List (ℕ × Vec Sig)) (D : List DeclaredType) (heads : List ℕ) → Judging ds ds old new es → new ≡ None → MethodsRight (declared_types ds) (up_of es) fs → D ≡ declared_types ds → IsSorted nat_cmp heads → IsPermutation (map (λ d. d.name) (declared_types ds)) heads → LatticeRight D heads (up_of es) fs
lattice_right ds w old new es fs D heads j e r d s p =
    subst (λ D. LatticeRight D heads (up_of es) fs) (sym d) (record {
      fits = well_formed_fits ds w;
      climbed = (ascended_of ds old new es j e).climbed;
      falls = λ n s args i. let a = ascended_of ds old new es j e in
          rank_less ds w (up_of es) a n s args (super_named ds (up_of es) a n s args i) i;
      methods = r;
      sorted = s;
      permutation = p;
    })

abbrev declared : ℕ → ℕ → List TypeExpr → List Signature → DeclaredType
declared n k ts ss = record { name = n; params = k; supertypes = ts; written = ss }

-- what is looked up of a declared type is the type
pub row_is : (n : ℕ) (def : TypeDef) (r : Row) → r.params ≡ def.params → map ty_of r.supertypes.items ≡ resolved (map super_of def.supertypes.items) → map sig_of r.written.items ≡ written_sigs def.methods.items → row_of (n, r) ≡ declared_type (named_decl n def)
row_is n def r p t s =
    ap (λ k. declared n k (map ty_of r.supertypes.items) (map sig_of r.written.items)) p
    ∙ ap (λ ts. declared n def.params ts (map sig_of r.written.items)) t
    ∙ ap (declared n def.params (resolved (map super_of def.supertypes.items))) (s ∙ written_same def.methods.items)
