-- What the code holds on the way.
use Rattle.std.specs.Prelude.{Option, Some, None}
use Rattle.th_type.specs.declared.ty.Ty.{Ty}
use Rattle.th_type.specs.declared.ty.TyList.{TyList}
use Rattle.th_type.specs.Types.{TypeExpr, TypeExprs, ty_of, tys_of, tys_onto}
use Rattle.th_hier.specs.declared.heads.Parts.{Parts as TheParts}
use Rattle.th_hier.specs.Heads.{Parts}
use Rattle.th_type.specs.declared.sig.Sig.{Sig}
use Rattle.th_type.specs.Signatures.{Signature, sig_of}

-- a type, where there is one
abbrev pub ty_opt : Option Ty → Option TypeExpr
ty_opt None = None
ty_opt (Some t) = Some (ty_of t)

-- types, where there are some
abbrev pub tys_opt : Option TyList → Option TypeExprs
tys_opt None = None
tys_opt (Some ts) = Some (tys_of ts)

-- the types so far the other way round before the others, where all are there
abbrev pub onto_opt : Option TypeExprs → Option TypeExprs → Option TypeExprs
onto_opt None ts = None
onto_opt (Some done) None = None
onto_opt (Some done) (Some ts) = Some (tys_onto done ts)

-- a result or a yielded type, where it means a type or is absent
abbrev pub gives_opt : Option (Option Ty) → Option (Option TypeExpr)
gives_opt None = None
gives_opt (Some g) = Some (ty_opt g)

-- the code's parts
abbrev pub parts_view : TheParts → Parts
parts_view p = record { formals = tys_of p.formals; gives = ty_opt p.gives; signals = p.signals }

-- the code's parts, where there are some
abbrev pub parts_opt : Option TheParts → Option Parts
parts_opt None = None
parts_opt (Some p) = Some (parts_view p)

-- a signature, where there is one
abbrev pub sig_opt : Option Sig → Option Signature
sig_opt None = None
sig_opt (Some s) = Some (sig_of s)
