-- What holds of stubs.
use Rattle.std.proofs.Common.{◌≡◌, ℕ, zero, suc, ◌+◌, List, [], ◌∷◌, ◌++◌, length, refl, sym, subst, arith, length-append}
use Rattle.std.specs.Prelude.{IsTrue, Option, Some, None}
use Rattle.std.specs.List.{list_all}
use Rattle.th_meaning.specs.declared.types.Primitive.{Primitive}
use Rattle.th_flat.specs.declared.op.FlatOp.{FlatOp}
use Rattle.th_flat.specs.declared.op.FlatOp.TheVariants.{OpLocal, OpCompare, OpCast, OpDispatch, OpReturn, OpTurn}
use Rattle.th_flat.specs.Orderly.{is_of_level_1, is_on}
use Rattle.th_lowering.specs.Homes.{MethodShape}
use Rattle.th_lowering.specs.Stubs.{primitive_number, primitive_stub, locals_code, flag, method_stub}
use Rattle.th_lower_law.proofs.Levels.{Plain, plain_by, plain_both, plain_one, plain_same}
use Rattle.th_lower_law.proofs.Onward.{AllOnward, Onward, calm, failing, onward_append, no_more, one_more}

-- how many operations a stub of a method has
locals_length : (k n : ℕ) → length (locals_code k n) ≡ n
locals_length k zero = refl
locals_length k (suc n) = omega (arith, locals_length (k + 1) n)

pub method_length : (name of h m : List ℕ) (x : MethodShape) → length (method_stub name of h m x).ops ≡ x.formals + 4
method_length name of h m x = omega (
  arith,
  locals_length 1 x.formals,
  length-append (locals_code 1 x.formals) (OpDispatch h m (x.formals + 1) (flag x.gives) (x.formals + 4) ∷ OpReturn (flag x.gives) ∷ []),
)

-- stubs are of level 1
pub primitive_level : (name : List ℕ) (p : Primitive) → IsTrue (is_on 1 (primitive_stub name p))
primitive_level name p = refl

locals_plain : (c k n : ℕ) → Plain c (locals_code k n)
locals_plain c k zero = plain_by _ _ refl
locals_plain c k (suc n) = plain_one c _ _ refl (locals_plain c (k + 1) n)

method_plain : (name of h m : List ℕ) (x : MethodShape) → Plain (x.formals + 4) (method_stub name of h m x).ops
method_plain name of h m x =
    plain_one (x.formals + 4) _ _ refl (plain_one (x.formals + 4) _ _ refl
    (plain_both (x.formals + 4) (locals_code 1 x.formals) _ (locals_plain (x.formals + 4) 1 x.formals) (plain_one (x.formals + 4) _ _ (plain_same (x.formals + 4)) (plain_by _ _ refl))))

pub method_level : (name of h m : List ℕ) (x : MethodShape) → IsTrue (is_on 1 (method_stub name of h m x))
method_level name of h m x = subst (λ n. IsTrue (list_all (is_of_level_1 n) (method_stub name of h m x).ops)) (sym (method_length name of h m x)) (method_plain name of h m x).plain

-- what stubs lead to is ahead
pub primitive_onward : (name : List ℕ) (p : Primitive) → AllOnward (primitive_stub name p).ops 5 0 (primitive_stub name p).ops
primitive_onward name p =
    let ops = (primitive_stub name p).ops in
    one_more ops 5 0 OpTurn _ (calm ops 5 0 OpTurn refl refl (λ at acc. refl))
    (one_more ops 5 1 (OpLocal 0) _ (calm ops 5 1 (OpLocal 0) refl refl (λ at acc. refl))
    (one_more ops 5 2 (OpLocal 1) _ (calm ops 5 2 (OpLocal 1) refl refl (λ at acc. refl))
    (one_more ops 5 3 (OpCompare (primitive_number p)) _ (calm ops 5 3 (OpCompare (primitive_number p)) refl refl (λ at acc. refl))
    (one_more ops 5 4 (OpReturn 1) _ (calm ops 5 4 (OpReturn 1) refl refl (λ at acc. refl)) (no_more ops 5 5)))))

locals_onward : (ops : List FlatOp) (c b k n : ℕ) → AllOnward ops c b (locals_code k n)
locals_onward ops c b k zero = no_more ops c b
locals_onward ops c b k (suc n) = one_more ops c b _ _ (calm ops c b (OpLocal k) refl refl (λ at acc. refl)) (locals_onward ops c (b + 1) (k + 1) n)

pub method_onward : (name of h m : List ℕ) (x : MethodShape) → AllOnward (method_stub name of h m x).ops (x.formals + 4) 0 (method_stub name of h m x).ops
method_onward name of h m x =
    let ops = (method_stub name of h m x).ops in
    let n = x.formals + 4 in
    one_more ops n 0 _ _ (calm ops n 0 (OpLocal 0) refl refl (λ at acc. refl)) (one_more ops n 1 _ _ (calm ops n 1 (OpCast of h) refl refl (λ at acc. refl))
    (onward_append ops n 2 (2 + x.formals) (locals_code 1 x.formals) _ (omega (arith, locals_length 1 x.formals)) (locals_onward ops n 2 1 x.formals)
    (one_more ops n (2 + x.formals) _ _ (failing ops n (2 + x.formals) _ refl refl (λ at acc. refl)) (one_more ops n (2 + x.formals + 1) _ _ (calm ops n (2 + x.formals + 1) _ refl refl (λ at acc. refl)) (no_more ops n _)))))
