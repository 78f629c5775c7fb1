-- Locals that are read.
use Rattle.std.proofs.Common.{◌≡◌, sym, ap, ℕ, Option, Some, None}
use Rattle.th_meaning.specs.World.{Unset as IsUnset}
use Rattle.th_meaning.specs.Meaning.{Value, Gives, with_some, local_of}
use Rattle.th_steps.specs.Machine.{on_value}
use Rattle.th_control.specs.declared.control.Control.{Control}
use Rattle.th_control.specs.declared.control.Act.TheVariants.{Go, Unset}
use Rattle.th_control.specs.declared.control.Now.TheVariants.{Value as GoValue}
use Rattle.th_control.specs.Values.{bound_at}
use Rattle.th_control.specs.Config.{state_of}
use Rattle.th_control.specs.Acts.{Does, the_loop, the_rest}

-- one that isn't bound
pub local_unset : (k : ℕ) (c : Control) → bound_at c.frame.locals k ≡ None → Does Unset c (λ p lp rest st. on_value (local_of k st) lp rest) c
local_unset k c h p w = sym (ap (λ o. on_value (with_some o IsUnset (state_of c w) (λ v. Gives v (state_of c w))) (the_loop c) (the_rest c)) h)

-- one that is
pub local_bound : (k : ℕ) (c : Control) (v : Value) → bound_at c.frame.locals k ≡ Some v → Does (Go (GoValue v)) c (λ p lp rest st. on_value (local_of k st) lp rest) c
local_bound k c v h p w = sym (ap (λ o. on_value (with_some o IsUnset (state_of c w) (λ x. Gives x (state_of c w))) (the_loop c) (the_rest c)) h)
