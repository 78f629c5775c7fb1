-- Exceptions after `raise` and `when`, and what handles them.
use Rattle.std.specs.Prelude.{ℕ, Bool, true, false, nat_eq, not, List, [], ◌∷◌, ◌++◌, Option, Some, None, is_some, codes, if◌then◌else◌}
use Rattle.std.specs.List.{list_any}
use Rattle.th_tree.specs.declared.tree.RefTree.{RefTree}
use Rattle.th_tree.specs.declared.tree.ExcTree.{ExcTree}
use Rattle.th_tree.specs.declared.tree.ExcTree.TheVariants as exc
use Rattle.th_tree.specs.Trees.{BodySyn, WhenSyns, no_when, more_whens}
use Rattle.th_type.specs.declared.place.Failure.{Failure}
use Rattle.th_type.specs.Failures.{unless}
use Rattle.th_type.specs.Types.{TypeExpr}
use Rattle.th_hier.specs.Naming.{different}
use Rattle.th_rules.specs.Context.{Binding, Head, exception_head, type_head, class_head, routine_head, Context, Meaning, no_meaning, local_meaning, param_meaning, item_meaning, meaning}
use Rattle.th_rules.specs.Resolving.{ref_place}
use Rattle.th_rules.specs.Cores.{name_at}
use Rattle.th_stmt_rules.specs.declared.key.Key.{Key}
use Rattle.th_stmt_rules.specs.declared.key.Key.TheVariants as keys

-- whether both are one exception
abbrev pub same_key : Key → Key → Bool
same_key keys.Overflow keys.Overflow = true
same_key keys.ZeroDivide keys.ZeroDivide = true
same_key keys.Bounds keys.Bounds = true
same_key keys.EndOfInput keys.EndOfInput = true
same_key (keys.Declared n) (keys.Declared m) = nat_eq n m
same_key _ _ = false

-- whether the exception is one of the list
abbrev pub has_key : List Key → Key → Bool
has_key ks k = list_any (same_key k) ks

-- the exceptions with this one, which goes last where it is not there
abbrev pub with_key : List Key → Key → List Key
with_key ks k = if has_key ks k then ks else ks ++ k ∷ []

-- an exception with the type of its argument, where it has one
pub record Exception : Type 0 where
  pub key : Key
  pub argument : Option TypeExpr

abbrev pub exception : Key → Option TypeExpr → Exception
exception k t = record { key = k; argument = t }

abbrev pub item_exception : ℕ → Head → Option Exception
item_exception full (exception_head t) = Some (exception (keys.Declared full) t)
item_exception full (type_head k) = None
item_exception full (class_head c) = None
item_exception full (routine_head r) = None

-- the exception that a name means
abbrev pub meant_exception : Meaning → Option Exception
meant_exception no_meaning = None
meant_exception (local_meaning b) = None
meant_exception (param_meaning k) = None
meant_exception (item_meaning i) = item_exception i.full i.head

-- the exception after `raise` or `when`
abbrev pub exception_of : Context → List Binding → ExcTree → Option Exception
exception_of C ls (exc.Declared r) = meant_exception (meaning C ls r)
exception_of C ls (exc.Overflow at) = Some (exception keys.Overflow None)
exception_of C ls (exc.ZeroDivide at) = Some (exception keys.ZeroDivide None)
exception_of C ls (exc.Bounds at) = Some (exception keys.Bounds None)
exception_of C ls (exc.EndOfInput at) = Some (exception keys.EndOfInput None)

-- the failure of a name that is no exception
abbrev pub exception_fails : Context → List Binding → ExcTree → List Failure
exception_fails C ls (exc.Declared r) = unless (is_some (meant_exception (meaning C ls r))) 4 (ref_place C r)
exception_fails C ls (exc.Overflow at) = []
exception_fails C ls (exc.ZeroDivide at) = []
exception_fails C ls (exc.Bounds at) = []
exception_fails C ls (exc.EndOfInput at) = []

-- the full name of an exception
abbrev pub key_name : List (List ℕ) → Key → List ℕ
key_name names keys.Overflow = codes "overflow"
key_name names keys.ZeroDivide = codes "zero_divide"
key_name names keys.Bounds = codes "bounds"
key_name names keys.EndOfInput = codes "end_of_input"
key_name names (keys.Declared n) = name_at names n

-- an exception has no argument, where it resolves
abbrev pub is_bare : Option Exception → Bool
is_bare None = true
is_bare (Some x) = not (is_some x.argument)

-- an exception has an argument, where it resolves
abbrev pub has_argument : Option Exception → Bool
has_argument None = true
has_argument (Some x) = is_some x.argument

-- the type of an exception's argument
abbrev pub argument_of : Option Exception → Option TypeExpr
argument_of None = None
argument_of (Some x) = x.argument

-- the number of a declared exception
abbrev pub key_number : Key → List ℕ
key_number keys.Overflow = []
key_number keys.ZeroDivide = []
key_number keys.Bounds = []
key_number keys.EndOfInput = []
key_number (keys.Declared n) = n ∷ []

abbrev pub exception_number : Option Exception → List ℕ
exception_number None = []
exception_number (Some x) = key_number x.key

-- the declared exceptions that handlers name
abbrev pub when_numbers : Context → List Binding → WhenSyns → List ℕ
when_numbers C ls no_when = []
when_numbers C ls (more_whens at x v b ws) = exception_number (exception_of C ls x) ++ when_numbers C ls ws

-- the declared exceptions that handlers handle, each once
abbrev pub handled_by : Context → List Binding → WhenSyns → List ℕ
handled_by C ls ws = different (when_numbers C ls ws)

-- the exceptions with a further one, where it resolves
abbrev pub seen_with : Option Exception → List Key → List Key
seen_with None ks = ks
seen_with (Some x) ks = with_key ks x.key

-- the exception is none of those that earlier handlers of the block name, where it resolves
abbrev pub is_new : List Key → Option Exception → Bool
is_new ks None = true
is_new ks (Some x) = not (has_key ks x.key)
