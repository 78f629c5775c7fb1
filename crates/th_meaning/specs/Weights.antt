-- The weight of objects: how many bytes of room an object of a class takes.
use Rattle.std.specs.Prelude.{ℕ, zero, suc, ◌+◌, ◌-◌, ◌*◌, Bool, true, false, ◌&&◌, ◌||◌, nat_eq, bytes_eq, List, [], ◌∷◌, length, sum_by, sum, map, Option, Some, None, slice_get, if◌then◌else◌}
use Rattle.th_meaning.specs.Trees.{TypeTree, int_type, bool_type, text_type, array_type, named_type, param_type, TypeTrees, no_type, more_types}
use Rattle.th_meaning.specs.Program.{TypeDecl, ProgramClass, Program, types_of_program, type_named, chain}

-- types as a list
abbrev pub type_list : TypeTrees → List TypeTree
type_list no_type = []
type_list (more_types t ts) = t ∷ type_list ts

-- the argument at a place; the parameter itself where there is none
abbrev pub argument_at : List TypeTree → ℕ → ℕ → TypeTree
argument_at [] k place = param_type place
argument_at (t ∷ ts) zero place = t
argument_at (t ∷ ts) (suc k) place = argument_at ts k place

abbrev mutual
  -- a type with the k-th argument in place of each parameter k
  pub substituted : List TypeTree → TypeTree → TypeTree
  substituted args int_type = int_type
  substituted args bool_type = bool_type
  substituted args text_type = text_type
  substituted args (array_type t) = array_type (substituted args t)
  substituted args (named_type n ts) = named_type n (all_substituted args ts)
  substituted args (param_type k) = argument_at args k k

  -- the same of each of the types
  pub all_substituted : List TypeTree → TypeTrees → TypeTrees
  all_substituted args no_type = no_type
  all_substituted args (more_types t ts) = more_types (substituted args t) (all_substituted args ts)

abbrev mutual
  -- whether two types are equal
  pub same_type : TypeTree → TypeTree → Bool
  same_type int_type int_type = true
  same_type bool_type bool_type = true
  same_type text_type text_type = true
  same_type (array_type t) (array_type u) = same_type t u
  same_type (named_type n ts) (named_type m us) = bytes_eq n m && same_types ts us
  same_type (param_type k) (param_type l) = nat_eq k l
  same_type _ _ = false

  -- whether two lists of types are equal
  pub same_types : TypeTrees → TypeTrees → Bool
  same_types no_type no_type = true
  same_types (more_types t ts) (more_types u us) = same_type t u && same_types ts us
  same_types _ _ = false

-- the declared supertypes of a type, over its arguments
abbrev pub supertypes_of : Option TypeDecl → TypeTrees → List TypeTree
supertypes_of None args = []
supertypes_of (Some d) args = map (substituted (type_list args)) d.supertypes

-- the declared supertypes of a type
abbrev pub supertypes : Program → TypeTree → List TypeTree
supertypes p int_type = []
supertypes p bool_type = []
supertypes p text_type = []
supertypes p (array_type t) = []
supertypes p (named_type n ts) = supertypes_of (type_named p n) ts
supertypes p (param_type k) = []

-- the header words over at most n steps up: 1 without supertypes, else the sum of those of the supertypes
abbrev pub words_within : ℕ → Program → TypeTree → ℕ
words_within zero p t = 1
words_within (suc n) p t = if nat_eq (length (supertypes p t)) 0 then 1 else sum (map (words_within n p) (supertypes p t))

-- as many steps as there are declared types reach every supertype, where no type reaches itself
abbrev pub steps_up : Program → ℕ
steps_up p = length (types_of_program p)

-- the header words of a type
abbrev pub type_words : Program → TypeTree → ℕ
type_words p t = words_within (steps_up p) p t

-- whether a test holds of a type that there may be
abbrev pub holds_of : Option TypeTree → (TypeTree → Bool) → Bool
holds_of None test = false
holds_of (Some t) test = test t

-- whether a type is u or has u on its chain of first supertypes, within n steps
abbrev pub first_reaches : ℕ → Program → TypeTree → TypeTree → Bool
first_reaches zero p u t = same_type t u
first_reaches (suc n) p u t = same_type t u || holds_of (slice_get (supertypes p t) 0) (first_reaches n p u)

-- the arguments of a declared type or a class
abbrev pub arguments : Option TypeTree → List TypeTree
arguments None = []
arguments (Some int_type) = []
arguments (Some bool_type) = []
arguments (Some text_type) = []
arguments (Some (array_type t)) = []
arguments (Some (named_type n ts)) = type_list ts
arguments (Some (param_type k)) = []

-- the header words that a class adds to those of the class that it inherits: where its type is the inherited class's,
-- or has it on its chain of first supertypes, the words of its type take the place of those of the inherited one's;
-- else the words of its type are added
abbrev pub words_over : Program → ProgramClass → ProgramClass → ℕ → ℕ
words_over p c above words = if first_reaches (steps_up p) p (substituted (arguments c.head.inherits) above.head.of) c.head.of
    then words - type_words p above.head.of + type_words p c.head.of
    else words + type_words p c.head.of

-- the header words of an object of the first class of a chain
abbrev pub chain_words : Program → List ProgramClass → ℕ
chain_words p [] = 0
chain_words p (c ∷ []) = type_words p c.head.of
chain_words p (c ∷ above ∷ more) = words_over p c above (chain_words p (above ∷ more))

-- the fields and where-words of a class's own
abbrev pub own_words : ProgramClass → ℕ
own_words c = length c.fields + length c.head.clauses

-- the weight of an object of a class: four bytes for each header word, and for each field and where-word of its chain
abbrev pub object_weight : Program → (class : List ℕ) → ℕ
object_weight p class = 4 * (chain_words p (chain p class) + sum_by own_words (chain p class))
