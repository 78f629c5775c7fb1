-- Names in lowered modules lead to lowered units.
use Rattle.std.proofs.Common.{◌≡◌, ℕ, zero, suc, Bool, true, false, List, [], ◌∷◌, ◌++◌, length, Option, Some, None, refl, sym, ap, ◌∙◌, subst, cond, get_or}
use Rattle.std.specs.Prelude.{map, find, filter, flat_map, slice_get, option_map, bytes_eq, codes, ◌&&◌, set}
use Rattle.std.specs.List.{list_any, swap}
use Rattle.std.specs.List.Sorted.{apply_swaps, SwapsInRange}
use Rattle.std.proofs.lemmas.List.{map-set}
use Rattle.th_meaning.specs.Program.{ProgramModule}
use Rattle.th_flat.specs.declared.module.FlatUnit.{FlatUnit}
use Rattle.th_flat.specs.declared.module.FlatModule.{FlatModule}
use Rattle.th_flat.specs.Program.{Declared, before_dot, after_dot, or_else, and_if, given_that, has_name, chain, walk, inherits_class}
use Rattle.th_lowering.specs.Module.{IsLowered, module_units}
use Rattle.th_viewed.specs.Sources.{Source, flat_of, AreLoweredFrom}
use Rattle.th_viewed.specs.Modules.{is_named, module_sources, Origin, source_named, words_of, AreLowered, ComesFrom, ComeFrom}
use Rattle.th_viewed.specs.Laws.{ModulesAreLoweredFrom}
use Rattle.th_viewed.proofs.Pieces.{module_same}

map_get : (gs : List Source) (i : ℕ) (d : Source) → flat_of (get_or gs i d) ≡ get_or (map flat_of gs) i (flat_of d)
map_get [] i d = refl
map_get (g ∷ gs) zero d = refl
map_get (g ∷ gs) (suc i) d = map_get gs i d

map_swap : (gs : List Source) (i j : ℕ) → map flat_of (swap gs i j) ≡ swap (map flat_of gs) i j
map_swap [] i j = refl
map_swap (g ∷ gs) i j =
    let l = g ∷ gs in
    map-set flat_of (set l i (get_or l j g)) j (get_or l i g)
    ∙ ap (λ z. set z j (flat_of (get_or l i g))) (map-set flat_of l i (get_or l j g))
    ∙ ap (λ z. set (set (map flat_of l) i z) j (flat_of (get_or l i g))) (map_get l j g)
    ∙ ap (λ z. set (set (map flat_of l) i (get_or (map flat_of l) j (flat_of g))) j z) (map_get l i g)

map_swaps : (gs : List Source) (moves : List (ℕ × ℕ)) → map flat_of (apply_swaps gs moves) ≡ apply_swaps (map flat_of gs) moves
map_swaps gs [] = refl
map_swaps gs (p ∷ ps) = map_swap (apply_swaps gs ps) p.0 p.1 ∙ ap (λ xs. swap xs p.0 p.1) (map_swaps gs ps)

length_map : (gs : List Source) → length (map flat_of gs) ≡ length gs
length_map [] = refl
length_map (g ∷ gs) = ap suc (length_map gs)

-- what the units of a lowered module come from, in their order
origin : (m : ProgramModule) (f : FlatModule) → IsLowered m f → (o : Origin) × ComesFrom m f o
origin m f h =
    let gs = module_sources m in
    let moves = h.units.moves in
    let units : f.units ≡ map flat_of (apply_swaps gs moves) = h.units.is ∙ ap (λ xs. apply_swaps xs moves) (sym (module_same m)) ∙ sym (map_swaps gs moves) in
    let range : length (module_units m) ≡ length gs = ap length (sym (module_same m)) ∙ length_map gs in (
      record { name = m.name; units = apply_swaps gs moves },
      record { name = refl; order = record { moves = moves; below = subst (λ n. SwapsInRange n moves) range h.units.below; is = refl }; units = units },
    )

origins : (ms : List ProgramModule) (fs : List FlatModule) → AreLowered ms fs → (os : List Origin) × ComeFrom ms fs os
origins [] [] h = ([], tt)
origins [] (f ∷ fs) h = absurd h
origins (m ∷ ms) [] h = absurd h
origins (m ∷ ms) (f ∷ fs) h =
    let first = origin m f h.0 in
    let rest = origins ms fs h.1 in
    (first.0 ∷ rest.0, (first.1, rest.1))

find_map : (name : List ℕ) (gs : List Source) → find (λ u. bytes_eq u.name name) (map flat_of gs) ≡ option_map flat_of (find (is_named name) gs)
find_map name [] = refl
find_map name (g ∷ gs) = go (is_named name g) (find_map name gs)
  where
    go : (t : Bool) → find (λ u. bytes_eq u.name name) (map flat_of gs) ≡ option_map flat_of (find (is_named name) gs)
        → cond t (Some (flat_of g)) (find (λ u. bytes_eq u.name name) (map flat_of gs)) ≡ option_map flat_of (cond t (Some g) (find (is_named name) gs))
    go true h = refl
    go false h = h

filter_map : (name : List ℕ) (gs : List Source) → filter (λ u. bytes_eq u.name name) (map flat_of gs) ≡ map flat_of (filter (is_named name) gs)
filter_map name [] = refl
filter_map name (g ∷ gs) = go (is_named name g) (filter_map name gs)
  where
    go : (t : Bool) → filter (λ u. bytes_eq u.name name) (map flat_of gs) ≡ map flat_of (filter (is_named name) gs)
        → cond t (flat_of g ∷ filter (λ u. bytes_eq u.name name) (map flat_of gs)) (filter (λ u. bytes_eq u.name name) (map flat_of gs)) ≡ map flat_of (cond t (g ∷ filter (is_named name) gs) (filter (is_named name) gs))
    go true h = ap (λ xs. flat_of g ∷ xs) h
    go false h = h

get_map : (gs : List Source) (i : ℕ) → slice_get (map flat_of gs) i ≡ option_map flat_of (slice_get gs i)
get_map [] i = refl
get_map (g ∷ gs) zero = refl
get_map (g ∷ gs) (suc i) = get_map gs i

map_append : (xs ys : List Source) → map flat_of (xs ++ ys) ≡ map flat_of xs ++ map flat_of ys
map_append [] ys = refl
map_append (x ∷ xs) ys = ap (λ zs. flat_of x ∷ zs) (map_append xs ys)

all_units : (ms : List ProgramModule) (fs : List FlatModule) (os : List Origin) → ComeFrom ms fs os → flat_map (λ f. f.units) fs ≡ map flat_of (flat_map (λ o. o.units) os)
all_units [] [] [] h = refl
all_units [] [] (o ∷ os) h = absurd h
all_units [] (f ∷ fs) os h = absurd h
all_units (m ∷ ms) [] os h = absurd h
all_units (m ∷ ms) (f ∷ fs) [] h = absurd h
all_units (m ∷ ms) (f ∷ fs) (o ∷ os) h =
    let c : ComesFrom m f o = h.0 in
    ap (λ xs. xs ++ flat_map (λ z. z.units) fs) c.units ∙ ap (λ xs. map flat_of o.units ++ xs) (all_units ms fs os h.1) ∙ sym (map_append o.units (flat_map (λ z. z.units) os))

all_mains : (ms : List ProgramModule) (fs : List FlatModule) (os : List Origin) → AreLowered ms fs → ComeFrom ms fs os
    → flat_map (λ f. filter (λ u. bytes_eq u.name (f.name ++ codes "/main")) f.units) fs ≡ map flat_of (flat_map (λ o. filter (is_named (o.name ++ codes "/main")) o.units) os)
all_mains [] [] [] l h = refl
all_mains [] [] (o ∷ os) l h = absurd h
all_mains [] (f ∷ fs) os l h = absurd l
all_mains (m ∷ ms) [] os l h = absurd l
all_mains (m ∷ ms) (f ∷ fs) [] l h = absurd h
all_mains (m ∷ ms) (f ∷ fs) (o ∷ os) l h =
    let c : ComesFrom m f o = h.0 in
    let low : IsLowered m f = l.0 in
    let name : f.name ≡ o.name = low.name ∙ sym c.name in
    let rest = flat_map (λ z. filter (λ u. bytes_eq u.name (z.name ++ codes "/main")) z.units) fs in
    let mine = filter (is_named (o.name ++ codes "/main")) o.units in
    ap (λ n. filter (λ u. bytes_eq u.name (n ++ codes "/main")) f.units ++ rest) name
    ∙ ap (λ xs. filter (λ u. bytes_eq u.name (o.name ++ codes "/main")) xs ++ rest) c.units
    ∙ ap (λ xs. xs ++ rest) (filter_map (o.name ++ codes "/main") o.units)
    ∙ ap (λ xs. map flat_of mine ++ xs) (all_mains ms fs os l.1 h.1)
    ∙ sym (map_append mine (flat_map (λ z. filter (is_named (z.name ++ codes "/main")) z.units) os))

if_mapped : (o : Option (List ℕ)) (f : List ℕ → Option FlatUnit) (g : List ℕ → Option Source) → ((name : List ℕ) → f name ≡ option_map flat_of (g name)) → and_if o f ≡ option_map flat_of (and_if o g)
if_mapped None f g h = refl
if_mapped (Some name) f g h = h name

that_mapped : (t : Bool) (a : Option FlatUnit) (b : Option Source) → a ≡ option_map flat_of b → given_that t a ≡ option_map flat_of (given_that t b)
that_mapped true a b h = h
that_mapped false a b h = refl

lead : (d : Declared) (ms : List ProgramModule) (fs : List FlatModule) (os : List Origin) → AreLowered ms fs → ComeFrom ms fs os → AreLoweredFrom (words_of d fs os)
lead d ms fs os l h =
    let named : (name : List ℕ) → find (λ u. bytes_eq u.name name) (flat_map (λ f. f.units) fs) ≡ option_map flat_of (source_named d fs os name) =
    λ name. ap (λ xs. find (λ u. bytes_eq u.name name) xs) (all_units ms fs os h) ∙ find_map name (flat_map (λ o. o.units) os) in
    let unit : List ℕ → Option FlatUnit = λ name. find (λ u. bytes_eq u.name name) (flat_map (λ f. f.units) fs) in
    record {
      main = ap (λ xs. slice_get xs 0) (all_mains ms fs os l h) ∙ get_map (flat_map (λ o. filter (is_named (o.name ++ codes "/main")) o.units) os) 0;
      unit = named;
      called = λ name. if_mapped (or_else (walk d fs (before_dot name) (after_dot name)) (Some name)) unit (source_named d fs os) named;
      dispatched = λ head m class. that_mapped (d.is_home head m) _ _ (if_mapped (walk d fs class m) unit (source_named d fs os) named);
      hidden = λ class m of. that_mapped (list_any (λ c. has_name m c.hidden) (chain d fs class) && inherits_class d fs of class) _ _ (if_mapped (walk d fs of m) unit (source_named d fs os) named);
    }

pub modules_lowered : ModulesAreLoweredFrom
modules_lowered d ms fs l =
    let k = origins ms fs l in
    (k.0, k.1, lead d ms fs k.0 l k.1)
