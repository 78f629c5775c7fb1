-- The last file of a name: after a write, in two lists, in a list of entries.
use Rattle.std.proofs.Common.{◌≡◌, ℕ, Bool, true, false, cond, List, [], ◌∷◌, ◌++◌, Option, None, Some, map, reverse, option_map, refl, sym, ap, append_assoc, ◌∙◌}
use Rattle.std.specs.Prelude.{find, String, Vec}
use Rattle.std.specs.Option.{option_or}
use Rattle.std.specs.Str.{bytes_eq}
use Rattle.std.specs.String.{string_bytes}
use Rattle.std.specs.declared.alloc.Global.{Global}
use Rattle.std.proofs.Math.Path.{fun_ext}
use Rattle.std.proofs.lemmas.List.{reverse-append, map-append}
use Rattle.std.proofs.lemmas.List.Folds.{find-append}
use Rattle.th_world.specs.Memory.{File, files_of, last_of}
use Rattle.th_world.specs.Outside.{with_file}

-- a map of a reversed list
reverse-map : {X Y : Type 0} (f : X → Y) (xs : List X) → reverse (map f xs) ≡ map f (reverse xs)
reverse-map f [] = refl
reverse-map f (x ∷ xs) =
    reverse-append (f x ∷ []) (map f xs) ∙ ap (λ l. l ++ f x ∷ []) (reverse-map f xs) ∙ sym (map-append f (reverse xs) (x ∷ [])) ∙ ap (map f) (sym (reverse-append (x ∷ []) xs))

-- the first image that passes is the image of the first element whose image passes
find-map : {X Y : Type 0} (p : Y → Bool) (f : X → Y) (xs : List X) → find p (map f xs) ≡ option_map f (find (λ x. p (f x)) xs)
find-map p f [] = refl
find-map p f (x ∷ xs) =
    elim (p (f x)) as (λ b. cond b (Some (f x)) (find p (map f xs)) ≡ option_map f (cond b (Some x) (find (λ y. p (f y)) xs))) [ true ↦ refl | false ↦ find-map p f xs ]

-- two maps of an option are one
option_map-option_map : {X Y Z : Type 0} (g : Y → Z) (f : X → Y) (o : Option X) → option_map g (option_map f o) ≡ option_map (λ x. g (f x)) o
option_map-option_map g f None = refl
option_map-option_map g f (Some x) = refl

-- a map of a choice of two options
option_map-option_or : {X Y : Type 0} (f : X → Y) (o p : Option X) → option_map f (option_or o p) ≡ option_or (option_map f o) (option_map f p)
option_map-option_or f None p = refl
option_map-option_or f (Some x) p = refl

-- the last file of this name among entries, as a search from their end finds it
pub last_of-files_of : (entries : List (String Global × Vec ℕ Global)) (q : List ℕ) → last_of (files_of entries) q ≡ option_map (λ e. e.1.items) (find (λ e. bytes_eq (string_bytes e.0) q) (reverse entries))
last_of-files_of entries q =
    let file : String Global × Vec ℕ Global → File = λ e. record { name = string_bytes e.0; bytes = e.1.items } in
    let p : File → Bool = λ f. bytes_eq f.name q in
    ap (λ fs. option_map (λ f. f.bytes) (find p fs)) (reverse-map file entries) ∙ ap (option_map (λ f. f.bytes)) (find-map p file (reverse entries)) ∙ option_map-option_map (λ f. f.bytes) file (find (λ e. p (file e)) (reverse entries))

-- a file of the second list hides one of the first
pub last_of-append : (first second : List File) (q : List ℕ) → last_of (first ++ second) q ≡ option_or (last_of second q) (last_of first q)
last_of-append first second q =
    let p : File → Bool = λ f. bytes_eq f.name q in
    ap (λ fs. option_map (λ f. f.bytes) (find p fs)) (reverse-append first second) ∙ ap (option_map (λ f. f.bytes)) (find-append p (reverse second) (reverse first)) ∙ option_map-option_or (λ f. f.bytes) (find p (reverse second)) (find p (reverse first))

-- one more file at the end
last_of-one : (files : List File) (f : File) (q : List ℕ) → last_of (files ++ f ∷ []) q ≡ with_file f.name f.bytes (last_of files) q
last_of-one files f q =
    last_of-append files (f ∷ []) q ∙ elim (bytes_eq f.name q) as (λ b. option_or (option_map (λ (g : File). g.bytes) (cond b (Some f) None)) (last_of files q) ≡ cond b (Some f.bytes) (last_of files q)) [ true ↦ refl | false ↦ refl ]

-- one more entry at the end of what was written sets the name's bytes
pub last_of-pushed : (start : List File) (entries : List (String Global × Vec ℕ Global)) (e : String Global × Vec ℕ Global) → last_of (start ++ files_of (entries ++ e ∷ [])) ≡ with_file (string_bytes e.0) e.1.items (last_of (start ++ files_of entries))
last_of-pushed start entries e =
    let file : String Global × Vec ℕ Global → File = λ x. record { name = string_bytes x.0; bytes = x.1.items } in
    fun_ext (λ q. ap (λ files. last_of (start ++ files) q) (map-append file entries (e ∷ [])) ∙ ap (λ files. last_of files q) (sym (append_assoc start (files_of entries) (file e ∷ []))) ∙ last_of-one (start ++ files_of entries) (file e) q)

-- a name that is written hides the start
pub last_of-written : (start writes : List File) (q bytes : List ℕ) → Some bytes ≡ last_of writes q → Some bytes ≡ last_of (start ++ writes) q
last_of-written start writes q bytes here =
    ap (λ o. option_or o (last_of start q)) here ∙ sym (last_of-append start writes q)

-- a name that isn't written is that of the start
pub last_of-unwritten : (start writes : List File) (q : List ℕ) → None ≡ last_of writes q → last_of start q ≡ last_of (start ++ writes) q
last_of-unwritten start writes q here =
    ap (λ o. option_or o (last_of start q)) here ∙ sym (last_of-append start writes q)
