-- What the tables of a check hold.
use Rattle.std.specs.Prelude.{ℕ, nat_eq, ◌==◌, if◌then◌else◌, List, [], ◌∷◌, Option, Some, None}
use Rattle.std.specs.declared.hash.FoldHasher.{FoldHasher}
use Rattle.std.specs.declared.hash.BuildHasherDefault.{BuildHasherDefault}
use Rattle.std.specs.HashMap.{get, HashMap}
use Rattle.cv_syntax_trees.specs.declared.head.Head.{Head}
use Rattle.cv_syntax_trees.specs.Tree.{Tree, first, second}
use Rattle.cv_syntax_trees.specs.declared.sites.sort.Sort.{Sort}
use Rattle.cv_typing.specs.declared.arrays.Arrays.{Arrays}
use Rattle.cv_typing.specs.declared.arrays.Arrays.TheVariants as held
use Rattle.cv_typing.specs.declared.locals.Locals.{Locals}
use Rattle.cv_typing.specs.declared.locals.Own.{Own}
use Rattle.cv_scope_rules.specs.typing.Signature as signature
use Rattle.cv_scope_rules.specs.typing.Signature.{Above}
use Rattle.cv_directory.specs.declared.directory.Directory.{Directory}
use Rattle.cv_directory.specs.Tables.{seen}
use Rattle.cv_syntax_trees.specs.sites.Sites.{first_of}
use Rattle.cv_scope_rules.specs.typing.Parts.{bound_at, local_here, local_in, own_sort, sort_by_bound}

abbrev pub Map : Type 0 → Type 0
Map X = HashMap ℕ X (BuildHasherDefault FoldHasher)

-- the names above that a map holds
abbrev pub above_of : Map Sort → Above
above_of m x = get nat_eq m x

-- names above, with what stood there before for the names of a list; of two entries of one name the first counts
abbrev pub restored : Above → List (ℕ × Option Sort) → Above
restored above [] y = above y
restored above (p ∷ ps) y = if p.0 == y then p.1 else restored above ps y

-- names, and else what a body binds

abbrev pub with_here : Above → Head → Above
with_here above h y = first_of (above y) (local_here y h)

abbrev pub with_body : Above → Tree → Above
with_body above body y = first_of (above y) (local_in y body)

-- the names of functions, by bound

abbrev pub ByBound : Type 0
ByBound = ℕ → ℕ → Option Sort

-- the sort of a name of the functions with a bound: of the first of these that binds it
abbrev pub by_bound_in : List Own → ByBound
by_bound_in [] m x = None
by_bound_in (f ∷ fs) m x = if f.bound == m then first_of (above_of f.sorts x) (by_bound_in fs m x) else by_bound_in fs m x

abbrev pub locals_of : Locals → ByBound
locals_of l = by_bound_in l.functions.items

-- the directory, where it holds the variables of a game
abbrev pub directory_in : Arrays → Option Directory
directory_in (held.OfGame d) = Some d
directory_in (held.OfSide locals own) = None
directory_in held.OfNothing = None

abbrev pub arrays_of : Arrays → signature.Arrays
arrays_of (held.OfGame s) = signature.OfGame (seen s)
arrays_of (held.OfSide l own) = signature.OfSide (locals_of l) (above_of own)
arrays_of held.OfNothing = signature.OfNothing

-- what is known of names, and else what a function with a bound says of them
abbrev pub and_else : ByBound → ℕ → (ℕ → Option Sort) → ByBound
and_else l m f n y = first_of (l n y) (if m == n then f y else None)

abbrev pub with_function : ByBound → Tree → ByBound
with_function l f = and_else l (bound_at (first f)) (λ y. own_sort y (first f) (second f))

abbrev pub with_functions : ByBound → Tree → ByBound
with_functions l functions n y = first_of (l n y) (sort_by_bound functions n y)
