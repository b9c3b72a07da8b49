-- What holds of each element of a list.
use Rattle.std.proofs.Common.{◌≡◌, Bool, true, false, ◌||◌, List, [], ◌∷◌, ◌++◌, flat_map, refl}
use Rattle.std.proofs.lemmas.Bool.{both_ways}
use Rattle.std.specs.List.{AllByRecursion}
use Rattle.cv_syntax_trees.proofs.lists.Each.{AllByRecursion_append}

pub each_flat_map : {A B : Type 0} (P : A → Type 0) (f : B → List A) (xs : List B) → ((x : B) → AllByRecursion P (f x)) → AllByRecursion P (flat_map f xs)
each_flat_map P f [] h = tt
each_flat_map P f (x ∷ xs) h = AllByRecursion_append P (f x) (flat_map f xs) (h x) (each_flat_map P f xs h)
