-- Lists whose elements have a property, and whose elements are related in pairs.
use Rattle.std.proofs.Common.{◌≡◌, Bool, false, List, [], ◌∷◌, ◌++◌}
use Rattle.std.specs.List.{AllByRecursion, IsDistinct}
use Rattle.cv_syntax_trees.proofs.lists.Each.{AllByRecursion_left, AllByRecursion_append}

abbrev pub Pairwise : {A : Type 0} → (A → A → Type 0) → List A → Type 0
Pairwise R [] = Unit {0}
Pairwise R (x ∷ xs) = AllByRecursion (R x) xs × Pairwise R xs

pub pairwise_append : {A : Type 0} (R : A → A → Type 0) (xs ys : List A) → Pairwise R xs → Pairwise R ys → AllByRecursion (λ x. AllByRecursion (R x) ys) xs → Pairwise R (xs ++ ys)
pairwise_append R [] ys p q c = q
pairwise_append R (x ∷ xs) ys p q c = (AllByRecursion_append (R x) xs ys p.0 c.0, pairwise_append R xs ys p.1 q c.1)

pub distinct_right : {A : Type 0} (p : A → A → Bool) (xs ys : List A) → IsDistinct p (xs ++ ys) → IsDistinct p ys
unfolding IsDistinct
distinct_right p [] ys d = d
distinct_right p (x ∷ xs) ys d = distinct_right p xs ys d.1

pub distinct_left : {A : Type 0} (p : A → A → Bool) (xs ys : List A) → IsDistinct p (xs ++ ys) → IsDistinct p xs
unfolding IsDistinct
distinct_left p [] ys d = tt
distinct_left p (x ∷ xs) ys d = (AllByRecursion_left (λ y. p x y ≡ false) xs ys d.0, distinct_left p xs ys d.1)
