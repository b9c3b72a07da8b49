-- Where no name is given a term, a tree stays as it is.
use Rattle.std.proofs.Common.{◌≡◌, ℕ, List, [], ◌∷◌, None, map, take, refl, ap, ap₂, ◌∙◌}
use Rattle.cv_syntax_trees.specs.declared.head.Head.{Head}
use Rattle.cv_syntax_trees.specs.declared.head.Head.TheVariants.{Leaf}
use Rattle.cv_syntax_trees.specs.Tree.{Tree, Empty, Node}
use Rattle.cv_scene.specs.lines.Given.{given_for, or_node, with_given}
use Rattle.cv_derive_reasons.specs.substitution.Under.{under}

none_given : (terms : Tree) (h : Head) → given_for [] terms h ≡ None
none_given terms (Leaf x) = refl
none_given terms h = refl

plain : (terms t : Tree) → with_given [] terms t ≡ t
unfolding with_given
plain terms Empty = refl
plain terms (Node h a b) = ap (λ o. or_node o h (with_given [] terms a) (with_given [] terms b)) (none_given terms h) ∙ ap₂ (λ x y. Node h x y) (plain terms a) (plain terms b)

all_plain : (terms : Tree) (ts : List Tree) → map (under [] terms) ts ≡ ts
all_plain terms [] = refl
all_plain terms (t ∷ ts) = ap₂ (λ x xs. x ∷ xs) (plain terms t) (all_plain terms ts)

-- the first no names are none
pub none_under : (names rs : List (ℕ × ℕ)) (terms : Tree) (ts : List Tree) → names ≡ take 0 rs → map (under names terms) ts ≡ ts
none_under names rs terms ts e = ap (λ ns. map (under ns terms) ts) e ∙ all_plain terms ts
