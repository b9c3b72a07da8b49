-- The right side has a function where the left side has one, with as many arguments.
use Rattle.std.proofs.Common.{◌≡◌, ℕ, zero, suc, true, false, List, [], ◌∷◌, map, Option, Some, None, refl, sym, ap, ◌∙◌}
use Rattle.std.proofs.lemmas.Bool.{and_parts, both_ways}
use Rattle.std.specs.Prelude.{slice_get}
use Rattle.cv_syntax_trees.specs.Head.{same_head}
use Rattle.cv_syntax_trees.specs.Tree.{Tree, Empty, Node, chain, first, same_tree, second}
use Rattle.cv_syntax_trees.proofs.Equality.{same_tree_exact}
use Rattle.cv_meaning.specs.Correspondences.{typed_names}
use Rattle.cv_meaning.specs.contexts.Groups.{Function, function_of, functions_of}
use Rattle.cv_group_rules.specs.Rules.{all_agree, functions_agree, same_bound, take_alike}
use Rattle.cv_scene.specs.Standing.{AreAsMany}
use Rattle.cv_inline_names_laws.specs.accepted.RightBodies.{are_as_many}
use Rattle.cv_inline_names_laws.proofs.covered.Functions.{some_is, none_is}
use Rattle.cv_syntax_trees.proofs.lists.Options.{slice_get_map}

-- a function of the other side at a position, which takes as much
pub record HasOther (functions : Tree) (k : ℕ) (f : Function) : Type 0 where
  pub function : Function
  pub there : slice_get (functions_of functions) k ≡ Some function
  pub arguments : function.arguments ≡ f.arguments

taken_alike : (s t : Tree) → take_alike s t ≡ true → second s ≡ second t
taken_alike (Node h a b) (Node k c d) e = same_tree_exact b d (and_parts (same_bound h k) (same_tree b d) e).1
taken_alike Empty t e = absurd (both_ways false refl e)
taken_alike (Node h a b) Empty e = absurd (both_ways false refl e)

alike : (s t : Tree) → functions_agree s t ≡ true → second (first s) ≡ second (first t)
alike (Node h a b) (Node k c d) e = taken_alike a c (and_parts (same_head h k) (take_alike a c) e).1
alike Empty t e = absurd (both_ways false refl e)
alike (Node h a b) Empty e = absurd (both_ways false refl e)

pub other : (left right : Tree) → all_agree left right ≡ true → (k : ℕ) (f : Function) → slice_get (functions_of left) k ≡ Some f → HasOther right k f
unfolding all_agree
other Empty right e k f i = absurd (none_is f i)
other (Node h s more) Empty e k f i = absurd (both_ways false refl e)
other (Node h s more) (Node j t rest) e zero f i =
    record { function = function_of t; there = refl; arguments = ap typed_names (sym (alike s t (and_parts (functions_agree s t) (all_agree more rest) e).0)) ∙ ap (λ (g : Function). g.arguments) (some_is (function_of s) f i) }
other (Node h s more) (Node j t rest) e (suc k) f i =
    let r = other more rest (and_parts (functions_agree s t) (all_agree more rest) e).1 k f i in
    record { function = r.function; there = r.there; arguments = r.arguments }

pub many : (xs : List (ℕ × ℕ)) (ms : List Tree) → AreAsMany xs ms → are_as_many xs (chain ms) ≡ true
many [] [] h = refl
many (x ∷ xs) (m ∷ ms) h = many xs ms h
many [] (m ∷ ms) h = refl
many (x ∷ xs) [] h = absurd h

-- what a slice_get_map list has comes from the list
pub record IsFrom {A B : Type 0} (f : A → B) (xs : List A) (n : ℕ) (y : B) : Type 0 where
  pub item : A
  pub there : slice_get xs n ≡ Some item
  pub is : f item ≡ y

pub from_map : {A B : Type 0} (f : A → B) (xs : List A) (n : ℕ) (y : B) → slice_get (map f xs) n ≡ Some y → IsFrom f xs n y
from_map f [] n y e = absurd (cc)
from_map f (x ∷ xs) zero y e = record { item = x; there = refl; is = (let same : f x ≡ y = cc in same) }
from_map f (x ∷ xs) (suc n) y e = let r = from_map f xs n y e in record { item = r.item; there = r.there; is = r.is }
