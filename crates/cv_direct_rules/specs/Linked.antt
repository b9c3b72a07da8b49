-- What is plainly so at a place: it is a conjunct there, or follows by a chain of equations, either way round. This profile's own.
use Rattle.std.specs.Prelude.{◌≡◌, ℕ, Bool, true, ◌||◌, List, ◌++◌, flat_map}
use Rattle.std.specs.List.{list_any}
use Rattle.cv_syntax_trees.specs.declared.head.Head.TheVariants.{Eq, Not}
use Rattle.cv_syntax_trees.specs.Tree.{Tree, Empty, Node, same_tree}
use Rattle.cv_scene.specs.Scenes.{Scene}
use Rattle.cv_scene.specs.Sights.{sight_at, site_facts}
use Rattle.cv_scene.specs.lines.Truths.{no, yes}
use Rattle.cv_settling_rules.specs.Conjuncts.{conjuncts, is_among}

-- the conjuncts at a place
abbrev pub known_at : Scene → (place : ℕ) → List Tree
known_at s p = conjuncts (sight_at s p).facts

-- and those of the facts behind the only definition of a variable, where a cell of it is directly defined at the place
abbrev pub links_at : Scene → (place : ℕ) → List Tree
links_at s p = known_at s p ++ flat_map (λ c. conjuncts (site_facts (sight_at s p) c)) (sight_at s p).cells

-- two terms are joined by equations among these
pub data AreJoined (links : List Tree) : (m n : Tree) → Type 0 where
  alike : (m : Tree) → AreJoined links m m
  forth : (l m n : Tree) → is_among links (Node Eq l m) ≡ true → AreJoined links m n → AreJoined links l n
  back : (l m n : Tree) → is_among links (Node Eq m l) ≡ true → AreJoined links m n → AreJoined links l n

-- those of two lists are, one by one
abbrev pub AreAllJoined : (links : List Tree) → (ms ns : Tree) → Type 0
AreAllJoined links Empty Empty = Unit {0}
AreAllJoined links (Node h m ms) (Node k n ns) = AreJoined links m n × AreAllJoined links ms ns
AreAllJoined links ms ns = ⊥

-- a term is `true`, an equation of two that are joined, or a conjunct
abbrev pub IsLinked : Scene → (place : ℕ) → (term : Tree) → Type 0
IsLinked s p (Node Eq m n) = AreJoined (links_at s p) m n
IsLinked s p t = (same_tree t yes || is_among (known_at s p) t) ≡ true

-- what is known contradicts itself
abbrev pub is_contradictory : (known : List Tree) → Bool
is_contradictory ts = is_among ts no || list_any (λ t. is_among ts (Node Not t Empty)) ts
