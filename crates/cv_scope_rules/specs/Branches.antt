-- What the rules on sites say of a whole tree: sites of one name are alike, and stand in different branches of one `if`
-- or `find`.
use Rattle.std.specs.Prelude.{◌≡◌, ℕ, false, List, [], ◌∷◌, ◌++◌}
use Rattle.std.specs.List.{AllByRecursion}
use Rattle.cv_syntax_trees.specs.Tree.{Tree, Empty, Node, first_place, second_place}
use Rattle.cv_scope_rules.specs.declared.position.Position.{Position}
use Rattle.cv_scope_rules.specs.declared.position.Position.TheVariants.{Anywhere}
use Rattle.cv_scope_rules.specs.Context.{first_position, second_position, replications_below}
use Rattle.cv_scope_rules.specs.Rules.{AreAlike}
use Rattle.cv_scope_rules.specs.Sites.{Site, sites_here, sites_from}
use Rattle.cv_scope_rules.specs.Standing.{parts_ways}

-- two sites of one name have the same replications and types
abbrev pub IsLike : Site → Site → Type 0
IsLike e s = e.name ≡ s.name → AreAlike e s

-- each two elements, the earlier one first
abbrev pub Pairs : {A : Type 0} → (A → A → Type 0) → List A → Type 0
Pairs R [] = Unit {0}
Pairs R (x ∷ xs) = AllByRecursion (R x) xs × Pairs R xs

-- each element of one list with each of another
abbrev pub Each : {A : Type 0} → (A → A → Type 0) → List A → List A → Type 0
Each R xs ys = AllByRecursion (λ x. AllByRecursion (R x) ys) xs

abbrev pub AreSitesAlike : Tree → Type 0
AreSitesAlike game = Pairs IsLike (sites_from [] 0 game)

abbrev pub HasOtherName : Site → Site → Type 0
HasOtherName e s = e.name ≡ s.name → ⊥

-- a node shares no name with what stands below it, nor do its children with each other unless they are different branches
unfoldable pub AreInDifferentBranches : Position → List (ℕ × ℕ) → ℕ → Tree → Type 0
AreInDifferentBranches w rs p Empty = Unit {0}
AreInDifferentBranches w rs p (Node h a b) =
    Each HasOtherName (sites_here rs p h a) (sites_from rs (first_place p h) a ++ sites_from (replications_below h rs) (second_place p h a) b)
    × (parts_ways w h ≡ false → Each HasOtherName (sites_from rs (first_place p h) a) (sites_from (replications_below h rs) (second_place p h a) b))
    × AreInDifferentBranches (first_position w h) rs (first_place p h) a
    × AreInDifferentBranches (second_position w h) (replications_below h rs) (second_place p h a) b

abbrev pub IsApartByBranches : Tree → Type 0
IsApartByBranches game = AreInDifferentBranches Anywhere [] 0 game
