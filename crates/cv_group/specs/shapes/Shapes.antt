-- Shapes of sides, and names that are taken out of a set.
use Rattle.std.specs.Prelude.{ℕ, Bool, false, true, ◌&&◌, ◌==◌, if◌then◌else◌, List, [], ◌∷◌}
use Rattle.cv_syntax_trees.specs.Tree.{Tree, second}
use Rattle.cv_group_rules.specs.Rules as rule

-- the shapes of two sides
abbrev pub sides_agree : Tree → Tree → Bool
sides_agree s t = rule.groups_agree s t && (rule.are_distinct (rule.bounds (second s)) && rule.are_distinct (rule.bounds (second t)))

-- names are taken out of a set, one by one, as long as each is there

abbrev pub without : (ℕ → Bool) → ℕ → ℕ → Bool
without free x y = if x == y then false else free y

abbrev pub without_all : (ℕ → Bool) → List ℕ → ℕ → Bool
without_all free [] = free
without_all free (x ∷ xs) = without_all (without free x) xs

abbrev pub are_taken : (ℕ → Bool) → List ℕ → Bool
are_taken free [] = true
are_taken free (x ∷ xs) = free x && are_taken (without free x) xs
