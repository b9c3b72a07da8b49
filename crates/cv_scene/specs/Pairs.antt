-- A derivation at two places of a game, of each of which a copy is reached in one run: its lines speak of both copies. The indices of the
-- second copy have names of their own: those of the game, raised by a number. This profile's own.
use Rattle.std.specs.Prelude.{ℕ, ◌+◌, List, ◌++◌, map, Option, Some}
use Rattle.cv_syntax_trees.specs.Tree.{Tree, chain}
use Rattle.cv_scope_rules.specs.Above.{stands_at}
use Rattle.cv_scene.specs.lines.Given.{with_given}
use Rattle.cv_scene.specs.Late.{index_term}
use Rattle.cv_scene.specs.Scenes.{Scene}
use Rattle.cv_scene.specs.Sights.{Sight, cells_by, facts_by, sight_at}
use Rattle.cv_scene.specs.Terms.{replications_at}

-- an index, with its parameter, under its name in the second copy
abbrev pub second_index : ℕ → ℕ × ℕ → ℕ × ℕ
second_index k r = (r.0 + k, r.1)

abbrev pub second_indices : ℕ → List (ℕ × ℕ) → List (ℕ × ℕ)
second_indices k rs = map (second_index k) rs

-- a term over these indices, of the second copy
abbrev pub of_second : ℕ → List (ℕ × ℕ) → Tree → Tree
of_second k rs t = with_given (map (λ (r : ℕ × ℕ). r.0) rs) (chain (map index_term (second_indices k rs))) t

abbrev pub all_of_second : ℕ → List (ℕ × ℕ) → List Tree → List Tree
all_of_second k rs ts = map (of_second k rs) ts

-- What a derivation may cite at two places: what it may cite at the first, and of the second the same under the other names; the equations
-- that are given; and the arrays whose values are taken to differ.
abbrev pub pair_at : Scene → (p q k : ℕ) → (given : List Tree) → (distinct : List ℕ) → Sight
pair_at s p q k given distinct =
    let other = replications_at s q in
    record (sight_at s p) {
      replications = replications_at s p ++ second_indices k other;
      pair =
          Some (record {
            facts = all_of_second k other (facts_by (stands_at s.game q));
            cells = all_of_second k other (cells_by (stands_at s.game q));
            given = given;
            distinct = distinct;
          });
    }
