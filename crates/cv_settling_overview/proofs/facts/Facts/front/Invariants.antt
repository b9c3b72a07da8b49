use Rattle.std.proofs.Common.{◌≡◌, ◌+◌, drop}
use Rattle.std.specs.Prelude.{option_map}
use Rattle.cv_syntax.specs.PoolTrees.{tree_at}
use Rattle.cv_settling_overview.specs.Facts.{front_of}
use Rattle.cv_settling_overview.proofs.Reading.{numbers_below}
use Rattle.cv_settling_overview.proofs.facts.Facts.front.Given as goal

abbrev pub invariant-terms : goal.invariant-terms
invariant-terms l = option_map (λ k. l.count + k) (front_of (tree_at l.pool.trees l.at) (drop l.count l.self.indices.items)) ≡ front_of (tree_at l.pool.trees l.fn.terms) l.self.indices.items

abbrev pub decreases-terms : goal.decreases-terms
decreases-terms l = numbers_below l.at
