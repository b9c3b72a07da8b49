-- A pool as its trees, its limit and its spare room.
use Rattle.std.specs.Prelude.{ℕ, ◌≡◌, ◌+◌, List, [], ◌∷◌, ◌++◌, length, take, refl}
use Rattle.cv_pool.specs.KindTree.{KindTree, coded_tree}
use Rattle.std.specs.Coded.{Coded, code_by, coded×, coded_ℕ, coded_list}

-- what a contract sees of a pool
pub record PoolView : Type 0 where
  pub trees : List KindTree
  pub limit : ℕ
  pub spare : ℕ

-- a view in one code
abbrev pub coded_view : Coded PoolView
coded_view =
    code_by (List KindTree × (ℕ × ℕ)) (coded× (coded_list coded_tree) (coded× coded_ℕ coded_ℕ)) (λ s. (s.trees, (s.limit, s.spare))) (λ p. record { trees = p.0; limit = p.1.0; spare = p.1.1 }) (λ _. refl)

-- every live node stays as it was
pub record Grows (old new : PoolView) : Type 0 where
  pub kept : take (length old.trees) new.trees ≡ old.trees
  pub limit : new.limit ≡ old.limit

-- this tree comes behind the others, and takes one of the spare places
pub record Adds (old new : PoolView) (tree : KindTree) : Type 0 where
  pub trees : new.trees ≡ old.trees ++ tree ∷ []
  pub limit : new.limit ≡ old.limit
  pub spare : new.spare + 1 ≡ old.spare
