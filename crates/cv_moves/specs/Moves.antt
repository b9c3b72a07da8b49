-- Which steps count as moves, where no proof block gives them. This profile's own.
use Rattle.std.specs.Prelude.{ℕ, suc, ◌≤◌, Bool, true, false, List, [], ◌∷◌}
use Rattle.cv_syntax_trees.specs.declared.head.Head.TheVariants.{ArrayRenameStep, CryptoStep, UnletStep}
use Rattle.cv_syntax_trees.specs.Tree.{Tree, Node}

-- a cryptographic one, one that gives the copies of an array names of their own, and an `unlet` where it is advised and not one that settles
-- a game

abbrev pub is_move : (advised : Bool) → (step : Tree) → Bool
is_move advised (Node CryptoStep a b) = true
is_move advised (Node ArrayRenameStep a b) = true
is_move advised (Node UnletStep a b) = advised
is_move advised t = false

abbrev pub moves_more : (is_move : Bool) → ℕ → ℕ
moves_more true n = suc n
moves_more false n = n

abbrev pub moves_among : (advised : Bool) → List Tree → ℕ
moves_among advised [] = 0
moves_among advised (t ∷ ts) = moves_more (is_move advised t) (moves_among advised ts)

-- so many of these steps were counted as moves: each that is one in any case, and of the `unlet`s some
pub record AreMoves (steps : List Tree) (made : ℕ) : Type 0 where
  pub least : moves_among false steps ≤ made
  pub most : made ≤ moves_among true steps
