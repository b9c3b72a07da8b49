-- The inputs that an input process makes available. Blanchet, TDSC 2008, section 2.
use Rattle.std.specs.Prelude.{ℕ, List, [], ◌∷◌, ◌++◌, flat_map}
use Rattle.cv_syntax_trees.specs.declared.head.Head.TheVariants.{Par, Repl, In}
use Rattle.cv_syntax_trees.specs.Tree.{Tree, Empty, Node, first, second, first_place, second_place}
use Rattle.cv_meaning.specs.Interpretation.{Setting}
use Rattle.cv_meaning.specs.Memory.{Indices}
use Rattle.cv_meaning.specs.Candidates.{below}

-- a copy of an input
pub record Input : Type 0 where
  pub channel : ℕ
  pub indices : Indices
  pub tree : Tree  -- from the input's node on
  pub place : ℕ

-- the binders of an input's message
abbrev pub message_binders : Input → Tree
message_binders i = second (first i.tree)

-- all copies, with every replication expanded
unfoldable pub inputs_of : Setting → Tree → ℕ → Indices → List Input
inputs_of g Empty p at = []
inputs_of g (Node Par a b) p at = inputs_of g a (first_place p Par) at ++ inputs_of g b (second_place p Par a) at
inputs_of g (Node (Repl i n) a b) p at = flat_map (λ v. inputs_of g b (second_place p (Repl i n) a) (at ++ (i, v) ∷ [])) (below (g.interpretation.parameter_value n))
inputs_of g (Node (In c) a b) p at = record { channel = c; indices = at; tree = Node (In c) a b; place = p } ∷ []
inputs_of g (Node h a b) p at = []
