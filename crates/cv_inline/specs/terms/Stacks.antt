-- What a list of parts has made so far. This profile's own.
use Rattle.std.specs.Prelude.{ℕ, suc, List, [], ◌∷◌}
use Rattle.cv_syntax_trees.specs.declared.head.Head.TheVariants.{Cons, Eq}
use Rattle.cv_syntax.specs.declared.make.Make.{Make}
use Rattle.cv_syntax.specs.Postorder.{made}
use Rattle.cv_syntax_trees.specs.Tree.{Tree, Empty, Node}
use Rattle.cv_meaning.specs.contexts.Inlined.{read_at}

-- the trees, the newest first
abbrev pub stack : List Make → List Tree
stack parts = made [] parts

-- the list of indices, as they are read here
unfoldable pub tuple_at : Tree → List ℕ → Tree
tuple_at here [] = Empty
tuple_at here (u ∷ us) = Node Cons (read_at u here) (tuple_at here us)

-- that two indices are equal, as they are read here
abbrev pub equation : Tree → (u w : ℕ) → Tree
equation here u w = Node Eq (read_at u here) (read_at w here)

-- the indices of a branch by name
abbrev pub names_from : (ℕ → ℕ) → ℕ → List (ℕ × ℕ) → List ℕ
names_from name k [] = []
names_from name k (r ∷ rs) = name k ∷ names_from name (suc k) rs
