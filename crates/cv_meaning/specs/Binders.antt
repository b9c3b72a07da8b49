-- Lists of binders: those of an input, of a branch, of an equation and of a query.
-- Blanchet, TDSC 2008, section 2.
use Rattle.std.specs.Prelude.{ℕ, suc, max, Bool, true, false, ◌&&◌, nat_lt, List, [], ◌∷◌}
use Rattle.cv_syntax_trees.specs.declared.head.Head.TheVariants.{Binder, Name}
use Rattle.cv_syntax_trees.specs.Tree.{Tree, Empty, Node}
use Rattle.cv_meaning.specs.Memory.{Store, Local, put, tuple, with_store}
-- the variables of a list of binders
pub use Rattle.cv_syntax_trees.specs.Tree.{bound_names}

-- there is a value below its bound for each binder, and no other
abbrev pub fits : (ℕ → ℕ) → Tree → List ℕ → Bool
fits size Empty [] = true
fits size (Node (Binder x T) a b) (v ∷ vs) = nat_lt v (size T) && fits size b vs
fits size _ _ = false

-- the same for a list of the names of types
abbrev pub fits_types : (ℕ → ℕ) → Tree → List ℕ → Bool
fits_types size Empty [] = true
fits_types size (Node (Name T) a b) (v ∷ vs) = nat_lt v (size T) && fits_types size b vs
fits_types size _ _ = false

abbrev pub binder_count : Tree → ℕ
binder_count Empty = 0
binder_count (Node h a b) = suc (binder_count b)

abbrev pub widest_binder : (ℕ → ℕ) → Tree → ℕ
widest_binder size (Node (Binder x T) a b) = max (size T) (widest_binder size b)
widest_binder size _ = 0

-- assigns the binders' variables, at one tuple
unfoldable pub bound_to : Store → List ℕ → Tree → List ℕ → Store
bound_to m u (Node (Binder x T) a b) (v ∷ vs) = bound_to (put m x u v) u b vs
bound_to m u _ _ = m

-- the same in the state of a service, at the current indices
abbrev pub with_bound : Local → Tree → List ℕ → Local
with_bound s bs vs = with_store s (bound_to s.memory.store (tuple s.indices) bs vs)
