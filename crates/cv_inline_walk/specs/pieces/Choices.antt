-- The branches of a find of the next game: for each site those of the text that go over its calls. This profile's own.
use Rattle.std.specs.Prelude.{ℕ, ◌<◌, List, [], ◌∷◌, ◌++◌, length, map, slice_get, Option, Some, None, option_map}
use Rattle.cv_pool.specs.KindTree.{KindTree}
use Rattle.cv_pool.specs.declared.node.NodeId.{NodeId}
use Rattle.cv_syntax_trees.specs.Tree.{Tree, Empty}
use Rattle.cv_meaning.specs.contexts.Inlined.{Caller, Drawn, Scope}
use Rattle.cv_inline.specs.declared.terms.calling.Calling.{Calling}
use Rattle.cv_inline.specs.terms.Callers.{caller_in}
use Rattle.cv_inline_sites.specs.declared.pairs.pairs.Pair as code
use Rattle.cv_inline_sites.specs.pairs.Pairs.{IsPairOver, Pair, branch_of_pair, pair_in, pairs_with}
use Rattle.cv_inline_walk.specs.declared.pieces.choices.Choice.{Choice}

abbrev pub caller_of : List KindTree → Calling → Caller
caller_of trees s = caller_in trees s.caller

abbrev pub choice_in : List KindTree → List Calling → Choice → Option Caller × Pair
choice_in trees callings q = (option_map (caller_of trees) (slice_get callings q.other), pair_in trees q.pair)

-- for each site in order the branches of a list at a place
abbrev pub choices_over : List Caller → (place : ℕ) → Tree → List (Option Caller × Pair)
choices_over [] p t = []
choices_over (s ∷ ss) p t = map (λ (q : Pair). (Some s, q)) (pairs_with s.bound 0 p t) ++ choices_over ss p t

-- its branch in the next game, where the bodies of branches stand so
abbrev pub branch_by : Drawn → Caller → Scope → (name : ℕ → ℕ → ℕ → ℕ) → (inner : ℕ → Scope → Tree → Tree) → Option Caller → Pair → Tree
branch_by d c Σ name inner None q = Empty
branch_by d c Σ name inner (Some s) q = branch_of_pair d c Σ (name s.number) (λ k p Τ b. inner p Τ b) s q

abbrev pub choose : ℕ → code.Pair → Choice
choose other q = record { other = other; pair = q }

-- the site is there, and the branch is one of a list of the pool at a place
pub record IsChoice (trees : List KindTree) (callings : List Calling) (place : ℕ) (list : Option NodeId) (q : Choice) : Type 0 where
  pub site : q.other < length callings
  pub pair : IsPairOver trees place list q.pair

-- trees one by one over those that are there
abbrev pub onto : List Tree → List Tree → List Tree
onto [] ts = ts
onto (b ∷ bs) ts = onto bs (b ∷ ts)
