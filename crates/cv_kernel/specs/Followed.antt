-- What a sequence of games has that has followed steps of a file, and what the next one may lack.
use Rattle.std.specs.Prelude.{◌≡◌, ℕ, ◌+◌, ◌≤◌, Bool, List, [], ◌∷◌, length, map, nat_lt, Option, Some, None}
use Rattle.cv_bound.specs.costs.Sums.{no_sums, sum_for, with_cost}
use Rattle.cv_bound.specs.declared.closings.queries.ClosedQuery.{ClosedQuery}
use Rattle.cv_bound.specs.declared.cost.Cost.{Cost}
use Rattle.cv_bound.specs.declared.costs.sums.Sums.{Sums}
use Rattle.cv_kernel_crypto.specs.Applied as crypto
use Rattle.cv_pool.specs.KindTree.{KindTree}
use Rattle.cv_scene.specs.Scenes.{Scene}
use Rattle.cv_script.specs.Views.{StepItems}
use Rattle.cv_script.specs.Views as items
use Rattle.cv_syntax_trees.specs.Declarations.{Declaration}
use Rattle.cv_syntax_trees.specs.Tree.{Tree}
use Rattle.cv_kernel.specs.Answers.{HasNoRoom}
use Rattle.cv_kernel.specs.Closings.{Closing, closing_in, is_of_secrecy, judgement_in}
use Rattle.cv_kernel.specs.Proofs.{IsProof, Transition, nodes_along, sums_behind}
use Rattle.cv_kernel.specs.Sequences.{game_in, needed}
use Rattle.cv_kernel.specs.declared.sequence.Sequence.{Sequence}

-- the names of a file are the first ones
abbrev pub known_to : (own : ℕ) → ℕ → Bool
known_to own x = nat_lt x own

-- what a sequence holds behind transitions: the sums of those that close no query, and the queries that others close

abbrev pub sums_along : Sums → List Transition → Sums
sums_along sums [] = sums
sums_along sums (t ∷ ts) = sums_along (sums_behind sums (closing_in t.step) t.cost) ts

abbrev pub closed_before : Sums → Cost → Option Closing → List ClosedQuery → List ClosedQuery
closed_before sums cost None later = later
closed_before sums cost (Some c) later = record { query = c.query; sum = sum_for (is_of_secrecy c) (with_cost sums cost) } ∷ later

abbrev pub closings_from : Sums → List Transition → List ClosedQuery
closings_from sums [] = []
closings_from sums (t ∷ ts) =
    closed_before sums t.cost (closing_in t.step) (closings_from (sums_behind sums (closing_in t.step) t.cost) ts)

-- The steps in front were accepted: the sequence has what they lead to, in a pool that had so many nodes before.
pub record HasFollowed (before : ℕ) (ds : List Declaration) (own : ℕ) (first : Tree) (front : List Tree) (trees : List KindTree) (s : Sequence) : Type 0 where
  pub proof : List Transition
  pub steps : front ≡ map (λ t. t.step) proof
  pub leads : IsProof ds (known_to own) first proof (game_in trees s)
  pub count : s.steps ≡ length proof
  pub sum : s.sum ≡ sums_along no_sums proof
  pub closed : s.closed ≡ closings_from no_sums proof
  pub nodes : length trees ≤ before + nodes_along ds (known_to own) first proof

-- a pool with this limit and so many nodes has no room for what a step draws: a cryptographic one its context and then its next game
abbrev pub LacksRoomFor : (limit taken : ℕ) → Scene → (closed : List ℕ) → (step : Tree) → Option StepItems → (need : ℕ) → Type 0
LacksRoomFor limit taken s closed step (Some (items.Crypto e x)) need = crypto.HasNoRoom limit taken s e x need
LacksRoomFor limit taken s closed step other need = HasNoRoom limit taken (needed s.game step) (judgement_in s closed step) need
