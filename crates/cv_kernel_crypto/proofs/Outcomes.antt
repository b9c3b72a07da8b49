-- What is said of a step whose conditions hold, by the next game that is drawn for it.
use Rattle.std.proofs.Common.{◌≡◌, ℕ, ◌+◌, ◌<◌, ◌≤◌, inl, inr, Bool, true, false, nat_lt, if◌then◌else◌, List, Some, None, Result, Ok, Err, refl, sym, ap, ◌∙◌, subst, arith}
use Rattle.std.proofs.lemmas.Bool.Decides.{nat_tests}
use Rattle.std.specs.Prelude.{IsErrAnd}
use Rattle.cv_pool.specs.KindTree.{KindTree}
use Rattle.cv_pool.specs.declared.node.NodeId.{NodeId}
use Rattle.cv_pool.specs.declared.pool.PoolError.{PoolError}
use Rattle.cv_pool.specs.declared.pool.PoolError.TheVariants as pool
use Rattle.cv_syntax.specs.declared.work.BuildError.{BuildError}
use Rattle.cv_syntax.specs.declared.work.BuildError.TheVariants as build
use Rattle.cv_syntax_trees.specs.Tree.{Tree, depth, size}
use Rattle.cv_scene.specs.Reductions.{context_of_game}
use Rattle.cv_scene.specs.Scenes.{Scene}
use Rattle.cv_inline_walk.specs.Made.{IsMade}
use Rattle.cv_steps_laws.specs.crypto.Conditions.{equivalence_of, failure_of}
use Rattle.cv_steps_laws.specs.crypto.Steps.{Accepted, IsNextGame, IsOutcome, IsOutcomeBy, IsOutcomeOf, Outcome, Refused, TooDeep, TooLarge, is_next, reduction_of}
use Rattle.cv_syntax.specs.limits.Limits.{nodes_of, told}
use Rattle.cv_kernel_crypto.specs.declared.fault.CryptoFault.{CryptoFault}
use Rattle.cv_kernel_crypto.specs.declared.fault.CryptoFault.TheVariants as crypto
use Rattle.cv_kernel_crypto.specs.Applied.{IsContext, IsDrawn, IsFaultOf}
use Rattle.cv_kernel_crypto.specs.Faults.{of_pool}
use Rattle.cv_kernel_crypto.specs.Stages.{IsBuilt}

-- a fault that was passed on
pub built_through : (limit live : ℕ) (s : Scene) (e x : ℕ) (trees : List KindTree) (r : Result NodeId CryptoFault) (f : CryptoFault) → IsErrAnd r (λ y. y ≡ f) → IsFaultOf limit live s e x f → IsBuilt limit live s e x trees r
built_through limit live s e x trees (Ok n) f i h = absurd i
built_through limit live s e x trees (Err y) f i h = subst (IsFaultOf limit live s e x) (sym i) h

module _ (s : Scene) (e x : ℕ) (t : Tree) (named : equivalence_of s e ≡ Some t) (met : failure_of s e x ≡ None) where
  abbrev pub context : Tree
  context = (context_of_game (reduction_of s t x)).game

  pub is_context : IsContext s e x context
  is_context = record { equivalence = t; named = named; tree = refl }

  -- the pool has no room for the context
  pub no_context : (limit live : ℕ) (f : PoolError) → ((n : ℕ) → f ≡ pool.Full n → (n ≡ nodes_of context) × (limit < live + n)) → IsFaultOf limit live s e x (of_pool f)
  no_context limit live (pool.Full n) h = record { failure = met; context = context; made = is_context; full = inl (h n refl) }
  no_context limit live pool.OutOfMemory h = tt

  by_outcome : (o : Outcome) → IsOutcomeOf s t x o → IsOutcome s e x o
  by_outcome o h = subst (λ q. IsOutcomeBy s q x (failure_of s e x) o) (sym named) (subst (λ f. IsOutcomeBy s (Some t) x f o) (sym met) h)

  module _ (next : Tree) (drawn : IsNextGame (reduction_of s t x) next) where
    abbrev choose : (a b c : Bool) → Outcome
    choose a b c = if a then TooLarge (told (size next)) else if b then TooDeep (told (depth next)) else if c then Accepted next else Refused 9 0

    abbrev is_large : Bool
    is_large = nat_lt 50000 (size next)

    abbrev is_deep : Bool
    is_deep = nat_lt 200 (depth next)

    abbrev is_good : Bool
    is_good = is_next s.declarations next

    outcome : (o : Outcome) → choose is_large is_deep is_good ≡ o → IsOutcome s e x o
    outcome o i = by_outcome o (record { next = next; drawn = drawn; outcome = sym i })

    pub large : 50000 < size next → IsOutcome s e x (TooLarge (told (size next)))
    large l = outcome _ (ap (λ a. choose a is_deep is_good) (let i : is_large ≡ true = grind (arith, nat_tests) in i))

    not_large : size next ≤ 50000 → is_large ≡ false
    not_large l = grind (arith, nat_tests)

    not_deep : depth next ≤ 200 → is_deep ≡ false
    not_deep l = grind (arith, nat_tests)

    pub deep : size next ≤ 50000 → 200 < depth next → IsOutcome s e x (TooDeep (told (depth next)))
    deep l m = outcome _ (ap (λ a. choose a is_deep is_good) (not_large l) ∙ ap (λ b. choose false b is_good) (let i : is_deep ≡ true = grind (arith, nat_tests) in i))

    within : size next ≤ 50000 → depth next ≤ 200 → choose is_large is_deep is_good ≡ choose false false is_good
    within l m = ap (λ a. choose a is_deep is_good) (not_large l) ∙ ap (λ b. choose false b is_good) (not_deep m)

    pub accepted : size next ≤ 50000 → depth next ≤ 200 → is_next s.declarations next ≡ true → IsOutcome s e x (Accepted next)
    accepted l m i = outcome _ (within l m ∙ ap (choose false false) i)

    pub refused : size next ≤ 50000 → depth next ≤ 200 → is_next s.declarations next ≡ false → IsOutcome s e x (Refused 9 0)
    refused l m i = outcome _ (within l m ∙ ap (choose false false) i)

    pub is_drawn : size next ≤ 50000 → depth next ≤ 200 → IsDrawn s e x next
    is_drawn l m = record { equivalence = t; named = named; drawn = drawn; small = l; shallow = m }

    -- the next game isn't made, in a pool that got no more nodes than those of the context
    pub not_made : (limit live more : ℕ) (trees : List KindTree) (f : BuildError) → more ≤ live + nodes_of context → IsMade limit more next trees (Err f) → IsFaultOf limit live s e x (crypto.Build f)
    not_made limit live more trees (build.Nodes n) l h = subst (λ k. IsOutcome s e x (TooLarge k)) (sym h.1) (large h.0)
    not_made limit live more trees (build.Depth n) l h = subst (λ k. IsOutcome s e x (TooDeep k)) (sym h.2) (deep h.0 h.1)
    not_made limit live more trees (build.Full n) l h =
        let o = h.over in
        record { failure = met; context = context; made = is_context; full = inr (next, is_drawn h.small h.shallow, h.asks, omega (arith, o, l)) }
    not_made limit live more trees build.OutOfMemory l h = tt

    -- it is made where both would have no room
    pub no_room : (limit live : ℕ) (f : PoolError) → size next ≤ 50000 → depth next ≤ 200 → ((n : ℕ) → f ≡ pool.Full n → (n ≡ nodes_of next) × (limit < live + nodes_of context + n)) → IsFaultOf limit live s e x (of_pool f)
    no_room limit live (pool.Full n) l m h =
        let q = h n refl in
        record { failure = met; context = context; made = is_context; full = inr (next, is_drawn l m, q.0, q.1) }
    no_room limit live pool.OutOfMemory l m h = tt
