-- What a sequence is answered of a cryptographic step.
use Rattle.std.proofs.Common.{◌≡◌, ℕ, suc, ◌+◌, ◌≤◌, List, [], ◌∷◌, ◌++◌, length, Some, Result, Ok, Err, option_map, refl, sym, ap, subst, ◌∙◌}
use Rattle.std.proofs.lemmas.Bool.{and_parts}
use Rattle.std.specs.Prelude.{All, IsErrAnd}
use Rattle.cv_syntax_trees.proofs.lists.Each.{AllByRecursion_push}
use Rattle.cv_pool.specs.KindTree.{KindTree}
use Rattle.cv_pool.specs.PoolView.{PoolView, Grows}
use Rattle.cv_directory.specs.Live.{IsLive}
use Rattle.cv_syntax.specs.Classes.{DeclsView}
use Rattle.cv_syntax.specs.declared.work.BuildError.TheVariants as build
use Rattle.cv_syntax.specs.Declarations.{declarations}
use Rattle.cv_syntax_trees.specs.Tree.{Tree}
use Rattle.cv_syntax.specs.PoolTrees.{tree_at}
use Rattle.cv_scope_rules.specs.Phrases.{IsWellFormed}
use Rattle.cv_bound.specs.declared.terms.Experiment.{Experiment}
use Rattle.cv_bound.specs.declared.terms.Experiment.TheVariants.{Events, Real, Random}
use Rattle.cv_bound.specs.declared.terms.Term.{Term}
use Rattle.cv_bound.specs.declared.terms.Term.TheVariants as term
use Rattle.cv_bound.specs.Sums.{Fits, with_terms}
use Rattle.cv_context.specs.products.Shapes.{shape_of}
use Rattle.cv_context.specs.products.ShapesInCode.{shape_in}
use Rattle.cv_scene.specs.Scenes.{Scene}
use Rattle.cv_steps_laws.proofs.Keeping.{formed}
use Rattle.cv_steps_laws.specs.crypto.Conditions.{equivalence_of, failure_of}
use Rattle.cv_steps_laws.specs.crypto.Steps.{IsOutcome, IsOutcomeBy}
use Rattle.cv_steps_laws.specs.crypto.Steps as outcome
use Rattle.cv_steps_laws.proofs.crypto.Accepted.{accepted}
use Rattle.cv_kernel_crypto.specs.declared.games.testing.Next.{Next}
use Rattle.cv_kernel_crypto.specs.declared.fault.CryptoFault.{CryptoFault}
use Rattle.cv_kernel_crypto.specs.declared.fault.CryptoFault.TheVariants as crypto
use Rattle.cv_kernel_crypto.specs.Applied.{IsAnswer, IsApplied, IsFew}
use Rattle.cv_syntax.specs.limits.Limits.{nodes_of}
use Rattle.cv_kernel_crypto.specs.Faults.{IsRefused}
use Rattle.cv_kernel.specs.declared.error.PushError.{PushError}
use Rattle.cv_kernel.specs.declared.sequence.Sequence.{Sequence}
use Rattle.cv_bound.specs.costs.Costs.{advantage_of}
use Rattle.cv_bound.specs.costs.Sums.{SumsFit, with_cost}
use Rattle.cv_bound.specs.declared.costs.sums.Sums.{Sums}
use Rattle.cv_kernel.specs.Sequences.{IsReduceAnswer, IsReduced, context_nodes, game_in, reduce_fault}
use Rattle.cv_kernel_crypto.proofs.Growing.{declarations_grown}

-- an accepted step leads to a well-formed game
pub next_formed : (s : Scene) (e x : ℕ) (next : Tree) → IsOutcome s e x (outcome.Accepted next) → IsWellFormed s.declarations next
next_formed s e x next w = formed s.declarations next (and_parts _ _ (accepted s e x next w).game).0

-- a game that is well-formed stays so while the pool grows
pub formed_grown : (old new : PoolView) (d e : DeclsView) (t : Tree) → Grows old new → All (IsLive (length old.trees)) d.list → e ≡ d → IsWellFormed (declarations old.trees d.list) t → IsWellFormed (declarations new.trees e.list) t
formed_grown old new d e t g a i w =
    subst (λ ds. IsWellFormed ds t) (sym (ap (λ (v : DeclsView). declarations new.trees v.list) i ∙ declarations_grown old new d.list g a)) w

-- sums with an advantage more
pub advantage_fits : (sums : Sums) (step e : ℕ) → SumsFit sums → SumsFit (with_cost sums (advantage_of step e))
unfolding with_terms
advantage_fits sums step e h =
    let term : Experiment → Term = term.Advantage step (record { 0 = e }) in (
      AllByRecursion_push Fits sums.plain (term Events) h.0 tt,
      AllByRecursion_push Fits (sums.secret ++ term Real ∷ []) (term Random) (AllByRecursion_push Fits sums.secret (term Real) h.1 tt) tt,
    )

-- the answer of a step, as a sequence passes it on; the sequence looked up before what there is to read, so the scene may be that of
-- another sequence of the same game

module _ (limit live : ℕ) (s t : Scene) (same : t ≡ s) (e x : ℕ) (trees : List KindTree) (old new : Sequence) where
  abbrev Answer : Scene → Result (Unit {0}) PushError → Type 0
  Answer u r = IsReduceAnswer limit live u e x trees old new r

  passed : (r : Result (Unit {0}) PushError) (fault : PushError) → IsErrAnd r (λ y. y ≡ fault) → Answer t (Err fault) → Answer s r
  passed (Ok u) fault i h = absurd i
  passed (Err y) fault i h = subst (λ u. Answer u (Err y)) same (subst (λ z. Answer t (Err z)) (sym i) h)

  by_refusal : (fault : CryptoFault) → IsRefused (failure_of t e x) fault → Answer t (Err (reduce_fault fault))
  by_refusal (crypto.Refused f) h = subst (λ o. IsOutcomeBy t (equivalence_of t e) x o (outcome.Refused f.condition f.place)) (sym h) refl
  by_refusal (crypto.Build build.OutOfMemory) h = tt
  by_refusal (crypto.Build (build.Full n)) h = absurd h
  by_refusal (crypto.Build (build.Nodes n)) h = absurd h
  by_refusal (crypto.Build (build.Depth n)) h = absurd h

  pub refused_answer : (r : Result (Unit {0}) PushError) (fault : CryptoFault) → IsErrAnd r (λ y. y ≡ reduce_fault fault) → IsRefused (failure_of t e x) fault → Answer s r
  refused_answer r fault i h = passed r (reduce_fault fault) i (by_refusal fault h)

  by_fault : (step : ℕ) (more : List KindTree) (fault : CryptoFault) → IsAnswer limit live t e x step more (Err fault) → Answer t (Err (reduce_fault fault))
  by_fault step more (crypto.Refused f) h = h
  by_fault step more (crypto.Build build.OutOfMemory) h = tt
  by_fault step more (crypto.Build (build.Full n)) h = h
  by_fault step more (crypto.Build (build.Nodes n)) h = h
  by_fault step more (crypto.Build (build.Depth n)) h = h

  pub failed_answer : (step : ℕ) (more : List KindTree) (r : Result (Unit {0}) PushError) (fault : CryptoFault) → IsErrAnd r (λ y. y ≡ reduce_fault fault) → IsAnswer limit live t e x step more (Err fault) → Answer s r
  failed_answer step more r fault i h = passed r (reduce_fault fault) i (by_fault step more fault h)

  module _ (step : ℕ) (next : Next) (game : game_in trees new ≡ tree_at trees (Some next.game.root)) (w : IsApplied limit live t e x step trees next) where
    nodes : nodes_of w.context ≡ context_nodes t x (equivalence_of t e)
    nodes = ap nodes_of w.made.tree ∙ ap (context_nodes t x) (sym w.made.named)

    pub reduced : new.steps ≡ step → step ≡ suc old.steps → new.cost ≡ Some next.cost → new.sum ≡ with_cost old.sum (advantage_of step e) → new.closed ≡ old.closed → option_map shape_in new.context ≡ option_map (λ u. shape_of t u x) (equivalence_of t e)
        → IsFew live t e x (length trees) (tree_at trees (Some next.game.root)) → IsReduced limit live s e x trees old new
    reduced n m c a k h f =
        let few = f w.context w.made in
        subst (λ u. IsReduced limit live u e x trees old new) same
        (record {
          accepted = subst (λ g. IsOutcome t e x (outcome.Accepted g)) (sym game) w.accepted;
          steps = n ∙ m;
          costs = c ∙ ap Some (w.cost ∙ ap (λ k. advantage_of k e) (sym n));
          sum = a ∙ ap (λ k. with_cost old.sum (advantage_of k e)) (sym n);
          closed = k;
          shape = h;
          few = subst (λ c. length trees ≤ live + c + nodes_of (game_in trees new)) nodes (subst (λ g. length trees ≤ live + nodes_of w.context + nodes_of g) (sym game) few);
          room = subst (λ c. live + c + nodes_of (game_in trees new) ≤ limit) nodes (subst (λ g. live + nodes_of w.context + nodes_of g ≤ limit) (sym game) w.room);
        })
