-- The answer of a step, by what is built and tested.
use Rattle.std.proofs.Common.{◌≡◌, ℕ, ◌+◌, ◌≤◌, true, false, List, length, Some, None, Result, Ok, Err, sym, ap, ◌∙◌, subst, arith}
use Rattle.std.specs.Prelude.{IfErr, IfOk, IsErrAnd, OnOk}
use Rattle.cv_pool.specs.KindTree.{KindTree}
use Rattle.cv_pool.specs.declared.node.NodeId.{NodeId}
use Rattle.cv_syntax.specs.declared.work.BuildError.TheVariants as build
use Rattle.cv_syntax_trees.specs.Declarations.{Declaration}
use Rattle.cv_syntax_trees.specs.Tree.{Tree, size}
use Rattle.cv_syntax.specs.PoolTrees.{tree_at}
use Rattle.cv_bound.specs.declared.cost.Cost.TheVariants as bound
use Rattle.cv_scene.specs.Reductions.{context_of_game}
use Rattle.cv_scene.specs.Scenes.{Scene}
use Rattle.cv_kernel_crypto.specs.declared.games.testing.Next.{Next}
use Rattle.cv_steps_laws.specs.crypto.Conditions.{failure_of}
use Rattle.cv_steps_laws.specs.crypto.Steps.{Accepted, IsOutcome, Refused, is_next, reduction_of}
use Rattle.cv_kernel_crypto.specs.declared.fault.CryptoFault.{CryptoFault}
use Rattle.cv_kernel_crypto.specs.declared.fault.Failure.{Failure as CryptoFailure}
use Rattle.cv_kernel_crypto.specs.declared.fault.CryptoFault.TheVariants as crypto
use Rattle.cv_kernel_crypto.specs.Applied.{IsAnswer, IsContext, IsFaultOf, IsFew}
use Rattle.cv_syntax.specs.limits.Limits.{nodes_of}
use Rattle.cv_kernel_crypto.specs.Faults.{IsNoNext}
use Rattle.cv_kernel_crypto.specs.Stages.{IsBuiltAt}
use Rattle.cv_kernel_crypto.proofs.Outcomes.{accepted, refused}

-- a fault that was passed on
pub answer_through : (limit live : ℕ) (s : Scene) (e x step : ℕ) (trees : List KindTree) (r : Result Next CryptoFault) (f : CryptoFault) → IsErrAnd r (λ y. y ≡ f) → IsFaultOf limit live s e x f → IsAnswer limit live s e x step trees r
answer_through limit live s e x step trees (Ok n) f i h = absurd i
answer_through limit live s e x step trees (Err y) f i h = subst (IsFaultOf limit live s e x) (sym i) h

-- what holds of a game, of the one that is tested
pub tested_game : (P : Tree → Type 0) (trees : List KindTree) (root : NodeId) (r : Result Next CryptoFault) → IfOk r (λ n. n.game.root ≡ root) → P (tree_at trees (Some root)) → IfOk r (λ n. P (tree_at trees (Some n.game.root)))
tested_game P trees root (Ok n) e h = subst (λ m. P (tree_at trees (Some m))) (sym e) h
tested_game P trees root (Err f) e h = tt

-- a step has one context

same_some : (t u : Tree) → Some t ≡ Some u → t ≡ u
same_some t u e = cc

one_context : (s : Scene) (e x : ℕ) (c d : Tree) → IsContext s e x c → IsContext s e x d → c ≡ d
one_context s e x c d f g =
    f.tree ∙ (ap (λ t. (context_of_game (reduction_of s t x)).game) (same_some f.equivalence g.equivalence (sym f.named ∙ g.named)) ∙ sym g.tree)

module _ (limit live : ℕ) (s : Scene) (e x step : ℕ) (trees : List KindTree) (root : NodeId) (met : failure_of s e x ≡ None) (b : IsBuiltAt limit live s e x trees root) where
  abbrev next : Tree
  next = tree_at trees (Some root)

  module _ (ds : List Declaration) (same : ds ≡ s.declarations) where
    good : is_next ds next ≡ true → IsOutcome s e x (Accepted next)
    good i = accepted s e x b.drawn.equivalence b.drawn.named met next b.drawn.drawn b.drawn.small b.drawn.shallow (ap (λ y. is_next y next) (sym same) ∙ i)

    bad : is_next ds next ≡ false → IsOutcome s e x (Refused 9 0)
    bad i = refused s e x b.drawn.equivalence b.drawn.named met next b.drawn.drawn b.drawn.small b.drawn.shallow (ap (λ y. is_next y next) (sym same) ∙ i)

    no_next : (f : CryptoFault) → IsNoNext (is_next ds next) f → IsFaultOf limit live s e x f
    no_next (crypto.Refused f) h = subst (λ (g : CryptoFailure). IsOutcome s e x (Refused g.condition g.place)) (sym h.0) (bad h.1)
    no_next (crypto.Build (build.Nodes n)) h = absurd h
    no_next (crypto.Build (build.Depth n)) h = absurd h
    no_next (crypto.Build (build.Full n)) h = absurd h
    no_next (crypto.Build build.OutOfMemory) h = tt

    pub tested_answer : (r : Result Next CryptoFault) → IfOk r (λ n. n.game.root ≡ root) → IfOk r (λ n. n.cost ≡ bound.Advantage step (record { 0 = e }))
        → OnOk r (is_next ds next ≡ true) → IfErr r (IsNoNext (is_next ds next)) → IsAnswer limit live s e x step trees r
    tested_answer (Ok n) a c i h =
        let t = ap (λ m. tree_at trees (Some m)) (sym a) in
        record {
          accepted = subst (λ u. IsOutcome s e x (Accepted u)) t (good i);
          cost = c;
          context = b.context;
          made = b.made;
          room = subst (λ u. live + nodes_of b.context + nodes_of u ≤ limit) t b.room;
        }
    tested_answer (Err f) a c i h = no_next f h

  pub tested_few : (r : Result Next CryptoFault) → IfOk r (λ n. n.game.root ≡ root) → IfOk r (λ n. IsFew live s e x (length trees) (tree_at trees (Some n.game.root)))
  tested_few (Ok n) a = λ c h.
      let l = b.few in
      let t = ap (λ m. nodes_of (tree_at trees (Some m))) a in
      let u = ap nodes_of (one_context s e x c b.context h b.made) in
      omega (arith, l, t, u)
  tested_few (Err f) a = tt

  pub tested_small : (r : Result Next CryptoFault) → IfOk r (λ n. n.game.root ≡ root) → IfOk r (λ n. size (tree_at trees (Some n.game.root)) ≤ 50000)
  tested_small (Ok n) a = subst (λ m. size (tree_at trees (Some m)) ≤ 50000) (sym a) b.drawn.small
  tested_small (Err f) a = tt
