-- The functions of a list, one by one.
use Rattle.std.proofs.Common.{◌≡◌, ◌<◌, ◌^◌, List, [], ◌∷◌, ◌++◌, All, map, Option, Some, length, ap, subst, sym, ◌∙◌, arith}
use Rattle.std.proofs.lemmas.List.{map-append}
use Rattle.std.proofs.lemmas.List.Elements.{All-push}
use Rattle.cv_pool.specs.declared.node.NodeId.{NodeId}
use Rattle.cv_pool.specs.KindTree.{KindTree}
use Rattle.cv_pool.specs.Nodes.{ChildBelow}
use Rattle.cv_syntax_trees.specs.declared.head.Head.{Head}
use Rattle.cv_syntax_trees.specs.Tree.{Tree, Empty, Node, size}
use Rattle.cv_syntax.specs.PoolTrees.{tree_at}
use Rattle.cv_syntax.proofs.Walking.{below_some, size_node}
use Rattle.cv_meaning.specs.contexts.Groups.{Function, function_of, functions_of}
use Rattle.cv_inline_draws.specs.callings.RightFunctions.{AreNodes, IsLiveFunction, function_in}
use Rattle.cv_inline_draws.proofs.callings.Lists.{more}

pub nodes_behind : (t : Tree) (h : Head) (a b : Tree) → t ≡ Node h a b → AreNodes t → AreNodes b
nodes_behind t h a b e n = rest h a b (subst AreNodes e n)
  where
    rest : (h : Head) (a b : Tree) → AreNodes (Node h a b) → AreNodes b
    rest h Empty b n = absurd n
    rest h (Node k c d) b n = n

module _ (trees : List KindTree) where
  pub function_more : (old new : List NodeId) (t : Tree) (h : Head) (b : Tree) (first : Option NodeId) (f : NodeId) (all : List Function) → t ≡ Node h (tree_at trees first) b → first ≡ Some f → new ≡ old ++ f ∷ [] → map (function_in trees) old ++ functions_of t ≡ all → map (function_in trees) new ++ functions_of b ≡ all
  function_more old new t h b first f all e i n so_far =
      more (map (function_in trees) old) (map (function_in trees) new) (function_in trees f ∷ []) (functions_of b) (functions_of t) all (ap (map (function_in trees)) n ∙ map-append (function_in trees) old (f ∷ [])) (ap functions_of e ∙ ap (λ o. function_of (tree_at trees o) ∷ functions_of b) i) so_far

  -- a function of a list in the pool
  pub live_function : (t : Tree) (h : Head) (b : Tree) (first : Option NodeId) (f : NodeId) → t ≡ Node h (tree_at trees first) b → first ≡ Some f → ChildBelow (length trees) first → size t < 2 ^ 32 → IsLiveFunction trees f
  live_function t h b first f e i live fits =
      record { live = below_some (length trees) first f i live; fits = let s = size_node t h (tree_at trees first) b e in let r = ap (λ o. size (tree_at trees o)) i in omega (arith, s, r) }

  pub live_push : (old new : List NodeId) (f : NodeId) → new ≡ old ++ f ∷ [] → All (IsLiveFunction trees) old → IsLiveFunction trees f → All (IsLiveFunction trees) new
  live_push old new f e all l = subst (All (IsLiveFunction trees)) (sym e) (All-push (IsLiveFunction trees) old f all l)
