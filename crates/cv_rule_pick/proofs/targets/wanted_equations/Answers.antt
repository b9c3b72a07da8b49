use Rattle.std.proofs.Common.{ap, append-nil, length, map, sym, ◌++◌, ◌∙◌}
use Rattle.std.proofs.lemmas.List.Elements.{All-push, All-same}
use Rattle.cv_syntax.specs.PoolTrees.{tree_at}
use Rattle.cv_syntax.proofs.Trees.{child_live, empty_at, node_at}
use Rattle.cv_rule_pick.specs.Wanted.{IsLiveWanted, wanted_of}
use Rattle.cv_rule_pick.specs.declared.targets.Wanted.TheVariants.{Equation}
use Rattle.cv_rule_pick.proofs.Saying.{equation_here, no_binders, no_terms, other_binders, said_more}
use Rattle.cv_rule_pick.proofs.targets.wanted_equations.Goals as goal

pub returns-in_default-head : goal.returns-in_default-head
returns-in_default-head c =
    let trees = c.args.pool.now.trees in
    let node = c.read_node-binder.result in
    let e = node_at trees c.binders.at c.in-Some.n node c.in-Some.is c.read_node-binder.ensures.tree in
    record {
      said = λ given.
          let said = map (wanted_of trees given) c.binders.wanted.items in
          sym (append-nil said) ∙ (ap (λ l. said ++ l) (sym (other_binders given.replications.now (tree_at trees c.binders.at) (tree_at trees c.binders.left) (tree_at trees node.first) (tree_at trees node.second) node.head e c.in_default-head.not-Binder)) ∙ c.binders.invariant.said given);
      live = c.binders.invariant.alive;
    }

pub returns-in_default-left-clause-said : goal.returns-in_default-left-clause-said
returns-in_default-left-clause-said c = λ given.
    let trees = c.args.pool.now.trees in
    let said = map (wanted_of trees given) c.binders.wanted.items in
    sym (append-nil said) ∙ (ap (λ l. said ++ l) (sym (no_terms given.replications.now (tree_at trees c.binders.at) (tree_at trees c.binders.left) (empty_at trees c.binders.left c.in_default-left.is))) ∙ c.binders.invariant.said given)

pub binders-preserved : goal.binders-preserved
binders-preserved c =
    let trees = c.args.pool.now.trees in
    let node = c.read_node-binder.result in
    let link = c.read_node-link.result in
    let e = node_at trees c.binders.at c.in-Some.n node c.in-Some.is c.read_node-binder.ensures.tree in
    let f = node_at trees c.binders.left c.in-Some-left.k link c.in-Some-left.is c.read_node-link.ensures.tree in
    record {
      live = child_live (length trees) c.binders.at c.in-Some.n node.second c.in-Some.is c.binders.invariant.live c.read_node-binder.ensures.second;
      left = child_live (length trees) c.binders.left c.in-Some-left.k link.second c.in-Some-left.is c.binders.invariant.left c.read_node-link.ensures.second;
      alive =
          All-same (IsLiveWanted (length trees)) _ _ c.in_ok-push.ensures.items
          (All-push (IsLiveWanted (length trees)) c.binders.wanted.items (Equation c.in-Binder.x link.first) c.binders.invariant.alive (child_live (length trees) c.binders.left c.in-Some-left.k link.first c.in-Some-left.is c.binders.invariant.left c.read_node-link.ensures.first));
      said = λ given.
          let here = equation_here given.replications.now (tree_at trees c.binders.at) (tree_at trees c.binders.left) (tree_at trees node.first) (tree_at trees node.second) (tree_at trees link.first) (tree_at trees link.second) node.head link.head c.in-Binder.x _ e c.in-Binder.is f in
          said_more (wanted_of trees given) c.binders.wanted.items c.push.new.self.items (Equation c.in-Binder.x link.first) _ _ c.in_ok-push.ensures.items (ap (λ l. map (wanted_of trees given) c.binders.wanted.items ++ l) here ∙ c.binders.invariant.said given);
    }

pub returns-clause-said : goal.returns-clause-said
returns-clause-said c = λ given.
    let trees = c.args.pool.now.trees in
    let said = map (wanted_of trees given) c.binders.wanted.items in
    sym (append-nil said) ∙ (ap (λ l. said ++ l) (sym (no_binders given.replications.now (tree_at trees c.binders.at) (tree_at trees c.binders.left) (empty_at trees c.binders.at c.in_default.is))) ∙ c.binders.invariant.said given)
