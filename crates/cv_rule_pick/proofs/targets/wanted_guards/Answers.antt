use Rattle.std.proofs.Common.{[], ap, append-nil, length, map, sym, ◌++◌, ◌∙◌}
use Rattle.std.proofs.lemmas.List.Elements.{All-push, All-same}
use Rattle.cv_syntax.specs.PoolTrees.{tree_at}
use Rattle.cv_syntax.proofs.Trees.{child_live, empty_at, node_at}
use Rattle.cv_rule_pick.specs.Wanted.{IsLiveWanted, put, wanted_of}
use Rattle.cv_rule_pick.specs.declared.targets.Wanted.TheVariants.{Cell, Condition}
use Rattle.cv_rule_pick.proofs.Saying.{guard_end, guard_here, said_more}
use Rattle.cv_rule_pick.proofs.targets.wanted_guards.Goals as goal

pub cells-preserved : goal.cells-preserved
cells-preserved c =
    let trees = c.args.pool.now.trees in
    let link = c.read_node-link.result in
    let e = node_at trees c.cells.at c.in-Some.n link c.in-Some.is c.read_node-link.ensures.tree in
    record {
      live = child_live (length trees) c.cells.at c.in-Some.n link.second c.in-Some.is c.cells.invariant.live c.read_node-link.ensures.second;
      alive =
          All-same (IsLiveWanted (length trees)) _ _ c.in_ok-push.ensures.items
          (All-push (IsLiveWanted (length trees)) c.cells.wanted.items (Cell link.first) c.cells.invariant.alive (child_live (length trees) c.cells.at c.in-Some.n link.first c.in-Some.is c.cells.invariant.live c.read_node-link.ensures.first));
      said = λ given d.
          let here = guard_here (put trees given) d (tree_at trees c.cells.at) (tree_at trees link.first) (tree_at trees link.second) link.head e in
          said_more (wanted_of trees given) c.cells.wanted.items c.push.new.self.items (Cell link.first) _ _ c.in_ok-push.ensures.items (ap (λ l. map (wanted_of trees given) c.cells.wanted.items ++ l) here ∙ c.cells.invariant.said given d);
    }

pub returns-clause-said : goal.returns-clause-said
returns-clause-said c = λ given.
    let trees = c.args.pool.now.trees in
    let d = put trees given (tree_at trees c.args.condition) in
    let end = guard_end (put trees given) d (tree_at trees c.cells.at) (empty_at trees c.cells.at c.in_default.is) in
    sym (append-nil (map (wanted_of trees given) c.push-2.new.self.items))
    ∙ said_more (wanted_of trees given) c.cells.wanted.items c.push-2.new.self.items (Condition c.args.condition) [] _ c.in_ok-push-2.ensures.items (ap (λ l. map (wanted_of trees given) c.cells.wanted.items ++ l) end ∙ c.cells.invariant.said given d)
