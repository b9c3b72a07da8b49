use Rattle.std.proofs.Common.{◌≡◌, arith, rules, refl, ap, ◌∙◌, Some}
use Rattle.cv_syntax_trees.specs.Tree.{size}
use Rattle.cv_syntax.specs.PoolTrees.{tree_at}
use Rattle.cv_syntax.proofs.Trees.{empty_at}
use Rattle.cv_scope_rules.specs.Above.{stands_at}
use Rattle.cv_scope_rules.specs.Context.{nothing_known}
use Rattle.cv_scope_rules.specs.declared.position.Position.TheVariants.{Anywhere}
use Rattle.cv_derive_facts.proofs.Standings.{standing_empty}
use Rattle.cv_derive.proofs.Descending.{found_here, found_nowhere, nothing_knows, there_replications}
use Rattle.cv_derive.proofs.defined.is_defined_under.Goals as goal

pub down-init : goal.down-init
down-init c = record {
  live = omega arith;
  own = tt;
  within = omega arith;
  context = nothing_known;
  knows = nothing_knows c.args.work.now.pool.trees (Some c.args.game.root) c.args.place Anywhere;
  same = refl;
  found = λ Δ e. refl;
}

pub down-preserved : goal.down-preserved
down-preserved c =
    let trees = c.args.work.now.pool.trees in
    let known = c.down.invariant in
    let next = c.in-Some-down.ensures.descends known.context known.knows in
    record {
      live = search rules;
      own = c.in-Some-down.ensures.own;
      within = let e : size (tree_at trees c.down.walk.at) ≡ size (tree_at trees (Some c.in-Some.n)) = ap (λ o. size (tree_at trees o)) c.in-Some.is in omega (arith, c.in-Some-down.ensures.fits, known.within, e);
      context = next.context;
      knows = next.knows;
      same = next.place ∙ known.same;
      found = λ Δ e. next.cells Δ (known.same ∙ e) (there_replications (stands_at (tree_at trees (Some c.args.game.root)) c.args.place) Δ c.args.replications.now c.requires.replications e) (known.found Δ e);
    }

pub returns-in_default-down : goal.returns-in_default-down
returns-in_default-down c =
    let trees = c.args.work.now.pool.trees in
    let known = c.down.invariant in
    found_here c.args.names.now (tree_at trees c.args.terms) (tree_at trees c.args.cell) (stands_at (tree_at trees (Some c.args.game.root)) c.args.place) _ known.context c.down.walk.found (c.in_default-down.ensures.descends known.context) known.same known.found

pub returns : goal.returns
returns c =
    let trees = c.args.work.now.pool.trees in
    let known = c.down.invariant in
    found_nowhere c.args.names.now (tree_at trees c.args.terms) (tree_at trees c.args.cell) (stands_at (tree_at trees (Some c.args.game.root)) c.args.place) _ (standing_empty c.down.walk.position known.context (tree_at trees c.down.walk.at) c.down.walk.left (empty_at trees c.down.walk.at c.in_default.is)) known.same
