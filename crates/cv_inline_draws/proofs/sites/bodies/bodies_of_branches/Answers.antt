use Rattle.std.proofs.Common.{◌≡◌, ◌++◌, ◌∙◌, [], List, ℕ, ap, sym, arith}
use Rattle.std.specs.Prelude.{flat_map}
use Rattle.std.proofs.lemmas.List.{append-nil}
use Rattle.cv_syntax.specs.PoolTrees.{tree_at}
use Rattle.cv_syntax.specs.Walks.{above}
use Rattle.cv_meaning.specs.contexts.Inlined.{Caller}
use Rattle.cv_inline.specs.Draws.{branches_draws}
use Rattle.cv_inline_draws.specs.sites.Parts.{draws_at}
use Rattle.cv_inline_draws.proofs.sites.Gathering.{below_push, body_more, lower, none_of}
use Rattle.cv_inline_draws.proofs.sites.bodies.bodies_of_branches.Goals as goal

pub branches-preserved : goal.branches-preserved
branches-preserved c =
    let trees = c.args.pool.now.trees in
    let branch = c.in-Some.branch in
    record {
      within = c.in-Some.ensures.behind.within;
      less = let l = c.branches.invariant.less in let b = c.in-Some.ensures.behind.below in omega arith;
      draws = λ ss k. body_more (draws_at trees ss k) c.branches.bodies.items c.push.new.self.items branch.body _ _ _ c.in_ok-push.ensures.items (c.in-Some.ensures.branch ss k) (c.branches.invariant.draws ss k);
      below = below_push trees (above c.args.list.root) c.branches.bodies.items c.push.new.self.items branch.body c.in_ok-push.ensures.items c.branches.invariant.below (lower trees (above c.branches.at.root) (above c.args.list.root) branch.body c.branches.invariant.less c.in-Some.ensures.body);
    }

pub returns-clause-draws : goal.returns-clause-draws
returns-clause-draws c =
    let trees = c.args.pool.now.trees in
    let no : (ss : List Caller) (k : ℕ) → branches_draws ss k c.branches.at.place (tree_at trees c.branches.at.root) ≡ [] =
    none_of c.branch_at.result ((ss : List Caller) (k : ℕ) → branches_draws ss k c.branches.at.place (tree_at trees c.branches.at.root) ≡ []) c.in_default.is c.branch_at.ensures.none in
    λ ss k. sym (append-nil (flat_map (draws_at trees ss k) c.branches.bodies.items)) ∙ (ap (λ l. flat_map (draws_at trees ss k) c.branches.bodies.items ++ l) (sym (no ss k)) ∙ c.branches.invariant.draws ss k)
