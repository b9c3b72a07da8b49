use Rattle.std.proofs.Common.{◌≡◌, ◌++◌, All, Some, drop}
use Rattle.cv_syntax.specs.PoolTrees.{tree_at}
use Rattle.cv_meaning.specs.contexts.Groups.{Right, side_group}
use Rattle.cv_inline.specs.NextGame.{callings_from}
use Rattle.cv_inline_sites.specs.listing.Callings.{callings_in}
use Rattle.cv_inline_draws.specs.callings.Sites.{IsLiveSite}
use Rattle.cv_inline_draws.proofs.callings.callings.callings_of.Given as goal

abbrev pub invariant-sites : goal.invariant-sites
invariant-sites l = record {
  number : l.number ≡ l.position-index;
  callings : callings_in l.pool.trees l.callings.items ++ callings_from (side_group Right (tree_at l.pool.trees (Some l.fn.equivalence))) (tree_at l.pool.trees (Some l.fn.context)) l.number (drop l.position-index l.functions) ≡ callings_from (side_group Right (tree_at l.pool.trees (Some l.fn.equivalence))) (tree_at l.pool.trees (Some l.fn.context)) 0 l.functions;
  live : All (IsLiveSite l.pool.trees) l.callings.items;
}
