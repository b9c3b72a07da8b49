use Rattle.std.proofs.Common.{◌≡◌, All, map, take}
use Rattle.cv_syntax.specs.PoolTrees.{tree_at}
use Rattle.cv_inline_sites.specs.listing.Callings.{callers_in}
use Rattle.cv_inline_walk.specs.pieces.Choices.{IsChoice, choice_in, choices_over}
use Rattle.cv_inline_walk.proofs.pieces.choices.choices.Given as goal

abbrev pub invariant-sites : goal.invariant-sites
invariant-sites l = record {
  choices : map (choice_in l.pool.trees l.callings) l.found.items ≡ choices_over (callers_in l.pool.trees (take l.other l.callings)) l.place (tree_at l.pool.trees l.list);
  each : All (IsChoice l.pool.trees l.callings l.place l.list) l.found.items;
}
