use Rattle.std.proofs.Common.{arith, ap, ◌∙◌, ◌∷◌, []}
use Rattle.cv_syntax.specs.PoolTrees.{tree_at}
use Rattle.cv_syntax.proofs.limits.Counting.{few_overs}
use Rattle.cv_syntax.proofs.listing.Lists.{one_list, popped}
use Rattle.cv_step_writer.proofs.writing.plant_parts.Goals as goal

pub plant-requires : goal.plant-requires
plant-requires c = omega (arith, few_overs c.args.makes.now)

pub returns-clause-tree : goal.returns-clause-tree
returns-clause-tree c =
    λ t e.
    ap (tree_at c.plant.new.pool.trees) c.unwrap_or.ensures
    ∙ popped (tree_at c.plant.new.pool.trees) c.in_ok-roots.roots.items c.pop.new.self.items c.pop.result t (c.in_ok-roots.ensures.back (t ∷ []) (one_list t _ e)) c.pop.ensures.items (λ l. c.pop.ensures.variant.1 (omega (arith, l)))
