use Rattle.std.proofs.Common.{arith, ap, sym, ◌∙◌, append-nil, [], ◌∷◌}
use Rattle.cv_syntax.specs.PoolTrees.{tree_at}
use Rattle.cv_syntax.specs.Postorder.{postorder}
use Rattle.cv_script.specs.reader.Scripts.{items}
use Rattle.cv_script.proofs.reader.Steps.{one_root}
use Rattle.cv_script.proofs.reader.planting.plant_steps.Goals as goal
use Rattle.cv_syntax.proofs.limits.Counting.{few_overs}

pub plant-requires : goal.plant-requires
plant-requires c = let l = few_overs c.args.makes.now in omega (arith, l, c.if-makes-ge-TOO_MANY.false)

pub returns-in-Ok-clause-steps : goal.returns-in-Ok-clause-steps
returns-in-Ok-clause-steps c = λ t e. c.in-Ok.ensures.trees ∙ ap items (one_root (tree_at c.plant.new.pool.trees) t _ _ _ (c.in_ok-roots.ensures.back (t ∷ []) (e ∙ sym (append-nil (postorder t)))) c.in-Some.ensures.items)
