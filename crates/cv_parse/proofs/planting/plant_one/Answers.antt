use Rattle.std.proofs.Common.{arith, ap, sym, ◌∙◌, append-nil, [], ◌∷◌, length, Err}
use Rattle.cv_syntax.specs.PoolTrees.{tree_at}
use Rattle.cv_syntax.specs.Postorder.{postorder}
use Rattle.cv_pool.specs.declared.pool.PoolError.TheVariants as pool
use Rattle.cv_parse.proofs.Plants.{crowded, one_root, overs_of, roomy}
use Rattle.cv_parse.proofs.planting.plant_one.Goals as goal
use Rattle.cv_syntax.proofs.limits.Counting.{few_overs}

pub plant-requires : goal.plant-requires
plant-requires c = let l = few_overs c.args.makes.now in omega arith

pub returns-in_err-roots-clause-crowds : goal.returns-in_err-roots-clause-crowds
returns-in_err-roots-clause-crowds c = λ t e. let n = overs_of c.args.makes.now t e in crowded c.args.pool.now.limit (length c.args.pool.now.trees) _ c.in_err-roots.field-0.0 _ c.from_residual.ensures.1 (λ m i. let k = c.in_err-roots.ensures.other m (ap Err i) in (k ∙ n, let l = c.in_err-roots.ensures.full.0 (ap (λ x. Err x) i ∙ ap (λ x. Err (pool.Full x)) k) in omega arith))

pub returns-in-Some-Some-clause-tree : goal.returns-in-Some-Some-clause-tree
returns-in-Some-Some-clause-tree c = λ t e. ap (tree_at c.plant.new.pool.trees) (sym c.in-Some-Some.field-0-is) ∙ one_root (tree_at c.plant.new.pool.trees) t _ _ _ (c.in_ok-roots.ensures.back (t ∷ []) (e ∙ sym (append-nil (postorder t)))) c.in-Some-Some.ensures.items

pub returns-in-Some-Some-clause-room : goal.returns-in-Some-Some-clause-room
returns-in-Some-Some-clause-room c = λ t e. let n = overs_of c.args.makes.now t e in roomy c.args.pool.now.limit (length c.args.pool.now.trees) _ _ c.in_ok-roots.roots c.in_ok-roots.ensures.full.1 n
