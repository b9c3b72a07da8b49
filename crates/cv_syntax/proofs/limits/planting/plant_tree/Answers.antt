use Rattle.std.proofs.Common.{[], ◌+◌, length, Some}
use Rattle.cv_syntax.specs.Planting.{overs}
use Rattle.cv_syntax.specs.Postorder.{made}
use Rattle.cv_syntax.proofs.limits.Counting.{one_made, only, roomy}
use Rattle.cv_syntax.proofs.limits.planting.plant_tree.Goals as goal

pub returns-in-Some-Some-clause-tree : goal.returns-in-Some-Some-clause-tree
returns-in-Some-Some-clause-tree c = λ t e. only c.plant.new.pool.trees c.in_ok-roots.roots.items (Some c.in-Some-Some.root) (made [] c.args.parts.now) t c.in_ok-roots.ensures.trees e (cc (c.in-Some-Some.ensures.value, c.in-Some-Some.field-0-is, c.deref.ensures.value))

pub returns-in-Some-Some-clause-back : goal.returns-in-Some-Some-clause-back
returns-in-Some-Some-clause-back c = λ t e. only c.plant.new.pool.trees c.in_ok-roots.roots.items (Some c.in-Some-Some.root) (made [] c.args.parts.now) t c.in_ok-roots.ensures.trees (one_made c.args.parts.now t e) (cc (c.in-Some-Some.ensures.value, c.in-Some-Some.field-0-is, c.deref.ensures.value))

pub returns-in-Some-Some-clause-room : goal.returns-in-Some-Some-clause-room
returns-in-Some-Some-clause-room c = roomy c.args.pool.now.limit (length c.args.pool.now.trees + overs c.args.parts.now) (overs c.args.parts.now) c.in_ok-roots.roots c.in_ok-roots.ensures.full.1
