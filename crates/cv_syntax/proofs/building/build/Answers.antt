use Rattle.cv_syntax.proofs.Buildings.{whole}
use Rattle.cv_syntax.proofs.building.build.Goals as goal

pub returns-clause-tree : goal.returns-clause-tree
returns-clause-tree c = whole c.args.pool.now c.first_part-first.new.pool c.second_part-second.new.pool c.join.new.pool c.args.kids.now c.of-layout.result c.head_of.result c.first_part-first.result c.second_part-second.result c.join.result c.args.kind c.of-layout.ensures.layout c.head_of.ensures c.requires.kids c.first_part-first.ensures.grows c.second_part-second.ensures.grows c.first_part-first.ensures.live c.first_part-first.ensures.tree c.second_part-second.ensures.tree c.join.ensures.tree
