use Rattle.cv_syntax_trees.specs.declared.sites.sort.Sort.TheVariants.{BelowParameter}
use Rattle.cv_typing.proofs.Removals.{inserted}
use Rattle.cv_scene_view.proofs.terms.put_index.Goals as goal

pub returns : goal.returns
returns c = inserted c.args.i (BelowParameter c.args.n) c.args.above.now c.insert.new.self c.in_ok-insert.ensures.updates
