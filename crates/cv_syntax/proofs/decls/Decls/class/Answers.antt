use Rattle.std.proofs.Common.{ap, ◌∙◌}
use Rattle.cv_syntax.specs.Classes.{class_by}
use Rattle.cv_syntax.proofs.Indexed.{free_by}
use Rattle.cv_syntax.proofs.decls.Decls.class.Goals as goal

pub returns-clause-free : goal.returns-clause-free
returns-clause-free c = free_by c.args.self.now.list c.args.id.0 c.class_of.result c.find.ensures.named (c.class_of.ensures ∙ ap class_by c.find.ensures.found)
