use Rattle.std.proofs.Common.{ap, sym, ◌∙◌}
use Rattle.cv_syntax_trees.specs.declared.head.Head.TheVariants.{Leaf, Read}
use Rattle.cv_inline_walk.specs.Forms as forms
use Rattle.cv_inline_walk.specs.Steps.{calls_of}
use Rattle.cv_inline_walk.proofs.forms.head_in.Goals as goal

pub returns-in-Leaf : goal.returns-in-Leaf
returns-in-Leaf c = λ g k. ap Leaf (c.name_in.ensures g) ∙ sym (ap (forms.head_in (calls_of c.args.step.now g)) c.in-Leaf.is)

pub returns-in-Read : goal.returns-in-Read
returns-in-Read c = λ g k. ap Read (c.name_in-in-Read.ensures g) ∙ sym (ap (forms.head_in (calls_of c.args.step.now g)) c.in-Read.is)
