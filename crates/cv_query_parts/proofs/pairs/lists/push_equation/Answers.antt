use Rattle.cv_syntax_trees.specs.declared.head.Head.TheVariants.{Eq}
use Rattle.cv_query_parts.proofs.pairs.Making.{node_made}
use Rattle.cv_query_parts.proofs.pairs.lists.push_equation.Goals as goal

pub returns : goal.returns
returns c = node_made Eq _ _ c.args.makes.now.items c.push_index.new.makes.items c.push_second_index.new.makes.items c.push.new.self.items c.in_ok-push_index.ensures c.in_ok-push_second_index.ensures c.in_ok-push.ensures.items
