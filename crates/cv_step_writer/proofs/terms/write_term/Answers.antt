use Rattle.std.proofs.Common.{◌≡◌, List, ap, ◌∙◌}
use Rattle.cv_pool.specs.KindTree.{KindTree}
use Rattle.cv_syntax_trees.specs.declared.head.Head.{Head}
use Rattle.cv_syntax.specs.Layouts.{arranged, trees_of}
use Rattle.cv_syntax.specs.PoolTrees.{head_of_kind, head_of_kind_kind_of_head}
use Rattle.cv_step_writer.proofs.terms.write_term.Goals as goal

pub returns-clause-tree : goal.returns-clause-tree
returns-clause-tree c =
    let head : head_of_kind c.kind_of.result ≡ c.args.head = ap head_of_kind c.kind_of.ensures ∙ head_of_kind_kind_of_head c.args.head in
    c.build.ensures.tree
    ∙ (ap (λ (h : Head). arranged h (trees_of c.reserve.new.self.trees c.args.terms.now)) head
    ∙ ap (λ (ts : List KindTree). arranged c.args.head (trees_of ts c.args.terms.now)) c.in_ok-reserve.ensures.kept)
