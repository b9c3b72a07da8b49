use Rattle.std.proofs.Common.{ap, sym, ◌∙◌}
use Rattle.cv_syntax_trees.specs.Tree.{second}
use Rattle.cv_syntax.specs.PoolTrees.{tree_at}
use Rattle.cv_match_terms.specs.heads.Beginnings.{code_of}
use Rattle.cv_match_terms.proofs.heads.Beginnings.{noted_any, noted_code}
use Rattle.cv_match_terms.proofs.heads.heads.Heads.note.Goals as goal

pub returns-in_ok-push-in-Some : goal.returns-in_ok-push-in-Some
returns-in_ok-push-in-Some c = λ k.
    noted_code k (second (tree_at c.args.pool.now.trees c.args.f)) c.args.self.now c.in-Some.code (sym c.in-Some.is ∙ (c.code_of.ensures ∙ ap code_of c.second_of.ensures.tree)) c.push.new.self.items c.in_ok-push-in-Some.ensures.items

pub returns-in-None : goal.returns-in-None
returns-in-None c = λ k.
    noted_any k (second (tree_at c.args.pool.now.trees c.args.f)) c.args.self.now (sym c.in-None.is ∙ (c.code_of.ensures ∙ ap code_of c.second_of.ensures.tree))
