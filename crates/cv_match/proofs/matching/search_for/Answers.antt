use Rattle.std.proofs.Common.{rules, ap, length, subst, sym, ◌∙◌}
use Rattle.std.specs.List.{list_any}
use Rattle.cv_pool.specs.Nodes.{ChildBelow}
use Rattle.cv_meaning.specs.contexts.Groups.{functions_of}
use Rattle.cv_match_terms.specs.heads.Beginnings.{begins}
use Rattle.cv_match.proofs.Fitting.{equiv_live}
use Rattle.cv_match.proofs.matching.search_for.Goals as goal

pub first_of-side-requires : goal.first_of-side-requires
first_of-side-requires c =
    let n = length c.args.work.now.pool.trees in
    subst (ChildBelow n) (sym c.equiv.ensures) (equiv_live n c.args.work.now.decls.list c.args.equiv.0 c.requires.declared)

pub returns-clause-ready : goal.returns-clause-ready
returns-clause-ready c = record {
  game = c.requires.live;
  fits = c.requires.fits;
  side = c.first_of-side.ensures.live;
  arrays = search rules;
  above = search rules;
  heads = λ k. c.in_ok-heads.ensures k ∙ ap (λ t. list_any (begins k) (functions_of t)) c.second_of.ensures.tree;
}
