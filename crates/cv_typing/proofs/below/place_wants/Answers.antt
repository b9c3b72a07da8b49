use Rattle.std.proofs.Common.{length, ◌∙◌}
use Rattle.cv_syntax.specs.Declarations.{declarations}
use Rattle.cv_typing.proofs.Places.{place_list}
use Rattle.cv_typing.proofs.below.place_wants.Goals as goal

pub returns-in-Branches-clause-live : goal.returns-in-Branches-clause-live
returns-in-Branches-clause-live c = c.branch_wants.ensures.live (length c.args.pool.now.trees)

pub returns-in-Correspondence-clause-live : goal.returns-in-Correspondence-clause-live
returns-in-Correspondence-clause-live c = c.query_wants.ensures.live (length c.args.pool.now.trees)

pub returns-in-Cons : goal.returns-in-Cons
returns-in-Cons c = record {
  wants = c.list_wants.ensures.wants ∙ place_list c.args.pool.now.trees c.args.arrays.now (declarations c.args.pool.now.trees c.args.decls.now.list) c.args.want c.args.head c.in-Cons.is c.in_default.not-Run c.in_default.not-Branches c.in_default.not-Correspondence c.in_default.not-Atoms;
  live = c.list_wants.ensures.live;
}
