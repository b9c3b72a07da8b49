use Rattle.std.proofs.Common.{arith}
use Rattle.cv_query.proofs.kinds.Lists.{number_here, number_later, number_past, number_skip, query_live}
use Rattle.cv_query.proofs.kinds.numbers.query_numbered.Goals as goal

pub decls-preserved-in_default : goal.decls-preserved-in_default
decls-preserved-in_default c = λ trees. number_skip c.args.decls.now.list c.decls.k _ c.decls.left c.args.number (omega arith) c.query_at.ensures c.in_default.is trees (c.decls.invariant trees)

pub returns-then-left-eq1-clause-tree : goal.returns-then-left-eq1-clause-tree
returns-then-left-eq1-clause-tree c = λ trees. number_here c.args.decls.now.list c.decls.k _ c.in-Some.query c.decls.left c.args.number c.query_at.ensures c.in-Some.is (omega (arith, c.if-left-eq1.true)) trees (c.decls.invariant trees)

pub returns-then-left-eq1-clause-live : goal.returns-then-left-eq1-clause-live
returns-then-left-eq1-clause-live c = λ n live. query_live n c.args.decls.now.list c.decls.k _ c.in-Some.query c.query_at.ensures c.in-Some.is live

pub decls-preserved : goal.decls-preserved
decls-preserved c = λ trees. number_later c.args.decls.now.list c.decls.k _ c.in-Some.query c.decls.left _ c.args.number c.query_at.ensures c.in-Some.is c.if-left-eq1.false c.saturating_sub-left.ensures trees (c.decls.invariant trees)

pub returns-clause-tree : goal.returns-clause-tree
returns-clause-tree c = λ trees. number_past c.args.decls.now.list c.decls.k c.decls.left c.args.number (omega arith) trees (c.decls.invariant trees)
