use Rattle.std.proofs.Common.{◌<◌, ◌≤◌, ◌+◌, length, drop, Some, ap, sym, ◌∙◌, arith}
use Rattle.cv_syntax.specs.Declarations.{declarations}
use Rattle.cv_syntax.specs.PoolTrees.{tree_at}
use Rattle.cv_directory.specs.Tables.{seen}
use Rattle.cv_meaning.specs.Queries.{queries_in}
use Rattle.cv_query_form.specs.Tests.{first_refused}
use Rattle.cv_query_form.proofs.Parts.{asked_same, behind, queries_past, queries_skip, queries_take, query_below, refused_here, refused_later, refused_none}
use Rattle.cv_query_form.proofs.checking.first_refused.Goals as goal

pub decls-preserved-in_default : goal.decls-preserved-in_default
decls-preserved-in_default c =
    let trees = c.args.work.now.pool.trees in
    let list = c.args.work.now.decls.list in
    let here : c.decls.k < length list = omega arith in
    record {
      few = omega arith;
      same = ap (λ qs. behind c.decls.number (first_refused (tree_at trees (Some c.args.game.root)) qs)) (sym (queries_skip trees list c.decls.k here (sym c.query_at.ensures ∙ c.in_default.is))) ∙ c.decls.invariant.same;
    }

pub may_be_asked-requires : goal.may_be_asked-requires
may_be_asked-requires c = query_below (length c.args.work.now.pool.trees) c.args.work.now.decls.list c.decls.k c.in-Some.query c.requires.declared (sym c.query_at.ensures ∙ c.in-Some.is)

pub returns-then-not-branch : goal.returns-then-not-branch
returns-then-not-branch c =
    let trees = c.args.work.now.pool.trees in
    let list = c.args.work.now.decls.list in
    let game = tree_at trees (Some c.args.game.root) in
    let query = tree_at trees (Some c.in-Some.query) in
    refused_here game query (queries_in (declarations trees (drop (c.decls.k + 1) list))) (queries_in (declarations trees (drop c.decls.k list))) c.decls.number (first_refused game (queries_in (declarations trees list))) (queries_take trees list c.decls.k c.in-Some.query (sym c.query_at.ensures ∙ c.in-Some.is)) (asked_same (seen c.args.directory.now) game query c.in_ok-may_be_asked.field-0 _ c.requires.sites c.in_ok-may_be_asked.ensures c.if-not-branch.true) c.decls.invariant.same

pub decls-preserved : goal.decls-preserved
decls-preserved c =
    let trees = c.args.work.now.pool.trees in
    let list = c.args.work.now.decls.list in
    let game = tree_at trees (Some c.args.game.root) in
    let query = tree_at trees (Some c.in-Some.query) in
    record {
      few = omega arith;
      same = refused_later game query (queries_in (declarations trees (drop (c.decls.k + 1) list))) (queries_in (declarations trees (drop c.decls.k list))) c.decls.number (first_refused game (queries_in (declarations trees list))) (queries_take trees list c.decls.k c.in-Some.query (sym c.query_at.ensures ∙ c.in-Some.is)) (asked_same (seen c.args.directory.now) game query c.in_ok-may_be_asked.field-0 _ c.requires.sites c.in_ok-may_be_asked.ensures c.if-not-branch.false) c.decls.invariant.same;
    }

pub returns : goal.returns
returns c =
    let trees = c.args.work.now.pool.trees in
    let list = c.args.work.now.decls.list in
    let game = tree_at trees (Some c.args.game.root) in
    let past : length list ≤ c.decls.k = omega arith in
    refused_none game (queries_in (declarations trees (drop c.decls.k list))) c.decls.number (first_refused game (queries_in (declarations trees list))) (queries_past trees list c.decls.k past) c.decls.invariant.same
