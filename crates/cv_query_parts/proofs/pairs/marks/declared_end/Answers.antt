use Rattle.std.proofs.Common.{rules, arith, ◌≡◌, ◌∙◌, ap, max, sym}
use Rattle.std.proofs.lemmas.List.{drop_all}
use Rattle.std.specs.Option.{option_copied}
use Rattle.cv_syntax.specs.Declarations.{declarations}
use Rattle.cv_query_certificates.specs.Marks.{declared_end as end_of}
use Rattle.cv_query_parts.proofs.pairs.Marking.{end_more}
use Rattle.cv_query_parts.proofs.pairs.marks.declared_end.Goals as goal

pub decls-preserved : goal.decls-preserved
decls-preserved c =
    let m : c.max-end.result ≡ max c.decls.end c.decl_end.result = search rules in
    λ trees. end_more c.args.decls.now.list c.decls.k (option_copied c.get.result) c.decl_end.result c.decls.end c.max-end.result (omega arith) c.get.ensures c.decl_end.ensures m trees (c.decls.invariant trees)

pub returns : goal.returns
returns c = λ trees. let e = ap (λ ds. end_of (declarations trees ds)) (drop_all c.decls.k c.args.decls.now.list (omega arith)) in omega (arith, e, c.decls.invariant trees)
