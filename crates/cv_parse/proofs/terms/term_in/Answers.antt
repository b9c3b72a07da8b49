use Rattle.std.proofs.Common.{length, subst, sym, ◌∙◌}
use Rattle.cv_parse.specs.Parsed.{Refuses}
use Rattle.cv_parse.specs.Terms.{term_of}
use Rattle.cv_parse.proofs.Outcomes.{only_parts}
use Rattle.cv_parse.proofs.Reached.{term_crowded, term_fault, term_passed_on, term_reads}
use Rattle.cv_parse.proofs.terms.term_in.Goals as goal

pub returns-in_err-root-in-Ok-clause-reads : goal.returns-in_err-root-in-Ok-clause-reads
returns-in_err-root-in-Ok-clause-reads c =
    let d = c.in-Ok.ensures.gives in
    term_passed_on _ _ _ _ c.from_residual.ensures.1 (term_crowded c.args.pool.now.limit (length c.args.pool.now.trees) c.args.from c.args.signs.now _ _ _ d _ (c.in_err-root-in-Ok.ensures.crowds d.term (c.deref.ensures.value ∙ only_parts _ _ _ c.new-trail.ensures.makes d.parts)))

pub returns-in-Ok-clause-reads : goal.returns-in-Ok-clause-reads
returns-in-Ok-clause-reads c =
    let d = c.in-Ok.ensures.gives in
    let parts = c.deref.ensures.value ∙ only_parts _ _ _ c.new-trail.ensures.makes d.parts in
    term_reads c.args.pool.now.limit (length c.args.pool.now.trees) c.args.from c.args.signs.now _ _ _ d _ (c.in_ok-root-in-Ok.ensures.room d.term parts) (c.in_ok-root-in-Ok.ensures.tree d.term parts)

pub returns-clause-reads : goal.returns-clause-reads
returns-clause-reads c =
    subst (λ e. Refuses e (term_of c.args.pool.now.limit (length c.args.pool.now.trees) c.args.from c.args.signs.now)) (sym c.shifted.ensures) (term_fault c.args.pool.now.limit (length c.args.pool.now.trees) c.args.from c.args.signs.now _ c.requires.few c.in-Err.ensures.gives)
