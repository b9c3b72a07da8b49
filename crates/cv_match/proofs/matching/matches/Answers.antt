use Rattle.std.proofs.Common.{All, List, ap, map, subst, sym, ◌∙◌}
use Rattle.cv_syntax.specs.Classes.{equiv_in}
use Rattle.cv_syntax.specs.PoolTrees.{tree_at}
use Rattle.cv_scene.specs.Instances.{Matching}
use Rattle.cv_scene.specs.Refusals.{first_refusal}
use Rattle.cv_match.specs.instances.Matchings.{matching_by}
use Rattle.cv_match_terms.specs.declared.patterns.site.Site.{Site}
use Rattle.cv_match_terms.specs.patterns.Sites.{HasInstance, site_in}
use Rattle.cv_match_terms.specs.uses.Tallies.{IsTableOf}
use Rattle.cv_match.specs.Fitting.{IsSmallSite}
use Rattle.cv_match.specs.Matched.{matching_of}
use Rattle.cv_match.proofs.Fitting.{sites_small}
use Rattle.cv_match.proofs.Refusing.{fault_through, key_fault, no_refusal, site_fault}
use Rattle.cv_match.proofs.matching.matches.Goals as goal

pub returns-in_err-check_key-clause-fault : goal.returns-in_err-check_key-clause-fault
returns-in_err-check_key-clause-fault c =
    let M = matching_by c.args.work.now.pool c.args.work.now.decls c.in_ok-search.search in
    let N = matching_of c.args.work.now.pool c.args.work.now.decls c.args.game.root c.args.equiv.0 c.args.x.0 in
    fault_through c.from_residual-in_err-check_key.result c.in_err-check_key.field-0.0 (first_refusal N) c.from_residual-in_err-check_key.ensures.1 (key_fault M N c.in_ok-search.ensures.matching c.in_err-check_key.field-0.0 c.in_err-check_key.ensures.fault)

pub check_sites-requires-clause-small : goal.check_sites-requires-clause-small
check_sites-requires-clause-small c =
    let trees = c.args.work.now.pool.trees in
    let M = matching_by c.args.work.now.pool c.args.work.now.decls c.in_ok-search.search in
    let sites = c.in_ok-sites.sites.items in
    subst (λ (l : List Site). All (IsSmallSite trees) l) (sym c.as_slice.ensures.value) (sites_small trees M (tree_at trees (equiv_in c.args.work.now.decls.list c.args.equiv.0)) sites (ap (λ (m : Matching). m.group) c.in_ok-search.ensures.matching) c.requires.short c.in_ok-search.ensures.ready.fits c.in_ok-sites.ensures.sites)

pub returns-in_err-check_sites-clause-fault : goal.returns-in_err-check_sites-clause-fault
returns-in_err-check_sites-clause-fault c =
    let M = matching_by c.args.work.now.pool c.args.work.now.decls c.in_ok-search.search in
    let N = matching_of c.args.work.now.pool c.args.work.now.decls c.args.game.root c.args.equiv.0 c.args.x.0 in
    let f = ap (map (site_in c.args.work.now.pool.trees M)) c.as_slice.ensures.value ∙ c.in_ok-sites.ensures.sites in
    fault_through c.from_residual-in_err-check_sites.result c.in_err-check_sites.field-0.0 (first_refusal N) c.from_residual-in_err-check_sites.ensures.1 (site_fault M N c.in_ok-search.ensures.matching _ c.in_ok-check_key.ensures.none f c.in_err-check_sites.field-0.0 c.in_err-check_sites.ensures.fault)

pub returns-clause-none : goal.returns-clause-none
returns-clause-none c =
    let M = matching_by c.args.work.now.pool c.args.work.now.decls c.in_ok-search.search in
    let N = matching_of c.args.work.now.pool c.args.work.now.decls c.args.game.root c.args.equiv.0 c.args.x.0 in
    let f = ap (map (site_in c.args.work.now.pool.trees M)) c.as_slice.ensures.value ∙ c.in_ok-sites.ensures.sites in
    no_refusal M N c.in_ok-search.ensures.matching _ c.in_ok-check_key.ensures.none f c.in_ok-check_sites.ensures.none

pub check_key-requires-clause-table : goal.check_key-requires-clause-table
check_key-requires-clause-table c =
    subst (λ t. IsTableOf t c.in_ok-table.table) (sym (ap (λ (m : Matching). m.scene.game) c.in_ok-search.ensures.matching)) c.in_ok-table.ensures

pub check_sites-requires-clause-table : goal.check_sites-requires-clause-table
check_sites-requires-clause-table c =
    subst (λ t. IsTableOf t c.in_ok-table.table) (sym (ap (λ (m : Matching). m.scene.game) c.in_ok-search.ensures.matching)) c.in_ok-table.ensures

pub returns-clause-instances : goal.returns-clause-instances
returns-clause-instances c =
    subst (λ (m : Matching). All (HasInstance c.args.work.now.pool.trees m) c.in_ok-sites.sites.items) c.in_ok-search.ensures.matching c.in_ok-sites.ensures.instances
