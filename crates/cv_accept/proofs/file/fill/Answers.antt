use Rattle.std.proofs.Common.{◌≡◌, subst, sym, ◌∙◌, arith}
use Rattle.std.specs.Prelude.{option_map, Ok}
use Rattle.cv_library.specs.Givens.{given_by}
use Rattle.cv_library.proofs.Givens.{computed}
use Rattle.cv_oracles.specs.Translations.{number_by, number_in}
use Rattle.cv_accept.specs.Accepted.{Refuses, RefusesTokens}
use Rattle.cv_accept.specs.Numbers.{told}
use Rattle.cv_accept.specs.Works.{ReadsTokens}
use Rattle.cv_accept.proofs.Readings.{lexis_refuses, reads_given, reads_none, refuses_given}
use Rattle.cv_accept.proofs.Fewness.{few_tokens_read}
use Rattle.cv_accept.proofs.file.fill.Goals as goal

pub returns-in_err-given-clause-reads : goal.returns-in_err-given-clause-reads
returns-in_err-given-clause-reads c =
    let limit = c.args.work.now.pool.limit in
    let g = given_by c.args.bytes.now (option_map (λ more. more.now) c.args.library) in
    reads_none limit g c.args.work.now _ _ c.from_residual.ensures.1 (lexis_refuses limit g _ c.in_err-given.ensures.err)

pub returns-in_err-source-clause-reads : goal.returns-in_err-source-clause-reads
returns-in_err-source-clause-reads c =
    let limit = c.args.work.now.pool.limit in
    let g = given_by c.args.bytes.now (option_map (λ more. more.now) c.args.library) in
    reads_none limit g c.args.work.now _ _ c.from_residual-in_err-source.ensures.1 tt

pub fill_by-requires-clause-few : goal.fill_by-requires-clause-few
fill_by-requires-clause-few c =
    let g = given_by c.args.bytes.now (option_map (λ more. more.now) c.args.library) in
    let few = few_tokens_read g c.in_ok-source.source.tokens c.requires.few (record { source = c.in_ok-given.given; lexed = computed g c.in_ok-given.given c.in_ok-given.ensures.ok; stand = c.in_ok-source.ensures.file }) in
    omega (arith, few)

pub returns-in-Ok-clause-reads : goal.returns-in-Ok-clause-reads
returns-in-Ok-clause-reads c =
    let limit = c.args.work.now.pool.limit in
    let g = given_by c.args.bytes.now (option_map (λ more. more.now) c.args.library) in
    let w = c.fill_by.new.work in
    reads_given limit g c.in_ok-given.given c.in_ok-given.ensures.ok w c.in-Ok.file (subst (λ ts. ReadsTokens limit ts w (Ok c.in-Ok.file)) c.in_ok-source.ensures.file c.in-Ok.ensures.reads)

pub returns-clause-reads : goal.returns-clause-reads
returns-clause-reads c =
    let limit = c.args.work.now.pool.limit in
    let g = given_by c.args.bytes.now (option_map (λ more. more.now) c.args.library) in
    let ts = c.in_ok-given.given in
    let s = c.in_ok-source in
    let e = c.in-Err.fault in
    let same : told (number_by s.source.numbered s.source.tokens) e ≡ told (number_in ts) e = (λ i. told (number_by (s.ensures.numbers i) (s.ensures.file i)) e) in
    subst (Refuses limit g) (sym (c.told.ensures ∙ same)) (refuses_given limit g ts c.in_ok-given.ensures.ok e (subst (λ us. RefusesTokens limit us e) s.ensures.file c.in-Err.ensures.reads))
