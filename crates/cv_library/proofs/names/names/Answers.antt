use Rattle.std.proofs.Common.{sym, ◌∙◌, arith}
use Rattle.std.proofs.lemmas.List.{drop_more}
use Rattle.std.proofs.lemmas.Option.{slice_get-get_or}
use Rattle.std.proofs.lemmas.Result.{err_from_is_err_and}
use Rattle.cv_library.proofs.Tabling.{name_twice, named_all, named_apart, named_more, names_refused, one_longer}
use Rattle.cv_library.proofs.names.names.Goals as goal

pub overflow_add-place : goal.overflow_add-place
overflow_add-place c =
    let p = c.requires.inside c.places.place-index (record { word = 0; brace = 0; end = 0 }) c.places-test.true in
    omega (arith, p.head, p.body, p.last)

pub declared-requires : goal.declared-requires
declared-requires c = omega (arith, c.places.invariant.few, c.requires.few)

pub overflow_add-result : goal.overflow_add-result
overflow_add-result c =
    let p = c.requires.inside c.places.place-index (record { word = 0; brace = 0; end = 0 }) c.places-test.true in
    omega (arith, p.head, p.body, p.last)

pub returns-then-not-branch-clause-names : goal.returns-then-not-branch-clause-names
returns-then-not-branch-clause-names c =
    let ps = c.args.places.now in
    name_twice c.args.tokens.now ps c.places.names c.places.place-index c.places.invariant.read _ (drop_more ps c.places.place-index (record { word = 0; brace = 0; end = 0 }) c.places-test.true) c.text_at.result.now c.text_at.ensures.value (sym c.if-not-branch.true ∙ c.in_ok-declared.ensures.new)

pub returns-in_err-parameters-clause-names : goal.returns-in_err-parameters-clause-names
returns-in_err-parameters-clause-names c =
    let ts = c.args.tokens.now in
    let ps = c.args.places.now in
    let p = err_from_is_err_and c.from_residual-in_err-parameters.result c.from_residual-in_err-parameters.ensures.1 in
    rw (p.1, p.2) (names_refused ts ps c.places.names c.places.place-index c.places.invariant.read _ (drop_more ps c.places.place-index (record { word = 0; brace = 0; end = 0 }) c.places-test.true) c.text_at.result.now c.text_at.ensures.value (sym c.if-not-branch.false ∙ c.in_ok-declared.ensures.new) c.in_err-parameters.field-0.0 c.in_err-parameters.ensures)

pub places-preserved : goal.places-preserved
places-preserved c =
    let ps = c.args.places.now in
    record {
      read = named_more c.args.tokens.now ps c.places.names c.places.place-index c.places.invariant.read _ (drop_more ps c.places.place-index (record { word = 0; brace = 0; end = 0 }) c.places-test.true) c.text_at.result.now c.declared.new.names c.text_at.ensures.value (sym c.if-not-branch.false ∙ c.in_ok-declared.ensures.new) c.in_ok-declared.ensures.names c.in_ok-parameters.ensures.0 (slice_get-get_or ps c.places.place-index (record { word = 0; brace = 0; end = 0 }) c.places-test.true);
      few = omega (arith, c.places.invariant.few, one_longer c.places.names c.declared.new.names c.text_at.result.now c.in_ok-declared.ensures.names);
    }

pub returns-clause-names : goal.returns-clause-names
returns-clause-names c = named_all c.args.tokens.now c.args.places.now c.places.names c.places.place-index c.places.invariant.read (omega arith)

pub returns-clause-apart : goal.returns-clause-apart
returns-clause-apart c = named_apart c.args.tokens.now c.args.places.now c.places.names c.places.place-index c.places.invariant.read (omega arith)
