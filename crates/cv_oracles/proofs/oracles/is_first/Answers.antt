use Rattle.std.proofs.Common.{◌≡◌, ◌≢◌, ℕ, ◌∷◌, ◌++◌, [], Some, not, if◌then◌else◌, ap, sym, ◌∙◌}
use Rattle.std.specs.Prelude.{slice_get}
use Rattle.cv_library.proofs.Tabling.{among, not_among}
use Rattle.cv_oracles.proofs.oracles.is_first.Goals as goal

pub returns-in-Ok-clause-first : goal.returns-in-Ok-clause-first
returns-in-Ok-clause-first c =
    let absent : (n : ℕ) → slice_get c.args.names.now n ≢ Some c.args.text.now = λ n h. let same = (c.in-Ok.ensures.twice (record { 0 = n })).1 h in cc in
    sym (ap not (not_among c.args.names.now c.args.text.now absent))

pub returns-in-Ok-clause-names : goal.returns-in-Ok-clause-names
returns-in-Ok-clause-names c =
    let absent : (n : ℕ) → slice_get c.args.names.now n ≢ Some c.args.text.now = λ n h. let same = (c.in-Ok.ensures.twice (record { 0 = n })).1 h in cc in
    c.in-Ok.ensures.ok ∙ sym (ap (λ b. if b then c.args.names.now else c.args.names.now ++ c.args.text.now ∷ []) (not_among c.args.names.now c.args.text.now absent))

pub returns-in-Err-Twice-clause-first : goal.returns-in-Err-Twice-clause-first
returns-in-Err-Twice-clause-first c =
    let id = c.in-Err-Twice.field-0-0 in
    let here : slice_get c.args.names.now id.0 ≡ Some c.args.text.now = (c.in-Err-Twice.ensures.twice id).0 (cc) in
    sym (ap not (among c.args.names.now c.args.text.now id.0 here))

pub returns-in-Err-Twice-clause-names : goal.returns-in-Err-Twice-clause-names
returns-in-Err-Twice-clause-names c =
    let id = c.in-Err-Twice.field-0-0 in
    let here : slice_get c.args.names.now id.0 ≡ Some c.args.text.now = (c.in-Err-Twice.ensures.twice id).0 (cc) in
    c.in-Err-Twice.ensures.err ∙ sym (ap (λ b. if b then c.args.names.now else c.args.names.now ++ c.args.text.now ∷ []) (among c.args.names.now c.args.text.now id.0 here))
