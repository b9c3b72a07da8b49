use Rattle.std.proofs.Common.{◌≡◌, ap, sym, ◌∙◌, arith}
use Rattle.std.specs.Prelude.{slice_range}
use Rattle.std.specs.Str.{bytes_eq}
use Rattle.cv_library.specs.Libraries.{inner_from}
use Rattle.cv_library.proofs.Tabling.{inner_found, inner_more, inner_none}
use Rattle.cv_library.proofs.names.inner.Goals as goal

pub returns-then-eq : goal.returns-then-eq
returns-then-eq c =
    sym (inner_found c.args.tokens.now c.args.place c.body.k (omega arith) (omega (arith, c.requires.last)) (c.if-eq.ensures ∙ ap (λ t. bytes_eq t _) c.text.ensures)) ∙ c.body.invariant

pub body-preserved : goal.body-preserved
body-preserved c =
    sym (inner_more c.args.tokens.now c.args.place c.body.k (omega arith) (omega (arith, c.requires.last)) (c.if-eq.ensures ∙ ap (λ t. bytes_eq t _) c.text.ensures)) ∙ c.body.invariant

pub returns : goal.returns
returns c =
    let same : c.body.k ≡ c.args.place.end = omega (arith, c.requires.body) in
    sym (inner_none c.args.tokens.now c.args.place.end) ∙ ap (λ k. inner_from k (slice_range c.args.tokens.now k c.args.place.end)) (sym same) ∙ c.body.invariant
