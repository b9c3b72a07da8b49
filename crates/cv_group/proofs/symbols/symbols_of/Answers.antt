use Rattle.std.proofs.Common.{ℕ, Bool, ap, ◌∙◌}
use Rattle.cv_syntax.specs.NameSets.{is_in}
use Rattle.cv_syntax.specs.Declarations.{declarations}
use Rattle.cv_meaning.specs.Interpretation.{is_constant_of}
use Rattle.cv_group_rules.specs.Symbols.{Symbols}
use Rattle.cv_group.proofs.symbols.symbols_of.Goals as goal

pub returns : goal.returns
returns c =
    let trees = c.args.pool.now.trees in
    let made : (ℕ → Bool) → (ℕ → Bool) → Symbols = λ k f. record { constant = k; function = f } in
    ap (λ k. made k (is_in c.in_ok-functions.functions)) c.in_ok-constants.ensures ∙ ap (λ f. made (is_constant_of (declarations trees c.args.decls.now.list)) f) (c.in_ok-functions.ensures trees)
