use Rattle.std.proofs.Common.{sym, ◌∙◌}
use Rattle.cv_follow.proofs.Fillings.{word_found}
use Rattle.cv_follow.proofs.filling.has_word.Goals as goal

pub returns-then-is_word : goal.returns-then-is_word
returns-then-is_word c = sym (word_found c.args.pool.now.trees c.args.script.now c.steps.step-index _ c.steps-test.true (sym c.is_word.ensures ∙ c.if-is_word.true))
