use Rattle.cv_library.specs.Views.{definitions}
use Rattle.cv_library.proofs.Expanding.{fault_other, fault_same}
use Rattle.cv_library.proofs.expansion.fault_of.Goals as goal

pub returns-then-arguments-parameters : goal.returns-then-arguments-parameters
returns-then-arguments-parameters c =
    fault_same (definitions c.args.library.now) c.args.library.now.tokens c.args.tokens.now c.args.it c.in-Some.place c.text_at.result.now c.text_at.ensures.value c.in-Some.ensures.definition c.if-arguments-parameters.true

pub returns-else-arguments-parameters : goal.returns-else-arguments-parameters
returns-else-arguments-parameters c =
    fault_other (definitions c.args.library.now) c.args.library.now.tokens c.args.tokens.now c.args.it c.in-Some.place c.text_at.result.now c.text_at.ensures.value c.in-Some.ensures.definition c.if-arguments-parameters.false
