use Rattle.cv_library.specs.Views.{definitions}
use Rattle.cv_library.proofs.Expanding.{body_many, body_none}
use Rattle.cv_library.proofs.expansion.body_len.Goals as goal

pub returns-in-Some : goal.returns-in-Some
returns-in-Some c =
    body_many (definitions c.args.library.now) c.args.library.now.tokens c.args.tokens.now c.args.it c.in-Some.place c.text_at.result.now c.in-Some.ensures.inside c.text_at.ensures.value c.in-Some.ensures.definition

pub returns-in-None : goal.returns-in-None
returns-in-None c =
    body_none (definitions c.args.library.now) c.args.tokens.now c.args.it c.text_at.result.now c.text_at.ensures.value c.in-None.ensures.definition
