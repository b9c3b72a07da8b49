use Rattle.cv_script.proofs.reader.Steps.{faults, stops}
use Rattle.cv_script.proofs.reader.reading.read.Goals as goal

pub returns-then-end-signs : goal.returns-then-end-signs
returns-then-end-signs c = λ limit live. stops limit live c.args.from c.args.signs.now _ _ c.in-Ok.end c.in-Ok.ensures c.if-end-signs.true

pub returns-in-Err : goal.returns-in-Err
returns-in-Err c = λ limit live. faults limit live c.args.from c.args.signs.now c.in-Err.fault c.requires.few c.in-Err.ensures c.at_token.result c.at_token.ensures
