use Rattle.std.proofs.Common.{refl}
use Rattle.cv_script.specs.declared.reader.error.ScriptError.TheVariants.{Script}
use Rattle.cv_script_laws.proofs.forms.Deciding.{accepts, fills, one_script, refuses, takes}
use Rattle.cv_script_laws.proofs.forms.laws.scripts_are_decided.Goals as goal

pub returns-clause-accepted : goal.returns-clause-accepted
returns-clause-accepted c = accepts

pub returns-clause-taken : goal.returns-clause-taken
returns-clause-taken c = takes

pub returns-clause-unique : goal.returns-clause-unique
returns-clause-unique c = one_script

pub returns-clause-full : goal.returns-clause-full
returns-clause-full c = fills

pub returns-clause-refused : goal.returns-clause-refused
returns-clause-refused c = λ limit live from signs token e. refuses limit live from signs token (Script token) refl e
