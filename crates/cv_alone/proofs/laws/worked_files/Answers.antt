use Rattle.std.proofs.Common.{refl}
use Rattle.cv_lex.specs.Lexis.{lexed}
use Rattle.cv_alone.specs.Alone.{with_spaces_from}
use Rattle.cv_alone.specs.Parts.{behind_all, left_out_from}
use Rattle.cv_alone.proofs.laws.worked_files.Goals as goal

pub returns-clause-first : goal.returns-clause-first
unfolding lexed with_spaces_from behind_all left_out_from
returns-clause-first c = refl

pub returns-clause-second : goal.returns-clause-second
unfolding lexed with_spaces_from behind_all left_out_from
returns-clause-second c = refl

pub returns-clause-third : goal.returns-clause-third
unfolding lexed with_spaces_from behind_all left_out_from
returns-clause-third c = refl

pub returns-clause-none : goal.returns-clause-none
unfolding lexed with_spaces_from behind_all left_out_from
returns-clause-none c = refl
