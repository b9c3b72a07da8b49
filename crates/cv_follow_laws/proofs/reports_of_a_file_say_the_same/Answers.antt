use Rattle.cv_follow_laws.proofs.Alike.{course_is, file_is, front_of, names_are, verdicts_are}
use Rattle.cv_follow_laws.proofs.Printed.{body_is}
use Rattle.cv_follow_laws.proofs.reports_of_a_file_say_the_same.Goals as goal

pub returns-clause-course : goal.returns-clause-course
returns-clause-course c = λ source r q f g w v n l. course_is source r q f g w v n l

pub returns-clause-front : goal.returns-clause-front
returns-clause-front c = λ source r q f g w v n l. front_of source r q f g w v n l

pub returns-clause-names : goal.returns-clause-names
returns-clause-names c = λ source r q f g w v n l. names_are source r q f g w v n l

pub returns-clause-verdicts : goal.returns-clause-verdicts
returns-clause-verdicts c = λ source r q f g w v n l. verdicts_are source r q f g w v n l

pub returns-clause-text : goal.returns-clause-text
returns-clause-text c = λ source r q f g w v n a l. body_is source r q f g w v n a l

pub returns-clause-file : goal.returns-clause-file
returns-clause-file c = λ source r q f g w v. file_is source r q f g w v
