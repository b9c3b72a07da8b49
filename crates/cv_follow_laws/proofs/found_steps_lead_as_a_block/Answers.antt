use Rattle.cv_follow_laws.proofs.GivenBack.{is_course, is_front, is_text}
use Rattle.cv_follow_laws.proofs.found_steps_lead_as_a_block.Goals as goal

pub returns-clause-front : goal.returns-clause-front
returns-clause-front c = λ source other r q f g w v b. is_front source other r q f g w v b

pub returns-clause-course : goal.returns-clause-course
returns-clause-course c = λ source other r q f g w v b same. is_course source other r q f g w v b same

pub returns-clause-text : goal.returns-clause-text
returns-clause-text c = λ source other r q f g w v b asked same. is_text source other r q f g w v b asked same
