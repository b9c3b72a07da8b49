use Rattle.cv_print_back.proofs.Back.{term_comes_back, term_in_front}
use Rattle.cv_print_back.proofs.laws.terms_come_back.Goals as goal

pub returns-clause-texts : goal.returns-clause-texts
returns-clause-texts c = λ limit live names t p. term_comes_back limit live names t p

pub returns-clause-in_front : goal.returns-clause-in_front
returns-clause-in_front c = λ limit live from t rest w l r e. term_in_front limit live from t rest w l r e
