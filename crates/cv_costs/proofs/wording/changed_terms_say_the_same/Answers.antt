use Rattle.cv_costs.proofs.wording.Chances.{distance_within, same_listed, same_test}
use Rattle.cv_costs.proofs.wording.changed_terms_say_the_same.Goals as goal

pub returns-clause-tests : goal.returns-clause-tests
returns-clause-tests r c = λ ds g x a game t y places change constants well news array terms stills keeps h.
    same_test ds g game y places change constants well news terms stills (r.F.Fact.stores t) array keeps x a t h

pub returns-clause-cells : goal.returns-clause-cells
returns-clause-cells r c = λ ds g m a game y places change constants well news terms stills. same_listed ds g game y places change constants well news terms stills m a

pub returns-clause-distances : goal.returns-clause-distances
returns-clause-distances r c = λ ds g x a game y places change bad bound constants well news array terms stills keeps h l.
    distance_within ds g game y places change constants well news terms stills (λ t. r.F.Fact.stores t) x a bad bound array keeps h l
