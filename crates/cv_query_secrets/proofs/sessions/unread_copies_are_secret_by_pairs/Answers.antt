use Rattle.std.proofs.Common.{ℕ, false}
use Rattle.cv_meaning.specs.Advantage.{chance_of}
use Rattle.cv_meaning.specs.Experiments.{Guesses}
use Rattle.cv_meaning.specs.Interpretation.{setting_of}
use Rattle.cv_meaning.specs.Runs.{Random, Real}
use Rattle.cv_query_secrets.proofs.unread.Chances.{no_advantage, no_distance}
use Rattle.cv_query_secrets.proofs.sessions.Chances.{equal}
use Rattle.cv_query_secrets.proofs.sessions.Within.{copies_apart}
use Rattle.cv_query_secrets.proofs.sessions.unread_copies_are_secret_by_pairs.Goals as goal

pub returns-clause-chances : goal.returns-clause-chances
returns-clause-chances c = λ s x parts ready secret pairs i model a.
    let g = setting_of s.declarations i in
    let v = c.terms_have_their_values_at_both_copies.ensures in
    equal s x ready secret i a
    (copies_apart s x parts ready pairs i a (c.raised_names_are_new.ensures s parts) (c.visited_copies_stay_reached.ensures s ready i model (Random false x) a)
    (c.derivations_of_visited_copies_hold.ensures s ready i model (Random false x) a)
    (λ p q k at other y r. record {
      of_first = v.of_first s ready i model p q k at other y r;
      of_second = v.of_second s ready i model p q k at other y r;
      first_indices = v.first_indices s ready i model p q k at other y r;
      second_indices = v.second_indices s ready i model p q k at other y r;
    })
    (λ t. c.cells_are_assigned_once.ensures.made s.declarations g (Random false x) a s.game t (c.games_are_contexts.ensures.games s.declarations s.game ready.formed)))

pub returns-clause-secrecy : goal.returns-clause-secrecy
returns-clause-secrecy c = λ s x parts ready secret pairs i model a.
    let g = setting_of s.declarations i in
    no_distance (chance_of g (Guesses (Real false x)) a s.game) (chance_of g (Guesses (Random false x)) a s.game) (returns-clause-chances c s x parts ready secret pairs i model a)

pub returns-clause-query : goal.returns-clause-query
returns-clause-query c = λ s x parts ready secret pairs i model a.
    no_advantage (setting_of s.declarations i) x false a s.game (returns-clause-secrecy c s x parts ready secret pairs i model a)
