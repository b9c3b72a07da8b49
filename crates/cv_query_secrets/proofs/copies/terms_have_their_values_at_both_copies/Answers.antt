use Rattle.cv_query_secrets.proofs.copies.Values.{first_indices_values, first_value, second_indices_values, second_value}
use Rattle.cv_query_secrets.proofs.copies.terms_have_their_values_at_both_copies.Goals as goal

pub returns-clause-of_first : goal.returns-clause-of_first
returns-clause-of_first c = λ s ready i model p q k at other x r t f.
    first_value s i ready model (λ y. c.sites_stand_in_the_game.ensures.behind s.declarations s.game y (c.games_are_contexts.ensures.games s.declarations s.game ready.formed)) p q k at other x r t f

pub returns-clause-of_second : goal.returns-clause-of_second
returns-clause-of_second c = λ s ready i model p q k at other x r t f.
    second_value s i ready model (λ y. c.sites_stand_in_the_game.ensures.behind s.declarations s.game y (c.games_are_contexts.ensures.games s.declarations s.game ready.formed)) p q k at other x r t f

pub returns-clause-first_indices : goal.returns-clause-first_indices
returns-clause-first_indices c = λ s ready i model p q k at other x r f.
    first_indices_values s i ready model (λ y. c.sites_stand_in_the_game.ensures.behind s.declarations s.game y (c.games_are_contexts.ensures.games s.declarations s.game ready.formed)) p q k at other x r f

pub returns-clause-second_indices : goal.returns-clause-second_indices
returns-clause-second_indices c = λ s ready i model p q k at other x r.
    second_indices_values s i ready model (λ y. c.sites_stand_in_the_game.ensures.behind s.declarations s.game y (c.games_are_contexts.ensures.games s.declarations s.game ready.formed)) p q k at other x r
