use Rattle.cv_derive_laws.proofs.reached.Copies.{pair_holds}
use Rattle.cv_derive_laws.proofs.reached.derivations_of_two_copies_hold.Goals as goal

pub returns : goal.returns
returns c = λ s ready i model p q k at other x reached given distinct hold apart by targets derives.
    let w = c.games_are_contexts.ensures.games s.declarations s.game ready.formed in
    pair_holds s i ready model (λ y. c.sites_stand_in_the_game.ensures.behind s.declarations s.game y w) p q k at other x reached given distinct hold apart by targets derives
