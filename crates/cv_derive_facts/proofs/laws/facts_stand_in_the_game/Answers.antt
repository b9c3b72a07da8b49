use Rattle.cv_derive_facts.proofs.Conditions.{all_known}
use Rattle.cv_derive_facts.proofs.Standings.{are_facts, stands_where}
use Rattle.cv_derive_facts.proofs.laws.facts_stand_in_the_game.Goals as goal

pub returns-clause-terms : goal.returns-clause-terms
returns-clause-terms c = are_facts

pub returns-clause-places : goal.returns-clause-places
returns-clause-places c = stands_where

pub returns-clause-all : goal.returns-clause-all
returns-clause-all c = λ ds game p w. all_known game p w.phrase
