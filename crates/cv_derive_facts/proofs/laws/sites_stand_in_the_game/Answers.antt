use Rattle.cv_derive_facts.proofs.Continuing.{all_behind}
use Rattle.cv_derive_facts.proofs.Entries.{count_sites, directory_sites, first_sites}
use Rattle.cv_derive_facts.proofs.Sitings.{places_sites}
use Rattle.cv_derive_facts.proofs.laws.sites_stand_in_the_game.Goals as goal

pub returns-clause-places : goal.returns-clause-places
returns-clause-places c = places_sites

pub returns-clause-behind : goal.returns-clause-behind
returns-clause-behind c = λ ds game x w. all_behind game x w.phrase

pub returns-clause-directory : goal.returns-clause-directory
returns-clause-directory c = directory_sites

pub returns-clause-count : goal.returns-clause-count
returns-clause-count c = count_sites

pub returns-clause-first : goal.returns-clause-first
returns-clause-first c = first_sites
