use Rattle.cv_directory.proofs.Entries.{first_site_law}
use Rattle.cv_directory.proofs.laws.definitions_are_sites.Goals as goal

pub returns : goal.returns
returns c = λ x p rs t. first_site_law x rs p t
