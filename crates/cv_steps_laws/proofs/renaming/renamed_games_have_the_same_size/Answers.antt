use Rattle.cv_steps_laws.proofs.renaming.Sizes.{size_same, depth_same}
use Rattle.cv_steps_laws.proofs.renaming.renamed_games_have_the_same_size.Goals as goal

pub returns-clause-nodes : goal.returns-clause-nodes
returns-clause-nodes c = size_same

pub returns-clause-depths : goal.returns-clause-depths
returns-clause-depths c = depth_same
