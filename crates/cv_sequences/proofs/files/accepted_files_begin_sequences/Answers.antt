use Rattle.cv_sequences.proofs.files.Ready.{file_of}
use Rattle.cv_sequences.proofs.files.accepted_files_begin_sequences.Goals as goal

pub returns : goal.returns
returns c source content reads few holds unreached = file_of source content reads holds unreached few
