use Rattle.cv_script.proofs.reader.Steps.{reads_there}
use Rattle.cv_script.proofs.reader.reading.read_phrase.Goals as goal

pub returns : goal.returns
returns c = reads_there c.script_rows.result c.script_rows.ensures c.args.signs.now _ _ c.phrase.result c.phrase.ensures.reads
