use Rattle.cv_print_bytes.proofs.Read.{term_tokens, game_tokens}
use Rattle.cv_print_bytes.proofs.tokens_of_texts.Goals as goal

pub returns-clause-terms : goal.returns-clause-terms
returns-clause-terms c = λ names t are k. term_tokens names t are k

pub returns-clause-games : goal.returns-clause-games
returns-clause-games c = λ names t are k φ. game_tokens names t are k φ
