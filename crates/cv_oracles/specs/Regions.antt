-- The words of oracle files.
use Rattle.std.specs.Prelude.{Bool, not, ◌&&◌, ◌||◌, ℕ, List, codes}
use Rattle.std.specs.Str.{bytes_eq}
use Rattle.cv_lex.specs.declared.TokenKind.{TokenKind}
use Rattle.cv_library.specs.Words.{is_identifier, is_reserved}
use Rattle.cv_oracles.specs.declared.region.Region.{Region}
use Rattle.cv_oracles.specs.declared.region.Region.TheVariants.{Declarations, Block, Process}

-- reserved in oracle files alone
abbrev pub is_own_word : List ℕ → Bool
is_own_word text =
    bytes_eq text (codes "oracles") || bytes_eq text (codes "foreach") || bytes_eq text (codes "do") || bytes_eq text (codes "end") || bytes_eq text (codes "return")

-- an identifier that isn't reserved
abbrev pub is_name : TokenKind → List ℕ → Bool
is_name kind text = is_identifier kind && not (is_reserved text || is_own_word text)

-- words that don't stand there, besides those that introduce what they do: a declaration of channels, and the words of processes of
-- other files
abbrev pub is_barred : Region → List ℕ → Bool
is_barred Declarations text = bytes_eq text (codes "channel") || is_own_word text
is_barred Block text = is_own_word text
is_barred Process text =
    bytes_eq text (codes "in") || bytes_eq text (codes "out") || bytes_eq text (codes "new") || bytes_eq text (codes "let") || bytes_eq text (codes "yield") || is_own_word text
