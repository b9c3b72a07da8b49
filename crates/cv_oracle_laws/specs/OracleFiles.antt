-- Oracle files, and the file for which each stands.
use Rattle.std.specs.Prelude.{◌≡◌, false, if◌then◌else◌, ℕ, List, [], ◌∷◌, ◌++◌, codes, length, map, take, ◌-◌, ◌⊎◌}
use Rattle.std.specs.List.{AllByRecursion}
use Rattle.cv_lex.specs.Lexis.{Token, end_token}
use Rattle.cv_parse_notation.specs.Spells.{Use}
use Rattle.cv_parse_grammar.specs.declared.role.Role.{Role}
use Rattle.cv_parse_grammar.specs.Files.{IsFile, levels}
use Rattle.cv_parse_grammar.specs.Rules.{File}
use Rattle.cv_parse_tables.specs.terminals.Signs.{signs_of}
use Rattle.cv_library.specs.Libraries.{is_among}
use Rattle.cv_oracles.specs.declared.region.Region.TheVariants.{Declarations}
use Rattle.cv_oracles.specs.Regions.{is_barred, is_own_word}
use Rattle.cv_oracles.specs.Translations.{ends_declarations}
use Rattle.cv_oracle_laws.specs.Tokens.{plain, word, symbol, Is, AreBraced}
use Rattle.cv_oracle_laws.specs.Grammar.{Stands, Inputs}

-- the oracles of a process in order of first appearance, without those before
abbrev pub new_among : (before : List (List ℕ)) → List Token → List Token
new_among before [] = []
new_among before (o ∷ os) = if is_among before o.text then new_among before os else o ∷ new_among (before ++ o.text ∷ []) os

-- `, P ..` and a dot
abbrev pub and_others : List Token → List Token
and_others [] = symbol (codes ".") ∷ []
and_others (o ∷ os) = symbol (codes ",") ∷ o ∷ and_others os

-- `channel O, P, ...`, where there are some
abbrev pub declared_as_channels : List Token → List Token
declared_as_channels [] = []
declared_as_channels (o ∷ os) = word (codes "channel") ∷ o ∷ and_others os

-- a word that is reserved in oracle files is no word of a step: `:=` stands in none
abbrev pub in_block : Token → Token
in_block t = if is_own_word t.text then symbol (codes ":=") else t

-- proof { .. }
pub record IsBlock (ts : List Token) : Type 0 where
  pub proof : Token
  pub opener : Token
  pub inner : List Token
  pub closer : Token
  pub split : ts ≡ proof ∷ opener ∷ inner ++ closer ∷ []
  pub begins : Is proof (codes "proof")
  pub opens : Is opener (codes "{")
  pub braced : AreBraced inner
  pub closes : Is closer (codes "}")

-- a token of declarations other than of channels
abbrev pub IsDeclaring : Token → Type 0
IsDeclaring t = (ends_declarations t.text ≡ false) × (is_barred Declarations t.text ≡ false)

-- The tokens are an oracle file, and it stands for this file: `oracles`, declarations, a proof block or none, `process`, and the process. The
-- oracles are declared as channels behind all other declarations.
pub record IsOracleFile (tokens file : List Token) : Type 0 where
  pub oracles : Token
  pub declarations : List Token
  pub block : List Token
  pub process : Token
  pub definitions : List Token
  pub inputs : List Token
  pub names : List Token
  pub split : tokens ≡ oracles ∷ declarations ++ block ++ process ∷ definitions
  pub first : Is oracles (codes "oracles")
  pub declaring : AllByRecursion IsDeclaring declarations
  pub proving : (block ≡ []) ⊎ IsBlock block
  pub begins : Is process (codes "process")
  pub stands : Stands Inputs definitions inputs names []
  pub file_is : file ≡ declarations ++ declared_as_channels (new_among [] names) ++ map in_block block ++ process ∷ inputs

-- the tokens of a file without their places, and without its end
abbrev pub contents : List Token → List Token
contents ts = map plain (take (length ts - 1) ts)

-- The tokens are an oracle file, and the file for which it stands spells this, within 200 levels.
pub record SpellsOracleFile (tokens : List Token) (f : File) (uses : List (Use Role)) : Type 0 where
  pub file : List Token
  pub is : IsOracleFile (contents tokens) file
  pub spelled : IsFile levels (signs_of (file ++ end_token 0 ∷ [])).signs f uses []
