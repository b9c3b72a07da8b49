-- What the reader of files gives, by what the grammar reads. This profile's own.
use Rattle.std.specs.Prelude.{◌≡◌, List, [], ◌∷◌, map, flat_map, Result, Ok, Err}
use Rattle.std.specs.List.{AllByRecursion}
use Rattle.cv_syntax.specs.Postorder.{postorder}
use Rattle.cv_parse_notation.specs.declared.sign.Sign.{Sign}
use Rattle.cv_parse_notation.specs.Spells.{Use}
use Rattle.cv_parse_grammar.specs.declared.role.Role.{Role}
use Rattle.cv_parse_grammar.specs.Files.{levels, read_whole}
use Rattle.cv_parse_grammar.specs.Rules.{File}
use Rattle.cv_parse_grammar.specs.Whole.{built_in}
use Rattle.cv_parse_terms.specs.declared.lookahead.ReadError.{ReadError}
use Rattle.cv_parse_terms.specs.Gives.{Fails, uses_of}
use Rattle.cv_parse_declarations.specs.signature.Declares.{IsWhole, heard_of, parts_of}
use Rattle.cv_parse_declarations.specs.declared.file.Reading.{Reading}

-- What was heard of these declarations, and the parts of their trees.
pub record Hears (r : Reading) (f : File) : Type 0 where
  pub heard : r.heard.items ≡ map heard_of f.decls
  pub trees : r.trees.items ≡ flat_map parts_of f.decls
  pub process : r.process.items ≡ postorder f.game
  pub script : r.script ≡ f.script
  pub whole : AllByRecursion IsWhole f.decls

-- A file was read, with its uses of names; before them stands the declaration of `bool`.
pub record IsReading (all : List Sign) (r : Reading) : Type 0 where
  pub value : File
  pub uses : List (Use Role)
  pub is : read_whole levels all ≡ Ok (record { value = value; uses = uses; rest = [] })
  pub noted : uses_of r.uses.items ≡ built_in ∷ uses
  pub hears : Hears r value

abbrev pub GivesFile : List Sign → Result Reading ReadError → Type 0
GivesFile all (Ok r) = IsReading all r
GivesFile all (Err e) = Fails all e (read_whole levels all)
