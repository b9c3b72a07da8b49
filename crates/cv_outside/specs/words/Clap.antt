-- The command line as `clap` sees it: one command with three subcommands, without flags for help and version. This profile's
-- own.
use Rattle.std.specs.Prelude.{true, List, Option, Some, None, codes, if◌then◌else◌}
use Rattle.clap.specs.Faults.{fault_of}
use Rattle.clap.specs.Simple.{Shape, on_top}
use Rattle.clap.specs.Walk.{is_empty}
use Rattle.clap.specs.Words.{App, Row, Rule, new_app, new_rule, subcommand_of, with_rule, with_subcommand}
use Rattle.clap.specs.declared.builder.action.ArgAction.TheVariants.{SetTrue}
use Rattle.cv_outside.specs.words.Forms.{Text}

abbrev pub required : Rule → Rule
required a = record a { required = true }

abbrev pub file_rule : Rule
file_rule = required (new_rule (codes "file"))

abbrev pub number_rule : Rule
number_rule = required (new_rule (codes "number"))

abbrev pub moves_rule : Rule
moves_rule = record (new_rule (codes "moves")) { long = Some (codes "moves") }

abbrev pub more_rule : Rule
more_rule = record (new_rule (codes "more")) { long = Some (codes "more"); action = Some SetTrue }

abbrev pub lib_rule : Rule
lib_rule = record (new_rule (codes "lib")) { long = Some (codes "lib") }

abbrev pub query_rule : Rule
query_rule = record (new_rule (codes "query")) { long = Some (codes "query") }

abbrev pub prove_rule : Rule
prove_rule = record (new_rule (codes "prove")) { long = Some (codes "prove"); action = Some SetTrue }

abbrev pub prove_app : App
prove_app = with_rule (with_rule (with_rule (with_rule (with_rule (new_app (codes "prove")) file_rule) moves_rule) more_rule) lib_rule) query_rule

abbrev pub games_app : App
games_app = with_rule (with_rule (new_app (codes "games")) file_rule) lib_rule

abbrev pub sample_app : App
sample_app = with_rule (with_rule (new_app (codes "sample")) number_rule) prove_rule

abbrev pub quiet : Shape → Shape
quiet s = record s { disable_help_flag = true; disable_help_subcommand = true; disable_version_flag = true; subcommand_required = true }

abbrev pub cv_app : App
cv_app = with_subcommand (with_subcommand (with_subcommand (on_top quiet (new_app (codes "cv"))) prove_app.top) games_app.top) sample_app.top

-- the subcommand that the words name, with what stands behind it, where `clap` finds no fault in the words
abbrev pub taken : List Text → Option (Text × List Row)
taken words = if is_empty (fault_of cv_app words) then subcommand_of cv_app words else None
