use Rattle.std.proofs.Common.{◌≡◌, ◌++◌, take}
use Rattle.cv_parse_declarations.specs.signature.Kinds.{names_in}
use Rattle.cv_parse_declarations.proofs.signature.declarations.hear_names.Given as goal

abbrev pub invariant-names : goal.invariant-names
invariant-names l = l.heard.items ≡ l.fn.heard.items ++ names_in l.class l.sort (take l.name-index l.names)
