use Rattle.std.proofs.Common.{◌-◌, length, drop, false}
use Rattle.cv_parse_notation.specs.Form.{many}
use Rattle.cv_parse_grammar.specs.Declarations.{declaration}
use Rattle.cv_parse_terms.specs.Gives.{read_in}
use Rattle.cv_parse_declarations.proofs.Sequences.{DeclaredSoFar}
use Rattle.cv_parse_declarations.proofs.choice.decls.Given as goal

abbrev pub invariant-decls : goal.invariant-decls
invariant-decls l = DeclaredSoFar l.depth l.signs l.fn.trail l.trail l.fn.heard.items l.heard.items (read_in l.depth (many false declaration) (drop l.fn.at l.signs)) l.place

abbrev pub decreases-decls : goal.decreases-decls
decreases-decls l = length l.signs - l.place
