-- The game of a file is a phrase of the grammar that binds no constant.
use Rattle.std.proofs.Common.{◌≡◌, ◌==◌, ℕ, false, List, [], ◌∷◌, Option, Ok, ap, sym, subst, ◌∙◌}
use Rattle.std.proofs.lemmas.Bool.{not_from_false, or_parts}
use Rattle.cv_syntax_trees.specs.Declarations.{Declaration}
use Rattle.cv_syntax_trees.specs.Tree.{Tree}
use Rattle.cv_parse_notation.specs.declared.sign.Sign.{Sign}
use Rattle.cv_parse_grammar.specs.Files.{levels}
use Rattle.cv_parse_grammar.specs.Filled.{first_site}
use Rattle.cv_parse_grammar.specs.Identities.{ids_of, is_among}
use Rattle.cv_parse_grammar.specs.Names.{declares, is_used}
use Rattle.cv_parse_grammar.specs.Rules.{File, file, heads, rule}
use Rattle.cv_parse_grammar.specs.Whole.{IsRead, built_in}
use Rattle.cv_parse_grammar.proofs.Identities.{among, declared_names}
use Rattle.cv_meaning.specs.Interpretation.{is_constant_of}
use Rattle.cv_parse.specs.Parsed.{Parsed, parsed}
use Rattle.cv_parse.proofs.Exactness.{said_is_saying}
use Rattle.cv_scope_rules.specs.Scope.{IsScoped}
use Rattle.cv_scope_rules.specs.Phrases.{Inputs, IsWellFormed}
use Rattle.cv_parse_laws.specs.Shapes.{IsFree, IsOfSort, IsShaped}
use Rattle.cv_parse_grammar.specs.yields.Yields.{AllUsed}
use Rattle.cv_parse_laws.proofs.Filling.{filled_is}
use Rattle.cv_parse_grammar.proofs.yields.Naming.{all_used, bound_undeclared, undeclared_constant}
use Rattle.cv_parse_laws.proofs.Rows.{of_file, rows}
use Rattle.cv_parse_grammar.proofs.yields.Yielding.{forms_tell}

-- a name that is bound is no constant of the declarations
pub constants_free : (ts : List Sign) (ds : List Declaration) (s : Option (ℕ × ℕ)) (g : Tree) (w : IsRead ts ds s g) → AllUsed (IsFree (is_constant_of ds)) w.uses
constants_free ts ds s g w =
    let f : File = record { decls = ds; script = s; game = w.text } in
    all_used (λ u. IsFree (is_constant_of ds) u.role u.name) w.uses (λ before u behind e b.
    let d : is_used declares u.name (built_in ∷ w.uses) ≡ false = bound_undeclared (built_in ∷ w.uses) w.named (built_in ∷ before) u behind (ap (λ l. built_in ∷ l) e) b in
    let k : is_used declares u.name w.uses ≡ false = (or_parts (0 == u.name) (is_used declares u.name w.uses) d).1 in
    let l : is_among (ids_of ds) u.name ≡ false = sym (ap (λ l. is_among l u.name) (declared_names levels ts f w.uses w.spelled)) ∙ (sym (among w.uses u.name) ∙ k) in
    not_from_false (is_constant_of ds u.name) (undeclared_constant ds u.name l)
    )

-- the game of what was read
pub read_is : (ts : List Sign) (ds : List Declaration) (s : Option (ℕ × ℕ)) (g : Tree) → IsRead ts ds s g → IsShaped (is_constant_of ds) Inputs g
read_is ts ds s g w =
    let barred = is_constant_of ds in
    let f : File = record { decls = ds; script = s; game = w.text } in
    let y = forms_tell (IsFree barred) (IsOfSort barred) heads rule (rows barred) file levels ts f w.uses [] w.spelled (constants_free ts ds s g w) in
    subst (IsShaped barred Inputs) w.stands_for (filled_is (λ x. first_site x 0 w.text) [] Inputs w.text ((of_file barred).gives f y))

-- the game of a file
pub game_is : (limit : ℕ) (signs : List Sign) (p : Parsed) → parsed limit signs ≡ Ok p → IsShaped (is_constant_of p.declarations) Inputs p.game
game_is limit signs p e =
    let w = said_is_saying limit signs p e in
    subst (λ ds. IsShaped (is_constant_of ds) Inputs p.game) (sym w.declared) (read_is signs w.decls w.script p.game w.read)

pub well_formed : (limit : ℕ) (signs : List Sign) (p : Parsed) → parsed limit signs ≡ Ok p → IsScoped p.declarations p.game → IsWellFormed p.declarations p.game
well_formed limit signs p e s = let w = game_is limit signs p e in record { scoped = s; phrase = w.phrase; constants = w.free }
