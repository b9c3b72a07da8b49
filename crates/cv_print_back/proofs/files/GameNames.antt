-- The names of the game of a file obey their rules where the game is printed.
use Rattle.std.proofs.Common.{◌≡◌, ℕ, true, false, ◌&&◌, ◌||◌, ◌==◌, List, [], ◌∷◌, ◌++◌, append_assoc, length, Option, Some, None, Ok, refl, ap, sym, ◌∙◌, subst}
use Rattle.std.proofs.lemmas.Bool.{or_from, or_right}
use Rattle.std.proofs.lemmas.List.Folds.{list_any-append}
use Rattle.cv_pool.specs.KindTree.{KindTree}
use Rattle.cv_syntax.specs.declared.decls.Decl.{Decl}
use Rattle.cv_syntax.specs.declared.decls.Decl.TheVariants as decl
use Rattle.cv_syntax_trees.specs.Declarations.{Declaration, Named, Equation, Equiv, Query}
use Rattle.cv_syntax.specs.Declarations.{declarations, declared}
use Rattle.cv_syntax_trees.specs.Tree.{Tree}
use Rattle.cv_parse_notation.specs.declared.sign.Sign.{Sign}
use Rattle.cv_parse_notation.specs.Spells.{Use}
use Rattle.cv_parse_grammar.specs.declared.role.Asked.{Asked}
use Rattle.cv_parse_grammar.specs.declared.role.Region.TheVariants.{InProcess}
use Rattle.cv_parse_grammar.specs.declared.role.Role.{Role}
use Rattle.cv_parse_grammar.specs.declared.role.Role.TheVariants.{Enters, Leaves}
use Rattle.cv_parse_grammar.specs.Filled.{filled_at, first_site}
use Rattle.cv_parse_grammar.specs.Identities.{is_among}
use Rattle.cv_parse_grammar.specs.Names.{AreNamed, Uses, binds_index, binds_variable, declares, declares_as, is_used, name_fault, part_from}
use Rattle.cv_parse_grammar.specs.Rules.{File}
use Rattle.cv_parse_grammar.specs.Whole.{IsRead, built_in}
use Rattle.cv_parse_grammar.proofs.Identities.{ids_are_distinct}
use Rattle.cv_parse_grammar.proofs.Names.{named_has_none}
use Rattle.cv_parse.specs.Games.{declared_as, declared_before, declared_by}
use Rattle.cv_parse.specs.Parsed.{Parsed, bool_type, parsed}
use Rattle.cv_parse.proofs.Exactness.{said_is_saying}
use Rattle.cv_print_bytes.specs.terminals.Signs.{game_signs}
use Rattle.cv_print_bytes.specs.terminals.Told.{game_uses, process_told}
use Rattle.cv_print_back.specs.Texts.{told_of}
use Rattle.cv_print_back.proofs.files.Declaring.{IsOutside, declaring, named_use, uses_of, uses_of_all}
use Rattle.cv_print_back.proofs.files.Files.{FileSays, file_says, site_is_defined, variables_are}
use Rattle.cv_print_back.proofs.files.TextNames.{obeys_in_text, part_append, part_of_one, used_left, used_right}
use Rattle.cv_print_back.proofs.files.PrintNames.{Ready, any_declared, are_named, bare, bare_told, bare_variables, declarations_obey, declared_there, obeys_in_print}
use Rattle.cv_print_back.proofs.files.Passing.{Obey, Passes, use_of, variables_in}
use Rattle.cv_print_back.proofs.files.Tales.{told_by}

-- what is declared before a game is what its declarations declare

named_front : (o : Option Asked) (x : ℕ) (us : Uses) → named_use o x us ≡ declared_as o x ++ us
named_front None x us = refl
named_front (Some a) x us = refl

one_before : (trees : List KindTree) (d : Decl) (us : Uses) → uses_of (declared trees d) us ≡ declared_by d ++ us
one_before trees (decl.Name id class args result) us = named_front _ id.0 us
one_before trees (decl.Equation n) us = refl
one_before trees (decl.Equiv id n) us = refl
one_before trees (decl.Query n) us = refl

all_before : (trees : List KindTree) (l : List Decl) → uses_of_all (declarations trees l) [] ≡ declared_before l
all_before trees [] = refl
all_before trees (d ∷ l) = one_before trees d (uses_of_all (declarations trees l) []) ∙ ap (λ z. declared_by d ++ z) (all_before trees l)

named_behind : (o : Option Asked) (x : ℕ) (us vs : Uses) → named_use o x (us ++ vs) ≡ named_use o x us ++ vs
named_behind None x us vs = refl
named_behind (Some a) x us vs = refl

one_behind : (d : Declaration) (us vs : Uses) → uses_of d (us ++ vs) ≡ uses_of d us ++ vs
one_behind (Named x c args result) us vs = named_behind _ x us vs
one_behind (Equation t) us vs = refl
one_behind (Equiv x t) us vs = refl
one_behind (Query t) us vs = refl

in_front : (ds : List Declaration) (us : Uses) → uses_of_all ds us ≡ uses_of_all ds [] ++ us
in_front [] us = refl
in_front (d ∷ ds) us = ap (uses_of d) (in_front ds us) ∙ one_behind d (uses_of_all ds []) us

-- a variable that is used behind uses that bind none is bound behind them
bound_behind : (x : ℕ) (us vs : Uses) → IsOutside us vs → is_used binds_variable x us ≡ true → is_used binds_variable x vs ≡ true
bound_behind x us vs w e =
    let s : (is_used binds_variable x w.front || is_used binds_variable x vs) ≡ true = sym (list_any-append (λ u. binds_variable u.role && (u.name == x)) w.front vs) ∙ (sym (ap (is_used binds_variable x) w.split) ∙ e) in
    sym (ap (λ c. c || is_used binds_variable x vs) (w.variables x)) ∙ s

module _ (ts : List Sign) (ds : List Declaration) (s : Option (ℕ × ℕ)) (g : Tree) (r : IsRead ts ds s g) where
  abbrev the_file : File
  the_file = record { decls = ds; script = s; game = r.text }

  abbrev all : Uses
  all = built_in ∷ r.uses

  abbrev sites : ℕ → Option ℕ
  sites x = first_site x 0 r.text

  -- a variable with a first definition is bound somewhere
  sited : (x k : ℕ) → sites x ≡ Some k → is_used binds_variable x all ≡ true
  sited x k e =
      let w = file_says all (λ _. None) (λ y j f. absurd (cc)) ts the_file r.uses r.spelled in
      let d : is_among (variables_in w.from_game) x ≡ true = sym (ap (λ l. is_among l x) w.game.defines) ∙ site_is_defined r.text x 0 k (variables_in w.from_end) e in
      let b : is_used binds_variable x w.from_game ≡ true = variables_are w.from_game x ∙ d in
      let c : is_used binds_variable x w.from_process ≡ true = ap (is_used binds_variable x) w.enters.1 ∙ b in
      let f : is_used binds_variable x w.from_script ≡ true = ap (is_used binds_variable x) w.script_binds.split ∙ used_right binds_variable x w.script_binds.front w.from_process c in
      ap (is_used binds_variable x) w.declarations_bind.split ∙ used_right binds_variable x w.declarations_bind.front w.from_script f

  what : FileSays all sites the_file r.uses []
  what = file_says all sites sited ts the_file r.uses r.spelled

  -- the uses before the process, and the one that begins it
  abbrev outer : Uses
  outer = built_in ∷ what.declarations_bind.front

  abbrev start : Use Role
  start = record { role = Enters InProcess; name = 0; left = what.enters.0 }

  abbrev before_game : Uses
  before_game = outer ++ (what.script_binds.front ++ start ∷ [])

  in_parts : all ≡ before_game ++ what.from_game
  in_parts =
      ap (λ z. built_in ∷ z) (what.declarations_bind.split ∙ ap (λ z. what.declarations_bind.front ++ z) (what.script_binds.split ∙ ap (λ z. what.script_binds.front ++ z) what.enters.1))
      ∙ (ap (λ z. outer ++ z) (sym (append_assoc what.script_binds.front (start ∷ []) what.from_game)) ∙ sym (append_assoc outer (what.script_binds.front ++ start ∷ []) what.from_game))

  game_is_open : part_from None before_game ≡ Some InProcess
  game_is_open =
      part_append None outer (what.script_binds.front ++ start ∷ []) ∙ (part_append (part_from None outer) what.script_binds.front (start ∷ []) ∙ part_of_one (part_from (part_from None outer) what.script_binds.front) start)

  no_index : (y : ℕ) → is_used binds_index y before_game ≡ false
  no_index y =
      list_any-append (λ u. binds_index u.role && (u.name == y)) outer (what.script_binds.front ++ start ∷ [])
      ∙ or_from (is_used binds_index y outer) (is_used binds_index y (what.script_binds.front ++ start ∷ [])) (what.declarations_bind.indices y)
      (list_any-append (λ u. binds_index u.role && (u.name == y)) what.script_binds.front (start ∷ []) ∙ or_from (is_used binds_index y what.script_binds.front) false (what.script_binds.indices y) refl)

  text_obeys : Obey all true [] what.from_game
  text_obeys = obeys_in_text all r.named before_game what.from_game in_parts game_is_open [] (λ y e. let b : false ≡ true = sym (no_index y) ∙ e in absurd (cc))

  -- the process ends in front of the end of the file
  at_the_end : Passes all [] what.from_end (use_of Leaves 0 ∷ [])
  at_the_end = subst (λ z. Passes all [] z (use_of Leaves 0 ∷ [])) (sym what.leaves.1) (record { variables = refl; obey = λ seen n k. refl })

  abbrev printed : Uses
  printed = game_uses g 0 ++ record { role = Leaves; name = 0; left = 0 } ∷ []

  printed_is : bare printed ≡ told_by (process_told (filled_at sites [] r.text)) (use_of Leaves 0 ∷ [])
  printed_is = bare_told (process_told g) 0 (record { role = Leaves; name = 0; left = 0 } ∷ []) ∙ ap (λ t. told_by (process_told t) (use_of Leaves 0 ∷ [])) (sym r.stands_for)

  passes : Passes all [] what.from_game (bare printed)
  passes = subst (λ z. Passes all [] what.from_game z) (sym printed_is) (what.game.passes [] (use_of Leaves 0 ∷ []) at_the_end)

  game_obeys : Obey all false [] (bare printed)
  game_obeys = passes.obey [] tt text_obeys

  -- what the file declares

  abbrev declared_first : Uses
  declared_first = uses_of_all (bool_type ∷ ds) []

  all_declared : declaring all ≡ declared_first
  all_declared =
      let e : declaring what.from_script ≡ [] = what.script_declares ∙ (ap declaring what.enters.1 ∙ (what.game_declares ∙ ap declaring what.leaves.1)) in
      ap (λ z. uses_of bool_type z) (what.declares ∙ ap (uses_of_all ds) e)

  abbrev opening : Uses
  opening = record { role = Enters InProcess; name = 0; left = length (game_signs g) } ∷ []

  ready : Ready all [] (declared_first ++ opening) printed
  ready = record {
    asked = λ a x e. used_left (declares_as a) x declared_first opening (sym (ap (is_used (declares_as a) x) all_declared) ∙ (sym (declared_there a x all) ∙ e));
    declared = λ x e.
        list_any-append (λ u. declares u.role && (u.name == x)) declared_first opening
        ∙ or_from (is_used declares x declared_first) false (sym (ap (is_used declares x) all_declared) ∙ (sym (any_declared x all) ∙ e)) refl;
    variable = λ x e.
        let b : is_used binds_variable x what.from_script ≡ true = bound_behind x r.uses what.from_script what.declarations_bind e in
        let c : is_used binds_variable x what.from_process ≡ true = bound_behind x what.from_script what.from_process what.script_binds b in
        let d : is_used binds_variable x what.from_game ≡ true = sym (ap (is_used binds_variable x) what.enters.1) ∙ c in
        let l : variables_in what.from_game ≡ variables_in printed = passes.variables ∙ bare_variables printed in
        or_right (is_used binds_variable x (declared_first ++ opening)) (is_used binds_variable x printed)
        (variables_are printed x ∙ (ap (λ z. is_among z x) (sym l) ∙ (sym (variables_are what.from_game x) ∙ d)));
    index = λ x e. absurd (cc);
    part = part_append None declared_first opening ∙ part_of_one (part_from None declared_first) (record { role = Enters InProcess; name = 0; left = length (game_signs g) });
  }

  pub game_is_named : AreNamed (declared_first ++ told_of g)
  game_is_named =
      subst AreNamed (in_front (bool_type ∷ ds) (told_of g))
      (are_named (uses_of_all (bool_type ∷ ds) (told_of g))
      (declarations_obey (bool_type ∷ ds) (told_of g) (ids_are_distinct ts ds s g r)
      (refl, obeys_in_print all printed (declared_first ++ opening) [] ready game_obeys)))

-- the names of the game of a file obey behind what the file declares
pub no_fault_back : (limit : ℕ) (signs : List Sign) (p : Parsed) (trees : List KindTree) (list : List Decl) → parsed limit signs ≡ Ok p → declarations trees list ≡ p.declarations → name_fault (declared_before list ++ told_of p.game) ≡ None
no_fault_back limit signs p trees list e d =
    let w = said_is_saying limit signs p e in
    let named = game_is_named signs w.decls w.script p.game w.read in
    let same : uses_of_all (bool_type ∷ w.decls) [] ≡ declared_before list = ap (λ l. uses_of_all l []) (sym w.declared ∙ sym d) ∙ all_before trees list in
    named_has_none (declared_before list ++ told_of p.game) (subst (λ z. AreNamed (z ++ told_of p.game)) same named)
