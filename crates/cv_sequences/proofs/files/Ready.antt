-- An accepted file has all that the laws of runs, of cryptographic steps and of contexts ask for.
use Rattle.std.proofs.Common.{◌≡◌, ℕ, suc, ◌≤◌, ◌==◌, Bool, true, false, if◌then◌else◌, List, [], ◌∷◌, length, flat_map, refl, ap, sym, ◌∙◌, subst, arith, Option, Some, None, Ok}
use Rattle.std.specs.Prelude.{Contains}
use Rattle.std.specs.List.{AllByRecursion}
use Rattle.std.proofs.lemmas.Bool.{both_ways}
use Rattle.cv_syntax_trees.specs.Declarations.{Declaration, Equation, Equiv, Named, Query}
use Rattle.cv_syntax_trees.specs.Tree.{Tree, second}
use Rattle.cv_parse_notation.specs.declared.sign.Sign.{Sign}
use Rattle.cv_parse_tables.specs.terminals.Signs.{signs_of}
use Rattle.cv_parse.specs.Parsed.{Parsed, parsed}
use Rattle.cv_parse.proofs.Exactness.{says_is_said}
use Rattle.cv_parse_laws.proofs.Games.{well_formed}
use Rattle.cv_parse_sorts.proofs.Closed.{equations_closed}
use Rattle.cv_parse_sorts.proofs.Constants.{constants_known}
use Rattle.cv_parse_sorts.proofs.Known.{queries_known}
use Rattle.cv_parse_laws.proofs.roles.Games.{arguments_named, constants_declared, sorts_declared}
use Rattle.cv_parse_sorts.proofs.NamedGames.{functions_and_cells_named}
use Rattle.cv_parse_sorts.proofs.TypedRuns.{last_typed}
use Rattle.cv_accept.specs.Accepted.{Content, IsFile, read_of, most_pool, most_bytes}
use Rattle.cv_accept.proofs.Blocks.{few_names}
use Rattle.cv_accept.proofs.Fewness.{few_tokens_read}
use Rattle.cv_library.specs.Givens.{Given}
use Rattle.cv_accept.proofs.Readings.{accepted, read_is_file}
use Rattle.cv_meaning.specs.Advantage.{IsAsked}
use Rattle.cv_meaning.specs.Experiments.{Experiment, mode_of}
use Rattle.cv_meaning.specs.Interpretation.{Interpretation, is_constant_of, setting_of}
use Rattle.cv_meaning.specs.Queries.{queries_in}
use Rattle.cv_meaning.specs.Runs.{Adversary, Events}
use Rattle.cv_meaning.specs.Satisfies.{Satisfies}
use Rattle.cv_meaning_chances.specs.Fractions.{HasTapes}
use Rattle.cv_meaning.specs.contexts.ContextAdvantage.{context_advantage}
use Rattle.cv_meaning_chances.specs.values.Values.{HasValuesIn}
use Rattle.cv_group_rules.specs.Symbols.{symbols_of}
use Rattle.cv_group_rules.specs.Faults.{IsAccepted, OneIndex, equivalences_in}
use Rattle.cv_group_rules.specs.Rules.{branches_have_one_index}
use Rattle.cv_scope_rules.specs.Scope.{IsScoped}
use Rattle.cv_scope_rules.specs.declared.typing.form.Form.TheVariants.{InProcess}
use Rattle.cv_scope_rules.specs.typing.Parts.{IsTypedFile, declaration_parts, game_part, nothing_above}
use Rattle.cv_scope_rules.specs.typing.Signature.{declaration_of}
use Rattle.cv_scope_rules.specs.typing.Wants.{Run}
use Rattle.cv_typing_runs.specs.Games.{HasConstants}
use Rattle.cv_typing_runs.proofs.Games.{known}
use Rattle.cv_scene.specs.Reductions.{context_of_game}
use Rattle.cv_derive_laws.specs.stores.Holding.{IsReady}
use Rattle.cv_derive_laws.specs.stores.Soundness.{DerivationsHold, DerivedBodiesAreUnreached}
use Rattle.cv_match_laws.specs.answers.Answers.{KnowsConstants, file_scene}
use Rattle.cv_context_files.proofs.forms.Files.{left_forms}
use Rattle.cv_steps.specs.Asked.{AskForNoIndex}
use Rattle.cv_context_right_side.proofs.queries.Asked.{asked_no_index}
use Rattle.cv_match_laws.specs.functions.Forms.{HasLeftForm}
use Rattle.cv_context_files.proofs.types.Files.{tapes_there}
use Rattle.cv_context_files.specs.right_names.Bindings.{HasFreeNames}
use Rattle.cv_context_files.proofs.right_names.Files.{free_sides}
use Rattle.cv_inline_names_laws.specs.cells.Layout.{IsRightFunction}
use Rattle.cv_context_files.specs.right_forms.Forms.{HasRightForm}
use Rattle.cv_context_files.proofs.right_forms.Files.{right_forms}
use Rattle.cv_context_files.proofs.right_forms.TypedFiles.{right}
use Rattle.cv_meaning.specs.contexts.Groups.{Right, side_group}
use Rattle.cv_scene.specs.Scenes.{KnowsQueries}
use Rattle.cv_sequences.specs.Chains.{IsEquivalenceOfFile, IsFileOf}
use Rattle.cv_sequences.proofs.Asked.{choices_valued}
use Rattle.cv_sequences.proofs.Choices.{game_valued}
use Rattle.cv_steps_laws.specs.crypto.Conditions.{equivalence_by}
use Rattle.cv_steps_laws.specs.crypto.Steps.{first_answer, reduction_of}
use Rattle.cv_syntax_trees.proofs.lists.Options.{some_injective}

game_ready : (limit : ℕ) (signs : List Sign) (p : Parsed) → parsed limit signs ≡ Ok p → IsTypedFile p.declarations p.game → IsScoped p.declarations p.game → IsReady p.declarations p.game
game_ready limit signs p e t s =
    let formed = well_formed limit signs p e s in
    let cells = functions_and_cells_named limit signs p e in
    record {
      arguments = arguments_named limit signs p e;
      equations = equations_closed limit signs p e t;
      formed = formed;
      typed = last_typed p.declarations (flat_map (declaration_parts p.declarations) p.declarations) (game_part p.game) t;
      names = known p.declarations p.game (constants_declared limit signs p e) formed cells;
      cells = cells;
      sorts = sorts_declared limit signs p e;
    }

-- in a game that is ready each choice has a value, where nothing is tested
pub events_valued : (ds : List Declaration) (game : Tree) → IsReady ds game → (i : Interpretation) → Satisfies ds i → HasValuesIn (setting_of ds i) Events game
events_valued ds game w i sat = game_valued ds game i sat Events (λ y e. absurd (both_ways false refl e)) nothing_above (Run InProcess) w.formed.phrase w.typed w.sorts

-- an equivalence that a step names is one of those of the file

behind : (ds : List Declaration) (d : Declaration) (y : ℕ) (t : Tree) (b : Bool) → equivalence_by (Some d) ≡ None → equivalence_by (if b then Some d else declaration_of ds y) ≡ Some t → equivalence_by (declaration_of ds y) ≡ Some t
behind ds d y t true n e = absurd (let z = sym n ∙ e in cc)
behind ds d y t false n e = e

first_or_later : (Q : Type 0) (later : Option Declaration) (x : ℕ) (u t : Tree) → (u ≡ t → Q) → (equivalence_by later ≡ Some t → Q) → (b : Bool) → equivalence_by (if b then Some (Equiv x u) else later) ≡ Some t → Q
first_or_later Q later x u t here there true e = here (some_injective e)
first_or_later Q later x u t here there false e = there e

of_each : (P : Tree → Type 0) (ds : List Declaration) → AllByRecursion P (equivalences_in ds) → (y : ℕ) (t : Tree) → equivalence_by (declaration_of ds y) ≡ Some t → P t
unfolding equivalences_in
of_each P [] h y t e = absurd (cc)
of_each P (Equiv x u ∷ ds) h y t e = first_or_later (P t) (declaration_of ds y) x u t (λ i. subst P i h.0) (of_each P ds h.1 y t) (y == x) e
of_each P (Named x c a r ∷ ds) h y t e = of_each P ds h y t (behind ds (Named x c a r) y t (y == x) refl e)
of_each P (Equation u ∷ ds) h y t e = of_each P ds h y t e
of_each P (Query u ∷ ds) h y t e = of_each P ds h y t e

-- it is declared by a name
record IsDeclared (ds : List Declaration) (t : Tree) : Type 0 where
  pub name : ℕ
  pub there : Contains ds (Equiv name t)

declared_first : (ds : List Declaration) (x : ℕ) (t u : Tree) → u ≡ t → IsDeclared (Equiv x u ∷ ds) t
declared_first ds x t u e = record { name = x; there = (0, omega arith, ap (Equiv x) e) }

declared_later : (ds : List Declaration) (d : Declaration) (t : Tree) → IsDeclared ds t → IsDeclared (d ∷ ds) t
declared_later ds d t w = record { name = w.name; there = (suc w.there.0, omega (arith, w.there.1), w.there.2) }

declared : (ds : List Declaration) (y : ℕ) (t : Tree) → equivalence_by (declaration_of ds y) ≡ Some t → IsDeclared ds t
declared [] y t e = absurd (cc)
declared (Equiv x u ∷ ds) y t e = first_or_later (IsDeclared (Equiv x u ∷ ds) t) (declaration_of ds y) x u t (declared_first ds x t u) (λ i. declared_later ds (Equiv x u) t (declared ds y t i)) (y == x) e
declared (Named x c a r ∷ ds) y t e = declared_later ds (Named x c a r) t (declared ds y t (behind ds (Named x c a r) y t (y == x) refl e))
declared (Equation u ∷ ds) y t e = declared_later ds (Equation u) t (declared ds y t e)
declared (Query u ∷ ds) y t e = declared_later ds (Query u) t (declared ds y t e)

module _ (source : Given) (c : Content) (reads : read_of most_pool source ≡ Ok c) where
  pub file : IsFile most_pool source c
  file = read_is_file most_pool source c reads

  parses : parsed most_pool (signs_of file.tokens).signs ≡ Ok file.said
  parses = says_is_said most_pool (signs_of file.tokens).signs file.said file.says

  -- what is known of what the tokens say is known of the file
  as_said : (P : List Declaration → (own : ℕ) → Tree → Type 0) → P file.said.declarations (length (signs_of file.tokens).names) file.said.game → P c.declarations c.own c.game
  as_said P h = subst (λ (d : Content). P d.declarations d.own d.game) (sym file.content) h

  equivalence_said : (y : ℕ) (t : Tree) → equivalence_by (declaration_of file.said.declarations y) ≡ Some t → IsEquivalenceOfFile file.said.declarations t
  equivalence_said y t e =
      let ds = file.said.declarations in
      let a = of_each (IsAccepted (symbols_of ds)) ds file.groups y t e in
      let one = a.kept OneIndex in
      let n = of_each (λ u. HasFreeNames (is_constant_of ds) (second u)) ds (free_sides most_pool (signs_of file.tokens).signs file.said parses) y t e in
      record {
        left = of_each HasLeftForm ds (left_forms most_pool (signs_of file.tokens).signs file.said parses) y t e;
        accepted = a;
        right = record {
          side = (of_each (λ u. branches_have_one_index u ≡ true → HasRightForm u) ds (right_forms most_pool (signs_of file.tokens).signs file.said parses) y t e one).side;
          functions = of_each (λ u. branches_have_one_index u ≡ true → AllByRecursion IsRightFunction (side_group Right u).functions) ds (right most_pool (signs_of file.tokens).signs file.said parses file.typed) y t e one;
          bare = n.bare;
          free = n.free;
        };
      }

  pub equivalences : (y : ℕ) (t : Tree) → equivalence_by (declaration_of c.declarations y) ≡ Some t → IsEquivalenceOfFile c.declarations t
  equivalences = as_said (λ ds own game. (y : ℕ) (t : Tree) → equivalence_by (declaration_of ds y) ≡ Some t → IsEquivalenceOfFile ds t) equivalence_said

  -- the advantage of the context of a game has tapes, where the choices of the game have values
  pub taped : (game : Tree) (y : ℕ) (t : Tree) (key : ℕ) → equivalence_by (declaration_of c.declarations y) ≡ Some t → (i : Interpretation) → Satisfies c.declarations i → (x : Experiment) (a : Adversary) → HasValuesIn (setting_of c.declarations i) (mode_of x) game
      → HasTapes (context_advantage c.declarations i (context_of_game (reduction_of (file_scene c.declarations c.own game) t key)) x a)
  taped game = as_said (λ ds own first. (y : ℕ) (t : Tree) (key : ℕ) → equivalence_by (declaration_of ds y) ≡ Some t → (i : Interpretation) → Satisfies ds i → (x : Experiment) (a : Adversary) → HasValuesIn (setting_of ds i) (mode_of x) game
      → HasTapes (context_advantage ds i (context_of_game (reduction_of (file_scene ds own game) t key)) x a))
      (λ y t key e i sat x a v.
      let d = declared file.said.declarations y t e in
      tapes_there most_pool (signs_of file.tokens).signs file.said parses file.typed (reduction_of (file_scene file.said.declarations (length (signs_of file.tokens).names) game) t key) d.name refl d.there i sat x a v)

  -- the choices of its game have values in the experiments for which its queries ask
  pub valued : IsReady c.declarations c.game → (i : Interpretation) → Satisfies c.declarations i → (x : Experiment) → IsAsked (queries_in c.declarations) x → HasValuesIn (setting_of c.declarations i) (mode_of x) c.game
  valued w =
      let a = accepted most_pool source c reads in
      choices_valued c.declarations c.game w.formed.phrase a.typed w.sorts a.asked

  pub file_of : (holds : (ds : List Declaration) → DerivationsHold ds) (unreached : (ds : List Declaration) → DerivedBodiesAreUnreached ds) → length source.bytes ≤ most_bytes → IsFileOf c.declarations c.own c.game
  file_of holds unreached few = record {
    ready = as_said (λ ds own game. IsReady ds game) (game_ready most_pool (signs_of file.tokens).signs file.said parses file.typed file.scoped);
    constants = as_said (λ ds own game. HasConstants ds) (constants_declared most_pool (signs_of file.tokens).signs file.said parses);
    derivations = holds c.declarations;
    bodies = unreached c.declarations;
    known_queries = as_said (λ ds own game. KnowsQueries (file_scene ds own game)) (queries_known most_pool file.tokens file.said file.says);
    known_constants = as_said (λ ds own game. KnowsConstants (file_scene ds own game)) (constants_known most_pool file.tokens file.said file.says);
    names = as_said (λ ds own game. own ≤ first_answer) (
        let t = few_tokens_read source file.tokens few file.lexed in
        let n = few_names file.tokens in
        omega arith
        );
    unasked = as_said (λ ds own game. AskForNoIndex (file_scene ds own game)) (asked_no_index (file_scene file.said.declarations (length (signs_of file.tokens).names) file.said.game) file.scoped file.asked);
    equivalences = equivalences;
  }
