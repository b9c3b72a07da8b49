-- What an asked experiment tests has values, so each choice and test of a typed game with declared sorts has one.
use Rattle.std.proofs.Common.{◌≡◌, ℕ, ◌==◌, Bool, true, false, List, [], ◌∷◌, ◌++◌, flat_map, Contains, inl, inr, refl, sym, subst, eqb-true}
use Rattle.std.proofs.lemmas.Bool.{both_ways}
use Rattle.cv_syntax_trees.specs.Declarations.{Declaration}
use Rattle.cv_syntax_trees.specs.Tree.{Tree}
use Rattle.cv_meaning.specs.Advantage.{IsAsked, secrecy_query}
use Rattle.cv_meaning.specs.Experiments.{Breaks, Experiment, Guesses, mode_of}
use Rattle.cv_meaning.specs.Interpretation.{Interpretation, setting_of}
use Rattle.cv_meaning.specs.Runs.{Events, Random, Real}
use Rattle.cv_meaning.specs.Satisfies.{Satisfies}
use Rattle.cv_meaning_laws.proofs.adequacy.Lists.{contains_has}
use Rattle.cv_meaning_laws.proofs.Listed.{Has}
use Rattle.cv_scope_rules.specs.declared.typing.form.Form.TheVariants.{InProcess}
use Rattle.cv_scope_rules.specs.typing.Parts.{AreTyped, IsTypedFile, IsTypedPart, Part, declaration_parts, game_part, nothing_above}
use Rattle.cv_scope_rules.specs.typing.Wants.{Run}
use Rattle.cv_meaning.specs.Queries.{queries_in}
use Rattle.cv_query_form.specs.Rules.{AreAsked, HasValues, MayBeAsked}
use Rattle.cv_typing_runs.specs.Games.{HasDeclaredSorts}
use Rattle.cv_meaning_chances.specs.values.Values.{HasValuesIn, is_tested}
use Rattle.cv_sequences.proofs.Choices.{game_valued}
use Rattle.cv_scope_rules.specs.Phrases.{Inputs, is_phrase}

-- the game is the last part of a file
last_typed : (ds : List Declaration) (parts : List Part) (part : Part) → AreTyped ds (parts ++ part ∷ []) → IsTypedPart ds part
unfolding AreTyped
last_typed ds [] part h = h.0
last_typed ds (p ∷ parts) part h = last_typed ds parts part h.1

each_asked : (game : Tree) (queries : List Tree) → AreAsked game queries → (q : Tree) → Has queries q → MayBeAsked game q
each_asked game [] a q h = absurd h
each_asked game (p ∷ queries) a q (inl e) = subst (MayBeAsked game) (sym e) a.0
each_asked game (p ∷ queries) a q (inr h) = each_asked game queries a.1 q h

secret_valued : (game : Tree) (one : Bool) (x : ℕ) → MayBeAsked game (secrecy_query one x) → HasValues game x
unfolding MayBeAsked
secret_valued game true x a = a
secret_valued game false x a = a

tested_valued : (game : Tree) (queries : List Tree) → AreAsked game queries → (one : Bool) (x : ℕ) → Contains queries (secrecy_query one x) → (y : ℕ) → (y == x) ≡ true → HasValues game y
tested_valued game queries a one x h y e = subst (HasValues game) (sym (eqb-true y x e)) (secret_valued game one x (each_asked game queries a (secrecy_query one x) (contains_has queries (secrecy_query one x) h)))

-- what an asked experiment tests has values of a type
tests_valued : (game : Tree) (queries : List Tree) → AreAsked game queries → (x : Experiment) → IsAsked queries x → (y : ℕ) → is_tested (mode_of x) y ≡ true → HasValues game y
tests_valued game queries a (Breaks q) h y e = absurd (both_ways false refl e)
tests_valued game queries a (Guesses Events) h y e = absurd h
tests_valued game queries a (Guesses (Real one x)) h y e = tested_valued game queries a one x h y e
tests_valued game queries a (Guesses (Random one x)) h y e = tested_valued game queries a one x h y e

pub choices_valued : (ds : List Declaration) (game : Tree) → is_phrase Inputs game ≡ true → IsTypedFile ds game → HasDeclaredSorts ds game → AreAsked game (queries_in ds) → (i : Interpretation) → Satisfies ds i → (x : Experiment) → IsAsked (queries_in ds) x
    → HasValuesIn (setting_of ds i) (mode_of x) game
choices_valued ds game p t d a i sat x h = game_valued ds game i sat (mode_of x) (tests_valued game (queries_in ds) a x h) nothing_above (Run InProcess) p (last_typed ds (flat_map (declaration_parts ds) ds) (game_part game) t) d
