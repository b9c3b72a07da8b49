-- The chances with the values of copies and with random ones are equal, where no two copies have one draw.
use Rattle.std.proofs.Common.{◌≡◌, ℕ, Bool, true, false, List, [], ◌∷◌, refl, sym, ap, subst, ◌∙◌}
use Rattle.std.specs.List.{AllByRecursion}
use Rattle.cv_meaning.specs.Tapes.{Cell, New_at, Test_at, Tape, cells_of, is_in}
use Rattle.cv_meaning.specs.Interpretation.{Interpretation, Setting}
use Rattle.cv_meaning.specs.Consulted.{IsListed}
use Rattle.cv_meaning.specs.Runs.{Real, Random, Adversary}
use Rattle.cv_meaning.specs.Serving.{Visit}
use Rattle.cv_meaning.specs.Cells.{cells, coin_cells}
use Rattle.cv_meaning.specs.Experiments.{Guesses, coins_on, holds_in, holds_on, visits_of_run}
use Rattle.cv_meaning.specs.Advantage.{chance_of}
use Rattle.cv_meaning_laws.proofs.Listed.{cells_distinct}
use Rattle.cv_meaning_chances.specs.Tests.{IsWithin}
use Rattle.cv_meaning_chances.specs.maps.Maps.{IsInjection, LooksOnlyAt}
use Rattle.cv_meaning_chances.proofs.maps.Maps.{chance_same_along, undone}
use Rattle.cv_meaning_chances.specs.unread.Sizes.{size_in}
use Rattle.cv_meaning_runs.specs.Agreement.{AgreeAt}
use Rattle.cv_meaning_runs.specs.Moments.{cells_of_moment, moments_of_run}
use Rattle.cv_meaning_runs.specs.Replacement.{Process}
use Rattle.cv_meaning_runs.proofs.Listed.{cells_listed, listed_same, no_keys_consulted}
use Rattle.cv_meaning_runs.proofs.Replacement.{agree_refl}
use Rattle.cv_meaning_runs.proofs.Together.{visits_among_moments}
use Rattle.cv_scope_rules.specs.Phrases.{Inputs}
use Rattle.cv_scope_rules.proofs.Plain.{phrase_plain}
use Rattle.cv_scope_rules.specs.declared.typing.form.Form.TheVariants.{InProcess}
use Rattle.cv_scope_rules.specs.typing.Parts.{nothing_above}
use Rattle.cv_scope_rules.specs.typing.Wants.{Run}
use Rattle.cv_scope_runs.specs.Reads.{VisitReadsAssigned}
use Rattle.cv_scope_runs.proofs.FactsRuns.{all_reads_assigned}
use Rattle.cv_scope_runs.proofs.Plain.{game_context, plain_no_calls}
use Rattle.cv_typing_runs.proofs.Games.{restrictions, typed}
use Rattle.cv_steps.proofs.Testable.{testable, local}
use Rattle.cv_scene.specs.Scenes.{Scene}
use Rattle.cv_derive_laws.specs.stores.Holding.{IsReady}
use Rattle.cv_query_certificates.specs.Secrets.{AreUnreadCopies, is_copy}
use Rattle.cv_costs.specs.quiet.Quiet.{IsQuiet}
use Rattle.cv_query_secrets.proofs.unread.Alone.{game_has_none}
use Rattle.cv_query_secrets.proofs.unread.Coded.{ReadsAssigned}
use Rattle.cv_query_secrets.proofs.unread.CopyChances.{each_of_flat, reads_among}
use Rattle.cv_query_secrets.proofs.unread.Copies.{HaveOneSort, copying_kind, names, names_unread, quiet_copies}
use Rattle.cv_query_secrets.proofs.unread.CopySizes.{lets_typed, never_copies, odd_for_copies, same_sizes}
use Rattle.cv_query_secrets.proofs.unread.Swaps.{one_size}
use Rattle.cv_syntax_trees.proofs.lists.Each.{AllByRecursion_right}
use Rattle.cv_query_secrets.proofs.sessions.Exchange.{AreOneToOne, Pair, exchanged, exchanged_agrees, exchanged_twice, exchanged_within}
use Rattle.cv_query_secrets.proofs.sessions.Links.{pairs_of}
use Rattle.cv_query_secrets.proofs.sessions.Same.{pairs_same, visits_open}
use Rattle.cv_query_secrets.proofs.sessions.Simulated.{Drawn, IsExpected, c, copied, cs, g, holds_traded, links, moments_expected, traded, visits_traded}

module _ (s : Scene) (x : ℕ) (ready : IsReady s.declarations s.game) (secret : AreUnreadCopies s x) (i : Interpretation) (a : Adversary)
    (one : (t : Tape) → IsWithin (cs s x i a) t → AreOneToOne (links s x i a t)) where
  abbrev G : Setting
  G = g s x i a

  abbrev all : List (Cell × ℕ)
  all = cs s x i a

  abbrev trade : Tape → Tape
  trade = traded s x i a

  quiet : IsQuiet (copying_kind s x (c s x i a)) [] Process s.game
  quiet = quiet_copies s x (c s x i a) secret ready.formed.constants (λ y. refl) ready.formed.phrase (typed s.declarations s.game ready.arguments ready.formed ready.typed ready.names)

  -- in the form of one test the same cells are listed
  sizes : (y : ℕ) (w v : List ℕ) → HaveOneSort s x (c s x i a) y → is_in all (New_at y w) ≡ true → is_in all (Test_at v) ≡ true → one_size (size_in all (Test_at v)) (size_in all (New_at y w)) ≡ true
  unfolding cells
  sizes =
      same_sizes s x i (c s x i a) a s.game (restrictions s.declarations s.game ready.typed) (lets_typed s.declarations s.game nothing_above (Run InProcess) s.game ready.typed)
      (game_has_none x (is_copy s) (never_copies s x i (c s x i a)) (odd_for_copies s x i (c s x i a)) s.game ready.formed.phrase secret.copies)

  -- the moments of the run

  moments_listed : (t : Tape) → AllByRecursion (λ m. AllByRecursion (IsListed all) (cells_of_moment G (Random false x) m)) (moments_of_run G (Random false x) a s.game t)
  moments_listed t =
      each_of_flat (IsListed all) (cells_of_moment G (Random false x)) (moments_of_run G (Random false x) a s.game t)
      (AllByRecursion_right (IsListed all) (cells_of (coin_cells 0 a.coins)) _ (cells_listed G (Random false x) a s.game t (testable x Inputs s.game ready.formed.phrase)))

  moments_read : (t : Tape) → AllByRecursion (ReadsAssigned s x i a) (moments_of_run G (Random false x) a s.game t)
  unfolding visits_of_run
  moments_read t =
      reads_among s x ready secret i a (moments_of_run G (Random false x) a s.game t)
      (subst (AllByRecursion (VisitReadsAssigned G)) (sym (visits_among_moments G (Random false x) a s.game t))
      (all_reads_assigned s.declarations G (Random false x) (a.next (coins_on t 0 a.coins)) t a.moves s.game refl (game_context s.declarations s.game ready.formed)))

  expected : (t : Tape) → AllByRecursion (IsExpected s x i a t) (moments_of_run G (Random false x) a s.game t)
  expected t = moments_expected s x i a t (moments_listed t) (moments_read t)

  -- the other way round

  abbrev real_links : Tape → List Pair
  real_links u = pairs_of G x (visits_of_run G (Real false x) a s.game u)

  abbrev back : Tape → Tape
  back u = exchanged all (copied s x i a) (real_links u) u

  links_same : (t : Tape) → IsWithin all t → links s x i a t ≡ real_links (trade t)
  links_same t w =
      pairs_same x (x ∷ names s x (c s x i a)) G (Drawn s x i a t (trade t)) (visits_of_run G (Random false x) a s.game t) (visits_of_run G (Real false x) a s.game (trade t))
      (visits_traded s x i a sizes t (one t w) quiet (expected t))
      (visits_open x (x ∷ names s x (c s x i a)) G (Random false x) a s.game t ready.formed.phrase (names_unread s x (c s x i a) secret ready.formed.constants))

  trade_back : (t : Tape) → IsWithin all t → back (trade t) ≡ t
  trade_back t w = ap (λ rs. exchanged all (copied s x i a) rs (trade t)) (sym (links_same t w)) ∙ exchanged_twice all (copied s x i a) (links s x i a t) (one t w) t

  -- the run depends on the listed cells alone

  real_same : (t u : Tape) → AgreeAt (cells_of all) t u → visits_of_run G (Real false x) a s.game t ≡ visits_of_run G (Real false x) a s.game u
  unfolding cells
  real_same t u e = (listed_same G (Real false x) a s.game t u local tt (no_keys_consulted G (Real false x) a s.game t (plain_no_calls s.game (phrase_plain Inputs s.game ready.formed.phrase))) e).visits

  back_agrees : (t u : Tape) → AgreeAt (cells_of all) t u → AgreeAt (cells_of all) (back t) (back u)
  back_agrees t u e =
      subst (λ vs. AgreeAt (cells_of all) (back t) (exchanged all (copied s x i a) (pairs_of G x vs) u)) (real_same t u e) (exchanged_agrees all (copied s x i a) (real_links t) t u e)

  one_to_one : IsInjection all all trade
  one_to_one =
      undone all all trade back (λ t w. exchanged_within all (copied s x i a) (cells_distinct G (Random false x) a s.game) (links s x i a t) t w)
      (λ t w. subst (AgreeAt (cells_of all) t) (sym (trade_back t w)) (agree_refl t (cells_of all))) back_agrees

  looks : LooksOnlyAt all (holds_on G (Guesses (Real false x)) a s.game)
  unfolding holds_on cells
  looks t u w e =
      ap (holds_in G (Guesses (Real false x)))
      (listed_same G (Real false x) a s.game t u local tt (no_keys_consulted G (Real false x) a s.game t (plain_no_calls s.game (phrase_plain Inputs s.game ready.formed.phrase))) e).state

  pub equal : chance_of G (Guesses (Real false x)) a s.game ≡ chance_of G (Guesses (Random false x)) a s.game
  unfolding chance_of cells
  equal =
      sym (chance_same_along all all trade (holds_on G (Guesses (Random false x)) a s.game) (holds_on G (Guesses (Real false x)) a s.game) (cells_distinct G (Random false x) a s.game) one_to_one looks refl
      (λ t w. holds_traded s x i a sizes t (one t w) quiet (expected t)))
