-- The chances with the values of copies and with random ones are equal, where one test is answered.
use Rattle.std.proofs.Common.{◌≡◌, ℕ, suc, ◌&&◌, Bool, true, false, cond, List, [], ◌∷◌, flat_map, ◌==◌, Some, None, is_some, refl, sym, ap, ap₂, subst, ◌∙◌}
use Rattle.std.proofs.lemmas.Bool.{both_ways, and_parts, eq-eqb, or_left, or_parts}
use Rattle.std.specs.List.{AllByRecursion}
use Rattle.cv_syntax_trees.specs.declared.head.Head.{Head}
use Rattle.cv_syntax_trees.specs.declared.head.Head.TheVariants.{Repl, In, Key, Call}
use Rattle.cv_syntax_trees.specs.Tree.{Tree, Empty, Node}
use Rattle.cv_meaning.specs.Tapes.{Cell, Coin, Find_at, New_at, Test_at, Tape, cells_of, is_in}
use Rattle.cv_meaning.specs.Side.{no_side}
use Rattle.cv_meaning.specs.Interpretation.{Interpretation, Setting}
use Rattle.cv_meaning.specs.Consulted.{IsListed}
use Rattle.cv_meaning.specs.Runs.{Real, Random, State, Adversary, start, told}
use Rattle.cv_meaning.specs.Cells.{cells, coin_cells}
use Rattle.cv_meaning.specs.Experiments.{Guesses, coins_on, holds_in, holds_on, visits_of_run}
use Rattle.cv_meaning.specs.Advantage.{chance_of, secrecy}
use Rattle.cv_meaning.specs.Chances.{AtMost, zero_chance}
use Rattle.cv_meaning_laws.proofs.Listed.{cells_distinct}
use Rattle.cv_meaning_chances.specs.maps.Maps.{IsInjection, LooksOnlyAt}
use Rattle.cv_meaning_chances.proofs.maps.Maps.{chance_same_along, undone}
use Rattle.cv_meaning_runs.specs.Agreement.{AgreeAt, IsLocal}
use Rattle.cv_meaning_runs.specs.Listed.{AreKeysListed, head_is_testable, is_testable}
use Rattle.cv_meaning_runs.specs.Moments.{Moment, Visited, Tested, cells_of_moment, moments_of_run, visits_among}
use Rattle.cv_meaning_runs.specs.Simulation.{AreAlike}
use Rattle.cv_meaning_runs.proofs.Listed.{cells_listed, listed_same, no_keys_consulted}
use Rattle.cv_meaning_runs.proofs.Together.{moments_up_to, visits_among_moments}
use Rattle.cv_meaning_chances.specs.unread.Sizes.{size_in}
use Rattle.cv_meaning_chances.proofs.unread.CellSizes.{is_drawn}
use Rattle.cv_scope_rules.specs.Phrases.{Phrase, Inputs, head_is_plain, is_phrase}
use Rattle.cv_scope_rules.proofs.Plain.{phrase_plain}
use Rattle.cv_scope_runs.specs.Reads.{VisitReadsAssigned}
use Rattle.cv_scope_runs.proofs.FactsRuns.{all_reads_assigned}
use Rattle.cv_scope_runs.proofs.Plain.{game_context, plain_no_calls}
use Rattle.cv_scope_rules.specs.declared.typing.form.Form.TheVariants.{InProcess}
use Rattle.cv_scope_rules.specs.typing.Parts.{nothing_above}
use Rattle.cv_scope_rules.specs.typing.Wants.{Run}
use Rattle.cv_typing_runs.proofs.Games.{restrictions, typed}
use Rattle.cv_typing_runs.proofs.SameSites.{phrase_open}
use Rattle.cv_scene.specs.Scenes.{Scene}
use Rattle.cv_derive_laws.specs.stores.Holding.{IsReady}
use Rattle.cv_query_certificates.specs.Secrets.{AreUnreadCopies, is_copy}
use Rattle.cv_query_secrets.proofs.unread.Alone.{game_has_none}
use Rattle.cv_query_secrets.proofs.unread.Chances.{no_distance}
use Rattle.cv_query_secrets.proofs.unread.Coded.{Coded, IsExpected, ReadsAssigned, c, choice, coded, copied, copies, cs, draws, g, linked, tells, traded}
use Rattle.cv_query_secrets.proofs.unread.Copies.{HaveOneSort, copying_kind, names, quiet_copies}
use Rattle.cv_query_secrets.proofs.unread.CopySizes.{lets_typed, never_copies, odd_for_copies, same_sizes}
use Rattle.cv_query_secrets.proofs.unread.Places.{agree_in, agree_of, place_in}
use Rattle.cv_costs.specs.quiet.Quiet.{IsQuiet}
use Rattle.cv_costs.specs.quiet.Twins.{Link}
use Rattle.cv_costs.proofs.quiet.Served.{But, Copies, One, guesses}
use Rattle.cv_costs.proofs.quiet.Shapes.{one_of}
use Rattle.cv_query_secrets.proofs.unread.Swaps.{Choice, exchange, exchange_agrees, exchange_off, exchange_twice, exchange_within, is_test, one_size}
use Rattle.cv_query_secrets.proofs.unread.Told.{first_in_run, first_told, one_first, told_at}
use Rattle.cv_meaning_runs.specs.Replacement.{Process}
use Rattle.cv_meaning_runs.proofs.Replacement.{agree_refl}
use Rattle.cv_steps.proofs.Testable.{testable, local}
use Rattle.cv_syntax_trees.proofs.lists.Each.{AllByRecursion_left, AllByRecursion_right, AllByRecursion_trivial}

-- games in the grammar can be tested

head_testable : (x : ℕ) (σ : Phrase) (h : Head) (a b : Tree) → is_phrase σ (Node h a b) ≡ true → head_is_plain h ≡ true → head_is_testable x h a ≡ true
unfolding is_phrase
head_testable x σ (Key y) a b e f = absurd (both_ways false refl f)
head_testable x σ (Call y l) a b e f = absurd (both_ways false refl f)
head_testable x Inputs (In k) (Node (Repl i n) d g) b e f = absurd (both_ways false refl e)
head_testable x σ (In k) (Node (Repl i n) d g) b e f = absurd (both_ways false refl e)
head_testable x σ (In k) a b e f = refl
head_testable x σ h a b e f = refl

-- lists of moments

pub each_of_flat : {A B : Type 0} (P : B → Type 0) (f : A → List B) (xs : List A) → AllByRecursion P (flat_map f xs) → AllByRecursion (λ x. AllByRecursion P (f x)) xs
each_of_flat P f [] e = tt
each_of_flat P f (x ∷ xs) e = (AllByRecursion_left P (f x) (flat_map f xs) e, each_of_flat P f xs (AllByRecursion_right P (f x) (flat_map f xs) e))

module _ (s : Scene) (x : ℕ) (ready : IsReady s.declarations s.game) (secret : AreUnreadCopies s x) (i : Interpretation) (a : Adversary) where
  abbrev G : Setting
  G = g s x i a

  abbrev all : List (Cell × ℕ)
  all = cs s x i a

  abbrev code : Tape → Tape
  code = coded s x i a

  abbrev trade : Tape → Tape
  trade = traded s x i a

  quiet : IsQuiet (copying_kind s x (c s x i a)) [] Process s.game
  quiet = quiet_copies s x (c s x i a) secret ready.formed.constants (λ y. refl) ready.formed.phrase (typed s.declarations s.game ready.arguments ready.formed ready.typed ready.names)

  sizes : (y : ℕ) (w v : List ℕ) → HaveOneSort s x (c s x i a) y → is_in all (New_at y w) ≡ true → is_in all (Test_at v) ≡ true → one_size (size_in all (Test_at v)) (size_in all (New_at y w)) ≡ true
  sizes =
      same_sizes s x i (c s x i a) a s.game (restrictions s.declarations s.game ready.typed) (lets_typed s.declarations s.game nothing_above (Run InProcess) s.game ready.typed)
      (game_has_none x (is_copy s) (never_copies s x i (c s x i a)) (odd_for_copies s x i (c s x i a)) s.game ready.formed.phrase secret.copies)

  -- off the draws of copied variables the coded tape is the tape

  coded_off : (t : Tape) (d : Cell) → is_drawn (copied s x i a) d ≡ false → code t d ≡ t d
  coded_off t d e = ap (λ b. cond b (place_in all d) (t d)) e

  coded_coins : (t u : Tape) → ((k : ℕ) → t (Coin k) ≡ u (Coin k)) → (k : ℕ) (ns : List ℕ) → AgreeAt (cells_of (coin_cells k ns)) t u
  coded_coins t u h k [] = tt
  coded_coins t u h k (n ∷ ns) = (h k, coded_coins t u h (suc k) ns)

  abbrev Assigned : Link
  Assigned z w o q = is_some o ≡ is_some q

  other : (z : ℕ) → one_of x (x ∷ names s x (c s x i a)) z ≡ false → copied s x i a z ≡ false
  other z e = (or_parts (z == x) (copied s x i a z) e).1

  copied_same : (t : Tape) → Copies (copying_kind s x (c s x i a)) Assigned (λ z w o q e. e) G t (code t) (λ m. Unit {0})
  copied_same t z T p b d at m n f o e = (or_left (z == x) (copied s x i a z) (eq-eqb z x f.0), refl)

  -- the coded tape shows the adversary the same, where tests tell random values

  tells_same : (t : Tape) (r q : State) → AreAlike (But (copying_kind s x (c s x i a)) Assigned (λ z w o q e. e)) (One (copying_kind s x (c s x i a)) Assigned (λ z w o q e. e)) r q → (w : List ℕ) → Unit {0}
      → told (Random true x) t r w ≡ told (Random true x) (code t) q w
  tells_same t r q l w e =
      ap₂ (λ b d. cond b None (cond d (Some (t (Test_at w))) None)) l.tested (l.memory.store.own x (or_left (x == x) (copied s x i a x) (eq-eqb x x refl)) w)

  holds_coded : (t : Tape) → holds_on G (Guesses (Random true x)) a s.game t ≡ holds_on G (Guesses (Random true x)) a s.game (code t)
  holds_coded t =
      guesses (copying_kind s x (c s x i a)) Assigned (λ z w o q e. e) G t (code t) (λ m. Unit {0}) (λ z T p b d at m f h e. refl) (copied_same t)
      (λ z w e. sym (coded_off t (New_at z w) (other z e))) (λ l w. refl) (Random true x) (Random true x) (tells_same t) a s.game quiet (λ z w. refl) (coded_coins t (code t) (λ k. refl) 0 a.coins) (AllByRecursion_trivial (moments_of_run G (Random true x) a s.game t))

  -- the moments of the run on the coded tape are as expected

  keys : (t : Tape) → AreKeysListed G (Random true x) a s.game t
  keys t = no_keys_consulted G (Random true x) a s.game t (plain_no_calls s.game (phrase_plain Inputs s.game ready.formed.phrase))

  pub reads_among : (ms : List Moment) → AllByRecursion (VisitReadsAssigned G) (visits_among ms) → AllByRecursion (ReadsAssigned s x i a) ms
  reads_among [] e = tt
  reads_among (Visited v ∷ ms) e = (e.0, reads_among ms e.1)
  reads_among (Tested w st ∷ ms) e = (tt, reads_among ms e)

  moments_listed : (t : Tape) → AllByRecursion (λ m. AllByRecursion (IsListed all) (cells_of_moment G (Random true x) m)) (moments_of_run G (Random true x) a s.game t)
  moments_listed t =
      each_of_flat (IsListed all) (cells_of_moment G (Random true x)) (moments_of_run G (Random true x) a s.game t)
      (AllByRecursion_right (IsListed all) (cells_of (coin_cells 0 a.coins)) _ (cells_listed G (Random true x) a s.game t (testable x Inputs s.game ready.formed.phrase)))

  moments_read : (t : Tape) → AllByRecursion (ReadsAssigned s x i a) (moments_of_run G (Random true x) a s.game t)
  unfolding visits_of_run
  moments_read t =
      reads_among (moments_of_run G (Random true x) a s.game t)
      (subst (AllByRecursion (VisitReadsAssigned G)) (sym (visits_among_moments G (Random true x) a s.game t))
      (all_reads_assigned s.declarations G (Random true x) (a.next (coins_on t 0 a.coins)) t a.moves s.game refl (game_context s.declarations s.game ready.formed)))

  moments_first : (t : Tape) → AllByRecursion (λ m. (r : Choice) → told_at x m ≡ Some r → choice s x i a t ≡ Some r) (moments_of_run G (Random true x) a s.game (code t))
  unfolding moments_of_run
  moments_first t = first_in_run x s.declarations i (a.next (coins_on (code t) 0 a.coins)) (code t) a.moves (start G s.game)

  all_are : (t : Tape) (ms : List Moment) → AllByRecursion (λ m. AllByRecursion (IsListed all) (cells_of_moment G (Random true x) m)) ms → AllByRecursion (ReadsAssigned s x i a) ms
      → AllByRecursion (λ m. (r : Choice) → told_at x m ≡ Some r → choice s x i a t ≡ Some r) ms → AllByRecursion (IsExpected s x i a t) ms
  all_are t [] k l m = tt
  all_are t (n ∷ ns) k l m = (record { listed = k.0; reads = l.0; first = m.0 }, all_are t ns k.1 l.1 m.1)

  holds_traded : (t : Tape) → holds_on G (Guesses (Random true x)) a s.game (code t) ≡ holds_on G (Guesses (Real true x)) a s.game (trade t)
  holds_traded t =
      guesses (copying_kind s x (c s x i a)) (Coded s x i a t (trade t)) (linked s x i a t (trade t)) G (code t) (trade t) (IsExpected s x i a t) (draws s x i a t (trade t)) (copies s x i a t (trade t))
      (λ z w e. coded_off t (New_at z w) (other z e) ∙ sym (exchange_off all (copied s x i a) (choice s x i a t) t (New_at z w) refl (other z e)))
      (λ l w. sym (exchange_off all (copied s x i a) (choice s x i a t) t (Find_at l w) refl refl)) (Random true x) (Real true x) (tells s x i a sizes t) a s.game quiet (λ z w. refl)
      (coded_coins (code t) (trade t) (λ k. sym (exchange_off all (copied s x i a) (choice s x i a t) t (Coin k) refl refl)) 0 a.coins)
      (all_are t (moments_of_run G (Random true x) a s.game (code t)) (moments_listed (code t)) (moments_read (code t)) (moments_first t))

  -- the map of tapes undoes itself

  coded_traded : (t : Tape) (d : Cell) → is_test d ≡ false → code (trade t) d ≡ code t d
  coded_traded t d e = go (is_drawn (copied s x i a) d) refl
    where
      go : (b : Bool) → is_drawn (copied s x i a) d ≡ b → cond b (place_in all d) (trade t d) ≡ cond b (place_in all d) (t d)
      go true f = refl
      go false f = exchange_off all (copied s x i a) (choice s x i a t) t d e f

  choice_kept : (t : Tape) → choice s x i a (trade t) ≡ choice s x i a t
  choice_kept t =
      one_first x s.declarations i (moments_of_run G (Random true x) a s.game (code (trade t))) (moments_of_run G (Random true x) a s.game (code t))
      (moments_up_to G (Random true x) a s.game is_test (code (trade t)) (code t) local (record { off = coded_traded t; coins = coded_coins (code (trade t)) (code t) (λ k. coded_traded t (Coin k) refl) 0 a.coins }))

  trade_twice : (t : Tape) → trade (trade t) ≡ t
  trade_twice t = ap (λ o. exchange all (copied s x i a) o (trade t)) (choice_kept t) ∙ exchange_twice all (copied s x i a) (choice s x i a t) t

  coded_agree : (t u : Tape) → AgreeAt (cells_of all) t u → AgreeAt (cells_of all) (code t) (code u)
  coded_agree t u e = agree_of (code t) (code u) all (λ d f. ap (cond (is_drawn (copied s x i a) d) (place_in all d)) (agree_in t u all e d f))

  trade_agrees : (t u : Tape) → AgreeAt (cells_of all) t u → AgreeAt (cells_of all) (trade t) (trade u)
  trade_agrees t u e =
      let same : choice s x i a t ≡ choice s x i a u =
      ap (first_told x) (listed_same G (Random true x) a s.game (code t) (code u) local (testable x Inputs s.game ready.formed.phrase) (keys (code t)) (coded_agree t u e)).moments in
      subst (λ o. AgreeAt (cells_of all) (trade t) (exchange all (copied s x i a) o u)) same (exchange_agrees all (copied s x i a) (choice s x i a t) t u e)

  one_to_one : IsInjection all all trade
  one_to_one =
      undone all all trade trade (λ t w. exchange_within all (copied s x i a) (cells_distinct G (Random true x) a s.game) (choice s x i a t) t w)
      (λ t w. subst (AgreeAt (cells_of all) t) (sym (trade_twice t)) (agree_refl t (cells_of all))) trade_agrees

  looks : LooksOnlyAt all (holds_on G (Guesses (Real true x)) a s.game)
  unfolding holds_on cells
  looks t u w e =
      ap (holds_in G (Guesses (Real true x)))
      (listed_same G (Real true x) a s.game t u local tt (no_keys_consulted G (Real true x) a s.game t (plain_no_calls s.game (phrase_plain Inputs s.game ready.formed.phrase))) e).state

  pub equal : chance_of G (Guesses (Real true x)) a s.game ≡ chance_of G (Guesses (Random true x)) a s.game
  unfolding chance_of cells
  equal =
      sym (chance_same_along all all trade (holds_on G (Guesses (Random true x)) a s.game) (holds_on G (Guesses (Real true x)) a s.game) (cells_distinct G (Random true x) a s.game) one_to_one looks refl
      (λ t w. holds_coded t ∙ holds_traded t))

  pub no_secrecy : AtMost (secrecy G true x a s.game) zero_chance
  no_secrecy = no_distance (chance_of G (Guesses (Real true x)) a s.game) (chance_of G (Guesses (Random true x)) a s.game) equal
