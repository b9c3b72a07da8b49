-- The lists of a game and of its context give each cell one size, but for cells that the experiment ignores.
use Rattle.std.proofs.Common.{◌≡◌, ℕ, Bool, true, false, cond, List, [], ◌∷◌, ◌⊎◌, inl, inr, Option, Some, None, refl, sym, ap, ap₂, subst, ◌∙◌}
use Rattle.std.proofs.Math.Path.{fun_ext}
use Rattle.std.proofs.lemmas.Bool.{both_ways}
use Rattle.std.specs.List.{AllByRecursion}
use Rattle.cv_syntax_trees.specs.Tree.{Tree}
use Rattle.cv_meaning.specs.Advantage.{chance_of}
use Rattle.cv_meaning.specs.Cells.{cells}
use Rattle.cv_meaning.specs.Chances.{Same, chance}
use Rattle.cv_meaning.specs.Experiments.{Experiment, holds_on, mode_of}
use Rattle.cv_meaning.specs.Interpretation.{Interpretation, Setting}
use Rattle.cv_meaning.specs.Runs.{Adversary, Mode}
use Rattle.cv_meaning.specs.Tapes.{Cell, Coin, Find_at, Key_at, Made_at, New_at, Picked_at, Tape, Test_at, is_in, same_cell, written}
use Rattle.cv_meaning_laws.proofs.Counts.{same_cell_exact, same_cell_refl}
use Rattle.cv_meaning_laws.proofs.Listed.{Has, cells_distinct, is_in_without_repeats}
use Rattle.cv_meaning_chances.specs.Tests.{Ignores, renamed}
use Rattle.cv_meaning_chances.proofs.Renaming.{chance_renamed, distinct_renamed}
use Rattle.cv_meaning_chances.proofs.alignment.Closing.{others_ignored_in_games}
use Rattle.cv_meaning_chances.specs.unread.Sizes.{GiveSizesFor, size_in}
use Rattle.cv_meaning_chances.proofs.unread.CellSizes.{is_in_size, same_by_sizes, size_once}
use Rattle.cv_scope_rules.specs.declared.position.Position.TheVariants.{Anywhere}
use Rattle.cv_steps.proofs.Testable.{game_no_calls, game_testable, local}
use Rattle.cv_steps.proofs.Sizes.{cell_size}
use Rattle.cv_scene.specs.Reductions.{Reduction, in_context, in_game}
use Rattle.cv_scene.specs.Cells.{at_left}
use Rattle.cv_scene.specs.Apt.{IsTestApt}
use Rattle.cv_match_laws.proofs.values.Numbers.{context}
use Rattle.cv_context_runs.proofs.service.Runs.{again, holds_in_context, one_to_one}
use Rattle.cv_context_left_side.specs.cells.Premises.{HasContext}
use Rattle.cv_context_left_side.proofs.cells.Found.{game_sorts}
use Rattle.cv_context_left_side.proofs.cells.Keys.{key_listed}
use Rattle.cv_context_left_side.proofs.cells.Sizes.{context_right, game_right, key_is_there, of_context, of_game, size_at_left, sorts_named}
use Rattle.cv_context_left_side.proofs.cells.Turned.{IsTurned, inputs_turned}
use Rattle.cv_context_left_side.proofs.cells.Unlisted.{context_ignores}

-- lists

-- a list that gives each cell the size that is told has no other
size_given : (size : Cell → ℕ) (cs : List (Cell × ℕ)) → AllByRecursion (λ (c : Cell × ℕ). c.1 ≡ size c.0) cs → (d : Cell) (n : ℕ) → size_in cs d ≡ Some n → n ≡ size d
size_given size [] e d n f = absurd (none n f)
  where
    none : (n : ℕ) → ◌≡◌ {A = Option ℕ} None (Some n) → ⊥
    none n e = cc
size_given size (c ∷ cs) e d n f = go (same_cell c.0 d) refl f (size_given size cs e.1 d n)
  where
    go : (b : Bool) → same_cell c.0 d ≡ b → cond b (Some c.1) (size_in cs d) ≡ Some n → (size_in cs d ≡ Some n → n ≡ size d) → n ≡ size d
    go true h f k = let i : c.1 ≡ n = cc in sym i ∙ e.0 ∙ ap size (same_cell_exact c.0 d h)
    go false h f k = k f

size_has : (cs : List (Cell × ℕ)) (d : Cell) (n : ℕ) → size_in cs d ≡ Some n → Has cs (d, n)
size_has [] d n f = absurd (none n f)
  where
    none : (n : ℕ) → ◌≡◌ {A = Option ℕ} None (Some n) → ⊥
    none n e = cc
size_has (c ∷ cs) d n f = go (same_cell c.0 d) refl f (size_has cs d n)
  where
    go : (b : Bool) → same_cell c.0 d ≡ b → cond b (Some c.1) (size_in cs d) ≡ Some n → (size_in cs d ≡ Some n → Has cs (d, n)) → Has (c ∷ cs) (d, n)
    go true h f k = let i : c.1 ≡ n = cc in inl (λ j. (sym (same_cell_exact c.0 d h) j, sym i j))
    go false h f k = inr (k f)

-- under other names

module _ (r : Reduction) where
  same_back : (c d : Cell) → same_cell (at_left r c) d ≡ same_cell c (at_left r d)
  same_back c d = go (same_cell (at_left r c) d) (same_cell c (at_left r d)) refl refl
    where
      go : (a b : Bool) → same_cell (at_left r c) d ≡ a → same_cell c (at_left r d) ≡ b → a ≡ b
      go true true e f = refl
      go false false e f = refl
      go true false e f = absurd (both_ways (same_cell c (at_left r d)) f (ap (same_cell c) (ap (at_left r) (sym (same_cell_exact (at_left r c) d e)) ∙ again r c) ∙ same_cell_refl c))
      go false true e f = absurd (both_ways (same_cell (at_left r c) d) e (ap (λ z. same_cell (at_left r z) d) (same_cell_exact c (at_left r d) f) ∙ ap (λ z. same_cell z d) (again r d) ∙ same_cell_refl d))

  size_renamed : (cs : List (Cell × ℕ)) (d : Cell) → size_in (renamed (at_left r) cs) d ≡ size_in cs (at_left r d)
  size_renamed [] d = refl
  size_renamed (c ∷ cs) d = ap₂ (λ b o. cond b (Some c.1) o) (same_back c.0 d) (size_renamed cs d)

  -- what is written into a cell under another name
  written_back : (t : Tape) (d : Cell) (v : ℕ) (c : Cell) → written t d v (at_left r c) ≡ written (λ e. t (at_left r e)) (at_left r d) v c
  unfolding written
  written_back t d v c = ap (λ b. cond b v (t (at_left r c))) (same_back c d)

  ignored_back : (p q : Tape → Bool) → ((t : Tape) → p (λ c. t (at_left r c)) ≡ q t) → (d : Cell) → Ignores p (at_left r d) → Ignores q d
  ignored_back p q e d k t v = sym (e (written t d v)) ∙ ap p (fun_ext (λ c. written_back t d v c)) ∙ k (λ c. t (at_left r c)) v ∙ e t

module _ (r : Reduction) (fine : HasContext r) (i : Interpretation) (x : Experiment) (a : Adversary) (apt : IsTestApt r (mode_of x)) where
  abbrev g : Setting
  g = in_game r i

  abbrev h : Setting
  h = in_context r i

  abbrev m : Mode
  m = mode_of x

  abbrev c : Tree
  c = context r Anywhere [] 0 r.scene.game

  abbrev holds : Tape → Bool
  holds = holds_on h x a c

  turned : IsTurned r r.scene.game c
  turned = inputs_turned r fine.apt r.scene.game [] 0 fine.apt.formed.phrase fine.apt.apt

  same_tests : (t : Tape) → holds_on g x a r.scene.game (λ d. t (at_left r d)) ≡ holds t
  same_tests t = holds_in_context r fine.apt i t x a apt

  -- the lists, with repeats

  game_once : (d : Cell) → size_in (cells g m a r.scene.game) d ≡ size_in (of_game r i m a) d
  unfolding cells
  game_once d = size_once (of_game r i m a) d

  game_size : (d : Cell) → size_in (renamed (at_left r) (cells g m a r.scene.game)) d ≡ size_in (of_game r i m a) (at_left r d)
  game_size d = size_renamed r (cells g m a r.scene.game) d ∙ game_once (at_left r d)

  context_size : (d : Cell) → size_in (cells h m a c) d ≡ size_in (of_context r i m a c) d
  unfolding cells
  context_size d = size_once (of_context r i m a c) d

  key_in_context : (u : List ℕ) → Has (of_context r i m a c) (Key_at u, h.side.key_size) → is_in (cells h m a c) (Key_at u) ≡ true
  unfolding cells
  key_in_context u e = is_in_without_repeats (of_context r i m a c) (Key_at u, h.side.key_size) e

  -- a cell that the game lacks, and one that its context lacks

  lacking_in_game : (d : Cell) → size_in (of_game r i m a) (at_left r d) ≡ None → Ignores holds d
  lacking_in_game d e =
      ignored_back r (holds_on g x a r.scene.game) holds same_tests d
      (others_ignored_in_games g x a r.scene.game local (game_testable m r.scene.game fine.apt.formed.phrase) (game_no_calls r.scene.game fine.apt.formed.phrase) (at_left r d)
      (is_in_size (cells g m a r.scene.game) (at_left r d) (game_once (at_left r d) ∙ e)))

  lacking_in_context : (d : Cell) (n : ℕ) → size_in (of_game r i m a) (at_left r d) ≡ Some n → is_in (cells h m a c) d ≡ false → Ignores holds d
  lacking_in_context (Key_at u) n e f =
      absurd (both_ways (is_in (cells h m a c) (Key_at u)) f (key_in_context u (key_listed r fine.apt.key_coin i m a c turned u n (size_has (of_game r i m a) (at_left r (Key_at u)) n e))))
  lacking_in_context (New_at y u) n e f = context_ignores r i x a c apt turned (New_at y u) refl f
  lacking_in_context (Find_at l u) n e f = context_ignores r i x a c apt turned (Find_at l u) refl f
  lacking_in_context (Test_at u) n e f = context_ignores r i x a c apt turned (Test_at u) refl f
  lacking_in_context (Made_at z u l) n e f = context_ignores r i x a c apt turned (Made_at z u l) refl f
  lacking_in_context (Picked_at z u l) n e f = context_ignores r i x a c apt turned (Picked_at z u l) refl f
  lacking_in_context (Coin k) n e f = context_ignores r i x a c apt turned (Coin k) refl f

  pub sizes : GiveSizesFor holds (renamed (at_left r) (cells g m a r.scene.game)) (cells h m a c)
  sizes d = go (size_in (of_game r i m a) (at_left r d)) refl (size_in (of_context r i m a c) d) refl
    where
      same : (n k : ℕ) → size_in (of_game r i m a) (at_left r d) ≡ Some n → size_in (of_context r i m a c) d ≡ Some k → n ≡ k
      same n k e f =
          size_given (cell_size (game_sorts r) i m a) (of_game r i m a) (game_right r i m a (sorts_named r fine)) (at_left r d) n e
          ∙ sym (size_given (size_at_left r i m a) (of_context r i m a c) (context_right r i m a (sorts_named r fine) (key_is_there r fine) c turned) d k f)

      go : (o : Option ℕ) → size_in (of_game r i m a) (at_left r d) ≡ o → (q : Option ℕ) → size_in (of_context r i m a c) d ≡ q
          → (size_in (renamed (at_left r) (cells g m a r.scene.game)) d ≡ size_in (cells h m a c) d) ⊎ Ignores holds d
      go None e q f = inr (lacking_in_game d e)
      go (Some n) e None f = inr (lacking_in_context d n e (is_in_size (cells h m a c) d (context_size d ∙ f)))
      go (Some n) e (Some k) f = inl (game_size d ∙ e ∙ ap Some (same n k e f) ∙ sym f ∙ sym (context_size d))

  pub equal_chances : Same (chance_of g x a r.scene.game) (chance_of h x a c)
  unfolding chance_of
  equal_chances =
      let cs = cells g m a r.scene.game in
      let ds = cells h m a c in
      let other : chance (renamed (at_left r) cs) holds ≡ chance cs (holds_on g x a r.scene.game) =
      ap (chance (renamed (at_left r) cs)) (sym (fun_ext same_tests)) ∙ chance_renamed (at_left r) cs (holds_on g x a r.scene.game) (one_to_one r) in
      subst (λ p. Same p (chance ds holds)) other
      (same_by_sizes holds (renamed (at_left r) cs) ds (distinct_renamed (at_left r) cs (one_to_one r) (cells_distinct g m a r.scene.game)) (cells_distinct h m a c) sizes)
