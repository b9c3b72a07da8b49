-- Over the tapes of a list that has the cells of both games, and with a cell of the variable those of all names at the same size, an
-- experiment has one chance in both games.
use Rattle.std.proofs.Common.{◌≡◌, ℕ, ◌<◌, ◌==◌, Bool, true, false, cond, List, refl, ap, subst, eqb-true}
use Rattle.std.specs.List.{AllByRecursion}
use Rattle.cv_syntax_trees.specs.Declarations.{Declaration}
use Rattle.cv_syntax_trees.specs.Tree.{Tree}
use Rattle.cv_meaning.specs.Cells.{cells}
use Rattle.cv_meaning.specs.Chances.{chance}
use Rattle.cv_meaning.specs.Experiments.{Experiment, holds_in, holds_on, mode_of}
use Rattle.cv_meaning.specs.Interpretation.{Setting}
use Rattle.cv_meaning.specs.Runs.{Adversary, Mode}
use Rattle.cv_meaning.specs.Tapes.{Cell, Coin, Find_at, Key_at, Made_at, New_at, Picked_at, Tape, Test_at, cells_of}
use Rattle.cv_meaning_chances.proofs.maps.Maps.{chance_same_along}
use Rattle.cv_meaning_chances.specs.Tests.{HasDistinctCells, IsWithin}
use Rattle.cv_meaning_chances.specs.maps.Maps.{LooksOnlyAt}
use Rattle.cv_meaning_laws.proofs.Listed.{Has}
use Rattle.cv_meaning_runs.proofs.Listed.{listed_same, no_keys_consulted}
use Rattle.cv_meaning_runs.specs.Agreement.{IsLocal}
use Rattle.cv_meaning_runs.specs.Listed.{IsTestable, has_no_calls}
use Rattle.cv_scope_rules.specs.Phrases.{HasConstantsOf, IsWellFormed}
use Rattle.cv_scope_rules.specs.Scope.{is_variable}
use Rattle.cv_rule_array_names.specs.Owners.{exchanged_cell}
use Rattle.cv_edit_names.specs.Naming.{Naming}
use Rattle.cv_edit_names.specs.Splitting.{nothing_around, split_in}
use Rattle.cv_rule_array_names_laws.proofs.Exchange.{IsClosed, agree_before, each_of, of_each}
use Rattle.cv_rule_array_names.proofs.Finds.{IsSplitting}
use Rattle.cv_rule_array_names.proofs.Owners.{holds_exchanged, owner, owner_is_named}
use Rattle.cv_rule_array_names.proofs.Runs.{IsOther}
use Rattle.cv_rule_array_names.proofs.Stores.{is_name}
use Rattle.cv_rule_array_names.proofs.Values.{Unread}

-- such a list
pub record IsCommon (g : Setting) (m : Mode) (a : Adversary) (game next : Tree) (x : ℕ) (ys : List ℕ) (E : List (Cell × ℕ)) : Type 0 where
  pub closed : IsClosed g m a game x ys E
  pub distinct : HasDistinctCells E
  pub there : (y : ℕ) (w : List ℕ) (k : ℕ) → is_name ys y ≡ true → Has E (New_at x w, k) → Has E (New_at y w, k)
  pub back : (y : ℕ) (w : List ℕ) (k : ℕ) → is_name ys y ≡ true → Has E (New_at y w, k) → Has E (New_at x w, k)
  pub next_cells : AllByRecursion (Has (cells_of E)) (cells_of (cells g m a next))

module _ (x : ℕ) (ys : List ℕ) (o : List ℕ → ℕ) (owns : (w : List ℕ) → is_name ys (o w) ≡ true) (g : Setting) (m : Mode) (a : Adversary) (game next : Tree) (E : List (Cell × ℕ)) (common : IsCommon g m a game next x ys E) where
  exchanged_sized : (c : Cell) (k : ℕ) → Has E (c, k) → Has E (exchanged_cell x o c, k)
  exchanged_sized (New_at z w) k h = go (z == x) (z == o w) refl refl
    where
      go : (b c : Bool) → (z == x) ≡ b → (z == o w) ≡ c → Has E (cond b (New_at (o w) w) (cond c (New_at x w) (New_at z w)), k)
      go true c e f = common.there (o w) w k (owns w) (subst (λ q. Has E (New_at q w, k)) (eqb-true z x e) h)
      go false true e f = common.back (o w) w k (owns w) (subst (λ q. Has E (New_at q w, k)) (eqb-true z (o w) f) h)
      go false false e f = h
  exchanged_sized (Find_at z w) k h = h
  exchanged_sized (Test_at w) k h = h
  exchanged_sized (Key_at w) k h = h
  exchanged_sized (Made_at z w j) k h = h
  exchanged_sized (Picked_at z w j) k h = h
  exchanged_sized (Coin j) k h = h

  pub within_kept : (t : Tape) → IsWithin E t → IsWithin E (λ c. t (exchanged_cell x o c))
  within_kept t h = of_each (λ (c : Cell × ℕ). t (exchanged_cell x o c.0) < c.1) E (λ c k. each_of (λ (c : Cell × ℕ). t c.0 < c.1) E (exchanged_cell x o c.0, c.1) h (exchanged_sized c.0 c.1 k))

module _ (ds : List Declaration) (g : Setting) (game : Tree) (same : HasConstantsOf ds g) (well : IsWellFormed ds game) (n : Naming) (p : IsSplitting game n) (known : is_variable game n.variable ≡ true) (new : (y : ℕ) → is_name n.names y ≡ true → g.is_constant y ≡ false) (old : is_name n.names n.variable ≡ false)
    (e : Experiment) (a : Adversary) (local : IsLocal g.side) (testable : IsTestable (mode_of e) game) (E : List (Cell × ℕ)) where
  abbrev next : Tree
  next = split_in n nothing_around 0 game

  looks_only : IsTestable (mode_of e) next → has_no_calls next ≡ true → AllByRecursion (Has (cells_of E)) (cells_of (cells g (mode_of e) a next)) → LooksOnlyAt E (holds_on g e a next)
  unfolding holds_on
  looks_only tests plain listed t u within agree =
      ap (holds_in g e)
      (listed_same g (mode_of e) a next t u local tests (no_keys_consulted g (mode_of e) a next t plain)
      (of_each (λ c. t c ≡ u c) (cells_of (cells g (mode_of e) a next)) (λ c h. each_of (λ c. t c ≡ u c) (cells_of E) c agree (each_of (Has (cells_of E)) (cells_of (cells g (mode_of e) a next)) c listed h)))).state

  pub chance_split : IsOther n.variable n.names (mode_of e) → Unread n.variable next → IsTestable (mode_of e) next → has_no_calls next ≡ true → IsCommon g (mode_of e) a game next n.variable n.names E
      → chance E (holds_on g e a game) ≡ chance E (holds_on g e a next)
  chance_split other unread tests plain common =
      chance_same_along E E (λ t c. t (exchanged_cell n.variable (owner ds g game same well n p known new old (mode_of e) a t) c)) (holds_on g e a game) (holds_on g e a next) common.distinct
      (record {
        within = λ t h. within_kept n.variable n.names (owner ds g game same well n p known new old (mode_of e) a t) (owner_is_named ds g game same well n p known new old (mode_of e) a t) g (mode_of e) a game next E common t h;
        one_to_one = λ t u h k agree. agree_before ds g game same well n p known new old (mode_of e) a local testable E common.closed t u agree;
      })
      (looks_only tests plain common.next_cells) refl (λ t h. holds_exchanged ds g game same well n p known new old e a other unread t)
