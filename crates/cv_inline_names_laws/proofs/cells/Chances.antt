-- A context with the right side and its next game have equal chances: a cell that one list lacks is ignored.
use Rattle.std.proofs.Common.{◌≡◌, ℕ, Bool, true, false, cond, ◌||◌, ◌==◌, List, [], ◌∷◌, Contains, ◌⊎◌, inl, inr, Option, Some, None, refl, sym, ap, subst, ◌∙◌}
use Rattle.std.proofs.Math.Path.{fun_ext}
use Rattle.std.proofs.lemmas.Bool.{both_ways}
use Rattle.std.specs.List.{AllByRecursion}
use Rattle.cv_syntax_trees.specs.Tree.{Tree}
use Rattle.cv_syntax_trees.specs.Declarations.{Declaration}
use Rattle.cv_meaning.specs.Tapes.{Cell, New_at, Find_at, Test_at, Key_at, Made_at, Picked_at, Coin, Tape, blank, is_in, same_cell, written}
use Rattle.cv_meaning.specs.Side.{Side, no_side}
use Rattle.cv_meaning.specs.Interpretation.{Interpretation, Setting, setting_of}
use Rattle.cv_meaning.specs.Consulted.{IsListed, is_key}
use Rattle.cv_meaning.specs.Runs.{Mode, Events, Real, Random, Adversary}
use Rattle.cv_meaning.specs.Cells.{cells}
use Rattle.cv_meaning.specs.Experiments.{Experiment, holds_in, holds_on, mode_of}
use Rattle.cv_meaning.specs.Chances.{Same}
use Rattle.cv_meaning.specs.Advantage.{chance_of}
use Rattle.cv_meaning_laws.proofs.Counts.{same_cell_exact, same_cell_refl}
use Rattle.cv_meaning_chances.specs.Tests.{Ignores, IsCoveredFor, renamed}
use Rattle.cv_meaning_chances.proofs.CellLists.{contains_cases, contains_here, contains_later, not_in_empty}
use Rattle.cv_meaning_chances.proofs.Within.{written_apart}
use Rattle.cv_meaning_runs.specs.Agreement.{AgreeAt, IsLocal}
use Rattle.cv_meaning_runs.specs.Listed.{IsTestable}
use Rattle.cv_meaning_runs.specs.Moments.{cells_of_run}
use Rattle.cv_meaning_runs.proofs.Listed.{cells_listed}
use Rattle.cv_meaning_runs.proofs.Together.{consulted_same}
use Rattle.cv_meaning_chances.proofs.alignment.Closing.{equal_under_names, others_ignored_in_games}
use Rattle.cv_meaning.specs.contexts.Groups.{Right}
use Rattle.cv_meaning.specs.contexts.Sites.{sites_of}
use Rattle.cv_meaning.specs.contexts.Sides.{Context, side_from}
use Rattle.cv_meaning.specs.contexts.ContextAdvantage.{context_chance}
use Rattle.cv_meaning_chances.proofs.contexts.Locality.{local}
use Rattle.cv_meaning.specs.contexts.Inlined.{Drawn}
use Rattle.cv_meaning.specs.contexts.Roles.{Role, Plain, Replication, Gone, TheKeyName, Variable, Index}
use Rattle.cv_inline.specs.Draws.{same_role}
use Rattle.cv_inline.specs.NextGame.{inlined_calls_of, next_in, next_of}
use Rattle.cv_inline_laws.specs.runs.Texts.{Text, oracles_in}
use Rattle.cv_inline_laws.specs.runs.Contexts.{IsAskedAlike, IsTextOf, context_setting}
use Rattle.cv_inline_laws.proofs.runs.Runs.{experiments_hold_alike}
use Rattle.cv_inline_names_laws.specs.cells.Cells.{RightNames, at_right, find_for, is_that_find, names_in, new_for, on_tape}
use Rattle.cv_inline_names_laws.specs.cells.Layout.{IsLaidOut, Types}
use Rattle.cv_inline_names_laws.proofs.cells.Swaps.{back, one_to_one}
use Rattle.cv_inline_names_laws.proofs.cells.Sizes.{IsAskedPlain, IsKnown, IsOfKey, context_sized, context_testable, next_known, next_no_calls, next_testable, same_size, size_of}
use Rattle.cv_inline_laws.proofs.draws.Fresh.{either_way}

-- lists

listed : (size : Cell → ℕ) (cs : List (Cell × ℕ)) → AllByRecursion (λ (d : Cell × ℕ). d.1 ≡ size d.0) cs → (e : Cell) → is_in cs e ≡ true → Contains cs (e, size e)
listed size [] s e i = absurd (both_ways false refl i)
listed size (d ∷ cs) s e i = go (same_cell d.0 e) refl i (listed size cs s.1 e)
  where
    go : (b : Bool) → same_cell d.0 e ≡ b → (b || is_in cs e) ≡ true → (is_in cs e ≡ true → Contains cs (e, size e)) → Contains (d ∷ cs) (e, size e)
    go true f i k =
        let q : d.0 ≡ e = same_cell_exact d.0 e f in
        let r : d.1 ≡ size e = s.0 ∙ ap size q in subst (Contains (d ∷ cs)) (λ j. (q j, r j)) (contains_here d cs)
    go false f i k = contains_later d (e, size e) cs (k i)

each_contained : (P : Cell × ℕ → Type 0) (cs : List (Cell × ℕ)) → AllByRecursion P cs → (e : Cell × ℕ) → Contains cs e → P e
each_contained P [] s e k = absurd (not_in_empty e k)
each_contained P (d ∷ cs) s e k = go (contains_cases d e cs k) (each_contained P cs s.1 e)
  where
    go : (d ≡ e) ⊎ Contains cs e → (Contains cs e → P e) → P e
    go (inl q) f = subst P q s.0
    go (inr h) f = f h

weaker : (P Q : Cell × ℕ → Type 0) → ((d : Cell × ℕ) → P d → Q d) → (cs : List (Cell × ℕ)) → AllByRecursion P cs → AllByRecursion Q cs
weaker P Q f [] e = tt
weaker P Q f (d ∷ cs) e = (f d e.0, weaker P Q f cs e.1)

-- an unlisted cell is ignored, unless it is a key's

unlisted_apart : (cs : List (Cell × ℕ)) (e : Cell) (v : ℕ) (t : Tape) → is_in cs e ≡ false → is_key e ≡ false → (ds : List Cell) → AllByRecursion (IsListed cs) ds → AgreeAt ds t (written t e v)
unlisted_apart cs e v t i k [] h = tt
unlisted_apart cs e v t i k (d ∷ ds) h = (sym (written_apart t e v d apart), unlisted_apart cs e v t i k ds h.1)
  where
    apart : same_cell d e ≡ false
    apart = either_way (same_cell d e) (λ f. absurd (let q : d ≡ e = same_cell_exact d e f in both_ways _ i (subst (λ z. is_in cs z ≡ true) q (h.0 (subst (λ z. is_key z ≡ false) (sym q) k))))) (λ f. f)

unlisted_ignored : (g : Setting) (x : Experiment) (a : Adversary) (game : Tree) → IsLocal g.side → IsTestable (mode_of x) game → (e : Cell) → is_in (cells g (mode_of x) a game) e ≡ false → is_key e ≡ false → Ignores (holds_on g x a game) e
unfolding holds_on
unlisted_ignored g x a game l h e i k t v =
    sym (ap (holds_in g x) (consulted_same g (mode_of x) a game t (written t e v) l
    (unlisted_apart (cells g (mode_of x) a game) e v t i k (cells_of_run g (mode_of x) a game t) (cells_listed g (mode_of x) a game t h))).state)

local_game : (s : Side) → s ≡ no_side → IsLocal s
local_game s e = subst IsLocal (sym e) (λ t u arrays call k. refl)

asked_plain : (T : Text) (m : Mode) → IsAskedAlike T m → IsAskedPlain T m
asked_plain T Events e = tt
asked_plain T (Real one x) e = e
asked_plain T (Random one x) e = e.0

module _ (T : Text) (find : ℕ → Option (ℕ × ℕ)) (types : Types) (x : Experiment) (a : Adversary) (context : Tree) (laid : IsLaidOut T types context) (asked : IsAskedPlain T (mode_of x))
    (alike : (t : Tape) → holds_on (context_setting T) x a context (λ c. t (at_right (names_in T find) c)) ≡ holds_on T.g x a (next_in T.calls [] context) t) where
  abbrev n : RightNames
  n = names_in T find

  abbrev m : Mode
  m = mode_of x

  abbrev next : Tree
  next = next_in T.calls [] context

  abbrev size : Cell → ℕ
  size = size_of T find types m a

  abbrev cs : List (Cell × ℕ)
  cs = cells (context_setting T) m a context

  abbrev ds : List (Cell × ℕ)
  ds = cells T.g m a next

  abbrev Sized : Cell × ℕ → Type 0
  Sized d = d.1 ≡ size d.0

  abbrev Known : Cell × ℕ → Type 0
  Known d = IsKnown T find types m a context laid asked d

  known : AllByRecursion Known ds
  known = next_known T find types m a context laid asked

  next_sized : AllByRecursion Sized ds
  next_sized = weaker Known Sized (λ d k. k.0) ds known

  renamed_sized : (es : List (Cell × ℕ)) → AllByRecursion Sized es → AllByRecursion Sized (renamed (at_right n) es)
  renamed_sized [] e = tt
  renamed_sized (d ∷ es) e = (e.0 ∙ sym (same_size T find types m a d.0), renamed_sized es e.1)

  swapped_sized : AllByRecursion Sized (renamed (at_right n) cs)
  swapped_sized = renamed_sized cs (context_sized T find types m a context laid asked)

  renamed_in : (es : List (Cell × ℕ)) (e : Cell) → is_in es (at_right n e) ≡ true → is_in (renamed (at_right n) es) e ≡ true
  renamed_in [] e i = i
  renamed_in (d ∷ es) e i = go (same_cell d.0 (at_right n e)) refl i (renamed_in es e)
    where
      or_right : (b : Bool) {r : Bool} → r ≡ true → (b || r) ≡ true
      or_right true f = refl
      or_right false f = f

      go : (b : Bool) → same_cell d.0 (at_right n e) ≡ b → (b || is_in es (at_right n e)) ≡ true → (is_in es (at_right n e) ≡ true → is_in (renamed (at_right n) es) e ≡ true)
          → (same_cell (at_right n d.0) e || is_in (renamed (at_right n) es) e) ≡ true
      go true f i k = ap (λ b. b || is_in (renamed (at_right n) es) e) (ap (λ z. same_cell z e) (ap (at_right n) (same_cell_exact d.0 (at_right n e) f) ∙ back n e) ∙ same_cell_refl e)
      go false f i k = or_right (same_cell (at_right n d.0) e) (k i)

  -- from the context to the game

  there : IsCoveredFor (holds_on T.g x a next) (renamed (at_right n) cs) ds
  there d k =
      either_way (is_in ds d.0)
      (λ e. inl (let s : d.1 ≡ size d.0 = each_contained Sized (renamed (at_right n) cs) swapped_sized d k in subst (Contains ds) (ap (λ z. (d.0, z)) (sym s)) (listed size ds next_sized d.0 e)))
      (λ e. inr (others_ignored_in_games T.g x a next (local_game T.g.side laid.game) (next_testable T find types m a context laid asked) (next_no_calls T find types m a context laid asked) d.0 e))

  -- and back

  not_key : (d : Cell) → IsOfKey T find types m a context laid asked d → is_in cs (at_right n d) ≡ false → is_key (at_right n d) ≡ false
  not_key (New_at y w) k i = go (T.role y) refl i
    where
      drawn_key : (b : Bool) → T.role y ≡ TheKeyName → is_in cs (cond b (Key_at w) (New_at y w)) ≡ false → is_key (cond b (Key_at w) (New_at y w)) ≡ false
      drawn_key true e i = absurd (both_ways _ i (k e))
      drawn_key false e i = refl

      drawn : (b : Bool) (s v : ℕ) → is_key (cond b (Made_at v w s) (New_at y w)) ≡ false
      drawn true s v = refl
      drawn false s v = refl

      go : (r : Role) → T.role y ≡ r → is_in cs (new_for n y w r) ≡ false → is_key (new_for n y w r) ≡ false
      go TheKeyName e i = drawn_key (T.calls.drawn.key == y) e i
      go (Variable s v) e i = drawn (T.calls.drawn.variable s v == y) s v
      go Plain e i = refl
      go Replication e i = refl
      go Gone e i = refl
      go (Index s q o b j) e i = refl
  not_key (Find_at l w) k i = go (find l)
    where
      swapped : (b : Bool) (q s : ℕ) → is_key (cond b (Picked_at q w s) (Find_at l w)) ≡ false
      swapped true q s = refl
      swapped false q s = refl

      go : (o : Option (ℕ × ℕ)) → is_key (find_for n l w o) ≡ false
      go None = refl
      go (Some f) = swapped (T.calls.drawn.label f.0 f.1 == l) f.1 f.0
  not_key (Test_at w) k i = refl
  not_key (Key_at w) k i = absurd k
  not_key (Made_at v w s) k i = go (same_role (T.role (T.calls.drawn.variable s v)) (Variable s v))
    where
      go : (b : Bool) → is_key (cond b (New_at (T.calls.drawn.variable s v) w) (Made_at v w s)) ≡ false
      go true = refl
      go false = refl
  not_key (Picked_at q w s) k i = go (is_that_find (find (T.calls.drawn.label s q)) (s, q))
    where
      go : (b : Bool) → is_key (cond b (Find_at (T.calls.drawn.label s q) w) (Picked_at q w s)) ≡ false
      go true = refl
      go false = refl
  not_key (Coin j) k i = refl

  -- what is written into a cell stands in the swapped one
  swapped_write : (t : Tape) (d : Cell) (v : ℕ) (e : Cell) → written t d v (at_right n e) ≡ written (λ c. t (at_right n c)) (at_right n d) v e
  unfolding written
  swapped_write t d v e = ap (λ b. cond b v (t (at_right n e))) (same_flag (same_cell (at_right n e) d) (same_cell e (at_right n d)) to fro)
    where
      to : same_cell (at_right n e) d ≡ true → same_cell e (at_right n d) ≡ true
      to f = ap (λ z. same_cell e z) (ap (at_right n) (sym (same_cell_exact (at_right n e) d f)) ∙ back n e) ∙ same_cell_refl e

      fro : same_cell e (at_right n d) ≡ true → same_cell (at_right n e) d ≡ true
      fro f = ap (λ z. same_cell z d) (ap (at_right n) (same_cell_exact e (at_right n d) f) ∙ back n d) ∙ same_cell_refl d

      same_flag : (b c : Bool) → (b ≡ true → c ≡ true) → (c ≡ true → b ≡ true) → b ≡ c
      same_flag true c f g = sym (f refl)
      same_flag false true f g = g refl
      same_flag false false f g = refl

  ignored_there : (d : Cell) → Ignores (holds_on (context_setting T) x a context) (at_right n d) → Ignores (holds_on T.g x a next) d
  ignored_there d k t v =
      sym (alike (written t d v))
      ∙ (ap (holds_on (context_setting T) x a context) (fun_ext (swapped_write t d v)) ∙ k (λ c. t (at_right n c)) v)
      ∙ alike t

  here : IsCoveredFor (holds_on T.g x a next) ds (renamed (at_right n) cs)
  here d k =
      let f : Known d = each_contained Known ds known d k in
      either_way (is_in (renamed (at_right n) cs) d.0)
      (λ e. inl (subst (Contains (renamed (at_right n) cs)) (ap (λ z. (d.0, z)) (sym f.0)) (listed size (renamed (at_right n) cs) swapped_sized d.0 e)))
      (λ e. inr (ignored_there d.0 (let i : is_in cs (at_right n d.0) ≡ false = either_way (is_in cs (at_right n d.0)) (λ g. absurd (both_ways _ e (renamed_in cs d.0 g))) (λ g. g) in
      unlisted_ignored (context_setting T) x a context (local (oracles_in T)) (context_testable T find types m a context laid asked) (at_right n d.0) i (not_key d.0 f.1 i))))

  same_chances : Same (chance_of (context_setting T) x a context) (chance_of T.g x a next)
  same_chances = equal_under_names (context_setting T) T.g x x a (at_right n) context next (one_to_one n) alike there here

-- where the text is one on each tape

pub chances_on_tapes : (T : Text) (find : ℕ → Option (ℕ × ℕ)) (types : Types) (x : Experiment) (a : Adversary) (context : Tree) → IsLaidOut T types context → ((t : Tape) → IsTextOf (on_tape T find t) (mode_of x) a context)
    → Same (chance_of (context_setting T) x a context) (chance_of T.g x a (next_in T.calls [] context))
chances_on_tapes T find types x a context laid texts =
    same_chances T find types x a context laid (asked_plain (on_tape T find blank) (mode_of x) (texts blank).asked) (λ t. experiments_hold_alike (on_tape T find t) x a context (texts t))

pub chances_of_context : (T : Text) (find : ℕ → Option (ℕ × ℕ)) (types : Types) (x : Experiment) (a : Adversary) (declarations : List Declaration) (i : Interpretation) (c : Context) (key : ℕ) (drawn : Drawn)
    → T.g ≡ setting_of declarations i → T.calls ≡ inlined_calls_of c key drawn → T.sites ≡ sites_of (setting_of declarations i) c.game c.functions → IsLaidOut T types c.game → ((t : Tape) → IsTextOf (on_tape T find t) (mode_of x) a c.game)
    → Same (context_chance declarations i c Right x a) (chance_of (setting_of declarations i) x a (next_of c key drawn))
chances_of_context T find types x a declarations i c key drawn e f h laid texts =
    subst (λ z. z) (λ j. Same (chance_of (record (e j) { side = side_from (record { setting = e j; group = (f j).group; sites = h j }) }) x a c.game) (chance_of (e j) x a (next_in (f j) [] c.game))) (chances_on_tapes T find types x a c.game laid texts)
