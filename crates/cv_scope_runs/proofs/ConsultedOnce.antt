-- In a run of a well-formed game no cell of the tape is consulted twice.
use Rattle.std.proofs.Common.{◌≡◌, ℕ, Bool, true, false, ◌&&◌, ◌||◌, ◌==◌, List, [], ◌∷◌, ◌++◌, inl, inr, Option, refl, sym, ap, ◌∙◌, eq-eqb, append-nil}
use Rattle.std.proofs.lemmas.Bool.{both_ways, and_parts}
use Rattle.std.specs.List.{AllByRecursion, IsDistinct}
use Rattle.cv_syntax_trees.specs.declared.head.Head.TheVariants.{New, Find, Branch, Call}
use Rattle.cv_syntax_trees.specs.Declarations.{Declaration}
use Rattle.cv_syntax_trees.specs.Tree.{Tree, Empty, Node, first_place, second_place}
use Rattle.cv_meaning.specs.Tapes.{Tape, Cell, same_tuple, same_cell}
use Rattle.cv_meaning.specs.Interpretation.{Setting}
use Rattle.cv_meaning.specs.Memory.{Local, tuple}
use Rattle.cv_meaning.specs.Serving.{Visit}
use Rattle.cv_meaning.specs.Consulted.{consulted, consulted_at}
use Rattle.cv_meaning.specs.Runs.{Mode, Answer, Move, run_visits, start}
use Rattle.cv_meaning_laws.proofs.Counts.{same_tuple_exact}
use Rattle.cv_scope_rules.specs.Sites.{SiteName, Variable, Label}
use Rattle.cv_scope_rules.specs.Branches.{Pairs, IsApartByBranches}
use Rattle.cv_scope_rules.proofs.Pairs.{pairs_append}
use Rattle.cv_scope_rules.proofs.Apart.{game_branches}
use Rattle.cv_scope_rules.specs.Phrases.{is_plain, IsWellFormed, IsWellFormedContext}
use Rattle.cv_scope_rules.specs.Made.{is_bound, is_own_at, is_own_of, made_at, MakeApart, AssignsNew, OwnUnassigned}
use Rattle.cv_scope_runs.proofs.Plain.{game_context, game_plain, VisitPlain, visits_plain}
use Rattle.cv_scope_runs.proofs.OnceRuns.{Has, made_has}
use Rattle.cv_scope_runs.proofs.OnceGames.{MakesName, names_at, made_once}
use Rattle.cv_scope_runs.proofs.FreshRuns.{IsClear, visits_clear}
use Rattle.cv_syntax_trees.proofs.lists.Each.{AllByRecursion_append, AllByRecursion_weaker, AllByRecursion_both}

abbrev Differ : Cell → Cell → Type 0
Differ c d = same_cell c d ≡ false

-- cells of one name and one tuple would be made twice
differ : (x y : ℕ) (u v : List ℕ) → ((x == y) ≡ true → u ≡ v → ⊥) → ((x == y) && same_tuple u v) ≡ false
differ x y u v h = go ((x == y) && same_tuple u v) refl
  where
    go : (b : Bool) → ((x == y) && same_tuple u v) ≡ b → b ≡ false
    go true e = let r = and_parts (x == y) _ e in absurd (h r.0 (same_tuple_exact u v r.1))
    go false e = refl

-- no cell that the second tree consults is one that the first does
Cross : Setting → Tree → Local → Tree → Local → Type 0
Cross g a s b r = AllByRecursion (λ c. AllByRecursion (Differ c) (consulted_at g b r)) (consulted_at g a s)

cross : (g : Setting) (a : Tree) (s : Local) (b : Tree) (r : Local) → is_plain a ≡ true → is_plain b ≡ true → ((y : SiteName) → made_at a y ≡ true → made_at b y ≡ true → tuple s.indices ≡ tuple r.indices → ⊥) → Cross g a s b r
unfolding Cross
cross g (Node (New x T) a b) s (Node (New y U) c d) r i j h = ((differ x y (tuple s.indices) (tuple r.indices) (λ e. h (Variable x) (eq-eqb x x refl) e), tt), tt)
cross g (Node (New x T) a b) s (Node (Find l) c d) r i j h = ((refl, tt), tt)
cross g (Node (New x T) a b) s (Node (Call y l) c d) r i j h = absurd (both_ways _ refl j)
cross g (Node (New x T) a b) s (Node k c d) r i j h = (tt, tt)
cross g (Node (New x T) a b) s Empty r i j h = (tt, tt)
cross g (Node (Find l) a b) s (Node (Find k) c d) r i j h = ((differ l k (tuple s.indices) (tuple r.indices) (λ e. h (Label l) (eq-eqb l l refl) e), tt), tt)
cross g (Node (Find l) a b) s (Node (New x T) c d) r i j h = ((refl, tt), tt)
cross g (Node (Find l) a b) s (Node (Call y k) c d) r i j h = absurd (both_ways _ refl j)
cross g (Node (Find l) a b) s (Node k c d) r i j h = (tt, tt)
cross g (Node (Find l) a b) s Empty r i j h = (tt, tt)
cross g (Node (Call y l) a b) s t r i j h = absurd (both_ways _ refl i)
cross g (Node k a b) s t r i j h = tt
cross g Empty s t r i j h = tt

all_cross_visits : (g : Setting) (a : Tree) (s : Local) (vs : List Visit) → AllByRecursion (λ (w : Visit). Cross g a s w.tree w.before) vs → AllByRecursion (λ c. AllByRecursion (Differ c) (consulted g vs)) (consulted_at g a s)
unfolding Cross consulted
all_cross_visits g a s [] h = none (consulted_at g a s)
  where
    none : (cs : List Cell) → AllByRecursion (λ c. Unit {0}) cs
    none [] = tt
    none (c ∷ cs) = (tt, none cs)
all_cross_visits g a s (v ∷ vs) h =
    AllByRecursion_both (λ c. AllByRecursion (Differ c) (consulted_at g v.tree v.before)) (λ c. AllByRecursion (Differ c) (consulted g vs)) (λ c. AllByRecursion (Differ c) (consulted_at g v.tree v.before ++ consulted g vs))
    (λ c p q. AllByRecursion_append (Differ c) (consulted_at g v.tree v.before) (consulted g vs) p q) (consulted_at g a s) h.0 (all_cross_visits g a s vs h.1)

one : (g : Setting) (a : Tree) (s : Local) → is_plain a ≡ true → Pairs Differ (consulted_at g a s)
one g (Node (New x T) a b) s i = (tt, tt)
one g (Node (Find l) a b) s i = (tt, tt)
one g (Node (Call x l) a b) s i = absurd (both_ways _ refl i)
one g (Node h a b) s i = tt
one g Empty s i = tt

all_apart : (g : Setting) (vs : List Visit) → AllByRecursion VisitPlain vs → Pairs MakeApart vs → Pairs Differ (consulted g vs)
unfolding consulted
all_apart g [] p h = tt
all_apart g (v ∷ vs) p h =
    pairs_append Differ (consulted_at g v.tree v.before) (consulted g vs) (one g v.tree v.before p.0) (all_apart g vs p.1 h.1)
    (all_cross_visits g v.tree v.before vs (AllByRecursion_both VisitPlain (MakeApart v) (λ (w : Visit). Cross g v.tree v.before w.tree w.before) (λ w j k. cross g v.tree v.before w.tree w.before p.0 j k) vs p.1 h.0))

distinct : (cs : List Cell) → Pairs Differ cs → IsDistinct same_cell cs
unfolding IsDistinct
distinct [] h = tt
distinct (c ∷ cs) h = (h.0, distinct cs h.1)

assigns_new : (v : Visit) → IsClear v → AssignsNew v
assigns_new v c y e = ap (v.before.memory.store y) (sym (append-nil (tuple v.before.indices))) ∙ c y [] (made_has SiteName MakesName v.place v.tree (Variable y) (names_at v.place v.tree (Variable y) e))

-- the index variables of a visited find

branches_have : (p : ℕ) (a : Tree) (y : ℕ) → is_own_of a y ≡ true → Has SiteName MakesName p a (Variable y)
branches_have p (Node h (Node Branch us rest) more) y e = go (is_bound us y) refl e (branches_have (second_place p h (Node Branch us rest)) more y)
  where
    go : (b : Bool) → is_bound us y ≡ b → (b || is_own_of more y) ≡ true → (is_own_of more y ≡ true → Has SiteName MakesName (second_place p h (Node Branch us rest)) more (Variable y)) → Has SiteName MakesName p (Node h (Node Branch us rest) more) (Variable y)
    go true k z f = inr (inl (inl k))
    go false k z f = inr (inr (f z))
branches_have p t y e = absurd (both_ways _ refl e)

find_has : (p : ℕ) (t : Tree) (y : ℕ) → is_own_at t y ≡ true → Has SiteName MakesName p t (Variable y)
find_has p (Node (Find l) a b) y e = inr (inl (branches_have (first_place p (Find l)) a y e))
find_has p t y e = absurd (both_ways _ refl e)

own_unassigned : (v : Visit) → IsClear v → OwnUnassigned v
own_unassigned v c y e = ap (v.before.memory.store y) (sym (append-nil (tuple v.before.indices))) ∙ c y [] (find_has v.place v.tree y e)

module _ (ds : List Declaration) (g : Setting) (m : Mode) (next : List Answer → Option Move) (t : Tape) (n : ℕ) (game : Tree) (well : IsWellFormedContext ds game) where
  branches : IsApartByBranches game
  branches = game_branches ds game well.scoped

  pub all_made_once : Pairs MakeApart (run_visits g m next t n (start g game))
  all_made_once = made_once g m next t n game branches

  pub all_assign_new : AllByRecursion AssignsNew (run_visits g m next t n (start g game))
  all_assign_new = AllByRecursion_weaker IsClear AssignsNew assigns_new _ (visits_clear g m next t n game branches)

  pub all_own_unassigned : AllByRecursion OwnUnassigned (run_visits g m next t n (start g game))
  all_own_unassigned = AllByRecursion_weaker IsClear OwnUnassigned own_unassigned _ (visits_clear g m next t n game branches)

pub all_consulted_once : (ds : List Declaration) (g : Setting) (m : Mode) (next : List Answer → Option Move) (t : Tape) (n : ℕ) (game : Tree) → IsWellFormed ds game → IsDistinct same_cell (consulted g (run_visits g m next t n (start g game)))
all_consulted_once ds g m next t n game w =
    distinct _ (all_apart g (run_visits g m next t n (start g game)) (visits_plain g m next t n game (game_plain ds game w)) (all_made_once ds g m next t n game (game_context ds game w)))
