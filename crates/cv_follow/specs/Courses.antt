-- The course of a run: the steps that were accepted in turn from a first game on, with the table of names behind each; and what is put of it.
use Rattle.std.specs.Prelude.{◌≡◌, ◌⊎◌, ℕ, Bool, List, [], ◌∷◌, map, take, length, Option, Some, option_map}
use Rattle.cv_context.specs.products.ShapesInCode.{shape_in}
use Rattle.cv_costs.specs.Factors.{parameters_in}
use Rattle.cv_kernel.specs.Closings.{closing_in}
use Rattle.cv_kernel.specs.Drawings.{Draws, game_after, told}
use Rattle.cv_kernel.specs.Proofs.{IsProof, Transition, game_behind}
use Rattle.cv_kernel.specs.Sequences.{game_in}
use Rattle.cv_kernel.specs.declared.sequence.Sequence.{Sequence}
use Rattle.cv_pool.specs.KindTree.{KindTree}
use Rattle.cv_pool.specs.PoolView.{Grows}
use Rattle.cv_report.specs.Lines.{Leg, Lines}
use Rattle.cv_report.specs.Streams.{PutsLeg, Streams}
use Rattle.cv_report.specs.declared.stream.Stream.{Stream}
use Rattle.cv_script.specs.Views.{items_of_step}
use Rattle.cv_steps.specs.Sequences.{scene}
use Rattle.cv_syntax.specs.Declarations.{declarations}
use Rattle.cv_syntax.specs.declared.work.Work.{Work}
use Rattle.cv_syntax_trees.specs.Declarations.{Declaration}
use Rattle.cv_syntax_trees.specs.Tree.{Tree}
use Rattle.cv_kernel.specs.Followed.{known_to}

-- the texts of names, by their numbers
abbrev pub Table : Type 0
Table = List (List ℕ)

pub record Course : Type 0 where
  pub proof : List Transition
  pub last : Tree
  pub tables : List Table

-- no step was taken
abbrev pub course_at : (game : Tree) → Course
course_at game = record { proof = []; last = game; tables = [] }

-- The table of names goes from the first one to each of these in turn, by steps that each lead to a game.
abbrev pub DrawsThrough : (found : Bool) → List Declaration → (known : ℕ → Bool) → (own : ℕ) → (game : Tree) → List (Tree × Option Tree) → Table → List Table → Type 0
DrawsThrough found ds known own game [] before [] = Unit {0}
DrawsThrough found ds known own game (t ∷ ts) before (after ∷ tables) =
    Draws found before after own (scene ds known game) (items_of_step t.0) (game_after t.1 game) × DrawsThrough found ds known own (game_after t.1 game) ts after tables
DrawsThrough found ds known own game ts before tables = ⊥

-- the last of the tables, or the first one where there is none
unfoldable pub names_behind : Table → List Table → Table
names_behind names [] = names
names_behind names (table ∷ tables) = names_behind table tables

-- The steps are accepted in turn from the first game on, and the names were drawn so.
pub record IsCourse (found : Bool) (ds : List Declaration) (own : ℕ) (first : Tree) (names : Table) (c : Course) : Type 0 where
  pub leads : IsProof ds (known_to own) first c.proof c.last
  pub drawn : DrawsThrough found ds (known_to own) own first (map told c.proof) names c.tables

-- what the lines of a report tell of a step

abbrev pub leg_of : Transition → Table → Leg
leg_of t names = record { names = names; step = t.step; cost = t.cost; context = t.context; next = game_behind (closing_in t.step) t.next }

unfoldable pub legs_of : List Transition → List Table → List Leg
legs_of [] tables = []
legs_of (t ∷ ts) [] = []
legs_of (t ∷ ts) (names ∷ tables) = leg_of t names ∷ legs_of ts tables

-- the lines of a course of a file, which has these names, these declarations and this game
abbrev pub lines_of : Table → (order : List ℕ) → (first : Tree) → Course → Lines
lines_of names order first c = record { names = names; game = first; order = order; legs = legs_of c.proof c.tables }

abbrev pub lines_in : (start : Work) → (first : Tree) → Course → Lines
lines_in start first c = lines_of start.names (parameters_in start.decls.list) first c

-- what the last step of a sequence tells, where its tree is this
pub record IsLegOf (table : Table) (trees : List KindTree) (s : Sequence) (tree : Tree) (e : Leg) : Type 0 where
  pub names : e.names ≡ table
  pub step : e.step ≡ tree
  pub cost : s.cost ≡ Some e.cost
  pub context : e.context ≡ option_map shape_in s.context
  pub next : e.next ≡ game_behind (closing_in tree) (game_in trees s)

-- Whatever was put before, the lines of one course were put, and then those of another.
abbrev pub PutsOn : (middle now : Option (List ℕ)) → (mid new : ℕ) → (l m : Lines) → (s t : Stream) → Type 0
PutsOn middle now mid new l m s t =
    (shows : Bool) (before : Option (List ℕ)) (old : ℕ) → Streams shows l before middle old mid s → Streams shows m before now old new t

-- nothing was put
abbrev pub PutsNothing : (middle now : Option (List ℕ)) → (mid new : ℕ) → (s t : Stream) → Type 0
PutsNothing middle now mid new s t = (t ≡ s) × (now ≡ middle) × (new ≡ mid)

-- the lines of one step were put, or nothing
abbrev pub PutsSome : (middle now : Option (List ℕ)) → (mid new : ℕ) → Leg → (s t : Stream) → Type 0
PutsSome middle now mid new e s t = PutsLeg middle now mid new e s t ⊎ PutsNothing middle now mid new s t

-- since no step was taken, those of a course
abbrev pub PutsCourse : (middle now : Option (List ℕ)) → (mid new : ℕ) → (start : Work) → (first : Tree) → (s t : Stream) → Course → Type 0
PutsCourse middle now mid new start first s t c = PutsOn middle now mid new (lines_in start first (course_at first)) (lines_in start first c) s t

-- The course of a run that memory ran out in: since a work it was gone through, and its lines were put.
pub record IsReached (found : Bool) (start now : Work) (first : Tree) (Puts : Course → Type 0) : Type 0 where
  pub course : Course
  pub is : IsCourse found (declarations start.pool.trees start.decls.list) start.decls.own first start.names course
  pub grows : Grows start.pool now.pool
  pub names : take (length start.names) now.names ≡ start.names
  pub decls : now.decls ≡ start.decls
  pub puts : Puts course
