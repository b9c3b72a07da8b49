-- What was put of a report's lines while steps are found. This profile's own.
use Rattle.std.specs.Prelude.{◌≡◌, ℕ, ◌≤◌, Bool, true, false, List, [], ◌++◌, length, Option, Some}
use Rattle.cv_costs.specs.Factors.{parameters_in}
use Rattle.cv_outside.specs.Causes.{Rose}
use Rattle.cv_pool.specs.declared.node.NodeId.{NodeId}
use Rattle.cv_report.specs.declared.flow.Flow.{Flow}
use Rattle.cv_report.specs.declared.flow.Flow.TheVariants.{Failed, Going, Spent}
use Rattle.cv_report.specs.declared.report.Command.{Command}
use Rattle.cv_report.specs.declared.report.Command.TheVariants.{Games, Nothing, Prove, Sample}
use Rattle.cv_report.specs.declared.stream.Stream.{Stream}
use Rattle.cv_report.specs.Lines.{Leg, Lines, games_along, shown_text, with_leg}
use Rattle.cv_report.specs.Writing.{TakesAll, TakesFront}
use Rattle.cv_syntax.specs.PoolTrees.{tree_at}
use Rattle.cv_syntax.specs.declared.work.Work.{Work}

-- The lines of a run under a command are put while it goes on. Of the proof of a sample there are only counts.
abbrev pub is_streamed : Command → Bool
is_streamed (Prove moves more query) = true
is_streamed Games = true
is_streamed (Sample n prove) = false
is_streamed Nothing = false

-- the lines of a file before its first step
abbrev pub lines_at : Work → (game : NodeId) → Lines
lines_at w game = record { names = w.names; game = tree_at w.pool.trees (Some game); order = parameters_in w.decls.list; legs = [] }

-- A text was put: all of it, or a front of it where the sink failed or memory ran out.
abbrev pub IsPut : Flow → (before now : Option (List ℕ)) → (old new : ℕ) → (text : List ℕ) → Type 0
IsPut Going before now old new text = TakesAll before now text
IsPut Failed before now old new text = TakesFront before now text × Rose old new
IsPut Spent before now old new text = TakesFront before now text

-- So it is of a text behind lines; where memory runs out for it, no more than the lines were put.
abbrev pub IsClosed : Flow → (before now : Option (List ℕ)) → (old new : ℕ) → (lines text : List ℕ) → Type 0
IsClosed Going before now old new lines text = TakesAll before now (lines ++ text)
IsClosed Failed before now old new lines text = TakesFront before now (lines ++ text) × Rose old new
IsClosed Spent before now old new lines text = TakesFront before now lines

-- Since the sink had taken so much, and had counted so many faults, these lines were put, if they are to be shown: all or a front of them, as
-- the stream says. It knows the numbers of the next step and game.
pub record Streams (shows : Bool) (l : Lines) (before now : Option (List ℕ)) (old new : ℕ) (s : Stream) : Type 0 where
  pub later : old ≤ new
  pub shown : s.shows ≡ shows
  pub order : s.flow ≡ Going → shows ≡ true → s.order.items ≡ l.order
  pub steps : s.steps ≡ length l.legs
  pub game : s.game ≡ games_along 2 l.legs
  pub put : IsPut s.flow before now old new (shown_text shows l)

-- Whatever was put before, the lines of one step more were put then.
abbrev pub PutsLeg : (middle now : Option (List ℕ)) → (mid new : ℕ) → Leg → (s t : Stream) → Type 0
PutsLeg middle now mid new leg s t =
    (shows : Bool) (l : Lines) (before : Option (List ℕ)) (old : ℕ) → Streams shows l before middle old mid s → Streams shows (with_leg l leg) before now old new t
